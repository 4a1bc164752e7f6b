use Rattle.turns.proofs.LeavingStates.{header_is}
use Rattle.turns.proofs.leaving.header_states.Goals as goal

pub returns : goal.returns
returns c =
    rw (
      c.high_bit-10.ensures,
      c.high_bit-9.ensures,
      c.high_bit-8.ensures,
      c.high_bit-7.ensures,
      c.high_bit-6.ensures,
      c.high_bit-5.ensures,
      c.high_bit-4.ensures,
      c.high_bit-3.ensures,
      c.high_bit-2.ensures,
      c.high_bit.ensures,
      c.high_bit-b.ensures,
      c.high_bit-a.ensures,
      c.from-code.ensures,
      c.from.ensures,
    )
    (header_is _ _)
