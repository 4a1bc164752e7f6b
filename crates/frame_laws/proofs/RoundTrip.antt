-- Written, read back; read, written again. The first: the frame's bytes taken apart pass every test of the reader. The second: bytes that
-- pass every test are the frame of the fields that they hold. Assumes nothing.
use mathlib.Core.Path.{◌≡◌, refl, ap, ap₂, sym, ◌∙◌, subst}
use mathlib.Core.Bool.{Bool, true, false, not, ◌||◌, cond}
use mathlib.Core.List.{List, [], ◌∷◌, ◌++◌}
use Prim.Native.Nat.{ℕ, zero, suc, ◌^◌, ◌<◌, ◌≤◌}
use native.Mathlib.Omega.{arith}
use lib.Dec.{ltb, eqb}
use lib.ListN.{length, get_or, drop, take, replicate}
use borrow.Author.Tests.{le-ltb, eqb-true, ltb-true, not-false}
use Rattle.bits.specs.Bits.{fields, over}
use Rattle.bits.proofs.Laws as bit
use Rattle.tables.specs.Lists.{all_below, all_same}
use Rattle.tables.specs.Refusals.{◌when◌, first, answer, content}
use Rattle.parts.specs.Parts.{part_of, limit, subframes, field_width}
use Rattle.tables.proofs.Rows as rows
use Rattle.tables.proofs.Booleans.{and_left, or-second, or-none}
use Rattle.parts.specs.declared.command.Command.{Command}
use Rattle.parts.specs.declared.command.Command.TheVariants.{Individual, Calibration, Global, Configuration}
use Rattle.frames.specs.Frames.{field_count, field_bits, slices_bits, frame_bits, frame_of, frame_length, tail_high, told_rows}
use Rattle.frame_writer.specs.Writing.{settings_of, settings, list_wrong, value_high, write_table, write_refusal, written, written_out}
use Rattle.frame_reader.specs.Reading.{held_fields, room_short, copy_high, copies_differ, body_rows, read_table, read_refusal, found, bytes_found, values_found, read, read_bytes, read_values}
use Rattle.frames.specs.declared.told.Told.{Told}
use Rattle.frames.specs.declared.told.Tail.{Tail}
use Rattle.std.specs.Prelude.{Result, Ok, Err}
use Rattle.frame_reader.specs.declared.answer.Read.{Read}
use Rattle.frames.proofs.Tests as tests
use Rattle.frame_reader.proofs.Tests.{replicate-same}
use Rattle.tables.proofs.Tests.{same-replicate}
use Rattle.frames.proofs.Accepted as accepted
use Rattle.frame_writer.proofs.Writable as writer
use Rattle.frames.proofs.Lengths as lengths
use Rattle.frames.proofs.Pieces.{length-slices, length-frame_of}
use Rattle.frame_laws.specs.RoundTrip.{ReadBack, WrittenAgain, byte_of, byte_read, bytes_read, values_read}
use Rattle.frame_laws.proofs.Packed as packed
use Rattle.frame_laws.proofs.Frame as frame

bytes_apart : (k n : ℕ) → ◌≡◌ {A = Result ℕ ℕ} (Ok k) (Err n) → ⊥
bytes_apart k n e = let z : ◌≡◌ {A = ℕ} 0 1 = cc in omega arith

-- ---- what the writer was given passes the reader's tests

settings_of-low : (t : Told) (c : Command) (byte : ℕ) (bytes values : List ℕ) → value_high t c byte values ≡ false → copy_high t c (settings_of t c byte bytes values) ≡ false
settings_of-low t Individual byte bytes values e = refl
settings_of-low t Calibration byte bytes values e = refl
settings_of-low t Global byte bytes values e =
    let h = ltb-true byte (subframes (part_of t.part) t.configuration) (not-false _ e) in
    ap not (tests.all-below (replicate (field_count t) byte) _ (tests.below-replicate (field_count t) byte _ (omega arith) h))
settings_of-low t Configuration byte bytes values e = refl

replicate-first : (n b : ℕ) → all_same (replicate n b) (get_or (replicate n b) 0 0) ≡ true
replicate-first zero b = refl
replicate-first (suc n) b = same-replicate (suc n) b

settings_of-same : (t : Told) (c : Command) (byte : ℕ) (bytes values : List ℕ) → copies_differ c (settings_of t c byte bytes values) ≡ false
settings_of-same t Individual byte bytes values = refl
settings_of-same t Calibration byte bytes values = refl
settings_of-same t Global byte bytes values = ap not (replicate-first (field_count t) byte)
settings_of-same t Configuration byte bytes values = ap not (replicate-first (field_count t) byte)

module _ (t : Told) (tail : Tail) (byte : ℕ) (bytes values : List ℕ) (room : ℕ) (small : byte < 256) (smalls : (i : ℕ) → get_or bytes i 0 < 256)
    (taken : write_refusal t tail byte bytes values room ≡ 0) where
  abbrev vs : List ℕ
  vs = settings t byte bytes values

  abbrev bs : List Bool
  bs = fields (field_bits t) vs

  writable : writer.Writable t tail byte bytes values room
  writable = writer.writable t tail byte bytes values room taken

  len : length vs ≡ field_count t
  len = writer.length-settings_of t t.command byte bytes values writable.list

  long : length bs ≡ slices_bits t
  long = length-slices t tail vs len

  held : held_fields t (frame_of t tail vs) ≡ vs
  held = frame.held-frame t tail vs len (writer.settings_of-below t t.command byte bytes values writable.value small smalls)

  clear : rows.Clear (write_table t tail byte bytes values room)
  unfolding write_refusal
  clear = rows.clear (write_table t tail byte bytes values room) refl taken

  read_again : (b v : ℕ) → room_short t.command (field_count t) b v ≡ false → read_refusal t tail (frame_of t tail vs) b v ≡ 0
  unfolding read_refusal frame_of frame_bits
  read_again b v short =
      rows.none (read_table t tail (frame_of t tail vs) b v) (
        clear.0,
        (
          clear.1.0,
          (
            clear.1.1.0,
            (
              rows.agrees refl refl (length-frame_of t tail vs len),
              (
                short,
                (
                  or-second (ap (copy_high t t.command) held ∙ settings_of-low t t.command byte bytes values writable.value)
                      (or-none (value_high t t.command byte values) (tail_high tail) clear.1.1.1.1.1.0).1,
                  (
                    rows.agrees refl refl (packed.packed-sync t.command 0 bs tail (slices_bits t) long),
                    (
                      rows.agrees refl refl (packed.packed-pairs t.command 0 bs tail (slices_bits t) long),
                      (
                        rows.agrees refl refl (packed.packed-count t.command 0 bs tail (slices_bits t) long (omega arith)),
                        (
                          ap (copies_differ t.command) held ∙ settings_of-same t t.command byte bytes values,
                          (
                            rows.agrees refl refl (packed.packed-unused t.command 0 bs tail (slices_bits t) long),
                            (rows.agrees refl refl (packed.packed-tail t.command 0 bs tail (slices_bits t) long writable.tail-low), tt),
                          ),
                        ),
                      ),
                    ),
                  ),
                ),
              ),
            ),
          ),
        ),
      )

  read_back : (lent-bytes lent-values : List ℕ) → room_short t.command (field_count t) (length lent-bytes) (length lent-values) ≡ false
      → ReadBack t tail (frame_of t tail vs) vs lent-bytes lent-values
  unfolding read read_bytes read_values
  read_back xs ys short =
      let z = read_again (length xs) (length ys) short in
      record {
        answers = sym (rows.accepted Err refl z refl) ∙ ap (λ (l : List ℕ). Ok (found t t.command l)) held;
        bytes-held = sym (rows.changed xs refl z refl) ∙ ap (λ (l : List ℕ). bytes_found t.command l xs) held;
        values-held = sym (rows.changed ys refl z refl) ∙ ap (λ (l : List ℕ). values_found t.command l ys) held;
      }

-- an answer that is no refusal is the accepted one
accepted-zero : {A : Type 0} (f : ℕ → A) (a r : A) (m : ℕ) → ((n : ℕ) → r ≡ f n → ⊥) → answer m f a ≡ r → (m ≡ 0) × (a ≡ r)
accepted-zero f a r m apart e = at (eqb m 0) refl where
  at : (b : Bool) → eqb m 0 ≡ b → (m ≡ 0) × (a ≡ r)
  at true d = (eqb-true m 0 d, sym (ap (λ (x : Bool). cond x a (f m)) d) ∙ e)
  at false d = absurd (apart m (sym e ∙ ap (λ (x : Bool). cond x a (f m)) d))

take-over : (n : ℕ) (ys l : List ℕ) → length ys ≡ n → take n (over ys l) ≡ ys
take-over n ys l e = ap (λ (k : ℕ). take k (over ys l)) (sym e) ∙ bit.take-over ys l

-- whatever the writer accepts, the reader, told the same and lent enough, accepts, and gives the same values
pub written_read_lem : (t : Told) (tail : Tail) (byte : ℕ) (bytes values out : List ℕ) (n : ℕ) → byte < 256 → ((i : ℕ) → get_or bytes i 0 < 256)
    → written t tail byte bytes values (length out) ≡ Ok n → (lent-bytes lent-values : List ℕ)
    → room_short t.command (field_count t) (length lent-bytes) (length lent-values) ≡ false
    → ReadBack t tail (take n (written_out t tail byte bytes values out)) (settings t byte bytes values) lent-bytes lent-values
unfolding written written_out
written_read_lem t tail byte bytes values out n small smalls e xs ys short =
    let sent = frame_of t tail (settings t byte bytes values) in
    let z = accepted-zero Err (Ok (length sent)) (Ok n) (write_refusal t tail byte bytes values (length out)) (bytes_apart n) e in
    let l : length sent ≡ n = written-bytes (length sent) n z.1 in
    let o : take n (content (write_refusal t tail byte bytes values (length out)) out (over sent out)) ≡ sent
    = ap (take n) (sym (rows.changed out refl z.0 refl)) ∙ take-over n sent out l in
    subst (λ (f : List ℕ). ReadBack t tail f (settings t byte bytes values) xs ys) (sym o)
    (read_back t tail byte bytes values (length out) small smalls z.0 xs ys short)
  where
    written-bytes : (a b : ℕ) → ◌≡◌ {A = Result ℕ ℕ} (Ok a) (Ok b) → a ≡ b
    written-bytes a b q = cc

-- ---- what the reader found passes the writer's tests, and is the frame's

held-settings_of : (t : Told) (c : Command) (h : List ℕ) → length h ≡ field_count t → copies_differ c h ≡ false → settings_of t c (get_or h 0 0) h h ≡ h
held-settings_of t Individual h l e = refl
held-settings_of t Calibration h l e = refl
held-settings_of t Global h l e = ap (λ (n : ℕ). replicate n (get_or h 0 0)) (sym l) ∙ replicate-same h (get_or h 0 0) (not-false _ e)
held-settings_of t Configuration h l e = ap (λ (n : ℕ). replicate n (get_or h 0 0)) (sym l) ∙ replicate-same h (get_or h 0 0) (not-false _ e)

list_right : (c : Command) (n l : ℕ) → l ≡ n → list_wrong c n l l ≡ false
list_right Individual n l e = rows.agrees refl refl e
list_right Calibration n l e = rows.agrees refl refl e
list_right Global n l e = refl
list_right Configuration n l e = refl

value_low : (t : Told) (c : Command) (h : List ℕ) → 0 < length h → ((i : ℕ) → get_or h i 0 < 2 ^ field_width (part_of t.part) c) → copy_high t c h ≡ false
    → value_high t c (get_or h 0 0) h ≡ false
value_low t Individual h l b e = ap not (tests.all-below h (limit (part_of t.part)) b)
value_low t Calibration h l b e = refl
value_low t Global h l b e = ap not (first_below h l (not-false _ e)) where
  first_below : (s : List ℕ) → 0 < length s → all_below s (subframes (part_of t.part) t.configuration) ≡ true
      → ltb (get_or s 0 0) (subframes (part_of t.part) t.configuration) ≡ true
  first_below [] z f = absurd (omega arith)
  first_below (x ∷ s) z f = and_left _ _ f
value_low t Configuration h l b e = refl

length-held : (t : Told) (fr : List ℕ) → length (held_fields t fr) ≡ field_count t
unfolding held_fields
length-held t fr = bit.length-split (field_bits t) (field_count t) (drop 24 (fields 8 fr))

-- bytes that the reader accepts are the frame of what they hold
held-again : (t : Told) (tail : Tail) (fr : List ℕ) (b v : ℕ) → ((i : ℕ) → get_or fr i 0 < 256) → read_refusal t tail fr b v ≡ 0 → (room : ℕ) → length fr ≤ room
    → (write_refusal t tail (get_or (held_fields t fr) 0 0) (held_fields t fr) (held_fields t fr) room ≡ 0)
    × (frame_of t tail (settings t (get_or (held_fields t fr) 0 0) (held_fields t fr) (held_fields t fr)) ≡ fr)
unfolding write_refusal read_refusal held_fields
held-again t tail fr b v small taken room wide = (
  rows.none (write_table t tail (get_or h 0 0) h h room) (
    c.0,
    (
      c.1.0,
      (
        c.1.1.0,
        (
          list_right t.command (field_count t) (length h) len,
          (
            le-ltb room (frame_length t tail) (omega (arith, long)),
            (
              or-second
                  (value_low t t.command h (omega (arith, len, some)) (bit.split-lt (field_bits t) (field_count t) (drop 24 (fields 8 fr))) six.0)
                  six.1,
              tt,
            ),
          ),
        ),
      ),
    ),
  ),
  ap (frame_of t tail) (held-settings_of t t.command h len d.1.1.1.1.0)
      ∙ frame.rebuilt t tail fr long small (is d.1.0) (is d.1.1.0) (is d.1.1.1.0) (is d.1.1.1.1.1.0) (is d.1.1.1.1.1.1.0),
) where
  h : List ℕ
  h = held_fields t fr

  c : rows.Clear (read_table t tail fr b v)
  c = rows.clear (read_table t tail fr b v) refl taken

  d : rows.Clear (body_rows t tail fr)
  d = c.1.1.1.1.1

  is : {x y : ℕ} → not (eqb x y) ≡ false → x ≡ y
  is {x} {y} e = eqb-true x y (not-false _ e)

  long : length fr ≡ frame_length t tail
  long = is c.1.1.1.0

  six : (copy_high t t.command h ≡ false) × (tail_high tail ≡ false)
  six = or-none (copy_high t t.command h) (tail_high tail) d.0

  len : length h ≡ field_count t
  len = length-held t fr

  some : 0 < field_count t
  some = lengths.count-some t (accepted.told_accepted t.part t.devices tail (c.0, (c.1.0, (c.1.1.0, tt)))).some

-- ---- a writer looks only at what is its own command's

-- what is the command's own is the fields h
SettingIs : Command → ℕ → List ℕ → List ℕ → List ℕ → Type 0
SettingIs Individual byte bytes values h = values ≡ h
SettingIs Calibration byte bytes values h = bytes ≡ h
SettingIs Global byte bytes values h = byte ≡ get_or h 0 0
SettingIs Configuration byte bytes values h = byte ≡ get_or h 0 0

own-settings_of : (t : Told) (c : Command) (byte : ℕ) (bytes values h : List ℕ) → SettingIs c byte bytes values h → settings_of t c byte bytes values ≡ settings_of t c (get_or h 0 0) h h
unfolding SettingIs
own-settings_of t Individual byte bytes values h e = e
own-settings_of t Calibration byte bytes values h e = e
own-settings_of t Global byte bytes values h e = ap (replicate (field_count t)) e
own-settings_of t Configuration byte bytes values h e = ap (replicate (field_count t)) e

own-list : (c : Command) (n byte : ℕ) (bytes values h : List ℕ) → SettingIs c byte bytes values h → list_wrong c n (length bytes) (length values) ≡ list_wrong c n (length h) (length h)
unfolding SettingIs
own-list Individual n byte bytes values h e = ap (λ (l : List ℕ). not (eqb (length l) n)) e
own-list Calibration n byte bytes values h e = ap (λ (l : List ℕ). not (eqb (length l) n)) e
own-list Global n byte bytes values h e = refl
own-list Configuration n byte bytes values h e = refl

own-high : (t : Told) (c : Command) (byte : ℕ) (bytes values h : List ℕ) → SettingIs c byte bytes values h → value_high t c byte values ≡ value_high t c (get_or h 0 0) h
unfolding SettingIs
own-high t Individual byte bytes values h e = ap (λ (l : List ℕ). not (all_below l (limit (part_of t.part)))) e
own-high t Calibration byte bytes values h e = refl
own-high t Global byte bytes values h e = ap (λ (x : ℕ). not (ltb x (subframes (part_of t.part) t.configuration))) e
own-high t Configuration byte bytes values h e = refl

own-refusal : (t : Told) (tail : Tail) (byte : ℕ) (bytes values h : List ℕ) (room : ℕ) → SettingIs t.command byte bytes values h
    → write_refusal t tail byte bytes values room ≡ write_refusal t tail (get_or h 0 0) h h room
unfolding write_refusal
own-refusal t tail byte bytes values h room o =
    ap₂ (λ (x y : Bool). first (told_rows t.part t.devices tail ++ ((4 when x) ∷ (5 when ltb room (frame_length t tail)) ∷ (6 when (y || tail_high tail)) ∷ [])))
    (own-list t.command (field_count t) byte bytes values h o) (own-high t t.command byte bytes values h o)

read-own : (t : Told) (c : Command) (h bs us : List ℕ) (n : ℕ) → length h ≡ n
    → SettingIs c (byte_of (Ok (found t c h))) (take n (bytes_found c h bs)) (take n (values_found c h us)) h
unfolding SettingIs
read-own t Individual h bs us n l = take-over n h us l
read-own t Calibration h bs us n l = take-over n h bs l
read-own t Global h bs us n l = refl
read-own t Configuration h bs us n l = refl

-- whatever the reader accepts, the writer, given what was read, accepts where there is room, and writes the same bytes
pub read-written : (t : Told) (tail : Tail) (frame bytes values out : List ℕ) → ((i : ℕ) → get_or frame i 0 < 256)
    → ((n : ℕ) → read t tail frame (length bytes) (length values) ≡ Err n → ⊥) → length frame ≤ length out
    → WrittenAgain t tail frame (byte_read t tail frame bytes values) (bytes_read t tail frame bytes values) (values_read t tail frame bytes values) out
unfolding read read_bytes read_values written written_out
read-written t tail fr bs us out small taken wide =
    record {
      answers = sym (rows.accepted Err refl refused (ap (λ (f : List ℕ). Ok (length f)) (sym same)));
      out-held = sym (rows.changed out refl refused (ap (λ (f : List ℕ). over f out) (sym same)));
    }
  where
    h : List ℕ
    h = held_fields t fr

    z : (read_refusal t tail fr (length bs) (length us) ≡ 0) × (Ok (found t t.command h) ≡ read t tail fr (length bs) (length us))
    z = accepted-zero Err (Ok (found t t.command h)) (read t tail fr (length bs) (length us)) (read_refusal t tail fr (length bs) (length us)) taken refl

    eb : bytes_found t.command h bs ≡ read_bytes t tail fr bs (length us)
    eb = rows.changed bs refl z.0 refl

    ev : values_found t.command h us ≡ read_values t tail fr (length bs) us
    ev = rows.changed us refl z.0 refl

    len : length h ≡ field_count t
    len = length-held t fr

    byte : ℕ
    byte = byte_read t tail fr bs us

    bytes : List ℕ
    bytes = bytes_read t tail fr bs us

    values : List ℕ
    values = values_read t tail fr bs us

    own : SettingIs t.command byte bytes values h
    own =
        subst (λ (l : List ℕ). SettingIs t.command byte bytes (take (field_count t) l) h) ev
        (subst (λ (l : List ℕ). SettingIs t.command byte (take (field_count t) l) (take (field_count t) (values_found t.command h us)) h) eb
        (subst (λ (r : Result Read ℕ). SettingIs t.command (byte_of r) (take (field_count t) (bytes_found t.command h bs)) (take (field_count t) (values_found t.command h us)) h) z.1
        (read-own t t.command h bs us (field_count t) len)))

    again : (write_refusal t tail (get_or h 0 0) h h (length out) ≡ 0) × (frame_of t tail (settings t (get_or h 0 0) h h) ≡ fr)
    again = held-again t tail fr (length bs) (length us) small z.0 (length out) wide

    refused : write_refusal t tail byte bytes values (length out) ≡ 0
    refused = own-refusal t tail byte bytes values h (length out) own ∙ again.0

    same : frame_of t tail (settings t byte bytes values) ≡ fr
    same = ap (frame_of t tail) (own-settings_of t t.command byte bytes values h own) ∙ again.1
