-- Inside: where a run begins, or the number of its refusal. What it answers is in Answer.
use Rattle.std.specs.Prelude.{ℕ, List, Result, Ok, Err}
use Rattle.tables.specs.Refusals.{first, answer}
use Rattle.judgement.specs.declared.judging.Judged.{Judged}
use Rattle.refusals.specs.Rows.{run_rows}
use Rattle.cursor.specs.declared.cursor.Cursor.{Cursor}
use Rattle.cursor.specs.Cursor.{begin_run}

-- where a run of n records begins: nowhere if it is refused
abbrev pub entered : Judged → ℕ → List ℕ → ℕ → Result Cursor ℕ
entered j n ss room = answer (first (run_rows j n ss room)) Err (Ok (begin_run n ss))
