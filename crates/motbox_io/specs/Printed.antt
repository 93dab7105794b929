-- THE THEOREMS over every run, which `printed` of proofs/Theorem.antt proves: what is written is what Text says of the bytes that were read, or a prefix of it.
use Rattle.std.specs.Prelude.{◌≡◌, false, cond, List, [], ◌++◌, ℕ, ◌<◌, eqb}
use Rattle.program_io.specs.Prefix.{Prefix}
use Rattle.motbox_io.specs.declared.progress.Progress.{Progress}
use Rattle.motbox_io.specs.Text.{converting, later, motbox}
use Rattle.motbox_io.specs.Run.{waiting, Run, most_turns, Ran, all_written}

-- how the input may go on behind what was read: not at all once a buffer was not full. That a read stops short only at the end is for `read_full` to see to, and no contract says it
abbrev pub Onward : Progress → List ℕ → Type 0
Onward p tail = p.more ≡ false → tail ≡ []

-- the number of the line that was turned away, or how many lines there are
abbrev pub line_at : Progress → ℕ
line_at p = cond (eqb p.refusal 0) p.lines (later p.lines)

pub record Printed : Type 0 where
  -- after any turns: what was written, with what waits, is a prefix of the records of every input that starts with the bytes that were read, and ends with them where the last buffer was not full
  pub prefix : (n : ℕ) (read written : List ℕ) (p : Progress) (input out : List ℕ) → Run n read written p input out → (tail : List ℕ) → Onward p tail → Prefix (written ++ waiting p out) (motbox (read ++ tail)).records
  -- and so is what a whole run has written whole
  pub part : (r : Progress) (l : Ran r) (tail : List ℕ) → Onward r tail → Prefix (all_written l) (motbox (l.read ++ tail)).records
  -- where no call failed, and there were turns enough, these are all records, up to a line that is turned away, with its refusal and its number
  pub whole : (r : Progress) (l : Ran r) → r.failed ≡ false → l.turns < most_turns → (tail : List ℕ) → Onward r tail → motbox (l.read ++ tail) ≡ converting (all_written l) r.refusal (line_at r)
