-- A run: turns one after the other, and at the end what still waits is written out. What its reads brought and what its writes wrote are added up over its turns.
-- The bytes that C read and wrote are in no contract: a read is taken to have brought what the buffer has behind the bytes that were kept, and writes that succeeded to have written what waited.
use Rattle.std.specs.Prelude.{◌≡◌, Bool, true, false, not, cond, ◌&&◌, List, [], ◌++◌, ◌⊎◌, ℕ, ◌+◌, ◌-◌, ◌≤◌, ◌<◌, length, take, drop, Option, Some, None}
use Rattle.records.specs.BoxRecord.{box_bytes}
use Rattle.mot_line.specs.Detection.{longest_line}
use Rattle.motbox_io.specs.declared.progress.Progress.{Progress}
use Rattle.motbox_io.specs.Turn.{input_bytes, output_bytes, start, is_dry, is_due, Empties, Turned}

-- ---- what a turn writes, and what it brings in

-- the records that are not written out yet
abbrev pub waiting : Progress → List ℕ → List ℕ
waiting p out = take p.used out

-- what waited, where it was due and every write succeeded; else nothing
abbrev pub written_out : Progress → List ℕ → Bool → Bool → List ℕ
written_out p out due written = cond (due && written) (waiting p out) []

-- what a read left behind the bytes that were kept
abbrev pub read_in : Option ℕ → List ℕ → List ℕ
read_in (Some n) room = take n room
read_in None room = []

abbrev pub brought_in : Progress → Bool → Option ℕ → List ℕ → List ℕ
brought_in p dry input after = cond (p.going && dry) (read_in input (drop (p.got - p.next) after)) []

abbrev pub written_by : {p r : Progress} {before after out out' : List ℕ} → Turned p r before after out out' → List ℕ
written_by {p} {r} {before} {after} {out} {out'} t = written_out p out (is_due p before out) t.empties.written

abbrev pub brought_by : {p r : Progress} {before after out out' : List ℕ} → Turned p r before after out out' → List ℕ
brought_by {p} {r} {before} {after} {out} {out'} t = brought_in t.flushed (is_dry p before) t.fills.input after

-- ---- so many turns: the bytes that were read, those that were written whole, where the run stands, and its buffers

pub data Run : ℕ → List ℕ → List ℕ → Progress → List ℕ → List ℕ → Type 0 where
  -- the input's buffer has room for more than a line, and the output's for a record
  begun : (input out : List ℕ) → longest_line < length input → box_bytes ≤ length out → Run 0 [] [] start input out
  turned : {n : ℕ} {read written : List ℕ} {p r : Progress} {before after out out' : List ℕ} → Run n read written p before out → p.going ≡ true → length after ≡ length before → length out' ≡ length out
      → (t : Turned p r before after out out') → Run (n + 1) (read ++ brought_by t) (written ++ written_by t) r after out'

-- ---- a whole run

-- the most turns that the loop makes: each but the last takes a line
abbrev pub most_turns : ℕ
most_turns = 18446744073709551615

-- `r` is what `run` answers: some run of the program's buffers ends so. That the loop's own buffers are these is seen in its code
pub record Ran (r : Progress) : Type 0 where
  pub turns : ℕ
  pub read : List ℕ
  -- by the turns, without the last write
  pub written : List ℕ
  pub last : Progress
  pub input : List ℕ
  pub out : List ℕ
  pub input_size : length input ≡ input_bytes
  pub out_size : length out ≡ output_bytes
  pub run : Run turns read written last input out
  pub ended : (last.going ≡ false) ⊎ (turns ≡ most_turns)
  -- what still waits is written out, but where a call failed
  pub empties : Empties last (not last.failed) r

-- all that was written whole: of a write that failed a part may be out
abbrev pub all_written : {r : Progress} → Ran r → List ℕ
all_written {r} l = l.written ++ written_out l.last l.out (not l.last.failed) l.empties.written
