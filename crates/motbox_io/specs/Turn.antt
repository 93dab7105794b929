-- One turn of the loop: what waits is written out where there is no room for another record or the input is read on; the buffer is filled once the next line is not whole in it; the next line is taken.
-- Whether a write failed and what a read brought are C's: each contract names them, and says what follows.
use Rattle.std.specs.Prelude.{◌≡◌, Bool, true, false, not, cond, ◌&&◌, ◌||◌, List, ◌++◌, ℕ, ◌+◌, ◌-◌, ◌*◌, ◌/◌, ◌≤◌, min, eqb, leb, ltb, length, take, drop, Option, Some, None, Result, Ok, Err}
use Rattle.records.specs.BoxRecord.{box_bytes}
use Rattle.mot_line.specs.declared.call.Refusal.{Refusal}
use Rattle.mot_line.specs.Call.{number, mot_line}
use Rattle.program_io.specs.Input.{Within}
use Rattle.motbox_io.specs.declared.progress.Progress.{Progress}
use Rattle.motbox_io.specs.Text.{has_line, line_length, later}

-- ---- how much the buffers hold: 64 KiB of text, and the whole records that as many bytes have room for

abbrev pub input_bytes : ℕ
input_bytes = 65536

abbrev pub output_bytes : ℕ
output_bytes = input_bytes / box_bytes * box_bytes

-- ---- what is known between two turns

abbrev pub start : Progress
start = record { previous = 0; lines = 0; got = 0; next = 0; used = 0; more = true; going = true; failed = false; refusal = 0 }

abbrev pub crowded : ℕ → ℕ → Bool
crowded used size = ltb (size - used) box_bytes

-- the next line is not whole in the buffer, and more of it can be read
abbrev pub dry : Progress → ℕ → Bool → Bool
dry p size whole = (p.more && not whole) && not (eqb p.next 0 && leb size p.got)

-- a call failed
abbrev pub stopped : Progress → Progress
stopped p = record { previous = p.previous; lines = p.lines; got = p.got; next = p.next; used = p.used; more = p.more; going = false; failed = true; refusal = p.refusal }

abbrev pub cleared : Progress → Progress
cleared p = record { previous = p.previous; lines = p.lines; got = p.got; next = p.next; used = 0; more = p.more; going = p.going; failed = p.failed; refusal = p.refusal }

-- what waited was written out, or a write failed
abbrev pub emptied : Progress → Bool → Progress
emptied p written = cond written (cleared p) (stopped p)

-- a buffer that is not full is the last
abbrev pub refilled : Progress → ℕ → ℕ → Option ℕ → Progress
refilled p kept size (Some n) =
    record { previous = p.previous; lines = p.lines; got = min (kept + n) size; next = 0; used = p.used; more = leb size (min (kept + n) size); going = p.going; failed = p.failed; refusal = p.refusal }
refilled p kept size None = stopped p

abbrev pub done : Progress → Progress
done p = record { previous = p.previous; lines = p.lines; got = p.got; next = p.next; used = p.used; more = p.more; going = false; failed = p.failed; refusal = p.refusal }

-- the record of a line waits behind those that wait already; a line that is turned away ends the run
abbrev pub answered : Progress → ℕ → ℕ → Result ℕ Refusal → Progress
answered p n size (Ok frame) =
    record { previous = frame; lines = later p.lines; got = p.got; next = min (p.next + n) p.got; used = min (p.used + box_bytes) size; more = p.more; going = p.going; failed = p.failed; refusal = p.refusal }
answered p n size (Err why) =
    record { previous = p.previous; lines = p.lines; got = p.got; next = p.next; used = p.used; more = p.more; going = false; failed = p.failed; refusal = number why }

-- what was read lies in the buffer
pub record Stands (p : Progress) (size : ℕ) : Type 0 where
  pub next : p.next ≤ p.got
  pub got : p.got ≤ size

-- the bytes of the buffer that no line was made of yet
abbrev pub held : Progress → List ℕ → List ℕ
held p input = take (p.got - p.next) (drop p.next input)

-- ---- the three steps of a turn

pub record Empties (p : Progress) (due : Bool) (r : Progress) : Type 0 where
  -- every write succeeded
  pub written : Bool
  pub so : r ≡ cond due (emptied p written) p

pub record Fills (p : Progress) (dry : Bool) (r : Progress) (before after : List ℕ) : Type 0 where
  pub input : Option ℕ
  pub within : (p.going && dry) ≡ true → Within (length before - (p.got - p.next)) input
  pub so : r ≡ cond (p.going && dry) (refilled p (p.got - p.next) (length before) input) p
  -- what is left goes to the front, or the buffer stays
  pub moved : (p.going && dry) ≡ true → take (p.got - p.next) after ≡ held p before
  pub same : (p.going && dry) ≡ false → after ≡ before

-- where a run stands, and the bytes of the records
pub record After : Type 0 where
  pub progress : Progress
  pub out : List ℕ

abbrev pub leaving : Progress → List ℕ → After
leaving p out = record { progress = p; out = out }

-- the line is the first n bytes of `rest`, what is held
abbrev pub line_taken : Progress → List ℕ → ℕ → List ℕ → After
line_taken p rest n out =
    leaving (answered p n (length out) (mot_line (take n rest) p.previous (drop p.used out)).answer) (take p.used out ++ (mot_line (take n rest) p.previous (drop p.used out)).out)

unfoldable pub taken : Progress → List ℕ → List ℕ → After
taken p input out =
    cond (not p.going) (leaving p out)
    (cond (eqb (line_length (held p input)) 0) (leaving (done p) out)
    (line_taken p (held p input) (line_length (held p input)) out))

-- ---- a turn

abbrev pub is_dry : Progress → List ℕ → Bool
is_dry p input = dry p (length input) (has_line (held p input))

abbrev pub is_due : Progress → List ℕ → List ℕ → Bool
is_due p input out = crowded p.used (length out) || is_dry p input

pub record Turned (p r : Progress) (before after out out' : List ℕ) : Type 0 where
  pub flushed : Progress
  pub ready : Progress
  pub empties : Empties p (is_due p before out) flushed
  pub fills : Fills flushed (is_dry p before) ready before after
  pub takes : leaving r out' ≡ taken ready after out
