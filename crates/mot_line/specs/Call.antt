-- Document 02, N1: "One call takes one line and the previous frame number. .. Turned away, in this order: 51 a line that doesn't have this form; 52 a value that gets 16, 42 or 43 in document 01;
-- 53 no place for the record." Document 01: "42 frame number 0 or below the previous record's. 43 more than 1000 above the previous (0 at first)." "A refused call changes no lent memory".
use Rattle.std.specs.Prelude.{Bool, not, cond, ◌||◌, List, [], ◌∷◌, ℕ, ◌-◌, eqb, ltb, length, Result, Ok, Err}
use Rattle.laws.specs.Splice.{splice}
use Rattle.box_verdict.specs.Box.{bad_box}
use Rattle.records.specs.declared.box_record.BoxRecord.{BoxRecord}
use Rattle.records.specs.BoxRecord.{box_bytes, bytes_of_box}
use Rattle.mot_line.specs.declared.call.Refusal.{Refusal}
use Rattle.mot_line.specs.declared.call.Refusal.TheVariants.{NotOfTheForm, BadValue, NoRoom}
use Rattle.mot_line.specs.Line.{is_detection, box_read}

-- ---- numbers

abbrev pub number : Refusal → ℕ
number NotOfTheForm = 51
number BadValue = 52
number NoRoom = 53

-- of an answer: the number, 0 where the line is read; and the frame number, 0 where it is not
abbrev pub refusal_number : Result ℕ Refusal → ℕ
refusal_number (Ok frame) = 0
refusal_number (Err why) = number why

abbrev pub frame_read : Result ℕ Refusal → ℕ
frame_read (Ok frame) = frame
frame_read (Err why) = 0

-- ---- 52, of the values that the record has

-- 42 and 43
abbrev pub most_frames_on : ℕ
most_frames_on = 1000

unfoldable pub bad_frame : ℕ → ℕ → Bool
bad_frame previous frame = (eqb frame 0 || ltb frame previous) || ltb most_frames_on (frame - previous)

-- and 16
abbrev pub bad_value : ℕ → BoxRecord → Bool
bad_value previous b = bad_frame previous b.frame || bad_box b.left b.top b.width b.height b.score

-- ---- when a line is turned away

-- each reason by its own words, whatever the others say, in 02's order
abbrev pub conditions : List ℕ → ℕ → List ℕ → List (Refusal × Bool)
conditions l previous out =
    (NotOfTheForm, not (is_detection l))
    ∷ (BadValue, bad_value previous (box_read l))
    ∷ (NoRoom, ltb (length out) box_bytes)
    ∷ []

-- the first that applies; where none does the line is read, with this answer
unfoldable pub first_of : List (Refusal × Bool) → Result ℕ Refusal → Result ℕ Refusal
first_of [] read = read
first_of (c ∷ cs) read = cond c.1 (Err c.0) (first_of cs read)

-- ---- what a call answers, and what it leaves in the lent bytes

pub record Outcome : Type 0 where
  pub answer : Result ℕ Refusal
  pub out : List ℕ

abbrev pub outcome : Result ℕ Refusal → List ℕ → Outcome
outcome answer out = record { answer = answer; out = out }

-- the record at the front; a refused line changes nothing
abbrev pub ends : Result ℕ Refusal → BoxRecord → List ℕ → Outcome
ends (Ok frame) b out = outcome (Ok frame) (splice out 0 (bytes_of_box b))
ends (Err why) b out = outcome (Err why) out

unfoldable pub mot_line : List ℕ → ℕ → List ℕ → Outcome
mot_line l previous out = ends (first_of (conditions l previous out) (Ok (box_read l).frame)) (box_read l) out
