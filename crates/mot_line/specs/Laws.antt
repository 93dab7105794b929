-- THE THEOREMS of a line and of a call. `laws` of proofs/Theorem.antt proves them.
use Rattle.std.specs.Prelude.{◌≡◌, Bool, true, false, ◌||◌, List, ℕ, ◌≤◌, eqb, length, Result, Ok, Err}
use Rattle.laws.specs.Splice.{splice}
use Rattle.records.specs.BoxRecord.{box_bytes, bytes_of_box}
use Rattle.trackbox_stream.specs.declared.rules.OpenFrame.{OpenFrame}
use Rattle.trackbox_stream.specs.declared.rules.Next.{Next}
use Rattle.trackbox_stream.specs.declared.rules.Next.TheVariants as next
use Rattle.trackbox_stream.specs.declared.rules.Fault.{Fault}
use Rattle.trackbox_stream.specs.Rules.{number, judged}
use Rattle.mot_line.specs.Line.{is_detection, box_read}
use Rattle.mot_line.specs.Call.{bad_frame, bad_value, outcome, mot_line}
use Rattle.mot_line.specs.Detection.{Detection, line_text, longest_line, box_written}

-- ---- what an accepted call says: the line is written so, with a box in range, and the record of that box is at the front of what was lent
pub record Accepted (l : List ℕ) (previous : ℕ) (out : List ℕ) (frame : ℕ) (out' : List ℕ) : Type 0 where
  pub written : Detection
  pub text : l ≡ line_text written
  pub in_range : bad_value previous (box_written written) ≡ false
  pub room : box_bytes ≤ length out
  pub frame_is : frame ≡ (box_written written).frame
  pub record_is : out' ≡ splice out 0 (bytes_of_box (box_written written))

-- ---- 42 and 43 of document 01, as trackbox says them of a record's frame number

abbrev pub is_frame_refused : Result Next Fault → Bool
is_frame_refused (Ok (next.Same state)) = false
is_frame_refused (Ok (next.Later empty state)) = false
is_frame_refused (Err fault) = eqb (number fault.why) 42 || eqb (number fault.why) 43

pub record Laws : Type 0 where
  -- a line that is written so is of the form, and means that box
  pub reads : (d : Detection) → (is_detection (line_text d) ≡ true) × (box_read (line_text d) ≡ box_written d)
  -- and no other line is
  pub only : (l : List ℕ) → is_detection l ≡ true → (d : Detection) × (l ≡ line_text d)
  -- how much of a text a reader of lines has to hold
  pub short : (l : List ℕ) → is_detection l ≡ true → length l ≤ longest_line
  -- what is accepted has that form and these values
  pub accepted : (l : List ℕ) (previous : ℕ) (out : List ℕ) (frame : ℕ) (out' : List ℕ) → mot_line l previous out ≡ outcome (Ok frame) out' → Accepted l previous out frame out'
  -- a line of that form with values in range and room is not refused
  pub not_refused : (d : Detection) (previous : ℕ) (out : List ℕ) → bad_value previous (box_written d) ≡ false → box_bytes ≤ length out
      → mot_line (line_text d) previous out ≡ outcome (Ok (box_written d).frame) (splice out 0 (bytes_of_box (box_written d)))
  -- a frame number is bad exactly where trackbox turns a record of it down with 42 or 43, whichever frame is open, and where none is yet (0)
  pub bad-frame : (state : OpenFrame) (frame nth : ℕ) → is_frame_refused (judged state nth frame) ≡ bad_frame state.frame frame
