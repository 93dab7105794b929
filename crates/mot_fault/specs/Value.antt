-- What is wrong with a value: document 01's 42, 43 and 16, by which a stream of records is turned down, one value after the other.
use Rattle.std.specs.Prelude.{not, cond, ℕ, ◌-◌, eqb, ltb, ⊤, Result, Ok, Err, Float}
use Rattle.std.specs.Float.Ieee.{lt}
use Rattle.floats.specs.Single.{plus_zero, one}
use Rattle.box_verdict.specs.Box.{beyond}
use Rattle.records.specs.declared.box_record.BoxRecord.{BoxRecord}
use Rattle.mot_line.specs.Call.{most_frames_on}
use Rattle.mot_fault.specs.declared.kinds.Fault.{Fault}
use Rattle.mot_fault.specs.declared.kinds.Fault.TheVariants.{FrameZero, FrameBack, FirstFrameFar, FrameFar, NotAboveZero, Beyond, BelowZero, AboveOne}
use Rattle.mot_fault.specs.declared.kinds.Found.{Found}
use Rattle.mot_fault.specs.declared.kinds.Report.{Report}
use Rattle.mot_fault.specs.Form.{at}

-- no frame has number 0, so that a previous one of 0 says that no line was read before
unfoldable pub frame_value : ℕ → ℕ → Result ⊤ Found
frame_value previous frame =
    cond (eqb frame 0) (at FrameZero 0)
    (cond (ltb frame previous) (at FrameBack 0)
    (cond (ltb most_frames_on (frame - previous)) (cond (eqb previous 0) (at FirstFrameFar 0) (at FrameFar 0)) (Ok tt)))

-- of left and top, and of width and height
unfoldable pub place_value : Float → Result ⊤ Found
place_value x = cond (beyond x) (at Beyond 0) (Ok tt)

unfoldable pub side_value : Float → Result ⊤ Found
side_value x = cond (not (lt plus_zero x)) (at NotAboveZero 0) (place_value x)

unfoldable pub score_value : Float → Result ⊤ Found
score_value x = cond (lt x plus_zero) (at BelowZero 0) (cond (lt one x) (at AboveOne 0) (Ok tt))

-- this fault of field i, and the byte of the field where it shows
abbrev pub reported : Fault → ℕ → ℕ → Result ⊤ Report
reported fault i byte = Err (record { fault = fault; field = i; byte = byte })

-- what was found of field i, or else what is said of the later ones
abbrev pub in_field : ℕ → Result ⊤ Found → Result ⊤ Report → Result ⊤ Report
in_field i (Ok _) later = later
in_field i (Err found) later = reported found.fault i found.byte

unfoldable pub value_fault : ℕ → BoxRecord → Result ⊤ Report
value_fault previous b =
    in_field 1 (frame_value previous b.frame)
    (in_field 3 (place_value b.left)
    (in_field 4 (place_value b.top)
    (in_field 5 (side_value b.width)
    (in_field 6 (side_value b.height)
    (in_field 7 (score_value b.score) (Ok tt))))))
