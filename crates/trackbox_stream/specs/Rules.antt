-- One record at a time. Document 01, "When a call is turned down", trackbox: "41 the last record incomplete. 42 frame number 0 or below the previous record's. 43 more than 1000 above the
-- previous (0 at first). 44 a 65th box in a frame." The previous record's number is that of the open frame.
use Rattle.std.specs.Prelude.{cond, ◌||◌, ℕ, ◌+◌, ◌-◌, min, eqb, leb, ltb, ⊤, Result, Ok, Err}
use Rattle.trackbox_stream.specs.declared.rules.OpenFrame.{OpenFrame}
use Rattle.trackbox_stream.specs.declared.rules.Refusal.{Refusal}
use Rattle.trackbox_stream.specs.declared.rules.Refusal.TheVariants.{RecordIncomplete, FrameBack, FrameFar, TooManyBoxes}
use Rattle.trackbox_stream.specs.declared.rules.Next.{Next}
use Rattle.trackbox_stream.specs.declared.rules.Next.TheVariants as next
use Rattle.trackbox_stream.specs.declared.rules.Fault.{Fault}

abbrev pub number : Refusal → ℕ
number RecordIncomplete = 41
number FrameBack = 42
number FrameFar = 43
number TooManyBoxes = 44

-- the refusal, and the record that it names
abbrev pub fault : Refusal → ℕ → Fault
fault why nth = record { why = why; nth = nth }

-- no frame is open, and the first record is number 1
abbrev pub start : OpenFrame
start = record { records = 0; frame = 0; first = 1; boxes = 0 }

-- the number of the record behind so many, as a u64 counts it; no stream comes to the largest (Laws, `exact`)
abbrev pub nth_after : ℕ → ℕ
nth_after records = min records 18446744073709551614 + 1

-- a frame with its first record, and the open frame with one more
abbrev pub opened : ℕ → ℕ → OpenFrame
opened nth frame = record { records = nth; frame = frame; first = nth; boxes = 1 }

abbrev pub grown : OpenFrame → ℕ → ℕ → OpenFrame
grown state nth boxes = record { records = nth; frame = state.frame; first = state.first; boxes = boxes }

-- what record nth means where it has this frame number
unfoldable pub judged : OpenFrame → ℕ → ℕ → Result Next Fault
judged state nth frame =
    cond (eqb frame 0 || ltb frame state.frame) (Err (fault FrameBack nth))
    (cond (ltb 1000 (frame - state.frame)) (Err (fault FrameFar nth))
    (cond (ltb state.frame frame) (Ok (next.Later (frame - state.frame - 1) (opened nth frame)))
    (cond (leb 64 state.boxes) (Err (fault TooManyBoxes nth))
    (Ok (next.Same (grown state nth (state.boxes + 1)))))))

-- the end of the input behind `rest` bytes of what would be record nth
unfoldable pub closed : ℕ → ℕ → Result ⊤ Fault
closed nth rest = cond (ltb 0 rest) (Err (fault RecordIncomplete nth)) (Ok tt)
