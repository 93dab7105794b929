-- What `trackbox` does with its input. Document 01, "Records and limits": "Skipped frame numbers are empty frames." "When a call is turned down", trackbox: "41 the last record incomplete.
-- 42 frame number 0 or below the previous record's. 43 more than 1000 above the previous (0 at first). 44 a 65th box in a frame. It prints `refused 42 record 5`, records counted from 1, and
-- stops; a frame's own refusal names the frame's first record, or for an empty frame the record after it. The open frame isn't worked."
-- `events` is what is done, in order; `trackbox` what is printed, for any meaning of a frame.
use Rattle.std.specs.Prelude.{Bool, true, false, cond, ◌||◌, ℕ, ◌+◌, ◌-◌, ◌*◌, ◌/◌, ◌%◌, eqb, leb, ltb, length}
use mathlib.Core.List.{List, [], ◌∷◌, ◌++◌, foldl}
use Rattle.laws.specs.Tab.{tab}
use Rattle.laws.specs.Sieve.{sieve}
use Rattle.laws.specs.Laid.{rows}
use Rattle.records.specs.declared.box_record.BoxRecord.{BoxRecord}
use Rattle.records.specs.declared.track_record.TrackRecord.{TrackRecord}
use Rattle.records.specs.Field.{part}
use Rattle.records.specs.BoxRecord.{box_bytes, box_of}
use Rattle.records_line.specs.Line.{line, refused_line}

pub data Event : Type 0 where
  -- a frame, by its number, is worked with the boxes of these records; where it is turned down it names the record of this number
  work : ℕ → List BoxRecord → ℕ → Event
  -- the number of a refusal, and the record that it names
  refuse : ℕ → ℕ → Event

-- ---- of records that passed, the frame numbers of which do not fall

-- the number of the last record, 0 where there is none
unfoldable pub last_frame : List BoxRecord → ℕ
last_frame passed = foldl (λ (f : ℕ) (r : BoxRecord). r.frame) 0 passed

unfoldable pub boxes_of : ℕ → List BoxRecord → List BoxRecord
boxes_of f passed = sieve (λ (r : BoxRecord). eqb r.frame f) passed

-- how many come before frame f
unfoldable pub earlier : ℕ → List BoxRecord → ℕ
earlier f passed = length (sieve (λ (r : BoxRecord). ltb r.frame f) passed)

-- the record behind those that come before is the frame's first, or the one after an empty frame
unfoldable pub frame_work : List BoxRecord → ℕ → Event
frame_work passed f = work f (boxes_of f passed) (earlier f passed + 1)

-- frames 1 to n, those that no record has included
unfoldable pub frames : List BoxRecord → ℕ → List Event
frames passed n = tab (λ (i : ℕ). frame_work passed (i + 1)) n

-- ---- which records pass

-- the number that turns a record of this frame down behind those that passed, 0 where it passes too
unfoldable pub refusal_of : List BoxRecord → ℕ → ℕ
refusal_of passed frame =
    cond (eqb frame 0 || ltb frame (last_frame passed)) 42
    (cond (ltb (last_frame passed + 1000) frame) 43
    (cond (leb 64 (length (boxes_of frame passed))) 44
    0))

-- the records before the first that is turned down, and the number by which it is; 0 where all pass
pub record Passing : Type 0 where
  pub passed : List BoxRecord
  pub refusal : ℕ

abbrev pub passing_with : List BoxRecord → ℕ → Passing
passing_with passed refusal = record { passed = passed; refusal = refusal }

unfoldable pub passing : List BoxRecord → List BoxRecord → Passing
passing passed [] = passing_with passed 0
passing passed (r ∷ rs) = cond (eqb (refusal_of passed r.frame) 0) (passing (passed ++ (r ∷ [])) rs) (passing_with passed (refusal_of passed r.frame))

-- ---- what is done

-- all frames; or, where a record is turned down, those before the open one, and the refusal
unfoldable pub done : List BoxRecord → ℕ → List Event
done passed why =
    cond (eqb why 0) (frames passed (last_frame passed))
    (frames passed (last_frame passed - 1) ++ (refuse why (length passed + 1) ∷ []))

-- 41 comes last: `rest` bytes are left behind the whole records
abbrev pub why_of : ℕ → ℕ → ℕ
why_of refusal rest = cond (eqb refusal 0) (cond (ltb 0 rest) 41 0) refusal

unfoldable pub events : List BoxRecord → ℕ → List Event
events rs rest = done (passing [] rs).passed (why_of (passing [] rs).refusal rest)

-- ---- what is printed

-- the whole records in the bytes
unfoldable pub box_records : List ℕ → List BoxRecord
box_records bytes = tab (λ (k : ℕ). box_of (part (k * box_bytes) box_bytes bytes)) (length bytes / box_bytes)

-- what a frame gives: the number of its refusal; or the state behind it, and the tracks that it emits
pub data Frame (S : Type 0) : Type 0 where
  refused : ℕ → Frame S
  accepted : S → List TrackRecord → Frame S

pub record Printed (S : Type 0) : Type 0 where
  pub text : List ℕ
  -- false once something was refused
  pub going : Bool
  pub state : S

abbrev pub printed_with : {S : Type 0} → List ℕ → Bool → S → Printed S
printed_with text going state = record { text = text; going = going; state = state }

-- a frame that was worked; where it is turned down it names record nth
abbrev pub framed : {S : Type 0} → Printed S → ℕ → Frame S → Printed S
framed p nth (refused number) = printed_with (p.text ++ refused_line number nth) false p.state
framed p nth (accepted state tracks) = printed_with (p.text ++ rows line tracks) true state

module _ {S : Type 0} (update : S → List BoxRecord → Frame S) where
  abbrev pub happens : Printed S → Event → Printed S
  happens p (work f boxes nth) = framed p nth (update p.state boxes)
  happens p (refuse number nth) = printed_with (p.text ++ refused_line number nth) false p.state

  unfoldable pub prints : Printed S → Event → Printed S
  prints p e = cond p.going (happens p e) p

  unfoldable pub printing : S → List Event → Printed S
  printing state es = foldl prints (printed_with [] true state) es

  -- the bytes that are printed for the bytes that are read, from a state that no frame came to
  unfoldable pub trackbox : S → List ℕ → List ℕ
  trackbox state bytes = (printing state (events (box_records bytes) (length bytes % box_bytes))).text
