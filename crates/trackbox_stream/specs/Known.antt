-- Examples that the definitions compute: skipped frames, each refusal beside a stream that just passes it, and the text of small inputs.
use Rattle.std.specs.Prelude.{◌≡◌, refl, cond, false, List, [], ◌∷◌, ℕ, ◌+◌, ◌-◌, eqb, length, replicate}
use Rattle.std.proofs.Common.{append-nil}
use Rattle.std.specs.Float.{nan}
use Rattle.laws.specs.Tab.{tab}
use Rattle.laws.specs.Sieve.{sieve}
use Rattle.laws.specs.Laid.{rows}
use Rattle.records.specs.declared.box_record.BoxRecord.{BoxRecord}
use Rattle.records.specs.Field.{value}
use Rattle.records.specs.BoxRecord.{box_bytes}
use Rattle.records.specs.Known.{lone_track}
use Rattle.records_line.specs.Line.{line, refused_line}
use Rattle.trackbox_stream.specs.Stream.{work, refuse, last_frame, boxes_of, earlier, frame_work, frames, refusal_of, passing, done, events, box_records, Frame, refused, accepted, printed_with, prints, printing, trackbox}

abbrev box : ℕ → BoxRecord
box f = record { frame = f; left = nan; top = nan; width = nan; height = nan; score = nan; label = 1 }

-- frames before the first record and between two are empty, and name the record after them; frame 4 names its first
pub skipped_known : events (box 2 ∷ box 4 ∷ box 4 ∷ []) 0 ≡ work 1 [] 1 ∷ work 2 (box 2 ∷ []) 1 ∷ work 3 [] 2 ∷ work 4 (box 4 ∷ box 4 ∷ []) 2 ∷ []
unfolding events done frames frame_work boxes_of earlier last_frame passing refusal_of tab sieve
skipped_known = refl

-- no record: nothing is done
pub none-known : events [] 0 ≡ []
unfolding events done frames last_frame passing tab
none-known = refl

-- a refusal wins over the open frame: frame 2 is not worked
pub back-known : events (box 1 ∷ box 2 ∷ box 1 ∷ box 7 ∷ []) 0 ≡ work 1 (box 1 ∷ []) 1 ∷ refuse 42 3 ∷ []
unfolding events done frames frame_work boxes_of earlier last_frame passing refusal_of tab sieve
back-known = refl

pub incomplete_known : events (box 1 ∷ box 2 ∷ []) (box_bytes - 1) ≡ work 1 (box 1 ∷ []) 1 ∷ refuse 41 3 ∷ []
unfolding events done frames frame_work boxes_of earlier last_frame passing refusal_of tab sieve
incomplete_known = refl

-- each number, beside what just passes
pub refusals_known : (refusal_of [] 0 ≡ 42) × (refusal_of (box 5 ∷ []) 4 ≡ 42) × (refusal_of (box 5 ∷ []) 5 ≡ 0)
    × (refusal_of [] 1001 ≡ 43) × (refusal_of [] 1000 ≡ 0) × (refusal_of (box 5 ∷ []) 1006 ≡ 43) × (refusal_of (box 5 ∷ []) 1005 ≡ 0)
    × (refusal_of (replicate 64 (box 5)) 5 ≡ 44) × (refusal_of (replicate 63 (box 5)) 5 ≡ 0) × (refusal_of (replicate 64 (box 5)) 6 ≡ 0)
unfolding refusal_of last_frame boxes_of sieve
refusals_known = (refl, refl, refl, refl, refl, refl, refl, refl, refl, refl)

-- ---- the text

-- whatever a frame means: no input, no text; and an input that is no whole record
pub text-known : {S : Type 0} (update : S → List BoxRecord → Frame S) (state : S) → (trackbox update state [] ≡ []) × (trackbox update state (0 ∷ 0 ∷ []) ≡ refused_line 41 1)
unfolding trackbox printing prints box_records events done frames last_frame passing tab
text-known update state = (refl, refl)

-- one record of frame 1, and a frame that emits one track
pub line_known : {S : Type 0} (state : S) → trackbox (λ (s : S) (boxes : List BoxRecord). accepted s (lone_track ∷ [])) state (1 ∷ replicate (box_bytes - 1) 0) ≡ line lone_track
unfolding trackbox printing prints box_records events done frames frame_work boxes_of earlier last_frame passing refusal_of tab sieve rows value
line_known state = append-nil (line lone_track)

-- a frame without boxes is turned down with 12: it names the record after it, and frame 3 is not worked
abbrev no_empty : ℕ → List BoxRecord → Frame ℕ
no_empty s boxes = cond (eqb (length boxes) 0) (refused 12) (accepted (s + 1) [])

pub own-known : printing no_empty 0 (events (box 1 ∷ box 3 ∷ []) 0) ≡ printed_with (refused_line 12 2) false 1
unfolding printing prints events done frames frame_work boxes_of earlier last_frame passing refusal_of tab sieve rows
own-known = refl
