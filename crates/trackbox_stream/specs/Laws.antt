-- THE THEOREMS of the rules. `laws` of proofs/Theorem.antt proves them.
use Rattle.std.specs.Prelude.{◌≡◌, Bool, true, List, [], ℕ, ◌+◌, ◌-◌, ◌*◌, ◌%◌, ◌≤◌, ◌<◌, ltb, length, take, drop, Result, Ok, Err}
use Rattle.laws.specs.Every.{every}
use Rattle.records.specs.declared.box_record.BoxRecord.{BoxRecord}
use Rattle.records.specs.BoxRecord.{box_bytes}
use Rattle.records.specs.Field.{AreBytes}
use Rattle.trackbox_stream.specs.declared.rules.OpenFrame.{OpenFrame}
use Rattle.trackbox_stream.specs.declared.rules.Refusal.{Refusal}
use Rattle.trackbox_stream.specs.declared.rules.Fault.{Fault}
use Rattle.trackbox_stream.specs.declared.rules.Next.{Next}
use Rattle.trackbox_stream.specs.declared.rules.Next.TheVariants as next
use Rattle.trackbox_stream.specs.Rules.{start, fault, nth_after, judged}
use Rattle.trackbox_stream.specs.Stream.{boxes_of, earlier, passing, events, box_records, Frame, printing, trackbox}
use Rattle.trackbox_stream.specs.Feeding.{fed}

-- a frame number is a u32
abbrev pub frame_numbers : ℕ
frame_numbers = 4294967296

abbrev pub wide : BoxRecord → Bool
wide r = ltb r.frame frame_numbers

-- what holds between two records of a stream: an open frame has at most 64 boxes, and there are at most 64 records for each frame number
pub record Sound (state : OpenFrame) : Type 0 where
  pub counts : state.records + 1 ≡ state.first + state.boxes
  pub early : state.first ≤ 64 * (state.frame - 1) + 1
  pub most : state.boxes ≤ 64
  pub none : state.boxes ≤ 64 * state.frame
  pub wide : state.frame < frame_numbers

-- what each answer holds to: a record skips fewer than 1000 frames
pub data Goes : Result Next Fault → Type 0 where
  on : {state : OpenFrame} → Sound state → Goes (Ok (next.Same state))
  over : {m : ℕ} {state : OpenFrame} → m < 1000 → Sound state → Goes (Ok (next.Later m state))
  stop : (why : Refusal) (nth : ℕ) → Goes (Err (fault why nth))

-- a frame's boxes are those that stand behind the records of earlier frames
abbrev pub InARow : ℕ → List BoxRecord → Type 0
InARow f rs = boxes_of f rs ≡ take (length (boxes_of f rs)) (drop (earlier f rs) rs)

pub record Laws : Type 1 where
  -- fed with one record after another, the rules do what the definition says of the whole list, and print what it says of the bytes
  pub feeding : (rs : List BoxRecord) (rest : ℕ) → every wide rs ≡ true → fed rs rest ≡ events rs rest
  pub trackbox-fed : {S : Type 0} (update : S → List BoxRecord → Frame S) (state : S) (bytes : List ℕ) → AreBytes bytes
      → (printing update state (fed (box_records bytes) (length bytes % box_bytes))).text ≡ trackbox update state bytes
  -- no count grows too large: a u64 counts the records exactly
  pub sound-start : Sound start
  pub goes : (state : OpenFrame) (frame : ℕ) → Sound state → frame < frame_numbers → Goes (judged state (nth_after state.records) frame)
  pub few-records : (state : OpenFrame) → Sound state → state.records ≤ 64 * state.frame
  pub exact : (state : OpenFrame) → Sound state → nth_after state.records ≡ state.records + 1
  -- the boxes of each frame of a stream are records in a row
  pub frame-records : (rs : List BoxRecord) (f : ℕ) → InARow f (passing [] rs).passed
