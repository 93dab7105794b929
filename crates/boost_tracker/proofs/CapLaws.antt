-- The records that are written with the setting cap_confidence are those without it, each capped; and their confidences are from 0 to 1. Assumes nothing.
use mathlib.Core.Path.{◌≡◌, refl, sym, ap, ◌∙◌}
use mathlib.Core.Bool.{Bool, true, false, cond, ◌&&◌}
use mathlib.Core.List.{List, [], ◌∷◌, ◌++◌, append_assoc}
use Prim.Native.Nat.{ℕ, suc, ◌<◌, min}
use native.Mathlib.Omega.{arith}
use lib.Dec.{T}
use lib.ListN.{length, get_or}
use lib.Seq.{take_at, drop_at}
use lib.Ieee.{Float, binary32, nan, of_bits, fits, lt, le}
use Rattle.laws.specs.Tests.{and_left, and_right}
use Rattle.laws.specs.Every.{every, every-at}
use Rattle.laws.specs.Tab.{indices}
use Rattle.laws.specs.Sieve.{sieve-at}
use Rattle.laws.specs.Splice.{splice}
use Rattle.laws.specs.Laid.{rows, laid, laid-at}
use Rattle.labels.specs.Label.{label_at}
use Rattle.floats.specs.Single.{plus_zero, one}
use Rattle.records.specs.declared.track_record.TrackRecord.{TrackRecord}
use Rattle.records.specs.Field.{little_endian, bits}
use Rattle.records.specs.TrackRecord.{track_bytes, bytes_of_track}
use Rattle.records.proofs.Laws.Bytes.{float_le}
use Rattle.records.proofs.Laws.Lengths.{length-track}
use Rattle.boost_tracker_table.specs.Table.{Track, blank}
use Rattle.boost_tracker_emission.specs.Record.{at_most_one, written}
use Rattle.boost_tracker_emission.specs.Emission.{emits, emitted, emitted_inds, record_at, bytes_at, emitted_confidences}
use Rattle.boost_tracker_emission.proofs.ConfidenceLaws.{emitted-confidence}
use Rattle.boost_tracker_emission.proofs.Laws.{emitted-many}
use Rattle.boost_tracker.specs.Cap.{confidence_place, confidence_in, capped_record, capped_output, confidence_at, Archived}

-- ---- what is known of a confidence that is put out: it has its field's form, and capped it is from 0 to 1

abbrev fitting : Float → Bool
fitting x = fits binary32 x && (fits binary32 (at_most_one x) && (le plus_zero (at_most_one x) && le (at_most_one x) one))

all-fitting : every fitting emitted_confidences ≡ true
unfolding every of_bits fits lt le
all-fitting = refl

emitted-fitting : (frame hits : ℕ) (ts : List Track) (labels : List ℕ) (k : ℕ) → k < length (emitted_inds frame hits ts) → fitting (record_at frame ts labels (get_or (emitted_inds frame hits ts) k 0)).confidence ≡ true
emitted-fitting frame hits ts labels k h =
    let i : ℕ = get_or (emitted_inds frame hits ts) k 0 in
    let t : Track = get_or ts i blank in
    let is = emitted-confidence frame hits t (label_at labels i) (sieve-at (λ i. emits frame hits (get_or ts i blank)) (indices (length ts)) k 0 h) in
    rw is (every-at fitting emitted_confidences all-fitting (min t.age 7) nan (omega arith))

T_of : {b : Bool} → b ≡ true → T b
T_of e = rw e tt

-- ---- a record

confidence-read : (r : TrackRecord) → fits binary32 r.confidence ≡ true → confidence_in (bytes_of_track r) ≡ r.confidence
unfolding little_endian
confidence-read r h = float_le r.confidence (T_of h)

record-capped : (r : TrackRecord) → fits binary32 r.confidence ≡ true → capped_record (bytes_of_track r) ≡ bytes_of_track (written true r)
unfolding capped_record little_endian
record-capped r h = ap (λ (x : Float). cond (lt one x) (splice (bytes_of_track r) confidence_place (little_endian 4 (bits one))) (bytes_of_track r)) (confidence-read r h) ∙ by_test (lt one r.confidence)
  where
    by_test : (b : Bool) → cond b (splice (bytes_of_track r) confidence_place (little_endian 4 (bits one))) (bytes_of_track r)
        ≡ bytes_of_track (record { frame = r.frame; id = r.id; left = r.left; top = r.top; width = r.width; height = r.height; confidence = cond b one r.confidence; label = r.label })
    by_test true = refl
    by_test false = refl

-- ---- an output

-- records by their places
output-capped : (at : ℕ → TrackRecord) (inds rest : List ℕ) → ((k : ℕ) → k < length inds → fits binary32 (at (get_or inds k 0)).confidence ≡ true)
    → capped_output (length inds) (rows (λ i. bytes_of_track (written false (at i))) inds ++ rest) ≡ rows (λ i. bytes_of_track (written true (at i))) inds ++ rest
unfolding capped_output rows
output-capped at [] rest h = refl
output-capped at (i ∷ inds) rest h =
    let long = length-track (at i) in
    let head : capped_record (bytes_of_track (at i)) ≡ bytes_of_track (written true (at i)) = record-capped (at i) (h 0 (omega arith)) in
    let tail = output-capped at inds rest (λ k b. h (suc k) (omega arith)) in
    let behind : List ℕ = rows (λ i. bytes_of_track (written false (at i))) inds ++ rest in
    rw
    (append_assoc (bytes_of_track (at i)) (rows (λ i. bytes_of_track (written false (at i))) inds) rest, take_at (bytes_of_track (at i)) behind track_bytes long, drop_at (bytes_of_track (at i)) behind track_bytes long, head, tail)
    (sym (append_assoc (bytes_of_track (written true (at i))) (rows (λ i. bytes_of_track (written true (at i))) inds) rest))

pub none-capped : (out : List ℕ) → out ≡ capped_output 0 out
unfolding capped_output
none-capped out = refl

module _ (frame hits : ℕ) (ts : List Track) (labels out : List ℕ) where
  abbrev inds : List ℕ
  inds = emitted_inds frame hits ts

  pub laid-capped : laid (bytes_at true frame ts labels) track_bytes inds out ≡ capped_output (length (emitted frame hits ts)) (laid (bytes_at false frame ts labels) track_bytes inds out)
  unfolding laid
  laid-capped = rw (← emitted-many frame hits ts) (sym (output-capped (record_at frame ts labels) inds _ (λ k h. and_left _ _ (emitted-fitting frame hits ts labels k h))))

  pub laid-archived : (k : ℕ) → k < length (emitted frame hits ts) → Archived (confidence_at k (laid (bytes_at true frame ts labels) track_bytes inds out))
  laid-archived k b =
      let h : k < length inds = rw (emitted-many frame hits ts) b in
      let i : ℕ = get_or inds k 0 in
      let x : Float = (record_at frame ts labels i).confidence in
      let y : Float = at_most_one x in
      let at = laid-at (bytes_at true frame ts labels) track_bytes (λ i. length-track (written true (record_at frame ts labels i))) inds out k 0 h in
      let ok = and_right (fits binary32 x) _ (emitted-fitting frame hits ts labels k h) in
      let read = confidence-read (written true (record_at frame ts labels i)) (and_left (fits binary32 y) _ ok) in
      let bounds = and_right (fits binary32 y) _ ok in
      rw (at, read) (record { least = and_left (le plus_zero y) _ bounds; most = and_right (le plus_zero y) _ bounds })
