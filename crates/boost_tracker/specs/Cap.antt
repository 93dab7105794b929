-- The setting cap_confidence, for the archive's rule that a confidence is from 0 to 1: under it "an emitted confidence above 1 is written as 1", and "all else under the setting is the same as without it".
-- `CapOnly` holds of every two calls that differ in the setting alone: `cap_only` of proofs/Theorem.antt. Equality with the Rust is said of the output without the setting.
use Rattle.std.specs.Prelude.{◌≡◌, refl, true, cond, List, [], ◌∷◌, ◌++◌, ℕ, zero, suc, ◌*◌, ◌<◌, take, drop, replicate, Float}
use Rattle.std.specs.Float.Ieee.{of_bits, to_bits, lt, le}
use Rattle.laws.specs.Splice.{splice}
use Rattle.floats.specs.Single.{plus_zero, one}
use Rattle.records.specs.Field.{little_endian, value, bits, part, float_at}
use Rattle.records.specs.TrackRecord.{track_bytes}
use Rattle.boost_tracker.specs.declared.frame.UpdateAnswer.{UpdateAnswer}
use Rattle.boost_tracker.specs.Frame.{Memory}

-- ---- an output without the setting, and what it is with it

-- the confidence of a record: four bytes behind frame, id and the four sides; the label is behind it
abbrev pub confidence_place : ℕ
confidence_place = 28

abbrev pub confidence_in : List ℕ → Float
confidence_in bytes = float_at confidence_place bytes

-- a confidence above 1 is replaced by 1, and every other byte stays; a NaN is not above 1
unfoldable pub capped_record : List ℕ → List ℕ
capped_record bytes = cond (lt one (confidence_in bytes)) (splice bytes confidence_place (little_endian 4 (bits one))) bytes

-- so in the first n records of an output, and the bytes behind them stay
unfoldable pub capped_output : ℕ → List ℕ → List ℕ
capped_output zero out = out
capped_output (suc n) out = capped_record (take track_bytes out) ++ capped_output n (drop track_bytes out)

-- the confidence of record i
abbrev pub confidence_at : ℕ → List ℕ → Float
confidence_at i out = confidence_in (part (i * track_bytes) track_bytes out)

-- from 0 to 1, so no NaN
pub record Archived (confidence : Float) : Type 0 where
  pub least : le plus_zero confidence ≡ true
  pub most : le confidence one ≡ true

-- ---- two calls

-- r and m are answered and left without the setting, r' and m' with it
pub record CapOnly (r : UpdateAnswer) (m : Memory) (r' : UpdateAnswer) (m' : Memory) : Type 0 where
  -- the refusal, the state and the counts, among them how many records are put out
  pub answer : r' ≡ r
  pub table : m'.table ≡ m.table
  pub work64 : m'.work64 ≡ m.work64
  pub work32 : m'.work32 ≡ m.work32
  pub output : m'.output ≡ capped_output r.emitted m.output
  pub archived : (i : ℕ) → i < r'.emitted → Archived (confidence_at i m'.output)

-- ---- an example: of three records of 1.11, 0.9 and 1.11 two are put out, and the third is what was there before

abbrev ended : List ℕ → List ℕ
ended confidence = replicate confidence_place 5 ++ (confidence ++ (3 ∷ []))

abbrev above : List ℕ
above = ended (0xe4 ∷ 0x38 ∷ 0x8e ∷ 0x3f ∷ [])

abbrev below : List ℕ
below = ended (0x66 ∷ 0x66 ∷ 0x66 ∷ 0x3f ∷ [])

pub known : capped_output 2 (above ++ (below ++ above)) ≡ ended (0 ∷ 0 ∷ 0x80 ∷ 0x3f ∷ []) ++ (below ++ above)
unfolding capped_output capped_record little_endian value of_bits to_bits lt
known = refl
