-- What holds of the definitions: a record is read back as it was written, and bytes are written back as they were read, up to the one NaN. The modules below it are steps of the
-- proofs. Assumes nothing.
pub mod Lengths
pub mod Fields
pub mod Bytes
use mathlib.Core.Path.{◌≡◌, refl, ap, ◌∙◌}
use mathlib.Core.Bool.{false}
use mathlib.Core.List.{List, ◌++◌}
use Prim.Native.Nat.{ℕ, ◌+◌, ◌*◌, ◌/◌, ◌^◌, ◌≤◌, ◌<◌}
use native.Mathlib.Nat.{le_of_eq}
use native.Mathlib.Omega.{arith}
use lib.Dec.{T}
use lib.Ieee.{binary32, fits, nan_bits}
use lib.ListN.{length, take, drop}
use lib.Seq.{take_all, take_at, drop_at, length-take-le}
use borrow.Author.Tests.{lt-ltb, le-leb}
use Rattle.laws.specs.Splice.{splice, length-splice}
use Rattle.records.specs.declared.box_record.BoxRecord.{BoxRecord}
use Rattle.std.specs.Prelude.{Option, Some, None}
use Rattle.records.specs.declared.track_record.TrackRecord.{TrackRecord}
use Rattle.records.specs.Written.{WritesRecord, WritesText}
use Rattle.records.specs.Field.{little_endian, value, part, AreBytes}
use Rattle.records.specs.BoxRecord.{box_bytes, bytes_of_box, box_of, box_at}
use Rattle.records.specs.TrackRecord.{track_bytes, bytes_of_track, track_of, track_at}
use Rattle.records.proofs.Laws.Lengths.{length-box, length-track}
use Rattle.records.proofs.Laws.Fields.{box-fields, track-fields, five-then}
use Rattle.records.proofs.Laws.Bytes.{value_le, float_le, settled, rejoin, le_part, settled-part}

-- ---- a record that is written and read again is the same. The logic has one NaN, so this holds of every record that the code can hold, NaNs among its floats included.

pub record BoxFits (r : BoxRecord) : Type 0 where
  pub frame : r.frame < 2 ^ 32
  pub left : T (fits binary32 r.left)
  pub top : T (fits binary32 r.top)
  pub width : T (fits binary32 r.width)
  pub height : T (fits binary32 r.height)
  pub score : T (fits binary32 r.score)
  pub label : r.label < 2 ^ 8

pub record TrackFits (t : TrackRecord) : Type 0 where
  pub frame : t.frame < 2 ^ 32
  pub id : t.id < 2 ^ 64
  pub left : T (fits binary32 t.left)
  pub top : T (fits binary32 t.top)
  pub width : T (fits binary32 t.width)
  pub height : T (fits binary32 t.height)
  pub confidence : T (fits binary32 t.confidence)
  pub label : t.label < 2 ^ 8

pub box_decode : (r : BoxRecord) → BoxFits r → box_of (bytes_of_box r) ≡ r
unfolding little_endian
box_decode r h =
    box-fields (value_le 4 r.frame h.frame) (float_le r.left h.left) (float_le r.top h.top) (float_le r.width h.width) (float_le r.height h.height) (float_le r.score h.score)
    (value_le 1 r.label h.label)

pub track_decode : (t : TrackRecord) → TrackFits t → track_of (bytes_of_track t) ≡ t
unfolding little_endian
track_decode t h =
    track-fields (value_le 4 t.frame h.frame) (value_le 8 t.id h.id) (float_le t.left h.left) (float_le t.top h.top) (float_le t.width h.width) (float_le t.height h.height)
    (float_le t.confidence h.confidence) (value_le 1 t.label h.label)

-- record k of a slice that it was written into
nth_part : (s k : ℕ) (xs l : List ℕ) → length xs ≡ s → k * s + s ≤ length l → part (k * s) s (splice l (k * s) xs) ≡ xs
nth_part s k xs l e h =
    rw (drop_at (take (k * s) l) (xs ++ drop (k * s + length xs) l) (k * s) (length-take-le (k * s) l (omega arith))) (take_at xs (drop (k * s + length xs) l) s e)

pub box-written : (r : BoxRecord) (k : ℕ) (l : List ℕ) → BoxFits r → k < length l / box_bytes → box_at (splice l (k * box_bytes) (bytes_of_box r)) k ≡ Some r
unfolding box_at
box-written r k l h q =
    let n = length-box r in
    let e : length (splice l (k * box_bytes) (bytes_of_box r)) ≡ length l = length-splice l (k * box_bytes) (bytes_of_box r) (omega arith) in
    rw (e, lt-ltb k (length l / box_bytes) q) (ap Some (ap box_of (nth_part box_bytes k (bytes_of_box r) l n (omega arith)) ∙ box_decode r h))

pub track-written : (t : TrackRecord) (k : ℕ) (l : List ℕ) → TrackFits t → k < length l / track_bytes → track_at (splice l (k * track_bytes) (bytes_of_track t)) k ≡ Some t
unfolding track_at
track-written t k l h q =
    let n = length-track t in
    let e : length (splice l (k * track_bytes) (bytes_of_track t)) ≡ length l = length-splice l (k * track_bytes) (bytes_of_track t) (omega arith) in
    rw (e, lt-ltb k (length l / track_bytes) q) (ap Some (ap track_of (nth_part track_bytes k (bytes_of_track t) l n (omega arith)) ∙ track_decode t h))

-- ---- bytes that are read and written again are the same, but for the four bytes of each f32 that are a NaN's pattern: they become those of the one NaN

pub box_encode : (l : List ℕ) → AreBytes l → length l ≡ box_bytes
    → bytes_of_box (box_of l) ≡ part 0 4 l ++ (settled (part 4 4 l) ++ (settled (part 8 4 l) ++ (settled (part 12 4 l) ++ (settled (part 16 4 l) ++ (settled (part 20 4 l) ++ part 24 1 l)))))
box_encode l h n =
    rw (le_part 0 4 l h (omega arith), settled-part 4 l h (omega arith), settled-part 8 l h (omega arith), settled-part 12 l h (omega arith), settled-part 16 l h (omega arith), settled-part 20 l h (omega arith), le_part 24 1 l h (omega arith))
    (ap (λ (xs : List ℕ). part 0 4 l ++ xs) (five-then (settled (part 4 4 l)) (settled (part 8 4 l)) (settled (part 12 4 l)) (settled (part 16 4 l)) (settled (part 20 4 l)) (part 24 1 l)))

pub track_encode : (l : List ℕ) → AreBytes l → length l ≡ track_bytes
    → bytes_of_track (track_of l)
    ≡ part 0 4 l ++ (part 4 8 l ++ (settled (part 12 4 l) ++ (settled (part 16 4 l) ++ (settled (part 20 4 l) ++ (settled (part 24 4 l) ++ (settled (part 28 4 l) ++ part 32 1 l))))))
track_encode l h n =
    rw (le_part 0 4 l h (omega arith), le_part 4 8 l h (omega arith), settled-part 12 l h (omega arith), settled-part 16 l h (omega arith), settled-part 20 l h (omega arith), settled-part 24 l h (omega arith), settled-part 28 l h (omega arith), le_part 32 1 l h (omega arith))
    (ap (λ (xs : List ℕ). part 0 4 l ++ (part 4 8 l ++ xs)) (five-then (settled (part 12 4 l)) (settled (part 16 4 l)) (settled (part 20 4 l)) (settled (part 24 4 l)) (settled (part 28 4 l)) (part 32 1 l)))

-- none of the five f32 from `at` on is a NaN's pattern
pub record NoNans (at : ℕ) (l : List ℕ) : Type 0 where
  pub first : nan_bits binary32 (value (part at 4 l)) ≡ false
  pub second : nan_bits binary32 (value (part (at + 4) 4 l)) ≡ false
  pub third : nan_bits binary32 (value (part (at + 8) 4 l)) ≡ false
  pub fourth : nan_bits binary32 (value (part (at + 12) 4 l)) ≡ false
  pub fifth : nan_bits binary32 (value (part (at + 16) 4 l)) ≡ false

pub box-same : (l : List ℕ) → AreBytes l → length l ≡ box_bytes → NoNans 4 l → bytes_of_box (box_of l) ≡ l
box-same l h n m =
    box_encode l h n
    ∙ rw (m.first, m.second, m.third, m.fourth, m.fifth, rejoin l 20 4 1, rejoin l 16 4 5, rejoin l 12 4 9, rejoin l 8 4 13, rejoin l 4 4 17, rejoin l 0 4 21) (take_all box_bytes l (le_of_eq n))

pub track-same : (l : List ℕ) → AreBytes l → length l ≡ track_bytes → NoNans 12 l → bytes_of_track (track_of l) ≡ l
track-same l h n m =
    track_encode l h n
    ∙ rw (m.first, m.second, m.third, m.fourth, m.fifth, rejoin l 28 4 1, rejoin l 24 4 5, rejoin l 20 4 9, rejoin l 16 4 13, rejoin l 12 4 17, rejoin l 4 8 21, rejoin l 0 4 29) (take_all track_bytes l (le_of_eq n))

-- ---- for callers: what a call that had room answered and left

pub record_fitted : (s k : ℕ) (xs out : List ℕ) (w : Option ℕ) (out' : List ℕ) → WritesRecord s k xs out w out' → k < length out / s → (w ≡ Some (length xs)) × (out' ≡ splice out (k * s) xs)
record_fitted s k xs out w out' h q = let e = lt-ltb k (length out / s) q in (rw e at h.answer, rw e at h.cells)

pub text_fitted : (xs out : List ℕ) (w : Option ℕ) (out' : List ℕ) → WritesText xs out w out' → length xs ≤ length out → (w ≡ Some (length xs)) × (out' ≡ splice out 0 xs)
text_fitted xs out w out' h q = let e = le-leb (length xs) (length out) q in (rw e at h.answer, rw e at h.cells)

-- a text that was written at the front is there
pub text-written : (xs l : List ℕ) → take (length xs) (splice l 0 xs) ≡ xs
text-written xs l = take_at xs (drop (0 + length xs) l) (length xs) refl
