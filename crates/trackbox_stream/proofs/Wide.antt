-- The frame number of a record that is read from bytes is a u32. Assumes nothing.
use mathlib.Core.Path.{◌≡◌, refl, ◌∙◌}
use mathlib.Core.Bool.{true}
use mathlib.Core.List.{List, [], ◌∷◌}
use Prim.Native.Nat.{ℕ, zero, suc, ◌*◌, ◌/◌, ◌<◌}
use native.Mathlib.Nat.{le_refl}
use native.Mathlib.Omega.{arith}
use lib.ListN.{length}
use borrow.Author.Tests.{lt-ltb}
use Rattle.laws.specs.Tab.{tab}
use Rattle.laws.specs.Every.{every, every_append}
use Rattle.records.specs.declared.box_record.BoxRecord.{BoxRecord}
use Rattle.records.specs.Field.{part, value, AreBytes}
use Rattle.records.specs.BoxRecord.{box_bytes, box_of}
use Rattle.records.proofs.Laws.Bytes.{part_bytes, part-long, value-below}
use Rattle.trackbox_stream.specs.Stream.{box_records}
use Rattle.trackbox_stream.specs.Laws.{frame_numbers, wide}

every-tab : (f : ℕ → BoxRecord) (n : ℕ) → ((i : ℕ) → i < n → wide (f i) ≡ true) → every wide (tab f n) ≡ true
unfolding tab every
every-tab f zero h = refl
every-tab f (suc n) h = every_append wide (tab f n) (f n ∷ []) ∙ rw (every-tab f n (λ i l. h i (omega arith)), h n (le_refl (suc n)))

wide_at : (bytes : List ℕ) (k : ℕ) → AreBytes bytes → k < length bytes / box_bytes → wide (box_of (part (k * box_bytes) box_bytes bytes)) ≡ true
wide_at bytes k h l =
    let a : length (part (k * box_bytes) box_bytes bytes) ≡ box_bytes = part-long (k * box_bytes) box_bytes bytes (omega arith) in
    let b : length (part 0 4 (part (k * box_bytes) box_bytes bytes)) ≡ 4 = part-long 0 4 (part (k * box_bytes) box_bytes bytes) (omega arith) in
    let v = value-below (part 0 4 (part (k * box_bytes) box_bytes bytes)) (part_bytes 0 4 (part (k * box_bytes) box_bytes bytes) (part_bytes (k * box_bytes) box_bytes bytes h)) in
    lt-ltb (value (part 0 4 (part (k * box_bytes) box_bytes bytes))) frame_numbers (rw b at v)

pub wide-records : (bytes : List ℕ) → AreBytes bytes → every wide (box_records bytes) ≡ true
unfolding box_records
wide-records bytes h = every-tab (λ (k : ℕ). box_of (part (k * box_bytes) box_bytes bytes)) (length bytes / box_bytes) (λ k l. wide_at bytes k h l)
