-- The records of bytes that come in buffers of whole records: those of two parts one after the other, and the next one of a buffer. Assumes nothing.
use mathlib.Core.Path.{◌≡◌, sym, ap, ◌∙◌}
use mathlib.Core.List.{List, [], ◌∷◌, ◌++◌}
use Prim.Native.Nat.{ℕ, suc, ◌+◌, ◌*◌, ◌/◌, ◌%◌, ◌≤◌, ◌<◌}
use native.Mathlib.Omega.{arith}
use lib.ListN.{length, take, drop, take-append-drop, length-drop, length-append}
use lib.Seq.{take-append-le, drop-append-le, drop-append-add, drop-cons, drop-length, length-take-le}
use Rattle.laws.specs.Tab.{tab, length-tab, tab-at, tab_ext, tab_add}
use Rattle.records.specs.declared.box_record.BoxRecord.{BoxRecord}
use Rattle.records.specs.Field.{part}
use Rattle.records.specs.BoxRecord.{box_bytes, box_of}
use Rattle.trackbox_stream.specs.Stream.{box_records}

abbrev pub record_at : List ℕ → ℕ → BoxRecord
record_at l k = box_of (part (k * box_bytes) box_bytes l)

length-records : (l : List ℕ) → length (box_records l) ≡ length l / box_bytes
unfolding box_records
length-records l = length-tab (record_at l) (length l / box_bytes)

-- records that lie in the front of a list
front-record : (l r : List ℕ) (k : ℕ) → k < length l / box_bytes → record_at (l ++ r) k ≡ record_at l k
front-record l r k h =
    let low : k * box_bytes + box_bytes ≤ length l = omega (arith, h) in
    let d : drop (k * box_bytes) (l ++ r) ≡ drop (k * box_bytes) l ++ r = drop-append-le (k * box_bytes) l r (omega (arith, low)) in
    let n = length-drop (k * box_bytes) l in
    ap (λ (x : List ℕ). box_of (take box_bytes x)) d ∙ ap box_of (take-append-le box_bytes (drop (k * box_bytes) l) r (omega (arith, low, n)))

-- and behind it
behind-record : (l r : List ℕ) (m k : ℕ) → length l ≡ m * box_bytes → record_at (l ++ r) (m + k) ≡ record_at r k
behind-record l r m k e =
    let at : (m + k) * box_bytes ≡ length l + k * box_bytes = omega (arith, e) in
    ap (λ (n : ℕ). box_of (part n box_bytes (l ++ r))) at ∙ ap (λ (x : List ℕ). box_of (take box_bytes x)) (drop-append-add l r (k * box_bytes))

pub records-split : (l r : List ℕ) → length l % box_bytes ≡ 0 → box_records (l ++ r) ≡ box_records l ++ box_records r
unfolding box_records
records-split l r h =
    let m : ℕ = length l / box_bytes in
    let n : ℕ = length r / box_bytes in
    let all = length-append l r in
    let count : length (l ++ r) / box_bytes ≡ m + n = omega (arith, all, h) in
    let size : length l ≡ m * box_bytes = omega (arith, h) in
    ap (tab (record_at (l ++ r))) count
    ∙ tab_add (record_at (l ++ r)) m n
    ∙ ap (λ (x : List BoxRecord). x ++ tab (λ (i : ℕ). record_at (l ++ r) (m + i)) n) (tab_ext (record_at (l ++ r)) (record_at l) m (front-record l r))
    ∙ ap (λ (x : List BoxRecord). box_records l ++ x) (tab_ext (λ (i : ℕ). record_at (l ++ r) (m + i)) (record_at r) n (λ i _. behind-record l r m i size))

-- the next record of a buffer
pub records-next : (l : List ℕ) (k : ℕ) → k < length l / box_bytes → drop k (box_records l) ≡ record_at l k ∷ drop (k + 1) (box_records l)
unfolding box_records
records-next l k h =
    let n = length-tab (record_at l) (length l / box_bytes) in
    let e : suc k ≡ k + 1 = omega arith in
    drop-cons (box_records l) k (record_at l k) (omega (arith, n, h))
    ∙ ap (λ (x : BoxRecord). x ∷ drop (suc k) (box_records l)) (tab-at (record_at l) (length l / box_bytes) k (record_at l k) h)
    ∙ ap (λ (j : ℕ). record_at l k ∷ drop j (box_records l)) e

-- behind the last there is none
pub records-none : (l : List ℕ) (k : ℕ) → k ≡ length l / box_bytes → drop k (box_records l) ≡ []
records-none l k h = ap (λ (j : ℕ). drop j (box_records l)) (h ∙ sym (length-records l)) ∙ drop-length (box_records l)

-- the record that is read from the buffer is that of its first bytes
pub record-front : (input : List ℕ) (got k : ℕ) → k < got / box_bytes → got ≤ length input → record_at input k ≡ record_at (take got input) k
record-front input got k h low =
    let size = length-take-le got input low in
    let whole : take got input ++ drop got input ≡ input = take-append-drop got input in
    ap (λ (x : List ℕ). record_at x k) (sym whole) ∙ front-record (take got input) (drop got input) k (omega (arith, size, h))
