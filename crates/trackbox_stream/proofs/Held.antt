-- The boxes of the open frame lie one after the other in lent memory, and so do their labels; their parts of it are what the frame is worked with. Assumes nothing.
use mathlib.Core.Path.{◌≡◌, refl, sym, ap, ◌∙◌}
use mathlib.Core.Bool.{true}
use mathlib.Core.List.{List, [], ◌∷◌, ◌++◌, map-append}
use Prim.Native.Nat.{ℕ, ◌+◌, ◌*◌, ◌/◌, ◌≤◌, ◌<◌}
use native.Mathlib.Nat.{le_of_lt}
use native.Mathlib.Omega.{arith}
use lib.Ieee.{Float}
use lib.ListN.{length, take, drop, length-map}
use lib.Seq.{take_at}
use borrow.Author.Tests.{lt-ltb}
use Rattle.laws.specs.Over.{over, over_none, over-front, length_over, Pushed, push_maybe}
use Rattle.laws.specs.Laid.{rows, laid, laid_none, laid_more, length-laid, length-rows}
use Rattle.records.specs.declared.box_record.BoxRecord.{BoxRecord}
use Rattle.records.specs.BoxRecord.{box_values}
use Rattle.trackbox_stream.specs.Boxes.{box_floats, frame_floats, held_then, frame_labels, label_then}

five : (r : BoxRecord) → length (box_floats r) ≡ box_values
five r = refl

-- one more box of the open frame
pub held_more : (rs : List BoxRecord) (r : BoxRecord) (l : List Float) → length rs * box_values + box_values ≤ length l → held_then r (length rs) (laid box_floats box_values rs l) ≡ laid box_floats box_values (rs ++ (r ∷ [])) l
unfolding held_then
held_more rs r l h =
    let n : length (laid box_floats box_values rs l) ≡ length l = length-laid box_floats box_values five rs l (omega arith) in
    let t : length rs < length (laid box_floats box_values rs l) / box_values = omega arith in
    rw (lt-ltb (length rs) (length (laid box_floats box_values rs l) / box_values) t) (laid_more box_floats box_values five rs l r)

-- the first box of a frame, over what the frame before left
pub held_first : (r : BoxRecord) (l : List Float) → box_values ≤ length l → held_then r 0 l ≡ laid box_floats box_values (r ∷ []) l
held_first r l h = ap (held_then r 0) (laid_none box_floats box_values l) ∙ held_more [] r l (omega arith)

pub held-front : (rs : List BoxRecord) (l : List Float) → take (length rs * box_values) (laid box_floats box_values rs l) ≡ frame_floats rs
unfolding laid
held-front rs l = take_at (rows box_floats rs) (drop (length rs * box_values) l) (length rs * box_values) (length-rows box_floats box_values five rs)

-- ---- the labels

labels-many : (rs : List BoxRecord) → length (frame_labels rs) ≡ length rs
labels-many rs = length-map rs (λ (r : BoxRecord). r.label)

pushed : (rs : List BoxRecord) (l : List ℕ) → length rs ≤ length l → Pushed l (frame_labels rs) (length rs) (over (frame_labels rs) l)
pushed rs l h = record { many = sym (labels-many rs); cells = refl; same = length_over (frame_labels rs) l (rw (labels-many rs) h) }

pub label_more : (rs : List BoxRecord) (r : BoxRecord) (l : List ℕ) → length rs < length l → label_then r (length rs) (over (frame_labels rs) l) ≡ over (frame_labels (rs ++ (r ∷ []))) l
unfolding label_then
label_more rs r l h =
    let p = pushed rs l (le_of_lt h) in
    let more = push_maybe l true r.label p (λ e. h) refl refl in
    rw (p.same, lt-ltb (length rs) (length l) h) (more.cells ∙ ap (λ (xs : List ℕ). over xs l) (sym (map-append (λ (b : BoxRecord). b.label) rs (r ∷ []))))

pub label_first : (r : BoxRecord) (l : List ℕ) → 0 < length l → label_then r 0 l ≡ over (frame_labels (r ∷ [])) l
label_first r l h = ap (label_then r 0) (over_none l) ∙ label_more [] r l h

pub label_front : (rs : List BoxRecord) (l : List ℕ) → take (length rs) (over (frame_labels rs) l) ≡ frame_labels rs
label_front rs l = over-front (frame_labels rs) l (length rs) (sym (labels-many rs))
