-- A matrix of one row, and the corners of one box: what a boost that works a box at a time knows of the matrix routines. Assumes nothing.
use mathlib.Core.Path.{◌≡◌, ap, ◌∙◌}
use mathlib.Core.List.{List, [], ◌++◌, append-nil}
use Prim.Native.Nat.{ℕ, ◌+◌, ◌-◌, ◌*◌, ◌≤◌, ◌<◌}
use native.Mathlib.Nat.{one-mul, add-sub_cancel_left}
use native.Mathlib.Omega.{arith}
use lib.ListN.{length, get_or, take, drop}
use lib.Seq.{drop-length, get_or-take, get_or-drop}
use lib.Ieee.{Float, nan}
use borrow.Author.Tests.{eq-eqb, le-ltb}
use borrow.Rule.Slice.PartMut.{mid_len}
use Rattle.laws.specs.Tab.{tab}
use Rattle.laws.specs.Laid.{rows, laid}
use Rattle.laws.specs.Packed.{packed}
use Rattle.laws.specs.Grid.{grid}
use Rattle.std.specs.Bool.{⊤}
use Rattle.std.proofs.Common.{Result, Ok}
use Rattle.refusals.specs.declared.refusal.Refusal.{Refusal}
use Rattle.assoc_similarity.specs.Sizes.{of_corners, after}
use Rattle.assoc_similarity.specs.Overlap.{iou_batch}
use Rattle.boost_tracker_boosts.specs.Rows.{OneBox}

-- ---- the row of one box

accepted-corners : (boxes tracks detections corners out : ℕ) → boxes ≤ 255 → tracks ≤ 255 → detections ≡ boxes * 4 → corners ≡ tracks * 4 → boxes * tracks ≤ out
    → of_corners boxes tracks detections corners out ≡ Ok tt
accepted-corners boxes tracks detections corners out b t d c o =
    rw (le-ltb 255 boxes b, le-ltb 255 tracks t, eq-eqb detections (boxes * 4) d, eq-eqb corners (tracks * 4) c, le-ltb out (boxes * tracks) o)

pub one-accepted : {det trks row : ℕ} → OneBox det trks row → of_corners 1 row det trks row ≡ Ok tt
one-accepted {det} {trks} {row} w = accepted-corners 1 row det trks row (omega arith) w.few w.four w.trks_fit (omega arith)

one-row : (f : ℕ → ℕ → Float) (m : ℕ) (l : List Float) → length l ≡ m → grid f 1 m l ≡ tab (f 0) m
unfolding packed laid rows tab
one-row f m l e =
    let none : drop (1 * m) l ≡ [] = rw (one-mul, ← e, drop-length l) in
    ap (λ (r : List Float). (tab (f 0) m ++ []) ++ r) none ∙ append-nil (tab (f 0) m ++ []) ∙ append-nil (tab (f 0) m)

-- what an accepted call leaves, and one for one box leaves in a row
pub matrix_filled : (f : ℕ → ℕ → Float) (n m : ℕ) (l : List Float) {out : List Float} {r : Result ⊤ Refusal} → r ≡ Ok tt → out ≡ after r f n m l → out ≡ grid f n m l
matrix_filled f n m l a e = e ∙ ap (λ (v : Result ⊤ Refusal). after v f n m l) a

pub row-filled : (f : ℕ → ℕ → Float) (m : ℕ) (l : List Float) {out : List Float} {r : Result ⊤ Refusal} → r ≡ Ok tt → out ≡ after r f 1 m l → length l ≡ m → out ≡ tab (f 0) m
row-filled f m l a e n = matrix_filled f 1 m l a e ∙ one-row f m l n

-- ---- box i of a list of corners, as a list of its own

module _ (l : List Float) (i : ℕ) where
  -- the part l[i * 4 .. i * 4 + 4]
  pub part-is : take (i * 4 + 4 - i * 4) (drop (i * 4) l) ≡ take 4 (drop (i * 4) l)
  part-is = ap (λ (k : ℕ). take k (drop (i * 4) l)) (add-sub_cancel_left (i * 4) 4)

  pub part-four : i * 4 + 4 ≤ length l → length (take (i * 4 + 4 - i * 4) (drop (i * 4) l)) ≡ 4
  part-four h = mid_len (i * 4) (i * 4 + 4) l h ∙ add-sub_cancel_left (i * 4) 4

  pub corner : (k : ℕ) → k < 4 → get_or (take 4 (drop (i * 4) l)) k nan ≡ get_or l (i * 4 + k) nan
  corner k h = get_or-take 4 (drop (i * 4) l) k nan h ∙ get_or-drop (i * 4) l k nan

  pub first : get_or (take 4 (drop (i * 4) l)) 0 nan ≡ get_or l (i * 4) nan
  first = corner 0 (omega arith) ∙ ap (λ (k : ℕ). get_or l k nan) (omega arith)

  pub one-iou : (trks : List Float) (j : ℕ) → iou_batch (take 4 (drop (i * 4) l)) trks 0 j ≡ iou_batch l trks i j
  one-iou trks j = rw (first, corner 1 (omega arith), corner 2 (omega arith), corner 3 (omega arith))
