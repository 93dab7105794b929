-- Retained boxes by their indices as given: how often one stands in a list, and which corners it has. Assumes nothing.
use mathlib.Core.Path.{◌≡◌, refl, sym, ap, ◌∙◌}
use mathlib.Core.Bool.{Bool, true, false, cond, ◌&&◌, ◌||◌}
use mathlib.Core.List.{List, [], ◌∷◌, map}
use Prim.Native.Nat.{ℕ, zero, suc, ◌+◌, ◌*◌, ◌≤◌, ◌<◌}
use native.Mathlib.Nat.{not-suc-le-zero, le_of_suc-le-suc, add-zero}
use native.Mathlib.Omega.{arith}
use borrow.Author.Tests.{eqb-true, eqb-false, eq-eqb, ne_eqb}
use lib.Dec.{eqb, ltb}
use lib.ListN.{length, get_or, take, drop}
use lib.Seq.{get_or-take, get_or-drop}
use lib.Ieee.{Float, nan}
use Rattle.laws.specs.Tests.{false_not_true}
use Rattle.laws.specs.Tab.{indices}
use Rattle.laws.specs.Count.{bit, bit_le}
use Rattle.laws.specs.Laid.{rows, laid-whole, length-rows, laid-at}
use Rattle.laws.specs.Sieve.{sieve}
use Rattle.laws.specs.Elem.{elem}
use Rattle.laws.specs.Occurs.{occurs, occurs-sieve, occurs-indices, occurs-apart}
use Rattle.strack.specs.declared.rect.Xyxy.{Xyxy}
use Rattle.boost_tracker_mh_dist.specs.MhDist.{det}
use Rattle.boost_tracker_definition.specs.Update.{corners_of}
use Rattle.boost_tracker_fate.specs.Fate.{place_in}
use Rattle.boost_tracker_fate.proofs.PlaceLaws.{place-in}

-- ---- how often

-- the indices that pass a test are without repetition
pub sieve-once : (p : ℕ → Bool) (n k : ℕ) → occurs k (sieve p (indices n)) ≤ 1
sieve-once p n k = rw (occurs-sieve k p (indices n), occurs-indices k n) (by_cases (p k))
  where
    by_cases : (v : Bool) → cond v (bit (ltb k n)) 0 ≤ 1
    by_cases true = bit_le (ltb k n)
    by_cases false = omega arith

elem_at : (xs : List ℕ) (i : ℕ) → i < length xs → elem (get_or xs i 0) xs ≡ true
unfolding elem
elem_at [] i h = absurd (not-suc-le-zero h)
elem_at (x ∷ xs) zero h = rw (eq-eqb x x refl)
elem_at (x ∷ xs) (suc i) h = by_cases (eqb (get_or xs i 0) x) (elem_at xs i (le_of_suc-le-suc h))
  where
    by_cases : (v : Bool) → elem (get_or xs i 0) xs ≡ true → (v || elem (get_or xs i 0) xs) ≡ true
    by_cases true e = refl
    by_cases false e = e

module _ (inds : List ℕ) (once : (k : ℕ) → occurs k inds ≤ 1) where
  -- what stands at place x is b exactly where b is among them and x is its place
  same_place : (b x : ℕ) → x < length inds → eqb b (get_or inds x 0) ≡ (elem b inds && eqb (place_in b inds) x)
  same_place b x h = by_cases (elem b inds) refl (eqb (place_in b inds) x) refl
    where
      by_cases : (u : Bool) → elem b inds ≡ u → (v : Bool) → eqb (place_in b inds) x ≡ v → eqb b (get_or inds x 0) ≡ (u && v)
      by_cases false m v q = ne_eqb b (get_or inds x 0) (λ (e : b ≡ get_or inds x 0). false_not_true (sym m ∙ ap (λ (k : ℕ). elem k inds) e ∙ elem_at inds x h))
      by_cases true m true q = eq-eqb b (get_or inds x 0) (sym (place-in b inds m).1 ∙ ap (λ (k : ℕ). get_or inds k 0) (eqb-true (place_in b inds) x q))
      by_cases true m false q =
          ne_eqb b (get_or inds x 0) (λ (e : b ≡ get_or inds x 0). eqb-false (place_in b inds) x q (occurs-apart inds 0 once (place_in b inds) x (place-in b inds m).0 h ((place-in b inds m).1 ∙ e)))

  -- a list of their places has b, as given, as often as its place
  pub occurs-given : (b : ℕ) (l : List ℕ) → ((i : ℕ) → i < length l → get_or l i 0 < length inds) → occurs b (map (λ d. get_or inds d 0) l) ≡ cond (elem b inds) (occurs (place_in b inds) l) 0
  unfolding occurs
  occurs-given b [] low = by_cases (elem b inds)
    where
      by_cases : (u : Bool) → ◌≡◌ {A = ℕ} 0 (cond u 0 0)
      by_cases true = refl
      by_cases false = refl
  occurs-given b (x ∷ l) low =
      rw (same_place b x (low 0 first), occurs-given b l (λ i h. low (suc i) (later i h))) (by_cases (elem b inds) (eqb (place_in b inds) x))
    where
      first : 0 < suc (length l)
      first = omega arith

      later : (i : ℕ) → i < length l → suc i < suc (length l)
      later i h = omega (arith, h)

      by_cases : (u v : Bool) → bit (u && v) + cond u (occurs (place_in b inds) l) 0 ≡ cond u (bit v + occurs (place_in b inds) l) 0
      by_cases true v = refl
      by_cases false v = refl

-- ---- corners

abbrev four_of : Float → Float → Float → Float → Xyxy
four_of a b c d = record { x1 = a; y1 = b; x2 = c; y2 = d }

four_is : (v : Xyxy) {a b c d : Float} → a ≡ v.x1 → b ≡ v.y1 → c ≡ v.x2 → d ≡ v.y2 → four_of a b c d ≡ v
four_is v p q r s = rw (p, q, r, s)

-- corners that lie one after the other are read back
pub corners-at : {X : Type 0} (f : X → Xyxy) (xs : List X) (i : ℕ) (z : X) → i < length xs → det (rows (λ x. corners_of (f x)) xs) i ≡ f (get_or xs i z)
corners-at {X} f xs i z h =
    let enc : X → List Float = λ x. corners_of (f x) in
    let l : List Float = rows enc xs in
    let long : length l ≡ length xs * 4 = length-rows enc 4 (λ x. refl) xs in
    let whole = laid-whole enc 4 xs l long in
    let four : take 4 (drop (i * 4) l) ≡ corners_of (f (get_or xs i z)) = rw whole at (laid-at enc 4 (λ x. refl) xs l i z h) in
    let at : (k : ℕ) → k < 4 → get_or l (i * 4 + k) nan ≡ get_or (corners_of (f (get_or xs i z))) k nan =
    λ k low. sym (get_or-drop (i * 4) l k nan) ∙ sym (get_or-take 4 (drop (i * 4) l) k nan low) ∙ ap (λ (c : List Float). get_or c k nan) four in
    let first : get_or l (i * 4) nan ≡ (f (get_or xs i z)).x1 = ap (λ (k : ℕ). get_or l k nan) (sym (add-zero (i * 4))) ∙ at 0 (omega arith) in
    four_is (f (get_or xs i z)) first (at 1 (omega arith)) (at 2 (omega arith)) (at 3 (omega arith))
