-- `match_detections` row by row: the direct path and the path by lapjv both give each row a column or none, and no column twice. Assumes nothing.
use Rattle.std.proofs.Common.{◌≡◌, ℕ, ◌<◌, ◌≤◌, max, Bool, true, false, cond, ◌&&◌, ◌||◌, eqb, ltb, leb, List, [], get_or, sym, refl, ap, ◌∙◌, ⊎_elim, zero-le, le_trans, arith, ltb-true, le-ltb, lt-ltb, eq-eqb, eqb-true, le-leb}
use native.Mathlib.Nat.{le-max_left, le-max_right, max-le}
use lib.Ieee.{Float}
use borrow.Author.Tests.{eqb-false}
use Rattle.laws.specs.Tests.{or_cases, true_not_false}
use Rattle.laws.specs.Sieve.{maybe}
use Rattle.laws.specs.Joined.{joined-none, joined_ext, joined_nil, joined_cut}
use Rattle.laws.specs.Count.{bit_le, count-few, count-is, count_mono}
use Rattle.laws.specs.Most.{most-least}
use Rattle.laws.specs.Last.{last_where}
use Rattle.lapjv_definition.specs.Bounds.{Bounds, Paired}
use Rattle.lapjv_definition.proofs.Theorem.{bounds}
use Rattle.assoc_matching.specs.Matching.{pair, mask, row_sum, col_sum, simple, simple_matches, cost_vec, extract, extracted, is_err, matched, match_detections}
use Rattle.assoc_matching.specs.Partners.{pairs_of, column, solution, counts_of, direct_column, solved_column, solved_match, partner_of, counts_for}
use Rattle.assoc_direct.proofs.PairLaws.{paired, no-column, pairs_ext, Apart}
use Rattle.assoc_direct.proofs.SimpleLaws.{simple-pairs, apart-simple}
use Rattle.assoc_matching.proofs.SquareLaws.{no_error}

-- ---- the direct path

module _ (cost : List Float) (n m : ℕ) (t : Float) where
  -- its test holds where there is nothing to pair
  simple-none : (eqb n 0 || eqb m 0) ≡ true → simple cost n m t ≡ true
  unfolding simple
  simple-none e =
      ⊎_elim
      (λ (q : eqb n 0 ≡ true). let z = eqb-true n 0 q in both
      (most-least (row_sum cost m t) n 1 (λ (i : ℕ) (h : i < n). absurd (under i n z h)))
      (most-least (col_sum cost n m t) m 1 (λ (j : ℕ) (h : j < m). le_trans (count-few (λ i. mask cost m t i j) n) (rw z zero-le))))
      (λ (q : eqb m 0 ≡ true). let z = eqb-true m 0 q in both
      (most-least (row_sum cost m t) n 1 (λ (i : ℕ) (h : i < n). le_trans (count-few (mask cost m t i) m) (rw z zero-le)))
      (most-least (col_sum cost n m t) m 1 (λ (j : ℕ) (h : j < m). absurd (under j m z h))))
      (or_cases (eqb n 0) (eqb m 0) e)
    where
      under : (i k : ℕ) → k ≡ 0 → i < k → ⊥
      under i k z h = omega arith

      both : {a b : ℕ} → a ≤ 1 → b ≤ 1 → (leb a 1 && leb b 1) ≡ true
      both {a} {b} h l = rw (le-leb a 1 h, le-leb b 1 l)

  -- where it fails there is a square
  pub some-side : simple cost n m t ≡ false → 1 ≤ max n m
  some-side e = by_cases (eqb n 0) refl
    where
      by_cases : (a : Bool) → eqb n 0 ≡ a → 1 ≤ max n m
      by_cases true p = absurd (true_not_false (sym (simple-none (rw p)) ∙ e))
      by_cases false p = let z : n ≡ 0 → ⊥ = eqb-false n 0 p in le_trans (positive n z) (le-max_left n m)
        where
          positive : (k : ℕ) → (k ≡ 0 → ⊥) → 1 ≤ k
          positive k z = omega arith

-- ---- the path by lapjv

-- the rows past nrows and the columns past ncols give no pair
extract-row : (big n m i j : ℕ) → m ≤ big → i < n → extract big n m i j ≡ paired m i (column m j)
unfolding extract
extract-row big n m i j h l = rw (lt-ltb i n l) (by_cases (ltb j m) refl)
  where
    by_cases : (b : Bool) → ltb j m ≡ b → maybe (ltb j big && b) (pair i j) ≡ paired m i (cond b j m)
    by_cases true e = let k = ltb-true j m e in rw (lt-ltb j big (le_trans k h), e)
    by_cases false e = nothing (ltb j big) ∙ sym (no-column m i)
      where
        nothing : (v : Bool) → maybe (v && false) (pair i j) ≡ []
        nothing true = refl
        nothing false = refl

extract-none : (big n m i j : ℕ) → n ≤ i → extract big n m i j ≡ []
unfolding extract
extract-none big n m i j h = rw (le-ltb i n h)

pub extracted-pairs : (x : List ℕ) (big n m : ℕ) → n ≤ big → m ≤ big → extracted x big n m ≡ pairs_of m (λ i. column m (get_or x i 0)) n
unfolding extracted pairs_of
extracted-pairs x big n m h l =
    joined_cut (λ i. extract big n m i (get_or x i 0)) n big h (λ (i : ℕ) (q : n ≤ i). extract-none big n m i (get_or x i 0) q)
    ∙ joined_ext (λ i. extract big n m i (get_or x i 0)) (λ i. paired m i (column m (get_or x i 0))) n (λ (i : ℕ) (q : i < n). extract-row big n m i (get_or x i 0) l q)

-- what lapjv's theorem says of the square
pub square_bounds : (cost : List Float) (n m : ℕ) → 1 ≤ max n m → Bounds (max n m) (cost_vec cost n m (max n m))
square_bounds cost n m some = bounds (max n m) (cost_vec cost n m (max n m)) some

column-is : (m k j : ℕ) → k < m → k ≡ column m j → j ≡ k
column-is m k j h e = by_cases (ltb j m) e
  where
    by_cases : (v : Bool) → k ≡ cond v j m → j ≡ k
    by_cases true e = sym e
    by_cases false e = absurd (itself k m h e)
      where
        itself : (a b : ℕ) → a < b → a ≡ b → ⊥
        itself a b h e = omega arith

pub apart_solved : (n m : ℕ) (x y : List ℕ) → Paired (max n m) x y → Apart m (λ i. column m (get_or x i 0)) n
apart_solved n m x y w k h =
    let i₀ : ℕ = get_or y k 0 in
    le_trans
    (count_mono (λ i. eqb k (column m (get_or x i 0))) (λ i. eqb (get_or y k 0) i) n (λ (i : ℕ) (l : i < n) q.
    let e : get_or x i 0 ≡ k = column-is m k (get_or x i 0) h (eqb-true k (column m (get_or x i 0)) q) in
    eq-eqb (get_or y k 0) i (ap (λ (a : ℕ). get_or y a 0) (sym e) ∙ (w.rows i (le_trans l (le-max_left n m))).1)))
    (rw (count-is (get_or y k 0) n) (bit_le (ltb (get_or y k 0) n)))

-- ---- both

pairs-none : (n m : ℕ) (f : ℕ → ℕ) → (eqb n 0 || eqb m 0) ≡ true → pairs_of m f n ≡ []
unfolding pairs_of
pairs-none n m f e =
    ⊎_elim
    (λ (q : eqb n 0 ≡ true). rw (eqb-true n 0 q) (joined-none (λ i. paired m i (f i))))
    (λ (q : eqb m 0 ≡ true). joined_nil (λ i. paired m i (f i)) n (λ (i : ℕ) (h : i < n). rw (le-ltb (f i) m (rw (eqb-true m 0 q) zero-le))))
    (or_cases (eqb n 0) (eqb m 0) e)

module _ (cost : List Float) (n m : ℕ) (t : Float) (few-rows : n ≤ 255) (few-cols : m ≤ 255) where
  -- the definition, row by row
  pub match_is : match_detections cost n m t ≡ matched (pairs_of m (partner_of cost n m t) n) (counts_for cost n m t).turns (counts_for cost n m t).scans
  unfolding match_detections
  match_is = by_cases (eqb n 0 || eqb m 0) refl (simple cost n m t) refl
    where
      by_cases : (b : Bool) → (eqb n 0 || eqb m 0) ≡ b → (s : Bool) → simple cost n m t ≡ s
          → cond b (matched [] 0 0)
          (cond s (matched (simple_matches cost n m t) 0 0)
          (cond (is_err (max n m) (cost_vec cost n m (max n m))) (matched [] 0 0) (matched (extracted (solution cost n m).x (max n m) n m) (solution cost n m).turns (solution cost n m).scans)))
          ≡ matched (pairs_of m (λ i. cond s (last_where (mask cost m t i) m m) (column m (get_or (solution cost n m).x i 0))) n)
          (cond s (record { turns = 0; scans = 0 }) (counts_of (solution cost n m))).turns (cond s (record { turns = 0; scans = 0 }) (counts_of (solution cost n m))).scans
      by_cases true e true f = rw (pairs-none n m (direct_column cost m t) e)
      by_cases true e false f = absurd (true_not_false (sym (simple-none cost n m t e) ∙ f))
      by_cases false e true f = rw (simple-pairs cost n m t f)
      by_cases false e false f =
          rw (
            no_error cost n m (max n m) (some-side cost n m t f) (max-le few-rows few-cols),
            extracted-pairs (solution cost n m).x (max n m) n m (le-max_left n m) (le-max_right n m),
          )

  -- the two paths
  pub match_direct : simple cost n m t ≡ true → match_detections cost n m t ≡ matched (simple_matches cost n m t) 0 0
  match_direct e =
      let q : pairs_of m (partner_of cost n m t) n ≡ pairs_of m (direct_column cost m t) n = pairs_ext m (partner_of cost n m t) (direct_column cost m t) n (λ (i : ℕ) (h : i < n). rw e) in
      match_is ∙ rw (q, e, simple-pairs cost n m t e)

  pub match_solved : simple cost n m t ≡ false → match_detections cost n m t ≡ solved_match cost n m
  match_solved e =
      let q : pairs_of m (partner_of cost n m t) n ≡ pairs_of m (solved_column cost n m) n = pairs_ext m (partner_of cost n m t) (solved_column cost n m) n (λ (i : ℕ) (h : i < n). rw e) in
      match_is ∙ rw (q, e)

  -- no column is that of two rows
  pub apart : Apart m (partner_of cost n m t) n
  apart = by_cases (simple cost n m t) refl
    where
      by_cases : (v : Bool) → simple cost n m t ≡ v → Apart m (λ i. cond v (last_where (mask cost m t i) m m) (column m (get_or (solution cost n m).x i 0))) n
      by_cases true e = apart-simple cost n m t e
      by_cases false e = apart_solved n m (solution cost n m).x (solution cost n m).y (square_bounds cost n m (some-side cost n m t e)).pairs
