-- Which sizes fit, case by case, and what the two halves give where they do and where they do not. Assumes nothing.
use mathlib.Core.Path.{◌≡◌, ap, ◌∙◌}
use mathlib.Core.Bool.{true, false}
use mathlib.Core.List.{List}
use Prim.Native.Nat.{ℕ, ◌*◌, ◌≤◌}
use native.Mathlib.Omega.{arith}
use borrow.Author.Tests.{eq-eqb, ne_eqb, le-ltb, eqb-true, eqb-false, ltb-false}
use lib.Dec.{eqb, ltb}
use lib.ListN.{length, replicate, length-replicate}
use lib.Ieee.{Float}
use Rattle.laws.specs.Choose.{cond_no, cond_yes}
use Rattle.lapjv_definition.specs.Halves.{sized, rounds_over, reduction, assigning}
use Rattle.lapjv_definition.specs.Invariant.{Square}
use Rattle.lapjv_definition.specs.Lapjv.{Rounds, rounds_at, rounds, assignment, lapjv}

fits_all : (n costs a b : ℕ) → (n ≡ 0 → ⊥) → n ≤ 255 → costs ≡ n * n → a ≡ n → b ≡ n → true ≡ sized n costs a b
unfolding sized
fits_all n costs a b some small ec ea eb = rw (ne_eqb n 0 some, le-ltb 255 n small, eq-eqb costs (n * n) ec, eq-eqb a n ea, eq-eqb b n eb)

-- what a test that passes shows
pub record Fitting (n : ℕ) (cost : List Float) (a b : ℕ) : Type 0 where
  pub square : Square n cost
  pub first : a ≡ n
  pub second : b ≡ n

pub fitting : (n : ℕ) (cost : List Float) (a b : ℕ) → true ≡ sized n (length cost) a b → Fitting n cost a b
unfolding sized
fitting n cost a b h =
    let (p, e₁) = cond_no (eqb n 0) _ _ _ never (back h) in
    let (q, e₂) = cond_no (ltb 255 n) _ _ _ never e₁ in
    let (r, e₃) = cond_yes (eqb (length cost) (n * n)) _ _ _ never e₂ in
    let (s, e₄) = cond_yes (eqb a n) _ _ _ never e₃ in
    let (t, e₅) = cond_yes (eqb b n) _ _ _ never e₄ in
    record {
      square = record { some = omega (arith, eqb-false n 0 p); small = omega (arith, ltb-false 255 n q); whole = eqb-true (length cost) (n * n) r };
      first = eqb-true a n s;
      second = eqb-true b n t;
    }
  where
    back : true ≡ sized n (length cost) a b → sized n (length cost) a b ≡ true
    back e = rw (← e)

    never : false ≡ true → ⊥
    never e = let z : ◌≡◌ {A = ℕ} 0 1 = cc in omega arith

pub fitted : {n : ℕ} {cost : List Float} {a b : ℕ} → Square n cost → a ≡ n → b ≡ n → true ≡ sized n (length cost) a b
fitted {n} {cost} {a} {b} q ea eb = fits_all n (length cost) a b (λ e. omega (arith, q.some)) q.small q.whole ea eb

-- ---- the first half

module _ (n : ℕ) (cost : List Float) (free_rows x y : List ℕ) (v : List Float) where
  pub reduction_does : true ≡ sized n (length cost) (length x) (length y) → true ≡ sized n (length cost) (length free_rows) (length v)
      → reduction n cost free_rows x y v ≡ rounds_over n cost free_rows
  unfolding reduction
  reduction_does p q = rw (← p, ← q)

  pub reduction_not : false ≡ sized n (length cost) (length x) (length y) → rounds_at 0 0 free_rows x y v ≡ reduction n cost free_rows x y v
  unfolding reduction
  reduction_not p = rw (← p)

  pub reduction_nor : true ≡ sized n (length cost) (length x) (length y) → false ≡ sized n (length cost) (length free_rows) (length v)
      → rounds_at 0 0 free_rows x y v ≡ reduction n cost free_rows x y v
  unfolding reduction
  reduction_nor p q = rw (← p, ← q)

-- over n zeros
pub reduction-zeros : {n : ℕ} {cost : List Float} {free_rows : List ℕ} {b : Rounds} (x y : List ℕ) (v : List Float) → Square n cost → length x ≡ n → length y ≡ n → free_rows ≡ replicate n 0 → length v ≡ n
    → b ≡ reduction n cost free_rows x y v → b ≡ rounds n cost
reduction-zeros {n} {cost} {free_rows} x y v q lx ly ef lv g =
    g
    ∙ reduction_does n cost free_rows x y v (fitted q lx ly) (fitted q (ap length ef ∙ length-replicate n 0) lv)
    ∙ ap (rounds_over n cost) ef

-- ---- both

module _ (n : ℕ) (cost : List Float) (x y : List ℕ) where
  pub assigning_does : true ≡ sized n (length cost) (length x) (length y) → assigning n cost x y ≡ lapjv n cost
  unfolding assigning
  assigning_does p = rw (← p)

  pub assigning_not : false ≡ sized n (length cost) (length x) (length y) → assignment 0 x y 0 0 ≡ assigning n cost x y
  unfolding assigning
  assigning_not p = rw (← p)
