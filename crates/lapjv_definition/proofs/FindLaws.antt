-- find_dense, pass by pass, for the loop of the code. Assumes nothing.
use mathlib.Core.Path.{◌≡◌, sym, ap, ◌∙◌}
use mathlib.Core.Bool.{Bool, true, false, cond}
use mathlib.Core.List.{List}
use Prim.Native.Nat.{ℕ, ◌+◌, ◌-◌, ◌<◌, ◌≤◌}
use native.Mathlib.Omega.{arith}
use lib.ListN.{length, get_or}
use lib.Ieee.{Float, nan, le, lt}
use Rattle.laws.specs.Below.{Below}
use Rattle.laws.specs.Fuel.{fuel_suc, fuel_zero}
use Rattle.laws.specs.Swap.{swapped-below}
use Rattle.laws.specs.Swap.{swapped}
use Rattle.lapjv_definition.specs.Find.{finding, Finding, find_step, find_from}

pub find_from_step : (d : List Float) (lo n k hi : ℕ) (mind : Float) (cols : List ℕ) → k < n
    → find_from d lo (n - k) k (finding hi mind cols)
    ≡ find_from d lo (n - (k + 1)) (k + 1) (find_step lo (get_or d (get_or cols k 0) nan) k hi mind cols)
unfolding find_from
find_from_step d lo n k hi mind cols h = rw (fuel_suc n k h)

pub find_from-done : (d : List Float) (lo n k : ℕ) (s : Finding) → n ≤ k → find_from d lo (n - k) k s ≡ s
unfolding find_from
find_from-done d lo n k s h = rw (fuel_zero n k h)

pub find_step-below : (n lo : ℕ) (dj : Float) (k hi : ℕ) (mind : Float) (cols : List ℕ) → Below n cols → k < length cols → hi ≤ k → lo < k
    → Below n (find_step lo dj k hi mind cols).cols
find_step-below n lo dj k hi mind cols b hk hh hl = go (le dj mind) (lt dj mind)
  where
    go : (p q : Bool) → Below n (cond p (cond q (finding (lo + 1) dj (swapped cols k lo)) (finding (hi + 1) mind (swapped cols k hi))) (finding hi mind cols)).cols
    go true true = swapped-below n cols k lo b hk (omega arith)
    go true false = swapped-below n cols k hi b hk (omega arith)
    go false q = b

pub find_step-hi : (lo : ℕ) (dj : Float) (k hi : ℕ) (mind : Float) (cols : List ℕ) → hi ≤ k → lo < k → (find_step lo dj k hi mind cols).hi ≤ k + 1
find_step-hi lo dj k hi mind cols hh hl = go (le dj mind) (lt dj mind)
  where
    go : (p q : Bool) → (cond p (cond q (finding (lo + 1) dj (swapped cols k lo)) (finding (hi + 1) mind (swapped cols k hi))) (finding hi mind cols)).hi ≤ k + 1
    go true true = omega arith
    go true false = omega arith
    go false q = omega arith

-- the loop's invariant, with R what the whole loop gives
pub record FindInv (n lo : ℕ) (d : List Float) (R : Finding) (cols : List ℕ) (hi : ℕ) (mind : Float) (k : ℕ) : Type 0 where
  pub to : k ≤ n
  pub past : lo < k
  pub low : hi ≤ k
  pub len : length cols ≡ n
  pub below : Below n cols
  pub rest : find_from d lo (n - k) k (finding hi mind cols) ≡ R

pub find_again : {n lo : ℕ} {d : List Float} {R : Finding} {cols cols' : List ℕ} {hi hi' : ℕ} {mind mind' : Float} {k : ℕ} → FindInv n lo d R cols hi mind k
    → k < n
    → finding hi' mind' cols' ≡ find_step lo (get_or d (get_or cols k 0) nan) k hi mind cols
    → length cols' ≡ length cols
    → FindInv n lo d R cols' hi' mind' (k + 1)
find_again {n} {lo} {d} {R} {cols} {cols'} {hi} {hi'} {mind} {mind'} {k} inv h e el = record {
  to = omega arith;
  past = omega arith;
  low = rw (ap (λ (s : Finding). s.hi) e) (find_step-hi lo _ k hi mind cols inv.low inv.past);
  len = omega arith;
  below = rw (ap (λ (s : Finding). s.cols) e) (find_step-below n lo _ k hi mind cols inv.below (omega arith) inv.low inv.past);
  rest = rw e (sym (find_from_step d lo n k hi mind cols h) ∙ inv.rest);
}

pub find-done : {n lo : ℕ} {d : List Float} {R : Finding} {cols : List ℕ} {hi : ℕ} {mind : Float} {k : ℕ} → FindInv n lo d R cols hi mind k → n ≤ k
    → (hi ≡ R.hi) × (cols ≡ R.cols)
find-done {n} {lo} {d} {R} {cols} {hi} {mind} {k} inv h =
    let e : finding hi mind cols ≡ R = sym (find_from-done d lo n k (finding hi mind cols) h) ∙ inv.rest in
    (ap (λ (s : Finding). s.hi) e, ap (λ (s : Finding). s.cols) e)
