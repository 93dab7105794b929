-- What a loop that carries one value through `fold` knows. Assumes nothing.
use Rattle.std.specs.Prelude.{◌≡◌, ℕ, ◌+◌, ◌≤◌, ◌<◌}
use Rattle.std.proofs.Common.{ap, ◌∙◌, zero-le, arith}
use Rattle.laws.specs.Fold.{fold, fold-none, fold_more}

-- at index k of n the value is a
pub record Folding {A : Type 0} (g : A → ℕ → A) (z : A) (n k : ℕ) (a : A) : Type 0 where
  pub upto : k ≤ n
  pub value : a ≡ fold g z k

module _ {A : Type 0} {g : A → ℕ → A} {z : A} {n : ℕ} where
  pub fold_start : Folding g z n 0 z
  fold_start = record { upto = zero-le; value = fold-none g z }

  pub fold_on : {k : ℕ} {a b : A} → Folding g z n k a → k < n → b ≡ g a k → Folding g z n (k + 1) b
  fold_on {k} {a} {b} w h e = record { upto = omega arith; value = e ∙ ap (λ (v : A). g v k) w.value ∙ fold_more g z k }

  pub fold_end : {k : ℕ} {a : A} → Folding g z n k a → n ≤ k → a ≡ fold g z n
  fold_end {k} w h = let e : k ≡ n = omega arith in rw e at w.value
