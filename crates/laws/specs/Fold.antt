-- What a loop that carries one value gives: g applied for each index in turn. Assumes nothing.
use Rattle.std.specs.Prelude.{◌≡◌, ℕ, zero, suc, ◌+◌, ◌<◌, length, get_or}
use Rattle.std.proofs.Math.Path.{refl}
use Rattle.std.proofs.Common.{ap, ◌∙◌, le_refl, arith}
use mathlib.Core.List.{List, [], ◌∷◌, foldl, foldl-append}
use Rattle.std.proofs.Math.Numerals.{add-one}
use Rattle.laws.specs.Tab.{tab, tab_of}

module _ {A : Type 0} (g : A → ℕ → A) (z : A) where
  -- g (.. (g (g z 0) 1) ..) (n - 1)
  unfoldable pub fold : ℕ → A
  fold zero = z
  fold (suc n) = g (fold n) n

  pub fold-none : z ≡ fold 0
  unfolding fold
  fold-none = refl

  pub fold_more : (k : ℕ) → g (fold k) k ≡ fold (k + 1)
  unfolding fold
  fold_more k = rw add-one

-- steps that agree at each index
pub fold_ext : {A : Type 0} (g h : A → ℕ → A) (z : A) (n : ℕ) → ((a : A) (i : ℕ) → i < n → g a i ≡ h a i) → fold g z n ≡ fold h z n
unfolding fold
fold_ext g h z zero e = refl
fold_ext g h z (suc n) e = rw (fold_ext g h z n (λ a i b. e a i (omega arith)), e (fold h z n) n (le_refl (suc n)))

fold-tab : {A X : Type 0} (g : A → X → A) (z : A) (f : ℕ → X) (n : ℕ) → foldl g z (tab f n) ≡ fold (λ a k. g a (f k)) z n
unfolding tab fold
fold-tab g z f zero = refl
fold-tab {A} g z f (suc n) = foldl-append g z (tab f n) (f n ∷ []) ∙ ap (λ (a : A). g a (f n)) (fold-tab g z f n)

-- a fold over a list, by its indices
pub fold_list : {A X : Type 0} (g : A → X → A) (z : A) (xs : List X) (d : X) → foldl g z xs ≡ fold (λ a k. g a (get_or xs k d)) z (length xs)
fold_list g z xs d = ap (foldl g z) (tab_of (λ k. get_or xs k d) xs (length xs) d refl (λ i q. refl)) ∙ fold-tab g z (λ k. get_or xs k d) (length xs)
