-- std's `fold` of a slice is its digest. Assumes nothing.
use mathlib.Core.Path.{◌≡◌, refl}
use mathlib.Core.List.{List, [], ◌∷◌, foldl}
use Prim.Native.Nat.{ℕ}
use Rattle.std.specs.List.{fold}
use Rattle.vectors_digest.specs.Digest.{joined, digest}

folds : {A : Type 0} (f : ℕ → A → ℕ) (start : ℕ) (l : List A) → fold f start l ≡ foldl f start l
folds f start [] = refl
folds f start (x ∷ xs) = folds f (f start x) xs

pub digested : {A : Type 0} (word : A → ℕ) (start : ℕ) (l : List A) → fold (λ d x. joined d (word x)) start l ≡ digest word start l
unfolding digest
digested word start l = folds (λ d x. joined d (word x)) start l
