-- The matrix of a shape: exponents, and then their exponentials over them. Assumes nothing.
use mathlib.Core.Path.{◌≡◌, ap, ◌∙◌}
use mathlib.Core.List.{List}
use Prim.Native.Nat.{ℕ}
use lib.Ieee.{Float, nan}
use Rattle.laws.specs.Grid.{grid, cell_at, grid-at, grid-over, grid_ext}
use Rattle.floats.specs.Exponential.{exp}

-- the exponentials of a matrix of exponents, by what each exponent is
pub exps_of : (f : ℕ → ℕ → Float) (n m : ℕ) (l : List Float) {out : List Float} → out ≡ grid f n m l → grid (λ i j. exp (cell_at nan m out i j)) n m out ≡ grid (λ i j. exp (f i j)) n m l
exps_of f n m l e =
    rw e (grid-over f n m l _ ∙ grid_ext _ n m l _ (λ i j hi hj. ap exp (grid-at f n m l nan i j hi hj)))
