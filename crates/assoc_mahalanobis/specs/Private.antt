-- What only private contracts cite: the steps of mh_dist_similarity as the code takes them, in place. A cell beyond the limit is marked by -1, which no exponential is.
use Rattle.std.specs.Prelude.{cond, List, ℕ, get_or, Float}
use Rattle.std.specs.Float.{nan}
use Rattle.std.specs.Float.Ieee.{neg, lt}
use Rattle.laws.specs.Fold.{fold}
use Rattle.floats.specs.Exponential.{exp}
use Rattle.floats.specs.Single.{◌⊕◌, ◌⊖◌, ◌⊘◌, plus_zero, one}
use Rattle.assoc_mahalanobis.specs.Mahalanobis.{limit}

unfoldable pub exp_of : Float → Float → Float
exp_of v softmax_temp = cond (lt limit v) (neg one) (exp ((limit ⊖ v) ⊘ softmax_temp))

-- what a cell adds to its column's sum, where the exponential of each cell beyond the limit is known
unfoldable pub summand : Float → Float → Float
summand e beyond = cond (lt e plus_zero) beyond e

unfoldable pub column_sum : Float → (ℕ → ℕ → Float) → ℕ → ℕ → Float
unfolding summand
column_sum beyond cell n j = fold (λ sum i. sum ⊕ summand (cell i j) beyond) plus_zero n

unfoldable pub share : Float → Float → Float
share e sum = cond (lt e plus_zero) plus_zero (e ⊘ sum)

abbrev pub shares : (ℕ → ℕ → Float) → List Float → ℕ → ℕ → Float
shares exponentials sums i j = share (exponentials i j) (get_or sums j nan)
