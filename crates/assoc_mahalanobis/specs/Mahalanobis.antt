-- assoc.rs, mh_dist_similarity: cell (i, j) of the matrix.
use Rattle.std.specs.Prelude.{◌≡◌, refl, false, List, ℕ, eqb, Float}
use Rattle.std.proofs.Math.Bool.{cond}
use Rattle.std.specs.Float.{nan, binary32}
use Rattle.std.specs.Float.Ieee.{of_bits, round, lt}
use Rattle.laws.specs.Fold.{fold}
use Rattle.laws.specs.Grid.{cell_at}
use Rattle.floats.specs.Single.{◌⊕◌, ◌⊖◌, ◌⊘◌, plus_zero}
use Rattle.floats.specs.Exponential.{exp}

-- 13.2767, by its bits, as the code has it
abbrev pub limit : Float
limit = of_bits binary32 0x4154_6d5d

limit_is : limit ≡ round binary32 false 132767 10000
unfolding of_bits round
limit_is = refl

module _ (mahalanobis_distance : ℕ → ℕ → Float) where
  -- 0 beyond the limit
  abbrev pub mask : ℕ → ℕ → ℕ
  mask i j = let v : Float = mahalanobis_distance i j in cond (lt limit v) 0 1

  abbrev pub mh_dist : ℕ → ℕ → Float
  mh_dist i j = let v : Float = mahalanobis_distance i j in cond (lt limit v) plus_zero (limit ⊖ v)

  module _ (softmax_temp : Float) where
    abbrev pub exponential : ℕ → ℕ → Float
    exponential i j = exp (mh_dist i j ⊘ softmax_temp)

    -- the sum of column j, with the cells beyond the limit
    unfoldable pub normalized : ℕ → ℕ → Float
    normalized n_rows j = fold (λ sum_exp i. sum_exp ⊕ exponential i j) plus_zero n_rows

    unfoldable pub similarity : ℕ → ℕ → ℕ → Float
    unfolding normalized
    similarity n_rows i j = cond (eqb (mask i j) 1) (exponential i j ⊘ normalized n_rows j) plus_zero

-- of a flat matrix with a row for each box and a cell for each track
abbrev pub mh_dist_similarity : List Float → Float → ℕ → ℕ → ℕ → ℕ → Float
mh_dist_similarity distance softmax_temp boxes tracks = similarity (cell_at nan tracks distance) softmax_temp boxes
