-- Document 01, "Float functions", larger and smaller: with one not-a-number, the other number; with two, or on equality, the first.
-- And the magnitude, as IEEE 754's abs: the sign cleared, of a NaN the NaN.
use Rattle.std.specs.Prelude.{Bool, false, cond, Float}
use Rattle.std.specs.Float.{nan, inf, fin}
use Rattle.std.specs.Float.Ieee.{is_nan, lt}

-- the first, unless the second beats it, or the second is a number and the first is none
abbrev pub choose : Bool → Float → Float → Float
choose beats first second = cond (is_nan first) (cond (is_nan second) first second) (cond beats second first)

-- `lt a b` is a < b, false where one of the two is a NaN
unfoldable pub larger : Float → Float → Float
larger a b = choose (lt a b) a b

unfoldable pub smaller : Float → Float → Float
smaller a b = choose (lt b a) a b

unfoldable pub abs : Float → Float
abs nan = nan
abs (inf s) = inf false
abs (fin s m e) = fin false m e
