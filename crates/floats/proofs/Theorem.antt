-- `laws`: what specs/Laws.antt states holds. Assumes nothing.
use Rattle.std.proofs.Common.{◌≡◌, Bool, true, false, pos, refl}
use lib.Ieee.{fin, of_bits, is_nan, le, of_int}
use Rattle.floats.specs.Power.{one}
use Rattle.floats.specs.Exponential.{exp}
use Rattle.floats.specs.Laws.{Laws}
use Rattle.floats.proofs.Division.{remainder_lt, quotient-remainder}
use Rattle.floats.proofs.Nearest.{root-nearest, root_positive}
use Rattle.floats.proofs.Series.{last_terms}
use Rattle.floats.proofs.Unsigned.{exp_not_below}

exp-zero : (s : Bool) → exp (fin s 0 (pos 0)) ≡ one
unfolding exp is_nan le of_int one of_bits
exp-zero true = refl
exp-zero false = refl

pub laws : Laws
laws = record {
  remainder-below = remainder_lt;
  divided = quotient-remainder;
  nearest-root = root-nearest;
  positive_root = root_positive;
  exp_of_zero = exp-zero;
  exp-above = exp_not_below;
  terms_end = last_terms;
}
