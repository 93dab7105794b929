-- What the private functions hand one another. No public contract cites these.
use Rattle.std.specs.Prelude.{◌≡◌, ℕ, ◌*◌, ◌^◌, ◌<◌, ◌≤◌, Bool, ℤ, Float}
use Rattle.std.specs.Float.Ieee.Exact.{HasValue}
use Rattle.floats.specs.Exponential.{quotient, remainder, L, t, S}

-- a is ±digits × 2^place units, a unit being the smallest f32, 2^-149. It has 24 digits where its place is above 0.
pub record Parts (a : Float) (negative : Bool) (digits place : ℕ) : Type 0 where
  pub value : HasValue a negative (digits * 2 ^ place) (2 ^ 149)
  pub short : digits < 2 ^ 24
  pub full : 0 < place → 2 ^ 23 ≤ digits
  pub near : place < 254

-- digits and place of a value above zero
pub record Significant (digits place : ℕ) : Type 0 where
  pub some : 0 < digits
  pub short : digits < 2 ^ 24
  pub near : place < 254

-- q and r are z divided by L and what remains
pub record Splits (z q : ℤ) (r : ℕ) : Type 0 where
  pub floor : q ≡ quotient z L
  pub left : r ≡ remainder z L
  pub small : r < L

-- the terms of r and their sum, up to k
pub record Summed (r k last total : ℕ) : Type 0 where
  pub low : r < 2 ^ 30
  pub term : last ≡ t r k
  pub sum : total ≡ S r k
