-- A fraction to the nearest f32, as the code divides it: num and den stand at the top of 64 bits, and the quotient is by a shifted den. Assumes nothing.
use mathlib.Core.Path.{◌≡◌, refl, sym, ap, subst, ◌∙◌}
use mathlib.Core.Bool.{Bool, true, false, cond}
use Prim.Native.Nat.{ℕ, zero, suc, ◌+◌, ◌-◌, ◌*◌, ◌/◌, ◌%◌, ◌^◌, ◌≤◌, ◌<◌, compare, Ordering}
use native.Mathlib.Nat.{le_trans, le_of_eq, lt_of_not-le, not-le_of_lt, mod-eq_of_lt, lt_of_lt_of_le, lt_of_le_of_lt, mul_assoc, mul_comm, mul_left_comm, mul-pos, mul-le-mul_right, mul-lt-mul_of_pos_right, le-div_iff_mul-le, div-lt_iff_lt-mul, add-zero}
use native.Mathlib.Numerals.{add-one}
use native.Mathlib.Omega.{arith}
use lib.Arith.{lt_of_le-ne}
use lib.Dec.{lit≤, leb, ltb, is_le, compare_is_eq}
use lib.Pow.{pow-add, pow_pos, pow_mono, shl_lt}
use lib.Count.{count_leading_zeros, leading_top}
use borrow.Author.Tests.{leb-true, leb-false, lt-ltb, le-ltb, eqb-true, eqb-false}
use lib.Ieee.{binary32, size, nearest, units, round}
use lib.Ieee.Fits.{round_is, nearest-le}
use lib.Ieee.Nearest.{closest, closest_same, nearest-ge}
use Rattle.std.specs.Int.{from_bool}
use Rattle.floats.proofs.Digits.{size_is}

-- ---- a test as a number

pub bool_is : (b : Bool) → from_bool b ≡ cond b 1 0
bool_is true = refl
bool_is false = refl

pub one_most : (b : Bool) (r : ℕ) → r ≡ from_bool b → r ≤ 1
one_most true r e = rw e (omega arith)
one_most false r e = rw e (omega arith)

-- ---- rounding by the remainder: one more where it is above a half, or is a half and the quotient odd
module _ (q r u : ℕ) where
  steps : (o : Ordering) → compare (r * 2) u ≡ o → q + cond (ltb u (2 * r + q % 2)) 1 0 ≡ nearest q o
  steps Ordering.lt e =
      let h : r * 2 < u = lt_of_le-ne (leb-true _ _ (ap is_le e)) (eqb-false _ _ (ap compare_is_eq e)) in
      rw (le-ltb u (2 * r + q % 2) (omega arith)) (add-zero q)
  steps Ordering.eq e = even_or_odd (q % 2) (omega arith) refl
    where
      half : r * 2 ≡ u
      half = eqb-true _ _ (ap compare_is_eq e)

      even_or_odd : (b : ℕ) → b < 2 → q % 2 ≡ b → q + cond (ltb u (2 * r + b)) 1 0 ≡ q + b
      even_or_odd zero l f = let h = half in rw (le-ltb u (2 * r + 0) (omega arith))
      even_or_odd (suc zero) l f = let h = half in rw (lt-ltb u (2 * r + 1) (omega arith))
      even_or_odd (suc (suc b)) l f = absurd (omega arith)
  steps Ordering.gt e =
      let h : u < r * 2 = leb-false _ _ (ap is_le e) in
      rw (lt-ltb u (2 * r + q % 2) (omega arith)) (add-one q)

pub rounds_up : (n u : ℕ) → n / u + cond (ltb u (2 * (n % u) + n / u % 2)) 1 0 ≡ closest n u
rounds_up n u = steps (n / u) (n % u) u (compare (n % u * 2) u) refl

-- ---- a number whose top bit is at j, with z zeros before it, shifted to the top
at_top : (n z j : ℕ) → z + suc j ≡ 64 → 2 ^ j ≤ n → n < 2 ^ suc j → (2 ^ 63 ≤ n * 2 ^ z) × (n * 2 ^ z < 2 ^ 64)
at_top n z j e lo hi =
    let f : 63 ≡ j + z = omega arith in
    let g : suc j + z ≡ 64 = omega arith in
    (le_trans (le_of_eq (ap (λ (x : ℕ). 2 ^ x) f ∙ pow-add 2 j z)) (mul-le-mul_right (2 ^ z) lo), subst (λ (x : ℕ). n * 2 ^ z < 2 ^ x) g (shl_lt (suc j) z hi))

power : (a b c : ℕ) → a ≡ b + c → 2 ^ a ≡ 2 ^ b * 2 ^ c
power a b c e = ap (λ (x : ℕ). 2 ^ x) e ∙ pow-add 2 b c

-- ---- z and d zeros before num and den, of which d is 24 or more. With p, which is 0 or 1, den's shift brings it to num's size: norm * 2^p is above top, and not above twice top
module _ (num den z d p : ℕ) (some : 0 < den) (Z : z < 64) (D : 24 ≤ d) (E : d < 64) (P : p ≤ 1)
    (low : den * 2 ^ d * 2 ^ p ≤ 2 * (num * 2 ^ z)) (high : num * 2 ^ z < den * 2 ^ d * 2 ^ p) where
  -- den's shift, and the digits of the quotient in units of 2^-149 that are dropped
  abbrev unit_of : ℕ
  unit_of = den * 2 ^ (d - 24 + p)

  abbrev dropped_of : ℕ
  dropped_of = 125 + d + p - z

  unit_pos : 0 < unit_of
  unit_pos = mul-pos some (pow_pos (d - 24 + p))

  whole_unit : unit_of * 2 ^ 24 ≡ den * 2 ^ d * 2 ^ p
  whole_unit =
      let e : d - 24 + p + 24 ≡ d + p = omega arith in
      mul_assoc den (2 ^ (d - 24 + p)) (2 ^ 24) ∙ ap (λ (x : ℕ). den * x) (sym (pow-add 2 (d - 24 + p) 24) ∙ power (d - 24 + p + 24) d p e) ∙ sym (mul_assoc den (2 ^ d) (2 ^ p))

  -- ---- the quotient has 24 digits
  quotient-lo : 2 ^ 23 ≤ num * 2 ^ z / unit_of
  quotient-lo = (le-div_iff_mul-le unit_pos).1 (let e = whole_unit in omega arith)

  quotient-hi : num * 2 ^ z / unit_of < 2 ^ 24
  quotient-hi = (div-lt_iff_lt-mul unit_pos).1 (let e = whole_unit in omega arith)

  kept_lo : 2 ^ 23 ≤ closest (num * 2 ^ z) unit_of
  kept_lo = le_trans quotient-lo (nearest-ge _ (compare (num * 2 ^ z % unit_of * 2) unit_of))

  kept_hi : closest (num * 2 ^ z) unit_of ≤ 2 ^ 24
  kept_hi = le_trans (nearest-le _ (compare (num * 2 ^ z % unit_of * 2) unit_of)) quotient-hi

  -- ---- in units
  in_units : num * 2 ^ 149 ≡ num * 2 ^ z * 2 ^ (149 - z)
  in_units = let e : 149 ≡ z + (149 - z) = omega arith in ap (λ (x : ℕ). num * x) (power 149 z (149 - z) e) ∙ sym (mul_assoc num (2 ^ z) (2 ^ (149 - z)))

  spread : (a b : ℕ) → a ≡ d + (p + b) → 2 ^ a * den ≡ den * 2 ^ d * 2 ^ p * 2 ^ b
  spread a b e =
      ap (λ (x : ℕ). x * den) (power a d (p + b) e ∙ ap (λ (x : ℕ). 2 ^ d * x) (pow-add 2 p b))
      ∙ mul_comm (2 ^ d * (2 ^ p * 2 ^ b)) den ∙ sym (mul_assoc den (2 ^ d) (2 ^ p * 2 ^ b)) ∙ sym (mul_assoc (den * 2 ^ d) (2 ^ p) (2 ^ b))

  doubled : 2 * (num * 2 ^ z) * 2 ^ (148 - z) ≡ num * 2 ^ z * 2 ^ (149 - z)
  doubled =
      let e : 149 - z ≡ 1 + (148 - z) = omega arith in
      sym (ap (λ (x : ℕ). num * 2 ^ z * x) (power (149 - z) 1 (148 - z) e) ∙ sym (mul_assoc (num * 2 ^ z) 2 (2 ^ (148 - z))) ∙ ap (λ (x : ℕ). x * 2 ^ (148 - z)) (mul_comm (num * 2 ^ z) 2))

  drops : size (num * 2 ^ 149 / den) - 24 ≡ dropped_of
  drops =
      let lo : 23 + dropped_of ≡ d + (p + (148 - z)) = omega arith in
      let hi : suc (23 + dropped_of) ≡ d + (p + (149 - z)) = omega arith in
      let is : size (num * 2 ^ 149 / den) ≡ suc (23 + dropped_of) = size_is (num * 2 ^ 149 / den) (23 + dropped_of)
      ((le-div_iff_mul-le some).1 (le_trans (le_of_eq (spread (23 + dropped_of) (148 - z) lo)) (le_trans (mul-le-mul_right (2 ^ (148 - z)) low) (le_of_eq (doubled ∙ sym in_units)))))
      ((div-lt_iff_lt-mul some).1 (lt_of_le_of_lt (le_of_eq in_units) (lt_of_lt_of_le (mul-lt-mul_of_pos_right high (pow_pos (149 - z))) (le_of_eq (sym (spread (suc (23 + dropped_of)) (149 - z) hi)))))) in
      omega arith

  crosswise : num * 2 ^ 149 * unit_of ≡ num * 2 ^ z * (den * 2 ^ dropped_of)
  crosswise =
      let e : 149 + (d - 24 + p) ≡ z + dropped_of = omega arith in
      sorted num (2 ^ 149) den (2 ^ (d - 24 + p)) ∙ ap (λ (x : ℕ). num * den * x) (sym (pow-add 2 149 (d - 24 + p)) ∙ power (149 + (d - 24 + p)) z dropped_of e) ∙ sym (sorted num (2 ^ z) den (2 ^ dropped_of))
    where
      sorted : (a b c e : ℕ) → a * b * (c * e) ≡ a * c * (b * e)
      sorted a b c e = simp (mul_assoc, mul_left_comm)

  rounds : round binary32 false num den ≡ units binary32 false (closest (num * 2 ^ z) unit_of) dropped_of
  rounds =
      round_is binary32 false num den
      ∙ ap (λ (x : ℕ). units binary32 false (closest (num * 2 ^ 149) (den * 2 ^ x)) x) drops
      ∙ ap (λ (x : ℕ). units binary32 false x dropped_of) (closest_same (num * 2 ^ 149) (den * 2 ^ dropped_of) (num * 2 ^ z) unit_of (mul-pos some (pow_pos dropped_of)) unit_pos crosswise)

-- ---- the same as the machine shifts: num and den by their leading zeros
module _ (num den : ℕ) (some : num ≡ 0 → ⊥) (wide : num < 2 ^ 64) (over : 0 < den) (few : den < 2 ^ 40) where
  z : ℕ
  z = count_leading_zeros 64 num

  d : ℕ
  d = count_leading_zeros 64 den

  top : (j : ℕ) × (z + suc j ≡ 64) × (2 ^ j ≤ num) × (num < 2 ^ suc j)
  unfolding z
  top = leading_top 64 num (omega arith) wide

  norm : (i : ℕ) × (d + suc i ≡ 64) × (2 ^ i ≤ den) × (den < 2 ^ suc i)
  unfolding d
  norm = leading_top 64 den over (lt_of_lt_of_le few (lit≤ tt))

  top-at : (2 ^ 63 ≤ num * 2 ^ z) × (num * 2 ^ z < 2 ^ 64)
  top-at = at_top num z top.0 top.1 top.2 top.3

  norm_at : (2 ^ 63 ≤ den * 2 ^ d) × (den * 2 ^ d < 2 ^ 64)
  norm_at = at_top den d norm.0 norm.1 norm.2 norm.3

  pub zeros_lt : count_leading_zeros 64 num < 64
  unfolding z
  zeros_lt = omega (arith, top.1)

  pub spare_lt : count_leading_zeros 64 den < 64
  unfolding d
  spare_lt = omega (arith, norm.1)

  pub spare_ge : 24 ≤ count_leading_zeros 64 den
  unfolding d
  spare_ge =
      let short : norm.0 < 40 = lt_of_not-le (λ g. not-le_of_lt few (le_trans (pow_mono {i = 40} {j = norm.0} g) norm.2)) in
      omega (arith, norm.1)

  -- the shifts lose nothing
  top-whole : (num * 2 ^ count_leading_zeros 64 num) % 2 ^ 64 ≡ num * 2 ^ count_leading_zeros 64 num
  unfolding z
  top-whole = mod-eq_of_lt top-at.1

  norm_whole : (den * 2 ^ count_leading_zeros 64 den) % 2 ^ 64 ≡ den * 2 ^ count_leading_zeros 64 den
  unfolding d
  norm_whole = mod-eq_of_lt norm_at.1

  module _ (p : ℕ) (e : p ≡ cond (leb ((den * 2 ^ count_leading_zeros 64 den) % 2 ^ 64) ((num * 2 ^ count_leading_zeros 64 num) % 2 ^ 64)) 1 0) where
    -- den is brought to num's size
    sized : (p ≤ 1) × (den * 2 ^ d * 2 ^ p ≤ 2 * (num * 2 ^ z)) × (num * 2 ^ z < den * 2 ^ d * 2 ^ p)
    unfolding z d
    sized = go (leb (den * 2 ^ count_leading_zeros 64 den) (num * 2 ^ count_leading_zeros 64 num)) refl (e ∙ ap (λ (x : ℕ). cond (leb x ((num * 2 ^ count_leading_zeros 64 num) % 2 ^ 64)) 1 0) norm_whole ∙ ap (λ (x : ℕ). cond (leb (den * 2 ^ count_leading_zeros 64 den) x) 1 0) top-whole)
      where
        at : (x y q : ℕ) → 2 ^ 63 ≤ x → x < 2 ^ 64 → 2 ^ 63 ≤ y → y < 2 ^ 64 → (b : Bool) → leb y x ≡ b → q ≡ cond b 1 0 → (q ≤ 1) × (y * 2 ^ q ≤ 2 * x) × (x < y * 2 ^ q)
        at x y q a b c f true g h = let l : y ≤ x = leb-true _ _ g in subst (λ (k : ℕ). (k ≤ 1) × (y * 2 ^ k ≤ 2 * x) × (x < y * 2 ^ k)) (sym h) (omega arith, omega arith, omega arith)
        at x y q a b c f false g h = let l : x < y = leb-false _ _ g in subst (λ (k : ℕ). (k ≤ 1) × (y * 2 ^ k ≤ 2 * x) × (x < y * 2 ^ k)) (sym h) (omega arith, omega arith, omega arith)

        go : (b : Bool) → leb (den * 2 ^ count_leading_zeros 64 den) (num * 2 ^ count_leading_zeros 64 num) ≡ b → p ≡ cond b 1 0 → (p ≤ 1) × (den * 2 ^ count_leading_zeros 64 den * 2 ^ p ≤ 2 * (num * 2 ^ count_leading_zeros 64 num)) × (num * 2 ^ count_leading_zeros 64 num < den * 2 ^ count_leading_zeros 64 den * 2 ^ p)
        go b g h = at (num * 2 ^ count_leading_zeros 64 num) (den * 2 ^ count_leading_zeros 64 den) p top-at.0 top-at.1 norm_at.0 norm_at.1 b g h

    pub more_le : p ≤ 1
    more_le = sized.0

    -- the unit, as the machine makes it
    unit_whole-is : den * 2 ^ (count_leading_zeros 64 den - 24 + p) * 2 ^ 24 ≡ den * 2 ^ count_leading_zeros 64 den * 2 ^ p
    unfolding z d
    unit_whole-is = whole_unit num den z d p over zeros_lt spare_ge spare_lt sized.0 sized.1 sized.2

    pub unit_some : 1 < den * 2 ^ (count_leading_zeros 64 den - 24 + p)
    unfolding z d
    unit_some = let w = unit_whole-is in let h = sized.2 in let t = top-at.0 in omega arith

    pub unit_few : den * 2 ^ (count_leading_zeros 64 den - 24 + p) < 2 ^ 42
    unfolding z d
    unit_few = let w = unit_whole-is in let h = sized.1 in let t = top-at.1 in omega arith

    pub unit_whole : (den * 2 ^ (count_leading_zeros 64 den - 24 + p)) % 2 ^ 64 ≡ den * 2 ^ (count_leading_zeros 64 den - 24 + p)
    unit_whole = mod-eq_of_lt (lt_of_lt_of_le unit_few (lit≤ tt))

    -- what the code divides, rounds and packs, by the numbers that the machine has
    module _ (q : ℕ) (f : q ≡ closest ((num * 2 ^ count_leading_zeros 64 num) % 2 ^ 64) ((den * 2 ^ (count_leading_zeros 64 den - 24 + p)) % 2 ^ 64)) where
      quotient_is : q ≡ closest (num * 2 ^ count_leading_zeros 64 num) (den * 2 ^ (count_leading_zeros 64 den - 24 + p))
      quotient_is = f ∙ ap (λ (x : ℕ). closest x ((den * 2 ^ (count_leading_zeros 64 den - 24 + p)) % 2 ^ 64)) top-whole ∙ ap (closest (num * 2 ^ count_leading_zeros 64 num)) unit_whole

      pub quotient_kept : (2 ^ 23 ≤ q) × (q ≤ 2 ^ 24)
      unfolding z d
      quotient_kept =
          subst (λ (x : ℕ). (2 ^ 23 ≤ x) × (x ≤ 2 ^ 24)) (sym quotient_is)
          (kept_lo num den z d p over zeros_lt spare_ge spare_lt sized.0 sized.1 sized.2, kept_hi num den z d p over zeros_lt spare_ge spare_lt sized.0 sized.1 sized.2)

      pub quotient-rounds : units binary32 false q (125 + count_leading_zeros 64 den + p - count_leading_zeros 64 num) ≡ round binary32 false num den
      unfolding z d
      quotient-rounds =
          ap (λ (x : ℕ). units binary32 false x (125 + count_leading_zeros 64 den + p - count_leading_zeros 64 num)) quotient_is
          ∙ sym (rounds num den z d p over zeros_lt spare_ge spare_lt sized.0 sized.1 sized.2)
