-- s * 2^p / 2^181 to the nearest f32, by the digits of s. Assumes nothing.
use Rattle.std.proofs.Common.{◌≡◌, ℕ, zero, suc, ◌+◌, ◌-◌, ◌*◌, ◌/◌, ◌%◌, ◌^◌, ◌<◌, ◌≤◌, false, ◌⊎◌, sym, refl, ap, ◌∙◌, inl, inr, le_trans, le_of_eq, lt_of_lt_of_le, add-zero, mul-le-mul_right, mod-lt, mul_assoc, suc-mul, div-lt_iff_lt-mul, add-mul, mul-pos, one-mul, div-add-mod', le-div_iff_mul-le, add-one, arith, lit<, pow_pos, pow_mono, pow-add, shl_lt, shl_exact, eqb-true, leb-false, leb-true}
use Prim.Native.Nat.{compare, Ordering}
use native.Mathlib.Nat.{div-eq_of_lt-le}
use lib.Arith.{lt_of_le-ne}
use lib.Dec.{is_le, compare_is_eq}
use borrow.Author.Tests.{eqb-false}
use lib.Ieee.{binary32, size, nearest, units, round}
use lib.Ieee.Digits.{size-le}
use lib.Ieee.Fits.{round_is, nearest-le}
use lib.Ieee.Nearest.{closest, closest_same, nearest-ge}
use Rattle.floats.proofs.Digits.{size_is, none_or_some}
use Rattle.floats.proofs.Pack.{Kept}

-- the unit 2^k, as the machine shifts it
pub one_shl : (k : ℕ) → k < 64 → (1 * 2 ^ k) % 2 ^ 64 ≡ 2 ^ k
one_shl k h = shl_exact 1 k 64 (lit< tt) (omega arith) ∙ one-mul (2 ^ k)

-- ---- Half a unit u less one is added to s, and one more where what is kept is odd: the sum carries into the kept part exactly where s is rounded up.
module _ (s u half : ℕ) (some : 0 < half) (halves : u ≡ 2 * half) where
  added : ℕ
  added = s + (half - 1 + s / u % 2)

  added_is : added ≡ s / u * u + s % u + (half - 1 + s / u % 2)
  unfolding added
  added_is = ap (λ (x : ℕ). x + (half - 1 + s / u % 2)) (sym (div-add-mod' s u))

  rest_lt : s % u < u
  rest_lt = mod-lt s (omega arith)

  stays : s % u + (half - 1 + s / u % 2) < u → added / u ≡ s / u
  stays h = let e = added_is in let n = add-mul (s / u) 1 u in let o = one-mul u in div-eq_of_lt-le u (omega arith) (omega arith)

  climbs : u ≤ s % u + (half - 1 + s / u % 2) → added / u ≡ suc (s / u)
  climbs h =
      let e = added_is in let r = rest_lt in let n = suc-mul (s / u) u in let m = add-mul (suc (s / u)) 1 u in let o = one-mul u in
      div-eq_of_lt-le u (omega arith) (omega arith)

  pub carries : (s + (half - 1 + s / u % 2)) / u ≡ closest s u
  unfolding added
  carries = go (compare (s % u * 2) u) refl
    where
      even_or_odd : (b : ℕ) → b < 2 → b ≡ s / u % 2 → s % u * 2 ≡ u → added / u ≡ s / u + b
      even_or_odd zero l e h = stays (omega arith) ∙ sym (add-zero (s / u))
      even_or_odd (suc zero) l e h = climbs (omega arith) ∙ sym (add-one (s / u))
      even_or_odd (suc (suc b)) l e h = absurd (omega arith)

      go : (o : Ordering) → compare (s % u * 2) u ≡ o → added / u ≡ nearest (s / u) o
      go Ordering.lt e = stays (let h : s % u * 2 < u = lt_of_le-ne (leb-true _ _ (ap is_le e)) (eqb-false _ _ (ap compare_is_eq e)) in omega arith)
      go Ordering.eq e = even_or_odd (s / u % 2) (omega arith) refl (eqb-true _ _ (ap compare_is_eq e))
      go Ordering.gt e = climbs (let h : u < s % u * 2 = leb-false _ _ (ap is_le e) in omega arith)

-- ---- s has its top digit at the place j; k digits are dropped, for which s is shifted by h
module _ (s p j k h : ℕ) (lo : 2 ^ j ≤ s) (hi : s < 2 ^ suc j) (long : 30 ≤ j) (K : k ≡ suc j + p - 56) (H : h ≡ 32 + k - p) where
  n : ℕ
  n = s * 2 ^ p * 2 ^ 149

  lo-n : 2 ^ (j + p + 149) ≤ n
  unfolding n
  lo-n = le_trans (le_of_eq (pow-add 2 (j + p) 149)) (mul-le-mul_right (2 ^ 149) (le_trans (le_of_eq (pow-add 2 j p)) (mul-le-mul_right (2 ^ p) lo)))

  hi-n : n < 2 ^ (suc j + p + 149)
  unfolding n
  hi-n = shl_lt (suc j + p) 149 (shl_lt (suc j) p hi)

  drops : size (n / 2 ^ 181) - 24 ≡ k
  drops = go (none_or_some k)
    where
      go : k ≡ 0 ⊎ 0 < k → size (n / 2 ^ 181) - 24 ≡ k
      go (inl z) =
          let few : size (n / 2 ^ 181) ≤ 24 = size-le (n / 2 ^ 181) 24 ((div-lt_iff_lt-mul (pow_pos 181)).1 (lt_of_lt_of_le hi-n (le_trans (pow_mono {i = suc j + p + 149} {j = 205} (omega arith)) (le_of_eq refl)))) in
          omega arith
      go (inr m) =
          let a = j + p - 32 in
          let is : size (n / 2 ^ 181) ≡ suc a = size_is (n / 2 ^ 181) a
          ((le-div_iff_mul-le (pow_pos 181)).1 (le_trans (le_of_eq (sym (pow-add 2 a 181))) (le_trans (pow_mono {i = a + 181} {j = j + p + 149} (omega arith)) lo-n)))
          ((div-lt_iff_lt-mul (pow_pos 181)).1 (lt_of_lt_of_le hi-n (le_trans (pow_mono {i = suc j + p + 149} {j = suc a + 181} (omega arith)) (le_of_eq (pow-add 2 (suc a) 181))))) in
          omega arith

  pub fits_shift : p ≤ 32 + k
  fits_shift = omega arith

  powers : s * 2 ^ p * 2 ^ 149 * 2 ^ h ≡ s * (2 ^ 181 * 2 ^ k)
  powers =
      mul_assoc (s * 2 ^ p) (2 ^ 149) (2 ^ h) ∙ mul_assoc s (2 ^ p) (2 ^ 149 * 2 ^ h)
      ∙ ap (λ (x : ℕ). s * x) (ap (λ (x : ℕ). 2 ^ p * x) (sym (pow-add 2 149 h)) ∙ sym (pow-add 2 p (149 + h)) ∙ ap (λ (x : ℕ). 2 ^ x) exponents ∙ pow-add 2 181 k)
    where
      exponents : p + (149 + h) ≡ 181 + k
      exponents = let f = fits_shift in omega arith

  pub rounds : round binary32 false (s * 2 ^ p) (2 ^ 181) ≡ units binary32 false (closest s (2 ^ h)) k
  unfolding n
  rounds =
      round_is binary32 false (s * 2 ^ p) (2 ^ 181)
      ∙ ap (λ (x : ℕ). units binary32 false (closest n (2 ^ 181 * 2 ^ x)) x) drops
      ∙ ap (λ (x : ℕ). units binary32 false x k) (closest_same n (2 ^ 181 * 2 ^ k) s (2 ^ h) (mul-pos (pow_pos 181) (pow_pos k)) (pow_pos h) powers)

  pub keeps : Kept (closest s (2 ^ h)) k
  keeps = (most, least)
    where
      most : closest s (2 ^ h) ≤ 2 ^ 24
      most =
          let f = fits_shift in
          le_trans (nearest-le (s / 2 ^ h) (compare (s % 2 ^ h * 2) (2 ^ h)))
          ((div-lt_iff_lt-mul (pow_pos h)).1 (lt_of_lt_of_le hi (le_trans (pow_mono {i = suc j} {j = 24 + h} (omega arith)) (le_of_eq (pow-add 2 24 h)))))

      least : 0 < k → 2 ^ 23 ≤ closest s (2 ^ h)
      least m =
          le_trans ((le-div_iff_mul-le (pow_pos h)).1 (le_trans (le_of_eq (sym (pow-add 2 23 h))) (le_trans (pow_mono {i = 23 + h} {j = j} (omega arith)) lo)))
          (nearest-ge (s / 2 ^ h) (compare (s % 2 ^ h * 2) (2 ^ h)))
