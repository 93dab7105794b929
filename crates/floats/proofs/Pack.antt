-- A kept number of at most 24 digits, or 2^24, and how many digits were dropped, as a bit pattern. Assumes nothing.
use Rattle.std.proofs.Common.{◌≡◌, ℕ, suc, ◌+◌, ◌-◌, ◌*◌, ◌/◌, ◌^◌, ◌<◌, ◌≤◌, Bool, false, cond, not, T, ltb, ◌⊎◌, sym, refl, ap, ◌∙◌, subst, inl, inr, le_trans, le_of_eq, lt_of_lt_of_le, lt_of_le_of_lt, mul-le-mul_right, mod-eq_of_lt, lt-suc_self, eq-or-lt_of_le, zero-add, mul-one, mul-div_cancel, arith, lit<, pow_pos, pow_mono, pow-add, shl_lt, le-ltb, lt-ltb}
use lib.Pow.{pow-lt}
use lib.Ieee.{Float, nan, inf, fin, binary32, down, size, odd, units, to_bits, of_bits, nan_bits}
use lib.Ieee.Digits.{size-le}
use lib.Ieee.Fits.{down_pos, odd-fits}
use lib.Ieee.Exact.{HasValue, odd_sign}
use lib.Ieee.Bits.{of_bits-to_bits, nan_bits_above}
use Rattle.floats.proofs.Digits.{size_is, none_or_some}

-- the bit pattern of n units: the digits that are dropped are counted in the exponent's field, and the leading one of those that are kept adds one to it
abbrev pattern : ℕ → ℕ
pattern n = (size n - 24) * 2 ^ 23 + n / 2 ^ (size n - 24)

bits_of : (v : Float) (a : ℕ) → HasValue v false a (2 ^ 149) → to_bits binary32 v ≡ pattern a
unfolding to_bits
bits_of nan a h = absurd h
bits_of (inf s) a h = absurd h
bits_of (fin s m e) a h =
    ap (λ (n : ℕ). cond s (2 ^ 31) 0 + (size n - 24) * 2 ^ 23 + n / 2 ^ (size n - 24)) (ap (λ (x : ℕ). x / down e) h.1 ∙ mul-div_cancel a (down_pos e))
    ∙ ap (λ (b : Bool). cond b (2 ^ 31) 0 + (size a - 24) * 2 ^ 23 + a / 2 ^ (size a - 24)) h.0
    ∙ ap (λ (x : ℕ). x + a / 2 ^ (size a - 24)) (zero-add ((size a - 24) * 2 ^ 23))

-- how q and k stand to one another: q is 2^24 at most, and where digits were dropped it has 24
abbrev pub Kept : ℕ → ℕ → Type 0
Kept q k = (q ≤ 2 ^ 24) × (0 < k → 2 ^ 23 ≤ q)

-- the pattern of q × 2^k units is k × 2^23 + q. Where q is 2^24, it carries into the field.
pattern-is : (q k : ℕ) → Kept q k → pattern (q * 2 ^ k) ≡ k * 2 ^ 23 + q
pattern-is q k h = go (eq-or-lt_of_le h.0)
  where
    at : (z : ℕ) (x : ℕ) → size (q * 2 ^ k) - 24 ≡ z → q * 2 ^ k ≡ x * 2 ^ z → z * 2 ^ 23 + x ≡ k * 2 ^ 23 + q
        → pattern (q * 2 ^ k) ≡ k * 2 ^ 23 + q
    at z x e f g = ap (λ (y : ℕ). y * 2 ^ 23 + q * 2 ^ k / 2 ^ y) e ∙ ap (λ (y : ℕ). z * 2 ^ 23 + y) (ap (λ (y : ℕ). y / 2 ^ z) f ∙ mul-div_cancel x (pow_pos z)) ∙ g

    few : (n : ℕ) → n < 2 ^ 24 → size n - 24 ≡ 0
    few n l = let s = size-le n 24 l in omega arith

    low : q < 2 ^ 24 → k ≡ 0 ⊎ 0 < k → pattern (q * 2 ^ k) ≡ k * 2 ^ 23 + q
    low l (inl z) = at 0 q (few (q * 2 ^ k) (subst (λ (x : ℕ). q * 2 ^ x < 2 ^ 24) (sym z) (subst (λ (x : ℕ). x < 2 ^ 24) (sym (mul-one q)) l))) (ap (λ (x : ℕ). q * 2 ^ x) z) (omega arith)
    low l (inr p) =
        at k q
        (ap (λ (x : ℕ). x - 24) (size_is (q * 2 ^ k) (23 + k) (le_trans (le_of_eq (pow-add 2 23 k)) (mul-le-mul_right (2 ^ k) (h.1 p))) (subst (λ (x : ℕ). q * 2 ^ k < 2 ^ x) (more k) (shl_lt 24 k l))) ∙ less k)
        refl refl
      where
        more : (k : ℕ) → 24 + k ≡ suc (23 + k)
        more k = omega arith

        less : (k : ℕ) → suc (23 + k) - 24 ≡ k
        less k = omega arith

    go : (q ≡ 2 ^ 24) ⊎ (q < 2 ^ 24) → pattern (q * 2 ^ k) ≡ k * 2 ^ 23 + q
    go (inl e) =
        let f : q * 2 ^ k ≡ 2 ^ (24 + k) = ap (λ (x : ℕ). x * 2 ^ k) e ∙ sym (pow-add 2 24 k) in
        at (suc k) (2 ^ 23)
        (ap (λ (x : ℕ). x - 24) (size_is (q * 2 ^ k) (24 + k) (le_of_eq (sym f)) (subst (λ (x : ℕ). x < 2 ^ suc (24 + k)) (sym f) (pow-lt (lt-suc_self (24 + k))))) ∙ less k)
        (f ∙ ap (λ (x : ℕ). 2 ^ x) (shift k) ∙ pow-add 2 23 (suc k)) (omega arith)
      where
        less : (k : ℕ) → suc (24 + k) - 24 ≡ suc k
        less k = omega arith

        shift : (k : ℕ) → 24 + k ≡ 23 + suc k
        shift k = omega arith
    go (inr l) = low l (none_or_some k)

-- below 2^128, which is 2^277 units, the pattern is that of the value; from there on the value is an infinity
pub packs : (q k : ℕ) → Kept q k → q * 2 ^ k < 2 ^ 277 → of_bits binary32 (k * 2 ^ 23 + q) ≡ units binary32 false q k
unfolding units
packs q k h l =
    let v = odd 25 false q k 149 in
    ap (of_bits binary32) (sym (pattern-is q k h) ∙ sym (bits_of v (q * 2 ^ k) (odd_sign 25 false q k 149)))
    ∙ of_bits-to_bits binary32 v (odd-fits binary32 25 false q k (lt_of_le_of_lt h.0 (lit< tt)) h.0 l)
    ∙ ap (λ (b : Bool). cond b v (inf false)) (sym (lt-ltb (q * 2 ^ k) (2 ^ 277) l))

pub overflows : (q k : ℕ) → 2 ^ 277 ≤ q * 2 ^ k → inf false ≡ units binary32 false q k
unfolding units
overflows q k l = ap (λ (b : Bool). cond b (odd 25 false q k 149) (inf false)) (sym (le-ltb (q * 2 ^ k) (2 ^ 277) l))

-- the pattern is below that of an infinity exactly where the value is below 2^128
pub below_infinity : (q k : ℕ) → Kept q k → k * 2 ^ 23 + q < 255 * 2 ^ 23 → q * 2 ^ k < 2 ^ 277
below_infinity q k h l = go (none_or_some k) (eq-or-lt_of_le h.0)
  where
    room : (j : ℕ) → j ≤ 253 → 24 + j ≤ 277
    room j h = omega arith

    go : k ≡ 0 ⊎ 0 < k → (q ≡ 2 ^ 24) ⊎ (q < 2 ^ 24) → q * 2 ^ k < 2 ^ 277
    go (inl z) m = subst (λ (x : ℕ). q * 2 ^ x < 2 ^ 277) (sym z) (subst (λ (x : ℕ). x < 2 ^ 277) (sym (mul-one q)) (lt_of_le_of_lt h.0 (lit< tt)))
    go (inr p) (inl e) =
        let j : k < 253 = omega arith in
        subst (λ (x : ℕ). x < 2 ^ 277) (pow-add 2 24 k ∙ ap (λ (x : ℕ). x * 2 ^ k) (sym e)) (pow-lt (plus j))
      where
        plus : {k : ℕ} → k < 253 → 24 + k < 277
        plus j = omega arith
    go (inr p) (inr m) =
        let q1 : 2 ^ 23 ≤ q = h.1 p in
        let j : k ≤ 253 = omega arith in
        lt_of_lt_of_le (shl_lt 24 k m) (pow_mono (room k j))

pub from_infinity : (q k : ℕ) → Kept q k → 255 * 2 ^ 23 ≤ k * 2 ^ 23 + q → 2 ^ 277 ≤ q * 2 ^ k
from_infinity q k h l = go (none_or_some k) (eq-or-lt_of_le h.0)
  where
    grown : (a j : ℕ) → 277 ≤ a + j → 2 ^ a ≤ q → 2 ^ 277 ≤ q * 2 ^ j
    grown a j r b = le_trans (pow_mono r) (le_trans (le_of_eq (pow-add 2 a j)) (mul-le-mul_right (2 ^ j) b))

    go : k ≡ 0 ⊎ 0 < k → (q ≡ 2 ^ 24) ⊎ (q < 2 ^ 24) → 2 ^ 277 ≤ q * 2 ^ k
    go (inl z) m = let b : q ≤ 2 ^ 24 = h.0 in absurd (omega arith)
    go (inr p) (inl e) = grown 24 k (omega arith) (le_of_eq (sym e))
    go (inr p) (inr m) = let b : 2 ^ 23 ≤ q = h.1 p in grown 23 k (omega arith) b

-- up to that of the infinity no pattern is a NaN's
pub no_nan : (n : ℕ) → n ≤ 255 * 2 ^ 23 → T (not (nan_bits binary32 n))
no_nan n h =
    subst (λ (b : Bool). T (not b)) (sym (nan_bits_above binary32 n ∙ ap (λ (x : ℕ). ltb (255 * 2 ^ 23) x) (mod-eq_of_lt (lt_of_le_of_lt h (lit< tt))) ∙ le-ltb (255 * 2 ^ 23) n h)) tt
