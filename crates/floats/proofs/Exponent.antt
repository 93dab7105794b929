-- What joins the steps of `exp`: the range that is left for them, Q by the parts of a, the quotient as an exponent, and the end. Assumes nothing.
use Rattle.std.proofs.Common.{◌≡◌, ℕ, zero, suc, ◌+◌, ◌-◌, ◌*◌, ◌/◌, ◌^◌, ◌<◌, ◌≤◌, Bool, true, false, cond, ◌||◌, T, ltb, ℤ, pos, negsuc, ◌+ℤ◌, ◌-ℤ◌, sym, refl, ap, ◌∙◌, subst, true≢false, le_trans, le_of_eq, lt_of_lt_of_le, le_of_suc-le-suc, lt_of_le_of_lt, lt_irrefl, mul-le-mul_right, zero-lt-suc, mul_assoc, lt-suc_self, mul_comm, le_antisymm, lt_of_mul-lt-mul_right, mul-lt-mul_of_pos_right, mul-pos, lt_of_not-le, le-div_iff_mul-le, zero-mul, mul_right_comm, not-le_of_lt, div-mul-le_self, le_of_mul-le-mul_right, arith, lit<, pow_pos, pow_mono, pow-add, ltb-false, ltb-true, le-ltb, le-leb}
use native.Mathlib.Nat.{le-suc}
use native.Mathlib.Nat.{eq_of_mul-eq-mul_right, div-le_of_le-mul, zero-div}
use borrow.Author.Tests.{lt-leb}
use lib.IntN.{sub_ℕ}
use lib.Signed.{mag}
use lib.Ieee.{Float, nan, inf, fin, binary32, up, down, minus, le, lt, is_nan, round}
use lib.Ieee.Fits.{down_pos}
use lib.Ieee.Digits.{minus_val}
use lib.Ieee.Scale.{finite, round_same}
use lib.Ieee.Nearest.{div_same}
use Rattle.floats.specs.Exponential.{quotient, signed, Q, L, S, of_q}
use Rattle.floats.specs.Private.{Parts, Splits}

-- ---- the range that is left: a is finite, and 104 at most
abbrev pub Small : Float → Type 0
Small nan = ⊥
Small (inf s) = ⊥
Small (fin s m e) = m * up e ≤ 104 * down e

-- where neither of two tests holds the first does not
neither : (p q : Bool) → (p || q) ≡ false → p ≡ false
neither true q h = h
neither false q h = refl

pub is-small : (a : Float) → is_nan a ≡ false → le (fin false 89 (pos 0)) a ≡ false → le a (fin true 13 (pos 3)) ≡ false → Small a
unfolding is_nan le lt
is-small nan n p q = absurd (true≢false n)
is-small (inf true) n p q = absurd (true≢false q)
is-small (inf false) n p q = absurd (true≢false p)
is-small (fin false m e) n p q =
    let x : m * up e * 1 ≤ 89 * down e = ltb-false _ _ (neither (ltb (89 * down e) (m * up e * 1)) _ p) in
    omega arith
is-small (fin true m e) n p q =
    let x : m * up e * 1 ≤ 104 * down e = ltb-false _ _ (neither (ltb (104 * down e) (m * up e * 1)) _ q) in
    omega arith

pub small_finite : (a : Float) → Small a → T (finite a)
small_finite nan h = absurd h
small_finite (inf s) h = absurd h
small_finite (fin s m e) h = tt

-- ---- the place of a's digits is 132 at most
pub places : (a : Float) (s : Bool) (d k : ℕ) → Small a → Parts a s d k → k ≤ 132
places nan s d k h p = absurd h
places (inf t) s d k h p = absurd h
places (fin t m e) s d k h p =
    le_of_suc-le-suc (lt_of_not-le {n = 133} {m = k} (λ g. not-le_of_lt bound (le_trans (le_of_eq (pow-add 2 23 133)) (mul_le g (p.full (lt_of_lt_of_le (zero-lt-suc 132) g))))))
  where
    bound : d * 2 ^ k < 2 ^ 156
    bound =
        lt_of_le_of_lt
        (le_of_mul-le-mul_right {k = down e}
        (le_trans (le_of_eq (sym p.value.1)) (le_trans (mul-le-mul_right (2 ^ 149) h) (le_of_eq (mul_right_comm 104 (down e) (2 ^ 149))))) (down_pos e))
        (lit< tt)

    mul_le : 133 ≤ k → 2 ^ 23 ≤ d → 2 ^ 23 * 2 ^ 133 ≤ d * 2 ^ k
    mul_le g f = le_trans (mul-le-mul_right (2 ^ 133) f) (le_trans (le_of_eq (mul_comm d (2 ^ 133))) (le_trans (mul-le-mul_right d (pow_mono g)) (le_of_eq (mul_comm (2 ^ k) d))))

-- ---- `quotient` sees only the value of its fraction
-- below zero: one of the two inequalities between (n + 1) / d rounded down and (x + 1) / y
quotient_le : (n d x y : ℕ) → 0 < y → suc n * y ≡ suc x * d → n / d ≤ x / y
quotient_le n d x y Y e =
    (le-div_iff_mul-le Y).1
    (le_of_suc-le-suc (lt_of_mul-lt-mul_right d
    (lt_of_le_of_lt (le_trans (le_of_eq (mul_right_comm (n / d) y d)) (mul-le-mul_right y (div-mul-le_self n d)))
    (lt_of_lt_of_le (mul-lt-mul_of_pos_right (lt-suc_self n) Y) (le_of_eq e)))))

-- zero is no fraction above zero
not_zero : (x d y : ℕ) → 0 < d → 0 * y ≡ suc x * d → ⊥
not_zero x d y D e = lt_irrefl 0 (lt_of_lt_of_le (mul-pos (zero-lt-suc x) D) (le_of_eq (sym e ∙ zero-mul y)))

quotient-same : (s : Bool) (n d x y : ℕ) → 0 < d → 0 < y → n * y ≡ x * d → quotient (signed s n) d ≡ quotient (signed s x) y
quotient-same false n d x y D Y e = ap pos (div_same n d x y D Y e)
quotient-same true zero d zero y D Y e = ap pos (zero-div d ∙ sym (zero-div y))
quotient-same true zero d (suc x) y D Y e = absurd (not_zero x d y D e)
quotient-same true (suc n) d zero y D Y e = absurd (not_zero n y d Y (sym e))
quotient-same true (suc n) d (suc x) y D Y e = ap negsuc (le_antisymm (quotient_le n d x y Y e) (quotient_le x y n d D (sym e)))

pub quotient_mag : (s : Bool) (n d b : ℕ) → n ≤ d * b → mag (quotient (signed s n) d) ≤ b
quotient_mag false n d b h = div-le_of_le-mul d h
quotient_mag true zero d b h = div-le_of_le-mul d h
quotient_mag true (suc n) d b h = div-le_of_le-mul d (le_trans (le-suc n) h)

-- ---- a × 2^30 by a's parts
regroup : (x a b c : ℕ) → x * a * b * c ≡ x * (a * c) * b
regroup x a b c = simp (mul_assoc, mul_comm)

complement : (k : ℕ) → k ≤ 132 → 2 ^ k * 2 ^ (132 - k) ≡ 2 ^ 132
complement k h = let e : k + (132 - k) ≡ 132 = omega arith in sym (pow-add 2 k (132 - k)) ∙ ap (λ (x : ℕ). 2 ^ x) e

-- z is Q of a
abbrev pub IsQ : Float → ℤ → Type 0
IsQ nan z = ⊥
IsQ (inf s) z = ⊥
IsQ (fin s m e) z = z ≡ Q s m e

pub scales : (a : Float) (s : Bool) (d k : ℕ) → Small a → Parts a s d k → k ≤ 132 → IsQ a (quotient (signed s (d * 2 ^ 13)) (2 ^ (132 - k)))
scales nan s d k h p l = absurd h
scales (inf t) s d k h p l = absurd h
scales (fin t m e) s d k h p l =
    quotient-same s (d * 2 ^ 13) (2 ^ (132 - k)) (m * up e * 2 ^ 30) (down e) (pow_pos (132 - k)) (down_pos e) cross
    ∙ ap (λ (x : Bool). Q x m e) (sym p.value.0)
  where
    cross : d * 2 ^ 13 * down e ≡ m * up e * 2 ^ 30 * 2 ^ (132 - k)
    cross =
        eq_of_mul-eq-mul_right (2 ^ 119) (pow_pos 119) _ _
        (regroup d (2 ^ 13) (down e) (2 ^ 119)
        ∙ ap (λ (x : ℕ). d * x * down e) (sym (complement k l))
        ∙ sym (regroup d (2 ^ k) (down e) (2 ^ (132 - k)))
        ∙ ap (λ (x : ℕ). x * 2 ^ (132 - k)) (sym p.value.1)
        ∙ sym (regroup (m * up e) (2 ^ 30) (2 ^ (132 - k)) (2 ^ 119)))

-- Q has a magnitude below 151 × L, so the quotient has one of at most 150
pub Q-mag : (a : Float) (z : ℤ) → Small a → IsQ a z → mag z < 151 * L
Q-mag nan z h e = absurd h
Q-mag (inf t) z h e = absurd h
Q-mag (fin t m e) z h q =
    subst (λ (x : ℤ). mag x < 151 * L) (sym q)
    (lt_of_le_of_lt (quotient_mag t (m * up e * 2 ^ 30) (down e) (104 * 2 ^ 30)
    (le_trans (mul-le-mul_right (2 ^ 30) h) (le_of_eq (ap (λ (x : ℕ). x * 2 ^ 30) (mul_comm 104 (down e)) ∙ mul_assoc (down e) 104 (2 ^ 30)))))
    (lit< tt))

pub quotient-few : (z : ℤ) → mag z < 151 * L → mag (quotient z L) ≤ 150
quotient-few (pos n) h = omega arith
quotient-few (negsuc n) h = omega arith

-- ---- a quotient q from -151 to 150 with 151 added, as the exponent of 2
pub lifted : (q : ℤ) → mag q ≤ 150 → (p : ℕ) × (q +ℤ pos 151 ≡ pos p) × (p < 512) × (minus p 181 ≡ q -ℤ pos 30)
lifted (pos x) h = (x + 151, refl, omega arith, cases (ltb x 30) refl)
  where
    cases : (b : Bool) → b ≡ ltb x 30 → minus (x + 151) 181 ≡ sub_ℕ x 30
    cases true e =
        let l : x < 30 = ltb-true x 30 (sym e) in
        ap (λ (b : Bool). cond b (pos (x + 151 - 181)) (negsuc (181 - suc (x + 151)))) (lt-leb 181 (x + 151) (omega arith)) ∙ ap negsuc (omega arith)
        ∙ ap (λ (b : Bool). cond b (negsuc (30 - suc x)) (pos (x - 30))) e
    cases false e =
        let l : 30 ≤ x = ltb-false x 30 (sym e) in
        ap (λ (b : Bool). cond b (pos (x + 151 - 181)) (negsuc (181 - suc (x + 151)))) (le-leb 181 (x + 151) (omega arith)) ∙ ap pos (omega arith)
        ∙ ap (λ (b : Bool). cond b (negsuc (30 - suc x)) (pos (x - 30))) e
lifted (negsuc x) h = (
  151 - suc x,
  ap (λ (b : Bool). cond b (negsuc (suc x - suc 151)) (pos (151 - suc x))) (le-ltb 151 (suc x) (omega arith)),
  omega arith,
  ap (λ (b : Bool). cond b (pos (151 - suc x - 181)) (negsuc (181 - suc (151 - suc x)))) (lt-leb 181 (151 - suc x) (omega arith)) ∙ ap negsuc (omega arith),
)

-- ---- the end: the sum by its exponent is what the definition rounds
pub answer : (z q : ℤ) (p rest s : ℕ) → Splits z q rest → minus p 181 ≡ q -ℤ pos 30 → s ≡ S rest 12 → round binary32 false (s * 2 ^ p) (2 ^ 181) ≡ of_q z
unfolding of_q
answer z q p rest s d l e =
    let w = quotient z L -ℤ pos 30 in
    let m : minus p 181 ≡ w = l ∙ ap (λ (x : ℤ). x -ℤ pos 30) d.floor in
    round_same binary32 false (s * 2 ^ p) (2 ^ 181) (s * up w) (down w) (pow_pos 181) (down_pos w) (sym (subst (λ (x : ℤ). s * up x * 2 ^ 181 ≡ s * 2 ^ p * down x) m (minus_val s p 181)))
    ∙ ap (λ (x : ℕ). round binary32 false (x * up w) (down w)) (e ∙ ap (λ (x : ℕ). S x 12) d.left)
