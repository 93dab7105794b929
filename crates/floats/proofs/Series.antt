-- The terms t(k) and their sum: how large they are, and one term more, by r and by a factor. Assumes nothing.
use Rattle.std.proofs.Common.{◌≡◌, ℕ, zero, suc, ◌+◌, ◌-◌, ◌*◌, ◌/◌, ◌%◌, ◌^◌, ◌<◌, ◌≤◌, sym, refl, ap, ◌∙◌, subst, le_trans, le_of_eq, le_refl, lt_of_lt_of_le, le-add_right, lt_of_le_of_lt, le_of_lt, add_assoc, mul-le-mul_right, zero-lt-suc, mul_assoc, suc-mul, mul_comm, mul-le-mul, lt_of_mul-lt-mul_right, mul-le-mul_left, mul-pos, mul-add, div-le_self, mul_right_comm, div-mul-le_self, le_of_mul-le-mul_right, add-one, arith, lit<, pow_pos}
use native.Mathlib.Nat.{div-eq_of_lt-le}
use native.Mathlib.Nat.{div-le_of_le-mul, div-div-eq-div-mul, lt-div-mul-add}
use lib.Ieee.Nearest.{div_mono}
use Rattle.floats.specs.Exponential.{L, t, S}
use Rattle.floats.specs.Private.{Summed}

-- the terms do not grow, since r is below 2^30
module _ (r : ℕ) (h : r < 2 ^ 30) where
  factor_le : (k : ℕ) → r ≤ suc k * 2 ^ 30
  factor_le k = omega arith

  pub term_le : (k : ℕ) → t r k ≤ 2 ^ 30
  unfolding t
  term_le zero = le_refl (2 ^ 30)
  term_le (suc k) =
      le_trans (div-le_of_le-mul (suc k * 2 ^ 30) (le_trans (mul-le-mul (le_refl (t r k)) (factor_le k)) (le_of_eq (mul_comm (t r k) (suc k * 2 ^ 30))))) (term_le k)

  pub sum_le : (k : ℕ) → S r k ≤ suc k * 2 ^ 30
  unfolding S t
  sum_le zero = le_refl (2 ^ 30)
  sum_le (suc k) = let a = sum_le k in let b = term_le (suc k) in omega arith

  pub sum_ge : (k : ℕ) → 2 ^ 30 ≤ S r k
  unfolding S t
  sum_ge zero = le_refl (2 ^ 30)
  sum_ge (suc k) = le_trans (sum_ge k) (le-add_right (S r k) (t r (suc k)))

-- the terms and their sum are largest for the largest r
pub terms_grow : (r R k : ℕ) → r ≤ R → t r k ≤ t R k
unfolding t
terms_grow r R zero h = le_refl (2 ^ 30)
terms_grow r R (suc k) h =
    let d : 0 < suc k * 2 ^ 30 = mul-pos (zero-lt-suc k) (pow_pos 30) in
    div_mono (t r k * r) (suc k * 2 ^ 30) (t R k * R) (suc k * 2 ^ 30) d d (mul-le-mul_right (suc k * 2 ^ 30) (mul-le-mul (terms_grow r R k h) h))

sums_grow : (r R k : ℕ) → r ≤ R → S r k ≤ S R k
unfolding S
sums_grow r R zero h = terms_grow r R 0 h
sums_grow r R (suc k) h = let a = sums_grow r R k h in let b = terms_grow r R (suc k) h in omega arith

sum_lt : (r : ℕ) → r < L → S r 12 < 2 ^ 31
unfolding S t
sum_lt r h = lt_of_le_of_lt (sums_grow r (L - 1) 12 (omega arith)) (lit< tt)

-- ---- t(k - 1) is small enough for `one_small`, and so it is for every r where it is for the largest
abbrev pub Small : ℕ → ℕ → ℕ → Type 0
Small k last r = (last * (k - 1) < 2 ^ 20) × (last * r < k * 2 ^ 44)

pub smaller : (r k last total : ℕ) → r < L → Summed r (k - 1) last total → Small k (t (L - 1) (k - 1)) (L - 1) → Small k last r
smaller r k last total h s top =
    let few : last ≤ t (L - 1) (k - 1) = subst (λ (x : ℕ). x ≤ t (L - 1) (k - 1)) (sym s.term) (terms_grow r (L - 1) (k - 1) (omega arith)) in
    (lt_of_le_of_lt (mul-le-mul_right (k - 1) few) top.0, lt_of_le_of_lt (mul-le-mul few (omega arith)) top.1)

-- ---- the code has the sum without its t0, 2^30
pub none : (r : ℕ) → r < L → Summed r 0 (2 ^ 30) (2 ^ 30 + 0)
unfolding S t
none r h = record { low = omega arith; term = refl; sum = refl }

pub all : (r last above : ℕ) → r < L → Summed r 12 last (2 ^ 30 + above) → 2 ^ 30 + above % 2 ^ 30 ≡ S r 12
all r last above h s = let e = s.sum in let b = sum_lt r h in omega arith

-- one term more, and what the code asks on the way to it
pub record Stepped (r k last above : ℕ) : Type 0 where
  pub product : last * r ≤ 2 ^ 60
  pub divided : last * r / 2 ^ 30 / k ≤ 2 ^ 30
  pub room : above ≤ k * 2 ^ 30
  pub next : Summed r k (last * r / 2 ^ 30 / k) (2 ^ 30 + (above + last * r / 2 ^ 30 / k))

-- dividing by k × 2^30 is dividing by 2^30, which is a shift, and then by k
next-term : (r k last total : ℕ) → Summed r (suc k - 1) last total → last * r / 2 ^ 30 / suc k ≡ t r (suc k)
unfolding t
next-term r k last total s =
    let same : suc k - 1 ≡ k = omega arith in
    div-div-eq-div-mul (last * r) (2 ^ 30) (suc k) ∙ ap (λ (x : ℕ). last * r / x) (mul_comm (2 ^ 30) (suc k)) ∙ ap (λ (x : ℕ). x * r / (suc k * 2 ^ 30)) (s.term ∙ ap (t r) same)

next-sum : (r k last total : ℕ) → Summed r (suc k - 1) last total → total + last * r / 2 ^ 30 / suc k ≡ S r (suc k)
unfolding S
next-sum r k last total s =
    let same : suc k - 1 ≡ k = omega arith in
    ap (λ (x : ℕ). x + last * r / 2 ^ 30 / suc k) (s.sum ∙ ap (S r) same) ∙ ap (λ (x : ℕ). S r k + x) (next-term r k last total s)

pub step : (r k last above : ℕ) → 0 < k → Summed r (k - 1) last (2 ^ 30 + above) → Stepped r k last above
step r zero last above some s = absurd (omega arith)
step r (suc k) last above some s = record {
  product = product;
  divided = le_trans (div-le_self (last * r / 2 ^ 30) (suc k)) (let p = product in omega arith);
  room = room;
  next = record { low = s.low; term = next-term r k last _ s; sum = sym (add_assoc (2 ^ 30) above _) ∙ next-sum r k last _ s };
}
  where
    product : last * r ≤ 2 ^ 60
    product = mul-le-mul (subst (λ (x : ℕ). x ≤ 2 ^ 30) (sym s.term) (term_le r s.low (suc k - 1))) (le_of_lt s.low)

    room : above ≤ suc k * 2 ^ 30
    room = let e = s.sum in let a = sum_le r s.low (suc k - 1) in omega arith

-- ---- r × b / k rounded up, as a factor with b more places: for an x that is small beside b, x times it divided by a × b is x × r divided by a and by k
module _ (x r k a b : ℕ) (some : 0 < k) (few : x * (k - 1) < b) where
  factor : ℕ
  factor = (r * b + (k - 1)) / k

  factor_ge : r * b ≤ factor * k
  unfolding factor
  factor_ge = let h = lt-div-mul-add {a = r * b + (k - 1)} {b = k} some in omega arith

  -- x × factor is x × r × b / k, and less than b / k more
  factor_lt : x * ((r * b + (k - 1)) / k) * k < suc (x * r) * b
  factor_lt =
      let h : x * ((r * b + (k - 1)) / k * k) ≤ x * (r * b + (k - 1)) = mul-le-mul_left x (div-mul-le_self (r * b + (k - 1)) k) in
      let e = mul_assoc x ((r * b + (k - 1)) / k) k in
      let d = mul-add x (r * b) (k - 1) in
      let m = mul_assoc x r b in
      let n = suc-mul (x * r) b in
      omega arith

  abbrev q : ℕ
  q = x * r / a / k

  regroup : (y : ℕ) → y * (a * b) * k ≡ y * (a * k) * b
  regroup y = ap (λ (z : ℕ). z * k) (sym (mul_assoc y a b)) ∙ mul_right_comm (y * a) b k ∙ ap (λ (z : ℕ). z * b) (mul_assoc y a k)

  q_le : q * (a * k) ≤ x * r
  q_le = subst (λ (y : ℕ). y * (a * k) ≤ x * r) (sym (div-div-eq-div-mul (x * r) a k)) (div-mul-le_self (x * r) (a * k))

  q_lt : 0 < a → suc (x * r) ≤ (q + 1) * (a * k)
  q_lt h =
      subst (λ (y : ℕ). x * r < (y + 1) * (a * k)) (sym (div-div-eq-div-mul (x * r) a k))
      (lt_of_lt_of_le (lt-div-mul-add (mul-pos h some)) (le_of_eq (sym (suc-mul (x * r / (a * k)) (a * k)) ∙ ap (λ (y : ℕ). y * (a * k)) (sym (add-one (x * r / (a * k)))))))

  by_factor : 0 < a → x * ((r * b + (k - 1)) / k) / (a * b) ≡ x * r / a / k
  unfolding factor
  by_factor h = div-eq_of_lt-le (a * b) least most
    where
      least : q * (a * b) ≤ x * factor
      least =
          le_of_mul-le-mul_right {k = k}
          (le_trans (le_of_eq (regroup q)) (le_trans (mul-le-mul_right b q_le)
          (le_trans (le_of_eq (mul_assoc x r b)) (le_trans (mul-le-mul_left x factor_ge) (le_of_eq (sym (mul_assoc x factor k)))))))
          some

      most : x * factor < (q + 1) * (a * b)
      most = lt_of_mul-lt-mul_right k (lt_of_lt_of_le factor_lt (le_trans (mul-le-mul_right b (q_lt h)) (le_of_eq (sym (regroup (q + 1))))))

-- one term more by the factor, for which t(k - 1) is small, and what the code asks on the way to it
pub record SmallStepped (r k last above : ℕ) : Type 0 where
  pub product : last * ((r * 2 ^ 20 + (k - 1)) / k) < 2 ^ 64
  pub shifted : last * ((r * 2 ^ 20 + (k - 1)) / k) / 2 ^ 50 ≤ 2 ^ 30
  pub room : above ≤ k * 2 ^ 30
  pub next : Summed r k (last * ((r * 2 ^ 20 + (k - 1)) / k) / 2 ^ 50) (2 ^ 30 + (above + last * ((r * 2 ^ 20 + (k - 1)) / k) / 2 ^ 50))

pub small_step : (r k last above : ℕ) → 0 < k → Summed r (k - 1) last (2 ^ 30 + above) → Small k last r → SmallStepped r k last above
small_step r k last above some s small =
    let one = step r k last above some s in
    let same : last * ((r * 2 ^ 20 + (k - 1)) / k) / 2 ^ 50 ≡ last * r / 2 ^ 30 / k = by_factor last r k (2 ^ 30) (2 ^ 20) some small.0 (lit< tt) in
    let few = factor_lt last r k (2 ^ 30) (2 ^ 20) some small.0 in
    let low : last * r < k * 2 ^ 44 = small.1 in
    record {
      product = lt_of_mul-lt-mul_right k (omega arith);
      shifted = subst (λ (x : ℕ). x ≤ 2 ^ 30) (sym same) one.divided;
      room = one.room;
      next = subst (λ (x : ℕ). Summed r k x (2 ^ 30 + (above + x))) (sym same) one.next;
    }

-- ---- of the largest r the last two terms are 0
pub last_terms : (r : ℕ) → r < L → (t r 11 ≡ 0) × (t r 12 ≡ 0)
unfolding t
last_terms r h = (none_left (terms_grow r (L - 1) 11 (omega arith)), none_left (terms_grow r (L - 1) 12 (omega arith)))
  where
    none_left : {n : ℕ} → n ≤ 0 → n ≡ 0
    none_left h = omega arith
