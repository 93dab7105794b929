-- The whole part of a root: what `whole_root` gives, and that only one number is it. Assumes nothing.
use Rattle.std.proofs.Common.{◌≡◌, ℕ, zero, suc, ◌+◌, ◌*◌, ◌/◌, ◌^◌, ◌<◌, ◌≤◌, Bool, true, false, cond, leb, sym, refl, ap, ◌∙◌, subst, le_of_eq, lt_of_lt_of_le, le_of_suc-le-suc, mul_assoc, suc-mul, mul_comm, div-lt_iff_lt-mul, mul-le-mul, le_antisymm, pow-suc, lt_of_not-le, mul-suc, not-le_of_lt, arith, lit<, leb-false, leb-true}
use Rattle.floats.specs.Root.{whole_root}

-- r is the whole part of the root of n
abbrev pub IsRoot : ℕ → ℕ → Type 0
IsRoot n r = (r * r ≤ n) × (n < suc r * suc r)

-- a number whose square is not above n is not above the root
pub under : (n a b : ℕ) → a * a ≤ n → n < suc b * suc b → a ≤ b
under n a b h l = le_of_suc-le-suc (lt_of_not-le (λ (g : suc b ≤ a). not-le_of_lt (lt_of_lt_of_le l (mul-le-mul g g)) h))

pub one-root : (n a b : ℕ) → IsRoot n a → IsRoot n b → a ≡ b
one-root n a b p q = le_antisymm (under n a b p.0 q.1) (under n b a q.0 p.1)

-- ---- one more digit
pub square-even : (r : ℕ) → (2 * r) * (2 * r) ≡ 4 * (r * r)
square-even r = mul_assoc 2 r (2 * r) ∙ ap (λ (x : ℕ). 2 * x) (sym (mul_assoc r 2 r) ∙ ap (λ (x : ℕ). x * r) (mul_comm r 2) ∙ mul_assoc 2 r r) ∙ sym (mul_assoc 2 2 (r * r))

pub square-next : (r : ℕ) → suc r * suc r ≡ r * r + 2 * r + 1
square-next r = suc-mul r (suc r) ∙ ap (λ (x : ℕ). x + suc r) (mul-suc r r) ∙ sums (r * r) r
  where
    sums : (a r : ℕ) → a + r + suc r ≡ a + 2 * r + 1
    sums a r = omega arith

step : (n r : ℕ) → IsRoot (n / 4) r → (b : Bool) → b ≡ leb (suc (2 * r) * suc (2 * r)) n → IsRoot n (cond b (suc (2 * r)) (2 * r))
step n r p true e =
    let c = square-even r in
    let d = square-next r in
    let f = square-next (2 * r) in
    let g = square-next (suc (2 * r)) in
    let x : r * r ≤ n / 4 = p.0 in
    let y : n / 4 < suc r * suc r = p.1 in
    (leb-true _ _ (sym e), omega arith)
step n r p false e =
    let c = square-even r in
    let x : r * r ≤ n / 4 = p.0 in
    (omega arith, leb-false _ _ (sym e))

pub whole_is : (d n : ℕ) → n < 4 ^ d → IsRoot n (whole_root d n)
unfolding whole_root
whole_is zero n h = (omega arith, lt_of_lt_of_le h (le_of_eq refl))
whole_is (suc d) n h = step n (whole_root d (n / 4)) (whole_is d (n / 4) ((div-lt_iff_lt-mul (lit< tt)).1 (subst (λ (x : ℕ). n < x) (pow-suc 4 d) h))) (leb (suc (2 * whole_root d (n / 4)) * suc (2 * whole_root d (n / 4))) n) refl
