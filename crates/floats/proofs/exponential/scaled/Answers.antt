-- `floats::exponential::scaled` meets its contract: a negative number rounded down is -1 minus one less than its magnitude, rounded down. Assumes nothing.
use Rattle.std.proofs.Common.{◌≡◌, ℕ, zero, suc, ◌-◌, ◌/◌, ◌^◌, ◌<◌, Bool, true, false, pos, negsuc, ◌-ℤ◌, sym, refl, ap, ◌∙◌, div-le_self, arith, w64, to_z}
use native.Mathlib.Nat.{zero-div}
use Rattle.floats.specs.Exponential.{quotient, signed}
use Rattle.floats.proofs.Signs.{read, cast_fits, cast_is, turned-fits, turned-is}
use Rattle.floats.proofs.exponential.scaled.Goals as goal

quotient-lt : (n d r : ℕ) → r ≡ n / d → n < 2 ^ 38 → r < 2 ^ 63
quotient-lt n d r e h = let a = div-le_self n d in omega arith

zero_is : (s : Bool) (n d : ℕ) → n ≡ 0 → s ≡ true → pos 0 ≡ quotient (signed s n) d
zero_is s n d e t = ap pos (sym (zero-div d)) ∙ ap (λ (x : ℕ). quotient (signed true x) d) (sym e) ∙ ap (λ (x : Bool). quotient (signed x n) d) (sym t)

mirrored : (n r d : ℕ) → (n ≡ 0 → ⊥) → r ≡ (n - 1) / d → negsuc r ≡ quotient (signed true n) d
mirrored zero r d some e = absurd (some refl)
mirrored (suc n) r d some e = ap negsuc (e ∙ ap (λ (x : ℕ). x / d) (omega arith))

below-is : (s : Bool) (n r d : ℕ) → (n ≡ 0 → ⊥) → n < 2 ^ 38 → s ≡ true → r ≡ (n - 1) / d → read w64 (negsuc 0 -ℤ to_z w64 r) ≡ quotient (signed s n) d
below-is s n r d some h t e = turned-is r (quotient-lt (n - 1) d r e (omega arith)) ∙ mirrored n r d some e ∙ ap (λ (x : Bool). quotient (signed x n) d) (sym t)

above-is : (s : Bool) (n r d : ℕ) → n < 2 ^ 38 → s ≡ false → r ≡ n / d → to_z w64 r ≡ quotient (signed s n) d
above-is s n r d h t e = cast_is r (quotient-lt n d r e h) ∙ ap pos e ∙ ap (λ (x : Bool). quotient (signed x n) d) (sym t)

pub overflow_cast-result : goal.overflow_cast-result
overflow_cast-result c = cast_fits c.right.result (quotient-lt _ _ c.right.result c.right.ensures (omega arith))

pub overflow_sub-result : goal.overflow_sub-result
overflow_sub-result c = turned-fits c.right.result (quotient-lt _ _ c.right.result c.right.ensures (omega arith))

pub overflow_cast-result-else-negative : goal.overflow_cast-result-else-negative
overflow_cast-result-else-negative c = cast_fits c.right-else-negative.result (quotient-lt _ _ c.right-else-negative.result c.right-else-negative.ensures (omega arith))

pub returns-then-wide-eq0 : goal.returns-then-wide-eq0
returns-then-wide-eq0 c = zero_is _ _ _ c.if-wide-eq0.true c.if-negative.true

pub returns-else-wide-eq0 : goal.returns-else-wide-eq0
returns-else-wide-eq0 c = below-is _ _ c.right.result _ c.if-wide-eq0.false (omega arith) c.if-negative.true c.right.ensures

pub returns-else-negative : goal.returns-else-negative
returns-else-negative c = above-is _ _ c.right-else-negative.result _ (omega arith) c.if-negative.false c.right-else-negative.ensures
