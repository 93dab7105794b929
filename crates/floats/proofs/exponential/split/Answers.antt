-- `floats::exponential::split` meets its contract, by the sign of z. Assumes nothing.
use Rattle.std.proofs.Common.{◌≡◌, ℕ, ◌-◌, ◌/◌, ◌%◌, ◌^◌, ◌<◌, true, false, ℤ, pos, negsuc, ◌-ℤ◌, nat_abs, sym, refl, ap, ◌∙◌, subst, mod-lt, zero-lt-suc, arith, w64, SFits, to_z}
use lib.Signed.{lt_z}
use Rattle.floats.specs.Exponential.{L}
use Rattle.floats.specs.Private.{Splits}
use Rattle.floats.proofs.Signs.{read, below, mirror_fits, mirror_is, mirror_cast, above, held-is, held_cast, cast_fits, cast_is, turned-fits, turned-is}
use Rattle.floats.proofs.exponential.split.Goals as goal

quotient-lt : (n : ℕ) → n < 2 ^ 63 → n / L < 2 ^ 63
quotient-lt n h = omega arith

-- the two arms, of -(n + 1) and of n
down : (n : ℕ) → n < 2 ^ 63 → Splits (negsuc n) (read w64 (negsuc 0 -ℤ to_z w64 (n / L))) (744261117 - n % L)
down n h = let y : n % L < L = mod-lt n (zero-lt-suc _) in record { floor = turned-is (n / L) (quotient-lt n h); left = omega arith; small = omega arith }

up : (n : ℕ) → n < 2 ^ 63 → Splits (pos n) (to_z w64 (n / L)) (n % L)
up n h = record { floor = cast_is (n / L) (quotient-lt n h); left = refl; small = mod-lt n (zero-lt-suc _) }

module _ (z : ℤ) (h : SFits w64 z) where
  module _ (t : lt_z (read w64 z) (pos 0) ≡ true) where
    abbrev n : ℕ
    n = nat_abs (read w64 (negsuc 0 -ℤ read w64 z))

    n-lt : n < 2 ^ 63
    n-lt = subst (λ (x : ℕ). x < 2 ^ 63) (sym (mirror_is w64 z h t)) (below w64 z h t).3

    splits-down : Splits z (read w64 (negsuc 0 -ℤ to_z w64 (n / L))) (744261117 - n % L)
    splits-down = subst (λ (x : ℤ). Splits x (read w64 (negsuc 0 -ℤ to_z w64 (n / L))) (744261117 - n % L)) (ap negsuc (mirror_is w64 z h t) ∙ sym (below w64 z h t).1) (down n n-lt)

  module _ (t : lt_z (read w64 z) (pos 0) ≡ false) where
    abbrev m : ℕ
    m = nat_abs (read w64 z)

    m-lt : m < 2 ^ 63
    m-lt = subst (λ (x : ℕ). x < 2 ^ 63) (sym (held-is w64 z h t)) (above w64 z h t).3

    splits-up : Splits z (to_z w64 (m / L)) (m % L)
    splits-up = subst (λ (x : ℤ). Splits x (to_z w64 (m / L)) (m % L)) (ap pos (held-is w64 z h t) ∙ sym (above w64 z h t).1) (up m m-lt)

pub overflow_sub-n : goal.overflow_sub-n
overflow_sub-n c = mirror_fits w64 c.args.z c.ranges.z c.if-z-lt0.true

pub overflow_cast-n : goal.overflow_cast-n
overflow_cast-n c = mirror_cast w64 c.args.z c.ranges.z c.if-z-lt0.true tt

pub overflow_cast-q : goal.overflow_cast-q
overflow_cast-q c = cast_fits _ (quotient-lt _ (n-lt c.args.z c.ranges.z c.if-z-lt0.true))

pub overflow_sub-q : goal.overflow_sub-q
overflow_sub-q c = turned-fits _ (quotient-lt _ (n-lt c.args.z c.ranges.z c.if-z-lt0.true))

pub overflow_cast-n-else-z-lt0 : goal.overflow_cast-n-else-z-lt0
overflow_cast-n-else-z-lt0 c = held_cast w64 c.args.z c.ranges.z c.if-z-lt0.false tt

pub returns-then-z-lt0 : goal.returns-then-z-lt0
returns-then-z-lt0 c = splits-down c.args.z c.ranges.z c.if-z-lt0.true

pub returns-else-z-lt0 : goal.returns-else-z-lt0
returns-else-z-lt0 c = splits-up c.args.z c.ranges.z c.if-z-lt0.false

pub overflow_cast-result : goal.overflow_cast-result
overflow_cast-result c = cast_fits _ (quotient-lt _ (m-lt c.args.z c.ranges.z c.if-z-lt0.false))
