-- `number::rounded` meets its contract: the table has the powers of ten, and a sign is only written before. Assumes nothing.
use mathlib.Core.Path.{◌≡◌, sym, ap, subst, ◌∙◌}
use mathlib.Core.Bool.{Bool, true, false}
use Prim.Native.Nat.{ℕ, ◌^◌, ◌<◌}
use native.Mathlib.Nat.{one-le-pow, lt_of_le_of_lt, pow-le-pow_right}
use native.Mathlib.Omega.{arith}
use lib.Dec.{lit<}
use lib.Ieee.{binary32, neg, round}
use Rattle.mot_number.specs.Number.{rounded}
use Rattle.mot_number.proofs.Powers.{power_at}
use Rattle.mot_number.proofs.Rounded.{round_neg}
use Rattle.mot_number.proofs.number.rounded.Goals as goal

power_small : (k : ℕ) → k < 7 → (0 < 10 ^ k) × (10 ^ k < 2 ^ 40)
power_small k h = (one-le-pow k 10 (lit< tt), lt_of_le_of_lt (pow-le-pow_right (lit< tt) {i = k} {j = 6} (omega arith)) (lit< tt))

with-sign : (negative s : Bool) (m k d : ℕ) → negative ≡ s → d ≡ 10 ^ k → round binary32 s m d ≡ rounded negative m k
with-sign negative s m k d e f = rw (e, f)

pub magnitude-size-requires : goal.magnitude-size-requires
magnitude-size-requires c = let asked = subst (λ (x : ℕ). (0 < x) × (x < 2 ^ 40)) (sym (power_at c.args.k c.requires)) (power_small c.args.k c.requires) in record { fact_1 = asked.0; fact_2 = asked.1 }

pub returns-then-negative : goal.returns-then-negative
returns-then-negative c =
    ap neg c.magnitude-size.ensures ∙ round_neg c.args.m _ ∙ with-sign c.args.negative true c.args.m c.args.k _ c.if-negative.true (power_at c.args.k c.requires)

pub returns-else-negative : goal.returns-else-negative
returns-else-negative c =
    c.magnitude-size.ensures ∙ with-sign c.args.negative false c.args.m c.args.k _ c.if-negative.false (power_at c.args.k c.requires)
