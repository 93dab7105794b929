-- `fraction::magnitude` meets its contract: what is divided, rounded and packed is the fraction rounded. Assumes nothing.
use mathlib.Core.Path.{◌≡◌, sym, ap, subst, ◌∙◌}
use mathlib.Core.Bool.{false}
use Prim.Native.Nat.{ℕ, ◌^◌, ◌<◌}
use native.Mathlib.Omega.{arith}
use lib.Ieee.{binary32, round, of_bits}
use Rattle.mot_number.proofs.Rounded.{round_zero}
use Rattle.mot_number.proofs.Quotient.{bool_is, zeros_lt, spare_lt, spare_ge, more_le, unit_some, unit_few, unit_whole, quotient_kept, quotient-rounds}
use Rattle.mot_number.proofs.fraction.magnitude.Goals as goal

-- nothing over den is 0
none : (num den : ℕ) → num ≡ 0 → 0 < den → of_bits binary32 0 ≡ round binary32 false num den
unfolding of_bits
none num den e h = sym (ap (λ (x : ℕ). round binary32 false x den) e ∙ round_zero false den h)

pub returns-then-num-eq0 : goal.returns-then-num-eq0
returns-then-num-eq0 c = none c.args.num c.args.den c.if-num-eq0.true c.requires.fact_1

pub overflow_cast-top : goal.overflow_cast-top
overflow_cast-top c = record { fits = omega (arith, zeros_lt c.args.num c.args.den c.if-num-eq0.false c.ranges.num.fits c.requires.fact_1 c.requires.fact_2) }

pub overflow_shl-top : goal.overflow_shl-top
overflow_shl-top c = zeros_lt c.args.num c.args.den c.if-num-eq0.false c.ranges.num.fits c.requires.fact_1 c.requires.fact_2

pub overflow_cast-spare : goal.overflow_cast-spare
overflow_cast-spare c = record { fits = omega (arith, spare_lt c.args.num c.args.den c.if-num-eq0.false c.ranges.num.fits c.requires.fact_1 c.requires.fact_2) }

pub overflow_shl-den : goal.overflow_shl-den
overflow_shl-den c = spare_lt c.args.num c.args.den c.if-num-eq0.false c.ranges.num.fits c.requires.fact_1 c.requires.fact_2

pub overflow_sub-unit : goal.overflow_sub-unit
overflow_sub-unit c = spare_ge c.args.num c.args.den c.if-num-eq0.false c.ranges.num.fits c.requires.fact_1 c.requires.fact_2

pub overflow_add-unit : goal.overflow_add-unit
overflow_add-unit c = record { fits = omega (arith, spare_lt c.args.num c.args.den c.if-num-eq0.false c.ranges.num.fits c.requires.fact_1 c.requires.fact_2, more_le c.args.num c.args.den c.if-num-eq0.false c.ranges.num.fits c.requires.fact_1 c.requires.fact_2 c.from-more.result (c.from-more.ensures ∙ bool_is _)) }

pub overflow_cast-unit : goal.overflow_cast-unit
overflow_cast-unit c = record { fits = omega (arith, spare_lt c.args.num c.args.den c.if-num-eq0.false c.ranges.num.fits c.requires.fact_1 c.requires.fact_2, more_le c.args.num c.args.den c.if-num-eq0.false c.ranges.num.fits c.requires.fact_1 c.requires.fact_2 c.from-more.result (c.from-more.ensures ∙ bool_is _)) }

pub overflow_shl-unit : goal.overflow_shl-unit
overflow_shl-unit c =
    let low = spare_ge c.args.num c.args.den c.if-num-eq0.false c.ranges.num.fits c.requires.fact_1 c.requires.fact_2 in
    let high = spare_lt c.args.num c.args.den c.if-num-eq0.false c.ranges.num.fits c.requires.fact_1 c.requires.fact_2 in
    let more = more_le c.args.num c.args.den c.if-num-eq0.false c.ranges.num.fits c.requires.fact_1 c.requires.fact_2 c.from-more.result (c.from-more.ensures ∙ bool_is _) in
    omega arith

pub nearest-requires : goal.nearest-requires
nearest-requires c =
    let at = c.if-num-eq0.false in
    let w = unit_whole c.args.num c.args.den at c.ranges.num.fits c.requires.fact_1 c.requires.fact_2 c.from-more.result (c.from-more.ensures ∙ bool_is _) in
    let asked = subst (λ (x : ℕ). (1 < x) × (x < 2 ^ 42)) (sym w) (
      unit_some c.args.num c.args.den at c.ranges.num.fits c.requires.fact_1 c.requires.fact_2 c.from-more.result (c.from-more.ensures ∙ bool_is _),
      unit_few c.args.num c.args.den at c.ranges.num.fits c.requires.fact_1 c.requires.fact_2 c.from-more.result (c.from-more.ensures ∙ bool_is _),
    ) in record { fact_1 = asked.0; fact_2 = asked.1 }

pub overflow_add-spare : goal.overflow_add-spare
overflow_add-spare c = record { fits = omega (arith, spare_lt c.args.num c.args.den c.if-num-eq0.false c.ranges.num.fits c.requires.fact_1 c.requires.fact_2) }

pub overflow_add-spare-2 : goal.overflow_add-spare-2
overflow_add-spare-2 c = record { fits = omega (arith, spare_lt c.args.num c.args.den c.if-num-eq0.false c.ranges.num.fits c.requires.fact_1 c.requires.fact_2, more_le c.args.num c.args.den c.if-num-eq0.false c.ranges.num.fits c.requires.fact_1 c.requires.fact_2 c.from-more.result (c.from-more.ensures ∙ bool_is _)) }

pub overflow_sub-spare : goal.overflow_sub-spare
overflow_sub-spare c = omega (arith, zeros_lt c.args.num c.args.den c.if-num-eq0.false c.ranges.num.fits c.requires.fact_1 c.requires.fact_2)

pub packed-requires : goal.packed-requires
packed-requires c =
    let k = quotient_kept c.args.num c.args.den c.if-num-eq0.false c.ranges.num.fits c.requires.fact_1 c.requires.fact_2 c.from-more.result (c.from-more.ensures ∙ bool_is _) c.nearest.result c.nearest.ensures in
    record { fact_1 = k.0; fact_2 = k.1; fact_3 = omega (arith, spare_lt c.args.num c.args.den c.if-num-eq0.false c.ranges.num.fits c.requires.fact_1 c.requires.fact_2, more_le c.args.num c.args.den c.if-num-eq0.false c.ranges.num.fits c.requires.fact_1 c.requires.fact_2 c.from-more.result (c.from-more.ensures ∙ bool_is _)) }

pub returns : goal.returns
returns c =
    c.packed.ensures ∙ quotient-rounds c.args.num c.args.den c.if-num-eq0.false c.ranges.num.fits c.requires.fact_1 c.requires.fact_2 c.from-more.result (c.from-more.ensures ∙ bool_is _) c.nearest.result c.nearest.ensures
