-- `floats::exponential::exp` meets its contract: each early return is a case of the definition, and what is left goes through Q, its quotient and remainder, the sum and the rounding. Assumes nothing.
use Rattle.std.proofs.Common.{◌≡◌, ℕ, ◌*◌, ◌^◌, ◌<◌, ◌≤◌, true, false, cond, T, ℤ, pos, negsuc, ◌+ℤ◌, ◌-ℤ◌, nat_abs, sym, refl, ap, ◌∙◌, subst, le_refl, lt_of_le_of_lt, arith, lit≤, to_z-of_z, w64, Fits, SFits, to_z, of_z}
use lib.Signed.{mag, non_neg}
use lib.Ieee.{Float, nan, inf, fin, binary32, le, is_nan, of_bits, of_int, neg, minus}
use Rattle.floats.specs.Exponential.{L, S, of_q, of_finite, exp}
use Rattle.floats.specs.Private.{Splits}
use Rattle.floats.proofs.Pack.{no_nan}
use Rattle.floats.proofs.Series.{sum_le, sum_ge}
use Rattle.floats.proofs.Signs.{read}
use Rattle.floats.proofs.Exponent.{Small, IsQ, is-small, small_finite, places, scales, Q-mag, quotient-few, lifted, answer}
use Rattle.floats.proofs.exponential.exp.Goals as goal
use Rattle.floats.proofs.exponential.exp.Goals.{After-split-d}

-- ---- the constants as MIR has them
abbrev c89 : Float
c89 = of_bits binary32 0x42b2_0000

abbrev c104 : Float
c104 = neg (of_bits binary32 0x42d0_0000)

is-89 : c89 ≡ fin false 89 (pos 0)
unfolding of_bits
is-89 = refl

is-104 : c104 ≡ fin true 13 (pos 3)
unfolding of_bits neg
is-104 = refl

of-89 : of_int binary32 (pos 89) ≡ fin false 89 (pos 0)
unfolding of_int
of-89 = refl

of-104 : of_int binary32 (negsuc 103) ≡ fin true 13 (pos 3)
unfolding of_int
of-104 = refl

-- ---- the definition where the tests are as the arms found them
module _ (a : Float) where
  nan_is : is_nan a ≡ true → a ≡ exp a
  unfolding exp
  nan_is p = cc

  module _ (number : is_nan a ≡ false) where
    by_tests : exp a ≡ cond (le c89 a) (inf false) (cond (le a c104) (fin false 0 (pos 0)) (of_finite a))
    unfolding exp
    by_tests = rw (number, of-89 ∙ sym is-89, of-104 ∙ sym is-104)

    large_is : le c89 a ≡ true → of_bits binary32 0x7f80_0000 ≡ exp a
    unfolding of_bits
    large_is p = rw (by_tests, p)

    module _ (p : le c89 a ≡ false) where
      tiny-is : le a c104 ≡ true → of_bits binary32 0 ≡ exp a
      unfolding of_bits
      tiny-is q = rw (by_tests, p, q)

      module _ (q : le a c104 ≡ false) where
        small : Small a
        small = is-small a number (ap (λ (x : Float). le x a) (sym is-89) ∙ p) (ap (λ (x : Float). le a x) (sym is-104) ∙ q)

        by_parts : exp a ≡ of_finite a
        by_parts = rw (by_tests, p, q)

-- ---- the steps
finite-is : (a : Float) (z : ℤ) → IsQ a z → of_q z ≡ of_finite a
unfolding of_finite
finite-is nan z h = absurd h
finite-is (inf s) z h = absurd h
finite-is (fin s m e) z h = ap of_q h

-- a number of this size is read back as it is
read_back : (z : ℤ) → mag z < 151 * L → to_z w64 (of_z w64 z) ≡ z
read_back z h = to_z-of_z {w = w64} {z = z} (record { sfits = lt_of_le_of_lt (le_refl _) (omega arith) })

-- ---- what is known after `split`
past : (c : After-split-d) → Small c.args.a
past c = small c.args.a (sym c.is_nan.ensures.value ∙ c.if-is_nan.false) c.if-a.false c.if-a-2.false

scaled-is : (c : After-split-d) → IsQ c.args.a c.scaled-z.result
scaled-is c =
    let p = c.parts-p in
    let a = c.args.a in
    subst (λ (z : ℤ). IsQ a z) (sym c.scaled-z.ensures)
    (scales a p.result.negative p.result.digits p.result.place (past c) p.ensures (places a p.result.negative p.result.digits p.result.place (past c) p.ensures))

read_is : (c : After-split-d) → to_z w64 (of_z w64 c.scaled-z.result) ≡ c.scaled-z.result
read_is c = read_back c.scaled-z.result (Q-mag c.args.a c.scaled-z.result (past c) (scaled-is c))

splits : (c : After-split-d) → Splits c.scaled-z.result c.split-d.result.quotient c.split-d.result.rest
splits c = subst (λ (z : ℤ). Splits z c.split-d.result.quotient c.split-d.result.rest) (read_is c) c.split-d.ensures

few : (c : After-split-d) → mag c.split-d.result.quotient ≤ 150
few c =
    subst (λ (q : ℤ). mag q ≤ 150) (sym (splits c).floor)
    (quotient-few c.scaled-z.result (Q-mag c.args.a c.scaled-z.result (past c) (scaled-is c)))

-- a small quotient with 151 added, and cast
module _ (q : ℤ) (h : mag q ≤ 150) where
  p : ℕ
  p = (lifted q h).0

  sum_is : read w64 q +ℤ pos 151 ≡ pos p
  unfolding p
  sum_is = ap (λ (x : ℤ). x +ℤ pos 151) (to_z-of_z {w = w64} {z = q} (record { sfits = omega arith })) ∙ (lifted q h).1

  p-lt : p < 512
  unfolding p
  p-lt = (lifted q h).2

  sum_fits : SFits w64 (read w64 q +ℤ pos 151)
  sum_fits = let l = p-lt in subst (λ (x : ℤ). SFits w64 x) (sym sum_is) (record { sfits = omega arith })

  sum-held : read w64 (read w64 q +ℤ pos 151) ≡ pos p
  sum-held = to_z-of_z sum_fits ∙ sum_is

  sum-cast : T (non_neg (read w64 (read w64 q +ℤ pos 151))) × Fits w64 (nat_abs (read w64 (read w64 q +ℤ pos 151)))
  sum-cast = let l = p-lt in subst (λ (x : ℤ). T (non_neg x) × Fits w64 (nat_abs x)) (sym sum-held) (tt, record { fits = omega arith })

  sum_lt : nat_abs (read w64 (read w64 q +ℤ pos 151)) < 512
  sum_lt = subst (λ (x : ℤ). nat_abs x < 512) (sym sum-held) p-lt

  sum-minus : minus (nat_abs (read w64 (read w64 q +ℤ pos 151))) 181 ≡ q -ℤ pos 30
  unfolding p
  sum-minus = ap (λ (x : ℤ). minus (nat_abs x) 181) sum-held ∙ (lifted q h).3

bounds : (r s : ℕ) → r < L → s ≡ S r 12 → (2 ^ 30 ≤ s) × (s < 2 ^ 34)
bounds r s h e =
    let lo = sum_ge r (omega arith) 12 in
    let hi = sum_le r (omega arith) 12 in
    subst (λ (x : ℕ). (2 ^ 30 ≤ x) × (x < 2 ^ 34)) (sym e) (lo, omega arith)

pub returns-then-is_nan : goal.returns-then-is_nan
returns-then-is_nan c = nan_is c.args.a (sym c.is_nan.ensures.value ∙ c.if-is_nan.true)

pub float_from_bits-result : goal.float_from_bits-result
float_from_bits-result c = no_nan 0x7f80_0000 (lit≤ tt)

pub returns-then-a : goal.returns-then-a
returns-then-a c = large_is c.args.a (sym c.is_nan.ensures.value ∙ c.if-is_nan.false) c.if-a.true

pub returns-then-a-2 : goal.returns-then-a-2
returns-then-a-2 c = tiny-is c.args.a (sym c.is_nan.ensures.value ∙ c.if-is_nan.false) c.if-a.false c.if-a-2.true

pub parts-p-requires : goal.parts-p-requires
parts-p-requires c = small_finite c.args.a (small c.args.a (sym c.is_nan.ensures.value ∙ c.if-is_nan.false) c.if-a.false c.if-a-2.false)

pub scaled-z-requires : goal.scaled-z-requires
scaled-z-requires c =
    let p = c.parts-p in
    record {
      fact_1 = p.ensures.short;
      fact_2 = places c.args.a p.result.negative p.result.digits p.result.place (small c.args.a (sym c.is_nan.ensures.value ∙ c.if-is_nan.false) c.if-a.false c.if-a-2.false) p.ensures;
    }

pub overflow_add-q : goal.overflow_add-q
overflow_add-q c = sum_fits c.split-d.result.quotient (few (goal.at.overflow_add-q c).After-split-d)

pub overflow_cast-q : goal.overflow_cast-q
overflow_cast-q c = sum-cast c.split-d.result.quotient (few (goal.at.overflow_cast-q c).After-split-d)

pub rounded-requires : goal.rounded-requires
rounded-requires c =
    let p = splits (goal.at.rounded-requires c).After-split-d in
    let b = bounds c.split-d.result.rest c.summed.result p.small c.summed.ensures in
    record { fact_1 = b.0; fact_2 = b.1; fact_3 = sum_lt c.split-d.result.quotient (few (goal.at.rounded-requires c).After-split-d) }

pub returns : goal.returns
returns c =
    let a = c.args.a in
    let z = c.scaled-z.result in
    let d = c.split-d.result in
    c.rounded.ensures
    ∙ answer z d.quotient _ d.rest c.summed.result (splits (goal.at.returns c).After-split-d) (sum-minus d.quotient (few (goal.at.returns c).After-split-d)) c.summed.ensures
    ∙ finite-is a z (scaled-is (goal.at.returns c).After-split-d)
    ∙ sym (by_parts a (sym c.is_nan.ensures.value ∙ c.if-is_nan.false) c.if-a.false c.if-a-2.false)
