-- `number::digits_of` meets its contract. The loop's invariant: the digits before place i are read, and what is left decides. Assumes nothing.
use mathlib.Core.Path.{sym, ◌∙◌}
use native.Mathlib.Omega.{arith}
use lib.ListN.{get_or}
use Rattle.mot_number.proofs.Forms.{digit_low, digit_small, count-start, count-on, count_fails, count_small, count-ends, none_read, many_read, other_read, all_read}
use Rattle.mot_number.proofs.number.digits_of.Goals as goal

pub returns-then-n-eq0 : goal.returns-then-n-eq0
returns-then-n-eq0 c = none_read c.args.text.now c.args.before c.if-n-eq0.true

pub returns-then-n-gt6 : goal.returns-then-n-gt6
returns-then-n-gt6 c = many_read c.args.text.now c.args.before (omega (arith, c.if-n-gt6.true))

pub returns-then-not-is_digit : goal.returns-then-not-is_digit
returns-then-not-is_digit c =
    other_read c.args.text.now c.args.before
    (count_fails c.loop-b.invariant c.loop-b-test.true (sym c.is_digit.ensures ∙ c.if-not-is_digit.true))

pub overflow_mul-value : goal.overflow_mul-value
overflow_mul-value c = record { fits = omega (arith, count_small c.loop-b.invariant c.requires (omega (arith, c.if-n-gt6.false, c.loop-b-test.true))) }

pub overflow_sub-value : goal.overflow_sub-value
overflow_sub-value c = digit_low _ (sym c.is_digit.ensures ∙ c.if-not-is_digit.false)

pub overflow_cast-value : goal.overflow_cast-value
overflow_cast-value c = record { fits = omega (arith, digit_small (get_or c.args.text.now c.loop-b.b-index 0) (sym c.is_digit.ensures ∙ c.if-not-is_digit.false)) }

pub overflow_add-value : goal.overflow_add-value
overflow_add-value c = record { fits = omega (arith, count_small c.loop-b.invariant c.requires (omega (arith, c.if-n-gt6.false, c.loop-b-test.true)), digit_small (get_or c.args.text.now c.loop-b.b-index 0) (sym c.is_digit.ensures ∙ c.if-not-is_digit.false)) }

pub loop-b-preserved : goal.loop-b-preserved
loop-b-preserved c = count-on c.loop-b.invariant c.loop-b-test.true (sym c.is_digit.ensures ∙ c.if-not-is_digit.false)

pub returns : goal.returns
returns c =
    all_read c.args.text.now c.args.before c.if-n-eq0.false c.if-n-gt6.false c.loop-b.value (count-ends c.loop-b.invariant c.loop-b-test.false)

pub loop-b-init : goal.loop-b-init
loop-b-init c = count-start _ _
