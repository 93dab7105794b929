-- `assignment::linear_assignment` meets its contract. The local array is lent with a byte for each row. Assumes nothing.
use mathlib.Core.Path.{◌≡◌, sym, ◌∙◌}
use Rattle.std.proofs.Common.{Err, rules}
use native.Mathlib.Omega.{arith}
use lib.Seq.{length-take-le}
use Rattle.assoc_assignment.proofs.AnswerLaws.{assignment-ready}
use Rattle.assoc_assignment.proofs.EndLaws.{assignment-refused, assignment-accepted}
use Rattle.assoc_assignment.proofs.assignment.linear_assignment.Goals as goal

pub returns-in_err-assignment_verdict : goal.returns-in_err-assignment_verdict
returns-in_err-assignment_verdict c =
    let e : c.from_residual.result ≡ Err c.in_err-assignment_verdict.field-0.0 = search rules in
    rw e (assignment-refused _ _ _ _ _ _ c.assignment_verdict.ensures c.in_err-assignment_verdict.was)

pub slice_bounds-partner-end : goal.slice_bounds-partner-end
slice_bounds-partner-end c =
    let ready = assignment-ready _ _ _ _ _ _ (sym c.assignment_verdict.ensures ∙ c.in_ok-assignment_verdict.was) in
    omega (arith, ready.few-rows)

pub slice_bounds-assign_with-end : goal.slice_bounds-assign_with-end
slice_bounds-assign_with-end c =
    let ready = assignment-ready _ _ _ _ _ _ (sym c.assignment_verdict.ensures ∙ c.in_ok-assignment_verdict.was) in
    sym (length-take-le _ _ (omega (arith, ready.few-rows)))

pub assign_with-requires : goal.assign_with-requires
assign_with-requires c =
    let ready = assignment-ready _ _ _ _ _ _ (sym c.assignment_verdict.ensures ∙ c.in_ok-assignment_verdict.was) in
    record { ready = ready; rows = length-take-le _ _ (omega (arith, ready.few-rows)) }

pub returns : goal.returns
returns c =
    c.assign_with.ensures ∙ assignment-accepted _ _ _ _ _ _ (sym c.assignment_verdict.ensures ∙ c.in_ok-assignment_verdict.was)
