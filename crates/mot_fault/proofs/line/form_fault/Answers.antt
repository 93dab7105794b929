-- `line::form_fault` meets its contract. The loop's invariant: the fields before place `at` are fine, and what is left decides. Assumes nothing.
use mathlib.Core.Path.{◌≡◌, sym, subst}
use Prim.Native.Nat.{ℕ, ◌≤◌}
use lib.ListN.{length}
use lib.Seq.{length-take-le}
use Rattle.std.proofs.Common.{rules, Err}
use Rattle.mot_number.proofs.Index.{index_le}
use Rattle.mot_fault.proofs.Walking.{after, look_found, look_fine, look_ends, look_on, look_full}
use Rattle.mot_fault.proofs.line.form_fault.Goals as goal

-- the field is a part of what is left
pub slice_bounds-field_fault-end : goal.slice_bounds-field_fault-end
slice_bounds-field_fault-end c =
    let rest = after c.args.body.now c.loop-i.at in
    sym (length-take-le c.comma-end.result rest (subst (λ (x : ℕ). x ≤ length rest) (sym c.comma-end.ensures) (index_le 44 rest)))

pub returns-in_err-in_field : goal.returns-in_err-in_field
returns-in_err-in_field c =
    let e : c.from_residual.result ≡ Err c.in_err-in_field.field-0.0 = search rules in
    rw (e, ← c.in_err-in_field.was)
    (look_found c.loop-i.invariant c.loop-i-test.true c.comma-end.result c.comma-end.ensures c.field_fault.result c.field_fault.ensures c.in_field.result c.in_field.ensures _ c.in_err-in_field.was)

pub returns-then-rest-end : goal.returns-then-rest-end
returns-then-rest-end c =
    look_ends c.loop-i.invariant c.loop-i-test.true c.comma-end.result c.comma-end.ensures c.field_fault.result c.field_fault.ensures
    (look_fine c.loop-i.invariant c.loop-i-test.true c.comma-end.result c.comma-end.ensures c.field_fault.result c.field_fault.ensures c.in_field.result c.in_field.ensures c.in_ok-in_field.was) c.if-rest-end.true

pub loop-i-preserved : goal.loop-i-preserved
loop-i-preserved c =
    look_on c.loop-i.invariant c.loop-i-test.true c.comma-end.result c.comma-end.ensures c.field_fault.result c.field_fault.ensures
    (look_fine c.loop-i.invariant c.loop-i-test.true c.comma-end.result c.comma-end.ensures c.field_fault.result c.field_fault.ensures c.in_field.result c.in_field.ensures c.in_ok-in_field.was) c.if-rest-end.false

pub returns : goal.returns
returns c = look_full c.loop-i.invariant c.loop-i-test.false
