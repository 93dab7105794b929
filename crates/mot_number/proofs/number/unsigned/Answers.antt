-- `number::unsigned` meets its contract: the digits before the point and those behind it decide. Assumes nothing.
use mathlib.Core.Path.{sym, ◌∙◌}
use lib.Seq.{length-take-le}
use Rattle.mot_number.proofs.Returns.{no_whole, whole-small, no_point, no-behind, behind-few, both}
use Rattle.mot_number.proofs.number.unsigned.Goals as goal

pub slice_bounds-digits_of-end : goal.slice_bounds-digits_of-end
slice_bounds-digits_of-end c = sym (length-take-le _ _ c.find-point.ensures.inside)

pub returns-in_err-whole : goal.returns-in_err-whole
returns-in_err-whole c =
    let s = c.args in
    c.from_residual.ensures ∙ no_whole s.text.now s.negative c.find-point.result c.find-point.ensures.place c.digits_of.result c.digits_of.ensures c.in_err-whole.was

pub returns-then-point-n : goal.returns-then-point-n
returns-then-point-n c =
    let s = c.args in
    no_point s.text.now s.negative c.find-point.result c.find-point.ensures.place c.digits_of.result c.digits_of.ensures c.in_ok-whole.whole c.in_ok-whole.was c.if-point-n.true c.rounded.result c.rounded.ensures

pub digits_of-requires-2 : goal.digits_of-requires-2
digits_of-requires-2 c =
    let s = c.args in
    whole-small s.text.now s.negative c.find-point.result c.find-point.ensures.place c.digits_of.result c.digits_of.ensures c.in_ok-whole.whole c.in_ok-whole.was

pub returns-in_err-m : goal.returns-in_err-m
returns-in_err-m c =
    let s = c.args in
    c.from_residual-in_err-m.ensures ∙ no-behind s.text.now s.negative c.find-point.result c.find-point.ensures.place c.digits_of.result c.digits_of.ensures c.in_ok-whole.whole c.in_ok-whole.was c.if-point-n.false c.find-point.ensures.inside
    c.digits_of-2.result c.digits_of-2.ensures c.in_err-m.was

pub rounded-requires-2 : goal.rounded-requires-2
rounded-requires-2 c =
    let s = c.args in
    behind-few s.text.now s.negative c.find-point.result c.find-point.ensures.place c.digits_of.result c.digits_of.ensures c.in_ok-whole.whole c.in_ok-whole.was c.if-point-n.false c.find-point.ensures.inside
    c.digits_of-2.result c.digits_of-2.ensures c.in_ok-m.m c.in_ok-m.was

pub returns : goal.returns
returns c =
    let s = c.args in
    both s.text.now s.negative c.find-point.result c.find-point.ensures.place c.digits_of.result c.digits_of.ensures c.in_ok-whole.whole c.in_ok-whole.was c.if-point-n.false c.find-point.ensures.inside
    c.digits_of-2.result c.digits_of-2.ensures c.in_ok-m.m c.in_ok-m.was c.rounded-2.result c.rounded-2.ensures
