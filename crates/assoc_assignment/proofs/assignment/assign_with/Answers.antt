-- `assignment::assign_with` meets its contract. Assumes nothing.
use mathlib.Core.Path.{◌∙◌}
use Rattle.assoc_matching.proofs.EndLaws.{partner_not_refused, partners-found}
use Rattle.assoc_assignment.specs.Assignment.{valid_match}
use Rattle.assoc_assignment.specs.Answers.{lent_with}
use Rattle.assoc_assignment.proofs.ListLaws.{rowed, assignment-done}
use Rattle.assoc_assignment.proofs.assignment.assign_with.Goals as goal

pub invariant_of-cost : goal.invariant_of-cost
invariant_of-cost c = let ready = c.requires.ready in record { sized = record { few-rows = ready.few-rows; few-cols = ready.few-cols; long = ready.long-cost } }

pub invariant_of-iou : goal.invariant_of-iou
invariant_of-iou c = let ready = c.requires.ready in record { sized = record { few-rows = ready.few-rows; few-cols = ready.few-cols; long = ready.long-iou } }

pub find_partners-requires : goal.find_partners-requires
find_partners-requires c =
    let ready = c.requires.ready in
    record { square = ready.room-work; rows = c.requires.rows }

pub list-lists-requires : goal.list-lists-requires
list-lists-requires c =
    let ready = c.requires.ready in
    let found = c.find_partners in
    let rows = found.auto.partner ∙ c.requires.rows in record { rows = rowed _ _ _ _ ready.few-rows ready.few-cols found.ensures.pairs rows; room = ready.room-lists }

pub returns-in_err-counts : goal.returns-in_err-counts
returns-in_err-counts c = absurd (partner_not_refused c.find_partners.ensures.accepted c.in_err-counts.was)

pub returns : goal.returns
returns c =
    let a = c.args in
    let ready = c.requires.ready in
    let found = c.find_partners.ensures in
    assignment-done a.cost.now a.nrows a.ncols a.threshold ready.few-rows ready.few-cols (valid_match a.iou.now a.ncols a.threshold)
    (lent_with a.boxes.now a.tracks.now a.detections.now a.left.now a.work.now)
    (partners-found c.in_ok-counts.was found.pairs) c.list-lists.ensures found.cleared
