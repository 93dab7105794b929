-- `association::pair_up` meets its contract: matrices, assignment, and the floats cleared. Assumes nothing.
use mathlib.Core.Path.{◌∙◌}
use Rattle.laws.specs.Tab.{replicate_tab}
use Rattle.assoc.proofs.AssociationLaws.{not_refused, paired_up}
use Rattle.assoc.proofs.association.pair_up.Goals as goal

pub assign-answer-requires : goal.assign-answer-requires
assign-answer-requires c =
    let fits = c.requires in
    (fits.few-rows, fits.few-cols, rw c.matrices.auto.cells fits.room)

pub returns : goal.returns
returns c =
    let a = c.args in
    let matrices = c.matrices in
    paired_up _ _ _ _ a.work32.now
    matrices.ensures.cells c.assign-answer.ensures (c.fill.ensures.after (λ y e. e) ∙ replicate_tab _ _) matrices.auto.cells

pub matrices-requires : goal.matrices-requires
matrices-requires c = c.requires

pub returns-in_err-matrices : goal.returns-in_err-matrices
returns-in_err-matrices c = absurd (not_refused c.matrices.ensures.answer c.in_err-matrices.was)
