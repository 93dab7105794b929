-- `association::liken_within` meets its contract: where there are distances, their similarities are stored over them. Assumes nothing.
use mathlib.Core.Path.{refl, sym, ◌∙◌}
use native.Mathlib.Nat.{le_of_eq}
use lib.Seq.{length-take-le}
use Rattle.assoc.proofs.AssociationLaws.{cells-accepted, likened, unlikened}
use Rattle.assoc.proofs.association.liken_within.Goals as goal

pub returns-then-has : goal.returns-then-has
returns-then-has c =
    let similar = c.mh_dist_similarity_over.ensures in
    let room = c.requires.2 in
    let accepted = similar.answer ∙ cells-accepted c.requires.0 c.requires.1 (le_of_eq (sym (length-take-le _ _ room))) in
    record { answer = accepted; cells = likened _ _ _ _ _ room accepted similar.cells }

pub slice_bounds-mh_dist_similarity_over-end-then-has : goal.slice_bounds-mh_dist_similarity_over-end-then-has
slice_bounds-mh_dist_similarity_over-end-then-has c = sym (length-take-le _ _ c.requires.2)

pub returns : goal.returns
returns c = record { answer = refl; cells = unlikened c.if-has.false }
