-- `association::liken` meets its contract: where there are distances, their similarities are stored over the front. Assumes nothing.
use mathlib.Core.Path.{refl, sym, ◌∙◌}
use native.Mathlib.Nat.{le_of_eq}
use lib.Seq.{length-take-le}
use Rattle.assoc.proofs.AssociationLaws.{distances_accepted, likened, unlikened}
use Rattle.assoc.proofs.association.liken.Goals as goal

pub returns-then-has : goal.returns-then-has
returns-then-has c =
    let similar = c.mh_dist_similarity.ensures in
    let room = c.requires.sides.2 in
    let distances = c.requires.distances c.if-has.true in
    let accepted = similar.answer ∙ distances_accepted c.requires.sides.0 c.requires.sides.1 distances (le_of_eq (sym (length-take-le _ _ room))) in
    record { answer = accepted; cells = likened _ _ _ _ _ room accepted similar.cells }

pub slice_bounds-mh_dist_similarity-end-then-has : goal.slice_bounds-mh_dist_similarity-end-then-has
slice_bounds-mh_dist_similarity-end-then-has c = sym (length-take-le _ _ c.requires.sides.2)

pub returns : goal.returns
returns c = record { answer = refl; cells = unlikened c.if-has.false }
