-- `mh_matrix` meets its contract: the sums start as zeros. Assumes nothing.
use mathlib.Core.Path.{◌∙◌}
use Rattle.laws.specs.Tab.{replicate_tab}
use Rattle.laws.specs.Replicate.{take_replicate}
use Rattle.floats.specs.Single.{plus_zero}
use Rattle.assoc_mahalanobis.proofs.mh_matrix.Goals as goal

pub mh_rows-requires : goal.mh_rows-requires
mh_rows-requires c = (c.requires.room, take_replicate c.args.tracks 255 plus_zero c.requires.few ∙ replicate_tab _ _)
