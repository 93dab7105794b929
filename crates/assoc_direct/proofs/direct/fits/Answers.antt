-- `direct::fits` meets its contract. Assumes nothing.
use Rattle.assoc_direct.specs.Direct.{fitting}
use Rattle.assoc_direct.proofs.direct.fits.Goals as goal

pub returns : goal.returns
unfolding fitting
returns c = rw (c.is_matrix.ensures, c.smaller-few.ensures)
