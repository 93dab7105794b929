-- `direct::direct_pairs` meets its contract: what fits is a matrix, with room for the pairs. Assumes nothing.
use mathlib.Core.Path.{sym, ◌∙◌}
use Rattle.assoc_direct.proofs.OpenLaws.{fitted, pairs_fit, pairs_misfit}
use Rattle.assoc_direct.proofs.direct.direct_pairs.Goals as goal

pub match_directly-requires : goal.match_directly-requires
match_directly-requires c = (fitted _ _ _ _ _ (sym c.fits.ensures ∙ c.if-fits.true)).1

pub returns-then-fits : goal.returns-then-fits
returns-then-fits c = pairs_fit _ _ _ _ _ _ c.fits.ensures c.if-fits.true c.match_directly.ensures

pub returns : goal.returns
returns c = pairs_misfit _ _ _ _ _ _ c.fits.ensures c.if-fits.false

pub invariant_of-cost : goal.invariant_of-cost
invariant_of-cost c = record { sized = (fitted _ _ _ _ _ (sym c.fits.ensures ∙ c.if-fits.true)).0 }
