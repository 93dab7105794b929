-- `corrections::fits` meets its contract: each return is the definition's where the test is as the return found it. Assumes nothing.
use borrow.Author.Tests.{le-ltb, lt-ltb}
use Rattle.boost_tracker_follow.specs.Corrections.{fits}
use Rattle.boost_tracker_follow.proofs.corrections.fits.Goals as goal

pub returns-then-held-places : goal.returns-then-held-places
unfolding fits
returns-then-held-places c = rw (lt-ltb _ _ c.if-held-places.true)

pub returns : goal.returns
unfolding fits
returns c = rw (le-ltb _ _ c.if-held-places.false)
