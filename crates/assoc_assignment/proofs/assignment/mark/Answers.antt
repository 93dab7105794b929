-- `assignment::mark` meets its contract. Assumes nothing.
use mathlib.Core.Path.{refl}
use native.Mathlib.Omega.{arith}
use borrow.Author.Tests.{lt-ltb, le-ltb}
use Rattle.assoc_assignment.proofs.assignment.mark.Goals as goal

pub bounds-boxes-i : goal.bounds-boxes-i
bounds-boxes-i c = omega (arith, c.requires.0)

pub bounds-tracks-j : goal.bounds-tracks-j
bounds-tracks-j c = omega (arith, c.if-j-ncols.true, c.requires.1)

pub returns-then-j-ncols : goal.returns-then-j-ncols
returns-then-j-ncols c = rw (lt-ltb _ _ c.if-j-ncols.true) (record { boxes_are = refl; tracks_are = refl })

pub returns-else-j-ncols : goal.returns-else-j-ncols
returns-else-j-ncols c = rw (le-ltb _ _ c.if-j-ncols.false) (record { boxes_are = refl; tracks_are = refl })
