-- `matching::column_of` meets its contract. Assumes nothing.
use Rattle.std.proofs.Common.{le-ltb, lt-ltb}
use Rattle.assoc_matching.proofs.matching.column_of.Goals as goal

pub returns-then-j-ncols : goal.returns-then-j-ncols
returns-then-j-ncols c = rw (lt-ltb _ _ c.if-j-ncols.true)

pub returns : goal.returns
returns c = rw (le-ltb _ _ c.if-j-ncols.false)
