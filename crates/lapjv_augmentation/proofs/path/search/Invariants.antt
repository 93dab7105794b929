-- `search` meets its contract. The invariant: what is left of the definition's passes gives the whole. The measure falls as lo grows, and at the end since something is found. Assumes nothing.
use mathlib.Core.Path.{◌≡◌}
use Prim.Native.Nat.{ℕ}
use Rattle.lapjv_definition.specs.Entry.{owner_of}
use Rattle.lapjv_definition.specs.Path.{search_at, search_from}
use Rattle.lapjv_definition.specs.Scan.{scanning}
use Rattle.lapjv_definition.proofs.SearchEnds.{SearchInv, search_left}
use Rattle.lapjv_augmentation.proofs.path.search.Given as goal

abbrev pub invariant-loop-costs : goal.invariant-loop-costs
invariant-loop-costs l =
    (f : ℕ) × (l.s.found ≡ owner_of l.costs.side f) × SearchInv l.costs.side l.costs.cells.now l.y l.v (search_from l.costs.side l.costs.cells.now l.y l.v l.costs.side (search_at (scanning l.initial.d l.initial.cols l.initial.pred 0 l.costs.side) 0 0 0))
    (search_at (scanning l.d l.cols l.pred l.s.hi f) l.s.lo l.s.n_ready l.s.scans)

abbrev pub decreases-loop-costs : goal.decreases-loop-costs
decreases-loop-costs l = search_left l.costs.side l.s.found l.s.lo
