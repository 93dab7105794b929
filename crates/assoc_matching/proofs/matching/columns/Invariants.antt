-- `matching::columns` meets its contract. The loop's invariant: the rows before `i` have their columns. Assumes nothing.
use Rattle.std.proofs.Common.{length, get_or}
use Rattle.laws.specs.Tab.{Filling}
use Rattle.assoc_matching.specs.Partners.{column}
use Rattle.assoc_matching.proofs.matching.columns.Given as goal

abbrev pub invariant-loop-i : goal.invariant-loop-i
invariant-loop-i l = Filling (λ k. column l.ncols (get_or l.x k 0)) l.initial.partner (length l.initial.partner) l.i l.partner
