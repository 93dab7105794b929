-- `records_line::text::spell` meets its contract. The loop's invariant: the digits of what is left of n and those that are stored are the digits of n.
-- Assumes nothing.
use lib.ListN.{length}
use Rattle.records_line.proofs.Spelling.{Spelling}
use Rattle.records_line.proofs.text.spell.Given as goal

abbrev pub invariant-loop-i : goal.invariant-loop-i
invariant-loop-i l = Spelling l.base l.n (length l.initial.cells) l.i l.rest l.cells
