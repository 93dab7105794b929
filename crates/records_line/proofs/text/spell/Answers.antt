-- `records_line::text::spell` meets its contract. The loop's invariant: the digits of what is left of n and those that are stored are the digits of n.
-- Assumes nothing.
use Rattle.records_line.proofs.Spelling.{spell_on, spell_end}
use Rattle.records_line.proofs.text.spell.Goals as goal

pub loop-i-preserved : goal.loop-i-preserved
loop-i-preserved c = let at = c.loop-i in spell_on _ _ _ at.i at.rest c.glyph.result at.cells at.invariant c.loop-i-test.true c.glyph.ensures

pub returns : goal.returns
returns c = let at = c.loop-i in spell_end _ _ _ at.i at.rest at.cells at.invariant c.loop-i-test.false
