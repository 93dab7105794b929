-- `puts::fraction_bytes` meets its contract. Assumes nothing.
use Rattle.std.proofs.Common.{eq-eqb, ne_eqb}
use Rattle.why_words.proofs.puts.fraction_bytes.Goals as goal

pub returns-then-f-eq0 : goal.returns-then-f-eq0
returns-then-f-eq0 c = rw (eq-eqb _ _ c.if-f-eq0.true)

pub returns-then-f-eq0-2 : goal.returns-then-f-eq0-2
returns-then-f-eq0-2 c = rw (ne_eqb _ _ c.if-f-eq0.false, eq-eqb _ _ c.if-f-eq0-2.true)

pub returns-then-f-eq0-3 : goal.returns-then-f-eq0-3
returns-then-f-eq0-3 c = rw (ne_eqb _ _ c.if-f-eq0.false, ne_eqb _ _ c.if-f-eq0-2.false, eq-eqb _ _ c.if-f-eq0-3.true)

pub returns : goal.returns
returns c = rw (ne_eqb _ _ c.if-f-eq0.false, ne_eqb _ _ c.if-f-eq0-2.false, ne_eqb _ _ c.if-f-eq0-3.false)
