-- `value::whole_part` meets its contract: the two tests say that a u64 has it. Assumes nothing.
use Rattle.std.proofs.Common.{T, sym, subst}
use lib.Ieee.{of_bits, neg}
use Rattle.why_words.specs.Words.{whole}
use Rattle.why_words.proofs.value.whole_part.Goals as goal

pub truncating_f64_to_u64-requires : goal.truncating_f64_to_u64-requires
unfolding of_bits neg
truncating_f64_to_u64-requires c = record { lower_bound = subst T (sym c.if-w.true) tt; upper_bound = subst T (sym c.if-w-2.true) tt }

pub returns-then-w-2 : goal.returns-then-w-2
unfolding whole
returns-then-w-2 c = rw (c.if-w.true, c.if-w-2.true, c.truncating_f64_to_u64.ensures)

pub returns-then-w : goal.returns-then-w
unfolding whole
returns-then-w c = rw (c.if-w.true, c.if-w-2.false)

pub returns : goal.returns
unfolding whole
returns c = rw c.if-w.false
