-- `floats::exponential::summed` meets its contract: each call asks for what the one before it ensures, and a small step also that the term before it is small, which it is for the largest r. Assumes nothing.
use Rattle.std.proofs.Common.{◌-◌, zero-lt-suc, lit<, lit≤}
use Rattle.floats.specs.Exponential.{L, t}
use Rattle.floats.proofs.Series.{Small, smaller, none, all}
use Rattle.floats.proofs.exponential.summed.Goals as goal

-- the terms of the largest r are computed
small-7 : Small 7 (t (L - 1) 6) (L - 1)
unfolding t
small-7 = (lit< tt, lit< tt)

small-9 : Small 9 (t (L - 1) 8) (L - 1)
unfolding t
small-9 = (lit< tt, lit< tt)

small-10 : Small 10 (t (L - 1) 9) (L - 1)
unfolding t
small-10 = (lit< tt, lit< tt)

pub one_small-s-requires : goal.one_small-s-requires
one_small-s-requires c = let h = smaller _ 7 _ _ c.requires c.one_more-s-6.ensures small-7 in record { fact_1 = zero-lt-suc 6; fact_2 = lit≤ tt; fact_3 = c.one_more-s-6.ensures; fact_4 = h.0; fact_5 = h.1 }

pub one_small-s-requires-2 : goal.one_small-s-requires-2
one_small-s-requires-2 c = let h = smaller _ 9 _ _ c.requires c.one_more-s-7.ensures small-9 in record { fact_1 = zero-lt-suc 8; fact_2 = lit≤ tt; fact_3 = c.one_more-s-7.ensures; fact_4 = h.0; fact_5 = h.1 }

pub one_small-s-requires-3 : goal.one_small-s-requires-3
one_small-s-requires-3 c = let h = smaller _ 10 _ _ c.requires c.one_small-s-2.ensures small-10 in record { fact_1 = zero-lt-suc 9; fact_2 = lit≤ tt; fact_3 = c.one_small-s-2.ensures; fact_4 = h.0; fact_5 = h.1 }

pub returns : goal.returns
returns c = all _ _ _ c.requires c.one_more-s-9.ensures

pub one_more-s-requires : goal.one_more-s-requires
one_more-s-requires c = record { fact_1 = zero-lt-suc 0; fact_2 = lit≤ tt; fact_3 = none c.args.r c.requires }
