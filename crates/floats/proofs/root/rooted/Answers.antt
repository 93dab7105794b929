-- `floats::root::rooted` meets its contract: what is left of n over the square of q says whether q or q + 1 is nearer. Assumes nothing.
use Rattle.std.proofs.Common.{◌∙◌, arith}
use lib.Count.{leading_le}
use Rattle.floats.proofs.Squares.{wide_lt, root_is, kept, kept_next, rounds_down, rounds_up}
use Rattle.floats.proofs.root.rooted.Goals as goal

pub overflow_sub-length : goal.overflow_sub-length
overflow_sub-length c = leading_le 32 c.args.digits

pub whole_root-q-requires : goal.whole_root-q-requires
whole_root-q-requires c = wide_lt c.args.digits c.args.place c.requires

pub overflow_mul-q : goal.overflow_mul-q
overflow_mul-q c =
    let r = root_is c.args.digits c.args.place c.requires c.whole_root-q.result c.whole_root-q.ensures in
    let w = wide_lt c.args.digits c.args.place c.requires in
    record { fits = omega (arith, r.0, w) }

pub overflow_sub-n-2 : goal.overflow_sub-n-2
overflow_sub-n-2 c = (root_is c.args.digits c.args.place c.requires c.whole_root-q.result c.whole_root-q.ensures).0

pub packed-requires : goal.packed-requires
packed-requires c =
    let r = c.whole_root-q in
    let k = kept c.args.digits c.args.place c.requires r.result r.ensures in
    record { fact_1 = k.0; fact_2 = k.1.0; fact_3 = k.1.1 }

pub packed-requires-else-n-q : goal.packed-requires-else-n-q
packed-requires-else-n-q c =
    let r = c.whole_root-q in
    let k = kept_next c.args.digits c.args.place c.requires r.result r.ensures in
    record { fact_1 = k.0; fact_2 = k.1.0; fact_3 = k.1.1 }

pub returns-then-n-q : goal.returns-then-n-q
returns-then-n-q c =
    let r = c.whole_root-q in
    c.packed.ensures ∙ rounds_down c.args.digits c.args.place c.requires r.result r.ensures (omega (arith, c.if-n-q.true))

pub returns-else-n-q : goal.returns-else-n-q
returns-else-n-q c =
    let r = c.whole_root-q in
    c.packed-else-n-q.ensures ∙ rounds_up c.args.digits c.args.place c.requires r.result r.ensures c.if-n-q.false
