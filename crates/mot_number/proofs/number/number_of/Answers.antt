-- `number::number_of` meets its contract: what stands behind the sign decides. Assumes nothing.
use Rattle.mot_number.proofs.Returns.{minus-some, minus_number, plain_number}
use Rattle.mot_number.proofs.number.number_of.Goals as goal

pub slice_bounds-unsigned-count : goal.slice_bounds-unsigned-count
slice_bounds-unsigned-count c = minus-some c.args.text.now c.minus.result c.minus.ensures c.if-minus.true

pub slice_bounds-unsigned-start : goal.slice_bounds-unsigned-start
slice_bounds-unsigned-start c = minus-some c.args.text.now c.minus.result c.minus.ensures c.if-minus.true

pub returns-then-minus : goal.returns-then-minus
returns-then-minus c = minus_number _ c.minus.result c.minus.ensures c.if-minus.true c.unsigned.result c.unsigned.ensures

pub returns : goal.returns
returns c = plain_number _ c.minus.result c.minus.ensures c.if-minus.false c.unsigned-2.result c.unsigned-2.ensures
