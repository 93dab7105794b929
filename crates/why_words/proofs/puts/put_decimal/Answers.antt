-- `puts::put_decimal` meets its contract: 20 bytes are enough for a u64. Assumes nothing.
use Rattle.std.proofs.Common.{arith, rules}
use Rattle.why_words.proofs.PutLaws.{puts_length, fitted, decimal-end, decimal_puts}
use Rattle.why_words.proofs.puts.put_decimal.Goals as goal

pub unwrap-requires : goal.unwrap-requires
unwrap-requires c =
    let a = c.args in
    rw (fitted a.n a.at a.text.now c.requires c.write_decimal.result c.write_decimal.new.out c.write_decimal.ensures).0 (search rules)

pub overflow_add-result : goal.overflow_add-result
overflow_add-result c =
    let a = c.args in
    let end = decimal-end a.n a.at a.text.now c.requires c.write_decimal.result c.write_decimal.new.out c.write_decimal.ensures c.unwrap.ensures in
    omega (arith, end)

pub returns : goal.returns
returns c =
    let a = c.args in
    decimal_puts a.n a.at a.text.now c.requires c.write_decimal.result c.write_decimal.new.out c.write_decimal.ensures c.unwrap.ensures

pub slice_bounds-write_decimal-count : goal.slice_bounds-write_decimal-count
slice_bounds-write_decimal-count c = omega (arith, c.requires)

pub slice_bounds-write_decimal-start : goal.slice_bounds-write_decimal-start
slice_bounds-write_decimal-start c = omega (arith, c.requires)

pub shape_of-text : goal.shape_of-text
shape_of-text c = puts_length (returns c)
