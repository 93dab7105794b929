-- `floats::root::product` meets its contract: two numbers of 32 bits have a product of 64. Assumes nothing.
use Rattle.std.proofs.Common.{ℕ, ◌-◌, ◌*◌, ◌^◌, ◌<◌, ◌≤◌, mul-le-mul, arith, Fits-le, Fits-lit, w64, Fits}
use Rattle.floats.proofs.root.product.Goals as goal

product-fits : (a b : ℕ) → a < 2 ^ 32 → b < 2 ^ 32 → Fits w64 (a * b)
product-fits a b h l = let x : a ≤ 2 ^ 32 - 1 = omega arith in let y : b ≤ 2 ^ 32 - 1 = omega arith in Fits-le (mul-le-mul x y) (Fits-lit tt)

pub overflow_mul-result : goal.overflow_mul-result
overflow_mul-result c = product-fits c.args.a c.args.b c.ranges.a.fits c.ranges.b.fits
