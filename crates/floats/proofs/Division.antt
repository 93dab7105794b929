-- Quotient and remainder, above zero and below. Assumes nothing.
use Rattle.std.proofs.Common.{◌≡◌, ℕ, zero, suc, ◌+◌, ◌-◌, ◌*◌, ◌/◌, ◌%◌, ◌<◌, Bool, cond, ℤ, pos, negsuc, ◌+ℤ◌, ◌*ℤ◌, neg_ℤ, ap, ◌∙◌, mod-lt, suc-mul, div-add-mod', arith, lt-ltb}
use Rattle.floats.specs.Exponential.{quotient, remainder}

pub remainder_lt : (z : ℤ) (d : ℕ) → 0 < d → remainder z d < d
remainder_lt (pos n) d h = mod-lt n h
remainder_lt (negsuc n) d h = let r = mod-lt n h in omega arith

-- -w + (d - 1 - r) is -(x × d + r + 1), for w = (x + 1) × d
mirrored : (w n x d r : ℕ) → r < d → w ≡ x * d + d → x * d + r ≡ n → neg_ℤ (pos w) +ℤ pos (d - suc r) ≡ negsuc n
mirrored zero n x d r h e f = absurd (omega arith)
mirrored (suc y) n x d r h e f =
    ap (λ (b : Bool). cond b (negsuc (suc y - suc (d - suc r))) (pos (d - suc r - suc y))) (lt-ltb (d - suc r) (suc y) (omega arith)) ∙ ap negsuc (omega arith)

pub quotient-remainder : (z : ℤ) (d : ℕ) → 0 < d → quotient z d *ℤ pos d +ℤ pos (remainder z d) ≡ z
quotient-remainder (pos n) d h = ap pos (div-add-mod' n d)
quotient-remainder (negsuc n) d h = mirrored (suc (n / d) * d) n (n / d) d (n % d) (mod-lt n h) (suc-mul (n / d) d) (div-add-mod' n d)
