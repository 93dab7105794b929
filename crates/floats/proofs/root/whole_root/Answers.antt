-- `floats::root::whole_root` meets its contract. The invariant of its loop: r is short. The measure is how far r is from the root, on whichever side. Assumes nothing.
use Rattle.std.proofs.Common.{◌≡◌, ℕ, suc, ◌+◌, ◌*◌, ◌^◌, ◌<◌, ◌≤◌, subst, lt_of_le_of_lt, le_of_lt, mul-le-mul, lt_of_not-le, not-le_of_lt, add-one, arith, Fits-le, Fits-lit, w64, Fits}
use Rattle.floats.specs.Root.{whole_root}
use Rattle.floats.proofs.Roots.{IsRoot, under, one-root, whole_is}
use Rattle.floats.proofs.root.whole_root.Goals as goal

square-fits : (r : ℕ) → r ≤ 2 ^ 24 → Fits w64 (r * r)
square-fits r h = Fits-le (mul-le-mul h h) (Fits-lit tt)

module _ (n r : ℕ) (h : n < 2 ^ 48) where
  whole : IsRoot n (whole_root 24 n)
  whole = whole_is 24 n h

  whole-lt : whole_root 24 n < 2 ^ 24
  whole-lt = lt_of_not-le (λ (g : 2 ^ 24 ≤ whole_root 24 n). not-le_of_lt (lt_of_le_of_lt whole.0 h) (mul-le-mul g g))

  above : n < r * r → whole_root 24 n < r
  above l = lt_of_not-le (λ (g : r ≤ whole_root 24 n). not-le_of_lt (lt_of_le_of_lt whole.0 l) (mul-le-mul g g))

  below : (r + 1) * (r + 1) ≤ n → r < whole_root 24 n
  below l = under n (suc r) (whole_root 24 n) (subst (λ (x : ℕ). x * x ≤ n) (add-one r) l) whole.1

  found : r * r ≤ n → n < (r + 1) * (r + 1) → r ≡ whole_root 24 n
  found l g = one-root n r (whole_root 24 n) (l, subst (λ (x : ℕ). n < x * x) (add-one r) g) whole

pub loop-r-init : goal.loop-r-init
loop-r-init c = c.guess-r.ensures

pub overflow_mul-r : goal.overflow_mul-r
overflow_mul-r c = square-fits c.loop-r.r (le_of_lt c.loop-r.invariant)

pub overflow_sub-r : goal.overflow_sub-r
overflow_sub-r c = let a = above c.args.n c.loop-r.r c.requires c.if-n-r.true in omega arith

pub loop-r-smaller-then-n-r : goal.loop-r-smaller-then-n-r
loop-r-smaller-then-n-r c = let a = above c.args.n c.loop-r.r c.requires c.if-n-r.true in omega arith

pub overflow_mul-r-else-n-r : goal.overflow_mul-r-else-n-r
overflow_mul-r-else-n-r c = square-fits _ (omega arith)

pub loop-r-smaller : goal.loop-r-smaller
loop-r-smaller c = let a = below c.args.n c.loop-r.r c.requires c.if-r-n.true in omega arith

pub loop-r-preserved : goal.loop-r-preserved
loop-r-preserved c =
    let a = below c.args.n c.loop-r.r c.requires c.if-r-n.true in
    let b = whole-lt c.args.n 0 c.requires in
    omega arith

pub returns-else-r-n : goal.returns-else-r-n
returns-else-r-n c = found c.args.n c.loop-r.r c.requires c.if-n-r.false c.if-r-n.false
