-- `call::bad_frame` meets its contract: each return is a case of the definition. Assumes nothing.
use mathlib.Core.Path.{◌≡◌}
use mathlib.Core.Bool.{true, false, ◌||◌}
use Prim.Native.Nat.{ℕ, ◌-◌}
use lib.Dec.{eqb, ltb}
use borrow.Author.Tests.{ltb-false}
use Rattle.laws.specs.Tests.{or_none}
use Rattle.mot_line.specs.Call.{bad_frame}
use Rattle.mot_line.proofs.call.bad_frame.Goals as goal

back : (previous frame : ℕ) → (eqb frame 0 || ltb frame previous) ≡ true → true ≡ bad_frame previous frame
unfolding bad_frame
back previous frame e = rw e

far : (previous frame : ℕ) → (eqb frame 0 || ltb frame previous) ≡ false → ltb 1000 (frame - previous) ≡ bad_frame previous frame
unfolding bad_frame
far previous frame e = rw e

pub returns-then-frame-previous : goal.returns-then-frame-previous
returns-then-frame-previous c = back c.args.previous c.args.frame c.if-frame-previous.true

pub overflow_sub-result : goal.overflow_sub-result
overflow_sub-result c = let a = c.args in ltb-false _ _ (or_none (eqb a.frame 0) (ltb a.frame a.previous) c.if-frame-previous.false).1

pub returns : goal.returns
returns c = far c.args.previous c.args.frame c.if-frame-previous.false
