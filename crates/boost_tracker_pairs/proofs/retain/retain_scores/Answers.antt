-- `retain::retain_scores` meets its contract. The loop's invariant: of the scores before i those of retained boxes are in the front, w of them. Assumes nothing.
use mathlib.Core.Path.{refl}
use native.Mathlib.Omega.{arith}
use Rattle.boost_tracker_pairs.proofs.RetainLaws.{score-start, score-on, score-end}
use Rattle.boost_tracker_pairs.proofs.retain.retain_scores.Goals as goal

pub loop-i-preserved : goal.loop-i-preserved
loop-i-preserved c = score-on _ _ _ c.loop-i.invariant c.loop-i-test.true refl c.keep_score-w.ensures.count c.keep_score-w.ensures.cells

pub loop-i-init : goal.loop-i-init
loop-i-init c = score-start _ _ _

pub keep_score-w-requires : goal.keep_score-w-requires
keep_score-w-requires c = (c.loop-i.invariant.few, omega (arith, c.loop-i-test.true, c.loop-i.invariant.pushed.same))

pub returns : goal.returns
returns c = score-end _ _ _ c.loop-i.invariant c.loop-i-test.false refl
