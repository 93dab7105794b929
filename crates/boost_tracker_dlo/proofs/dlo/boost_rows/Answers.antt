-- The answers of `dlo::boost_rows`: it meets its contract. Its invariant is in Invariants.antt. Assumes nothing.
use Rattle.std.proofs.Common.{◌≡◌, ◌*◌, length, replicate, length-take-le, refl, ◌∙◌, le_refl}
use lib.Ieee.{nan}
use Rattle.laws.specs.Tab.{fill_ahead, fill_on, fill_start, fill_whole}
use Rattle.floats.specs.Single.{plus_zero}
use Rattle.boost_tracker_boosts.proofs.OneRow.{part-is}
use Rattle.boost_tracker_dlo.specs.Private.{boosted_score}
use Rattle.boost_tracker_dlo.proofs.DloLaws.{alike-row-is, part_row, score-is}
use Rattle.boost_tracker_dlo.proofs.dlo.boost_rows.Goals as goal

pub loop-i-preserved : goal.loop-i-preserved
unfolding boosted_score
loop-i-preserved c =
    let w = c.args in
    let at = c.loop-i in
    let t = w.tracks in
    let n : length at.row ≡ length t.since.now = at.auto.row ∙ length-take-le _ (replicate 255 plus_zero) t.few in
    let sims = part_row w.q _ t.corners.now t.confs.now w.mhd.now (at.i * length t.since.now) (length t.since.now) (rw n at c.similarity_row.ensures) in
    let set = alike-row-is _ t.labels.now _ _ sims c.set_unlike.ensures in
    fill_on _ _ _ at.invariant c.loop-i-test.true (le_refl _)
    (c.row_score.ensures ∙ score-is w.q _ _ _ _ _ set refl ∙ rw (fill_ahead _ _ _ at.invariant nan, c.label_at.ensures, part-is w.detections.now at.i))

pub loop-i-init : goal.loop-i-init
loop-i-init c = fill_start _ _ _

pub returns : goal.returns
returns c = fill_whole _ _ _ c.loop-i.invariant c.loop-i-test.false refl
