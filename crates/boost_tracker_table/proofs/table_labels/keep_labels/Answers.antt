-- `table_labels::keep_labels` meets its contract. The loop's invariant: of the labels before i those of tracks that stay lie in the front, w of them, and the rest is as it was. Assumes nothing.
use Rattle.std.proofs.Common.{sym, ap, ◌∙◌, refl, true, false, length, zero-le, arith}
use Rattle.laws.specs.Kept.{keep_start}
use Rattle.boost_tracker_table.specs.Table.{placed}
use Rattle.boost_tracker_table.proofs.Laws.{track-read}
use Rattle.boost_tracker_table.proofs.LabelLaws.{relabel_on, relabel_whole}
use Rattle.boost_tracker_table.proofs.table_labels.keep_labels.Goals as goal
use Rattle.boost_tracker_table.proofs.table_labels.keep_labels.Goals.{then-stays, else-stays}

pub loop-i-init : goal.loop-i-init
loop-i-init g c = record { few = zero-le; relabelled = λ p tells. keep_start _ _ _ _ _ _ (omega (arith, c.placed-n.ensures, c.min.ensures)) }

pub loop-i-preserved : goal.loop-i-preserved
loop-i-preserved g c =
    let a = c.args in
    let at = c.loop-i in
    let few = at.invariant.few in
    let n-is = c.placed-n.ensures ∙ ap (placed (length a.floats.now) (length a.counters.now)) c.min.ensures in
    let load = track-read _ _ _ n-is c.loop-i-test.true c.track_at.ensures in
    elim c.if-stays.branch [
      | then-stays w ↦
          record {
            few = omega (arith, w.w-is);
            relabelled = λ p tells. rw (w.labels-is, w.w-is)
                (relabel_on _ _ _ (at.invariant.relabelled p tells) {b = true} c.loop-i-test.true (sym w.if-stays.true ∙ tells _ _ c.stays.ensures ∙ ap p load) refl refl);
          }
      | else-stays w ↦
          record {
            few = omega (arith, w.w-is);
            relabelled = λ p tells. rw (w.labels-is, w.w-is)
                (relabel_on _ _ _ (at.invariant.relabelled p tells) {b = false} c.loop-i-test.true (sym w.if-stays.false ∙ tells _ _ c.stays.ensures ∙ ap p load) refl refl);
          }
    ]

pub returns : goal.returns
returns g c p tells = relabel_whole p _ _ c.args.held _ c.min.ensures c.placed-n.ensures (c.loop-i.invariant.relabelled p tells) c.loop-i-test.false
