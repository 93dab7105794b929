-- `table::keep_tracks` meets its contract. The loop's invariant: of the tracks before i those that stay lie in the front, w of them, and the rest is as it was. Assumes nothing.
use Rattle.std.proofs.Common.{sym, ◌∙◌, length, zero-le, arith}
use Rattle.boost_tracker_table.proofs.Laws.{placed-room}
use Rattle.boost_tracker_table.proofs.Walks.{sieve-start, sieve_kept, sieve_passed, sieve-whole}
use Rattle.boost_tracker_table.proofs.table.keep_tracks.Goals as goal
use Rattle.boost_tracker_table.proofs.table.keep_tracks.Goals.{then-stays, else-stays}

pub loop-i-init : goal.loop-i-init
loop-i-init g c =
    let a = c.args in
    record { few = zero-le; sieving = λ p tells. sieve-start p _ _ _ (rw c.placed-n.ensures (placed-room (length a.floats.now) (length a.counters.now) a.held)) }

pub loop-i-preserved : goal.loop-i-preserved
loop-i-preserved g c =
    let at = c.loop-i in
    let few = at.invariant.few in
    elim c.if-stays.branch [
      | then-stays w ↦
          record {
            few = omega (arith, w.w-is);
            sieving = λ p tells. rw (w.floats-is, w.counters-is, w.w-is)
                (sieve_kept p _ _ _ (at.invariant.sieving p tells) c.loop-i-test.true c.track_at-t.ensures (sym w.if-stays.true ∙ tells _ _ c.stays.ensures) w.put_track.ensures.floats w.put_track.ensures.counters);
          }
      | else-stays w ↦
          record {
            few = omega (arith, w.w-is);
            sieving = λ p tells. rw (w.floats-is, w.counters-is, w.w-is)
                (sieve_passed p _ _ _ (at.invariant.sieving p tells) c.loop-i-test.true c.track_at-t.ensures (sym w.if-stays.false ∙ tells _ _ c.stays.ensures));
          }
    ]

pub returns : goal.returns
returns g c p tells = sieve-whole p _ _ _ _ c.placed-n.ensures (c.loop-i.invariant.sieving p tells) c.loop-i-test.false
