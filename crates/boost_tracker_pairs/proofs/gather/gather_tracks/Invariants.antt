-- `gather::gather_tracks` meets its contract. The loop's invariant: what is read of the first j tracks is stored, and the next rows start at `at`. Assumes nothing.
use Prim.Native.Nat.{◌*◌}
use Rattle.boost_tracker_pairs.specs.Private.{predicted_in, track_lists_with}
use Rattle.boost_tracker_pairs.proofs.GatherLaws.{Gathering}
use Rattle.boost_tracker_pairs.proofs.gather.gather_tracks.Given as goal

abbrev pub invariant-loop-j : goal.invariant-loop-j
invariant-loop-j l = Gathering (predicted_in l.floats l.counters l.held) l.held (track_lists_with l.initial.trks l.initial.confs l.initial.x l.initial.sigma) l.j (l.j * 4) (track_lists_with l.trks l.confs l.x l.sigma)
