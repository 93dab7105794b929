-- `place::put_track` meets its contract: four stores of six floats each, one behind the other. Assumes nothing.
use mathlib.Core.Path.{refl}
use Prim.Native.Nat.{◌*◌}
use Rattle.laws.specs.Splice.{run_of_four}
use Rattle.boost_tracker_table.specs.Table.{place_floats, pair_floats}
use Rattle.boost_tracker_table.proofs.place.put_track.Goals as goal

pub returns-clause-floats : goal.returns-clause-floats
returns-clause-floats c =
    let f = c.args.f.now in
    let t = c.args.t in
    run_of_four f _ _ _ _ (c.args.i * place_floats) (pair_floats t.kf.x) (pair_floats t.kf.y) (pair_floats t.kf.h) (pair_floats t.kf.r) 6 refl refl refl refl c.requires.0
    c.put_pair.ensures c.put_pair-2.ensures c.put_pair-3.ensures c.put_pair-4.ensures
