-- `gather::put_track` meets its contract: a confidence and three rows. Assumes nothing.
use mathlib.Core.Path.{◌∙◌, ap}
use lib.ListN.{set}
use Rattle.boost_tracker_mh_dist.specs.MhDist.{row}
use Rattle.boost_tracker_definition.specs.Update.{corners_of}
use Rattle.boost_tracker_pairs.proofs.gather.put_track.Goals as goal

pub put_four-requires-3 : goal.put_four-requires-3
put_four-requires-3 c = c.requires.rows.2

pub returns : goal.returns
returns c =
    let a = c.args in
    record {
      trk = c.put_four.ensures ∙ c.of_corners.ensures ∙ ap corners_of c.get_state.ensures;
      state = c.put_four-2.ensures ∙ c.of_state.ensures ∙ ap row c.get_kf_state.ensures;
      variances = c.put_four-3.ensures ∙ c.of_state-2.ensures ∙ ap row c.sigma_inv.ensures;
      conf = ap (set a.confs.now a.j) c.get_confidence.ensures;
    }
