-- The answers of `duo::copy_box`: it meets its contract: a list of four that is stored over whole. Assumes nothing.
use Rattle.boost_tracker_duo.specs.Private.{box_of}
use Rattle.laws.specs.Splice.{sets_all}
use Rattle.boost_tracker_duo.proofs.duo.copy_box.Goals as goal

pub returns : goal.returns
returns c = sets_all (box_of c.args.detections.now c.args.idx) c.args.out.now c.requires.1
