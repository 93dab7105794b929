-- `gather::put_four` meets its contract: a list of four that is stored over whole. Assumes nothing.
use Rattle.laws.specs.Splice.{sets_all}
use Rattle.boost_tracker_pairs.specs.Private.{four_floats}
use Rattle.boost_tracker_pairs.proofs.gather.put_four.Goals as goal

pub returns : goal.returns
returns c = sets_all (four_floats c.args.v) c.args.out.now c.requires
