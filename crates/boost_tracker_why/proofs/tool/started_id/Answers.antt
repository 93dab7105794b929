-- `tool::started_id` meets its contract: ids are far below what a u64 holds. Assumes nothing.
use Rattle.boost_tracker_why.proofs.tool.started_id.Goals as goal

pub returns : goal.returns
returns c = rw c.place_of.ensures
