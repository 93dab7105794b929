-- `tool::partner_in` meets its contract. Assumes nothing.
use Rattle.std.proofs.Common.{sym, ◌∙◌}
use Rattle.boost_tracker_why.specs.Private.{partner_by}
use Rattle.boost_tracker_why.proofs.tool.partner_in.Goals as goal

pub returns-in-Some : goal.returns-in-Some
unfolding partner_by
returns-in-Some c = rw (sym c.track_of.ensures ∙ c.in-Some.is) c.paired_with.ensures

pub returns-in-None : goal.returns-in-None
unfolding partner_by
returns-in-None c = rw (sym c.track_of.ensures ∙ c.in-None.is) c.nobody.ensures
