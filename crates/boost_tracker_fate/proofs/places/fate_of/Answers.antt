-- `places::fate_of` meets its contract, by cases. Assumes nothing.
use mathlib.Core.Path.{sym, ap}
use Rattle.boost_tracker_fate.specs.Private.{fate_by}
use Rattle.boost_tracker_fate.proofs.places.fate_of.Goals as goal

pub returns-in-Paired : goal.returns-in-Paired
returns-in-Paired c = sym (ap (fate_by c.args.held c.args.started) c.in-Paired.is)

pub returns-in-Refused : goal.returns-in-Refused
returns-in-Refused c = sym (ap (fate_by c.args.held c.args.started) c.in-Refused.is)

pub returns-in-Alone : goal.returns-in-Alone
returns-in-Alone c = sym (ap (fate_by c.args.held c.args.started) c.in-Alone.is)
