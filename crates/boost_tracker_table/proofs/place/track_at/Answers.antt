-- `place::track_at` meets its contract: a part that starts at i * s and is s long. Assumes nothing.
use mathlib.Core.Path.{◌∙◌}
use native.Mathlib.Nat.{add-sub_cancel_left}
use Rattle.boost_tracker_table.specs.Table.{track_at}
use Rattle.boost_tracker_table.proofs.place.track_at.Goals as goal

pub returns : goal.returns
unfolding track_at
returns c = c.track_of.ensures ∙ rw (add-sub_cancel_left, add-sub_cancel_left)
