-- `verdict::frame_verdict` meets its contract: the first group of tests that refuses gives the verdict. Assumes nothing.
use mathlib.Core.Path.{sym, ◌∙◌}
use Rattle.std.proofs.Common.{rules}
use Rattle.boost_tracker_verdict.specs.Verdict.{verdict}
use Rattle.boost_tracker_verdict.proofs.ReadyLaws.{held-few, boxes-few}
use Rattle.boost_tracker_verdict.proofs.verdict.frame_verdict.Goals as goal

pub returns-in_err-of_table : goal.returns-in_err-of_table
unfolding verdict
returns-in_err-of_table c = rw (sym c.of_table.ensures ∙ c.in_err-of_table.was) (search rules)

pub of_boxes-requires : goal.of_boxes-requires
of_boxes-requires c = held-few _ _ _ (sym c.of_table.ensures ∙ c.in_ok-of_table.was)

pub returns-in_err-of_boxes : goal.returns-in_err-of_boxes
unfolding verdict
returns-in_err-of_boxes c =
    rw (sym c.of_table.ensures ∙ c.in_ok-of_table.was, ← c.places_in-places.ensures, sym c.of_boxes.ensures ∙ c.in_err-of_boxes.was) (search rules)

pub of_room-requires : goal.of_room-requires
of_room-requires c =
    (held-few _ _ _ (sym c.of_table.ensures ∙ c.in_ok-of_table.was), boxes-few _ _ _ (sym c.of_boxes.ensures ∙ c.in_ok-of_boxes.was))

pub returns : goal.returns
unfolding verdict
returns c =
    rw (sym c.of_table.ensures ∙ c.in_ok-of_table.was, ← c.places_in-places.ensures, sym c.of_boxes.ensures ∙ c.in_ok-of_boxes.was) c.of_room.ensures
