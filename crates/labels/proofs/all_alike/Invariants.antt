-- all says whether each of the first j labels is the label.
use Rattle.std.proofs.Common.{◌≡◌, ◌≤◌, length, take}
use Rattle.laws.specs.Every.{every}
use Rattle.labels.specs.Label.{same_label}
use Rattle.labels.proofs.all_alike.Given as goal

abbrev pub invariant-loop-other : goal.invariant-loop-other
invariant-loop-other l = (l.other-index ≤ length l.labels) × (l.all ≡ every (same_label l.label) (take l.other-index l.labels))
