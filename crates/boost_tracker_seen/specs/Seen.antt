-- What is told of a box by the scores after the boosts.
use Rattle.std.specs.Prelude.{ℕ, min, List, length, slice_index_or, Float}
use Rattle.laws.specs.Count.{count_where}
use Rattle.floats.specs.Single.{plus_zero}
use Rattle.boost_tracker_definition.specs.Update.{remains}
use Rattle.boost_tracker_seen.specs.declared.seen.Seen.{Seen}

-- how many of the first i boxes are retained
unfoldable pub remain_before : Float → List Float → ℕ → ℕ
remain_before thresh probs i = count_where (remains thresh probs) (min i (length probs))

-- box i, whose score after the first boost is `once`, by the scores after both
abbrev pub seen_with : Float → Float → List Float → ℕ → Seen
seen_with thresh once probs i = record { once = once; twice = slice_index_or probs i plus_zero; before = remain_before thresh probs i }
