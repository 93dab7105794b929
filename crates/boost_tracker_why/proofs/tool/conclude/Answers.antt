-- `tool::conclude` meets its contract: the pairs of an accepted frame are found, and what they say of the box is what the frame does with it. Assumes nothing.
use Rattle.std.proofs.Common.{rules, ◌≡◌, Ok}
use Rattle.boost_tracker_table.specs.Lent.{table_with}
use Rattle.boost_tracker_verdict.specs.Boxes.{boxes_with}
use Rattle.boost_tracker_why.proofs.WhyLaws.{paired-ok, answerable, concluded_is}
use Rattle.boost_tracker_why.proofs.tool.conclude.Goals as goal

pub unwrap-counts-requires : goal.unwrap-counts-requires
unwrap-counts-requires c =
    let a = c.args in
    paired-ok a.settings a.state (boxes_with a.boxes.now a.box_labels.now) (table_with a.floats.now a.counters.now a.labels.now) a.index c.requires c.pairs.result c.pairs.ensures

pub answered-requires : goal.answered-requires
answered-requires c =
    let a = c.args in
    let found = c.pairs in
    let e : found.result ≡ Ok c.unwrap-counts.result = search rules in
    answerable a.settings a.state (boxes_with a.boxes.now a.box_labels.now) (table_with a.floats.now a.counters.now a.labels.now) a.index c.requires found.result found.ensures e
    found.auto.pair_boxes found.auto.pair_tracks found.auto.unmatched found.auto.left

pub returns : goal.returns
returns c =
    let a = c.args in
    let found = c.pairs in
    let e : found.result ≡ Ok c.unwrap-counts.result = search rules in
    concluded_is a.settings a.state (boxes_with a.boxes.now a.box_labels.now) (table_with a.floats.now a.counters.now a.labels.now) a.index c.requires found.result found.ensures e
    c.answered.ensures
