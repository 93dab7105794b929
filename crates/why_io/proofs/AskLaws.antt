-- The frame that is asked about is of the first boxes, with trackbox's settings. Assumes nothing.
use mathlib.Core.Path.{◌≡◌, ap, ◌∙◌}
use mathlib.Core.List.{List}
use Prim.Native.Nat.{ℕ, ◌*◌, ◌/◌, min}
use lib.ListN.{length, take}
use lib.Ieee.{Float}
use Rattle.records.specs.BoxRecord.{box_values}
use Rattle.boost_tracker_settings.specs.declared.settings.Settings.{Settings}
use Rattle.boost_tracker_table.specs.Lent.{Table, Call}
use Rattle.boost_tracker_verdict.specs.declared.sound.State.{State}
use Rattle.boost_tracker_verdict.specs.Boxes.{boxes_with}
use Rattle.std.proofs.Common.{Result}
use Rattle.boost_tracker_fate.specs.declared.kinds.Explanation.{Explanation}
use Rattle.boost_tracker_why.specs.declared.refusal.WhyRefusal.{WhyRefusal}
use Rattle.boost_tracker_why.specs.Answers.{Work, why_call}
use Rattle.trackbox_feed.specs.Trackbox as Trackbox
use Rattle.trackbox_feed.specs.Feed.{front}

pub asks_front : (k : ℕ) (state : State) (values : List Float) (labels : List ℕ) (t : Table) (room index : ℕ) (w : Work) {s : Settings} {m n : ℕ} {c : Call (Result Explanation WhyRefusal) Work}
    → s ≡ Trackbox.settings → m ≡ min k (length values / box_values) → n ≡ min k (length labels)
    → c ≡ why_call s state (boxes_with (take (m * box_values) values) (take n labels)) t room index w → c ≡ why_call Trackbox.settings state (front k (boxes_with values labels)) t room index w
asks_front k state values labels t room index w {s} {m} {n} es em en q =
    q
    ∙ ap (λ (x : Settings). why_call x state (boxes_with (take (m * box_values) values) (take n labels)) t room index w) es
    ∙ ap (λ (i : ℕ). why_call Trackbox.settings state (boxes_with (take (i * box_values) values) (take n labels)) t room index w) em
    ∙ ap (λ (i : ℕ). why_call Trackbox.settings state (boxes_with (take (min k (length values / box_values) * box_values) values) (take i labels)) t room index w) en
