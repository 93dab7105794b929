-- What is due, and what is done with an item, case by case. Assumes nothing.
use mathlib.Core.Path.{◌≡◌, sym, ap, ◌∙◌}
use Prim.Native.Nat.{ℕ, ◌-◌, ◌≤◌, ◌<◌}
use borrow.Author.Tests.{lt-ltb, le-ltb, eq-eqb, ne_eqb}
use Rattle.records.specs.declared.box_record.BoxRecord.{BoxRecord}
use Rattle.std.specs.Bool.{⊤}
use Rattle.std.proofs.Common.{Option, Some, None, Result, Ok, Err}
use Rattle.trackbox_stream.specs.declared.rules.Fault.{Fault}
use Rattle.trackbox_stream.specs.declared.rules.Next.{Next}
use Rattle.trackbox_stream.specs.Rules.{nth_after, judged, closed}
use Rattle.trackbox_feed.specs.declared.feed.Feed.{Feed}
use Rattle.trackbox_feed.specs.declared.feed.Item.{Item}
use Rattle.trackbox_feed.specs.declared.feed.Item.TheVariants as item
use Rattle.why_question.specs.declared.due.Due.{Due}
use Rattle.why_question.specs.declared.due.Move.{Move}
use Rattle.why_question.specs.declared.due.Move.TheVariants.{Explain}
use Rattle.why_question.specs.Due.{frame_due, due_next, due_end, due, onward, decide_due, decide}

pub empty-due : (feed : Feed) (i : Item) {n : ℕ} → 0 < feed.empty → n ≡ feed.opened.frame - feed.empty → frame_due n 0 ≡ due feed i
unfolding due
empty-due feed i h q = rw (lt-ltb 0 feed.empty h, q)

module _ (feed : Feed) {i : Item} {d : Option Due} (none : feed.empty ≤ 0) where
  pub next-due : {r : BoxRecord} {x : Result Next Fault} → i ≡ item.Record r → x ≡ judged feed.opened (nth_after feed.opened.records) r.frame → d ≡ due_next feed.opened x → d ≡ due feed i
  unfolding due
  next-due e j q = rw (le-ltb 0 feed.empty none, e) (q ∙ ap (due_next feed.opened) j)

  pub end-due : {rest : ℕ} {x : Result ⊤ Fault} → i ≡ item.End rest → x ≡ closed (nth_after feed.opened.records) rest → d ≡ due_end feed.opened x → d ≡ due feed i
  unfolding due
  end-due e j q = rw (le-ltb 0 feed.empty none, e) (q ∙ ap (due_end feed.opened) j)

module _ (frame : ℕ) (feed : Feed) (i : Item) {d : Option Due} (e : d ≡ due feed i) where
  by_due : {x : Option Due} → d ≡ x → decide frame feed i ≡ decide_due frame x (onward feed i)
  by_due q = ap (λ (y : Option Due). decide_due frame y (onward feed i)) (sym e ∙ q)

  pub decide-none : {m : Move} → d ≡ None → m ≡ onward feed i → m ≡ decide frame feed i
  decide-none q h = h ∙ sym (by_due q)

  pub decide-here : {x : Due} → d ≡ Some x → x.frame ≡ frame → Explain x.boxes ≡ decide frame feed i
  decide-here {x} q h = sym (by_due q ∙ rw (eq-eqb x.frame frame h))

  pub decide_other : {x : Due} {m : Move} → d ≡ Some x → (x.frame ≡ frame → ⊥) → m ≡ onward feed i → m ≡ decide frame feed i
  decide_other {x} q h o = o ∙ sym (by_due q ∙ rw (ne_eqb x.frame frame h))
