-- Each return of `work_task` for a frame is the definition's case of its verdict. Assumes nothing.
use mathlib.Core.Path.{◌≡◌, refl, sym, ap, subst, ◌∙◌}
use mathlib.Core.Bool.{true, false}
use mathlib.Core.List.{List}
use Prim.Native.Nat.{ℕ, ◌+◌, ◌*◌, ◌/◌, ◌≤◌}
use native.Mathlib.Nat.{zero-add}
use native.Mathlib.Omega.{arith}
use lib.ListN.{length, drop, length-append, length-drop}
use borrow.Author.Tests.{ltb-true}
use Rattle.laws.specs.Laid.{rows, laid, length-rows}
use Rattle.records.proofs.Laws.Lengths.{length-track}
use Rattle.records.specs.TrackRecord.{track_bytes}
use Rattle.records_line.specs.Line.{line, line_bytes, refused_line}
use Rattle.boost_tracker_settings.specs.declared.settings.Settings.{Settings}
use Rattle.boost_tracker_verdict.specs.declared.sound.State.{State}
use Rattle.boost_tracker_verdict.specs.declared.refusal.Refusal.{Refusal}
use Rattle.std.specs.Bool.{⊤}
use Rattle.std.proofs.Common.{Result, Ok, Err}
use Rattle.boost_tracker_emission.specs.Emission.{emitted_inds, record_at, bytes_at}
use Rattle.boost_tracker_table.specs.Lent.{Call, call_with}
use Rattle.boost_tracker_verdict.specs.Boxes.{Boxes}
use Rattle.boost_tracker_verdict.specs.Verdict.{number, where_accepted}
use Rattle.boost_tracker.specs.declared.frame.UpdateAnswer.{UpdateAnswer}
use Rattle.boost_tracker_definition.specs.Update.{Stages, state_after}
use Rattle.boost_tracker.specs.Frame.{refused_answer, accepted_answer, Memory, memory_after, worked, labels_of, updated}
use Rattle.trackbox_feed.specs.Trackbox.{settings, records_of}
use Rattle.trackbox_feed.specs.Feed.{Lent, done, work_with, has_room, work_by, verdict_of, work}
use Rattle.trackbox_feed.specs.Private.{Put, lines_in}
use Rattle.trackbox_feed.proofs.OutputLaws.{inds-many, lines_are}

accepts : (why : Refusal) → ◌≡◌ {A = Result ⊤ Refusal} (Ok tt) (Err why) → ⊥
accepts why q = cc

-- what `update` answers and leaves by a verdict v
abbrev By : Result ⊤ Refusal → State → List ℕ → Stages → Memory → UpdateAnswer → Memory → Type 0
By v state all g m r m' = call_with r m' ≡ where_accepted v (call_with (accepted_answer g) (memory_after settings all g m)) (call_with (refused_answer v state) m)

module _ (state : State) (all : List ℕ) (g : Stages) (m : Memory) {m' : Memory} {r : UpdateAnswer} (nth : ℕ) {text text' : List ℕ} {n : ℕ} where
  by_refusal : {k : ℕ} (v : Result ⊤ Refusal) → By v state all g m r m' → (why : Refusal) → r.verdict ≡ Err why → k ≡ number why
      → Put 0 (refused_line k nth) text n text' → work_with (Err n) (record { memory = m'; text = text' }) ≡ work_by v nth all g (record { memory = m; text = text })
  by_refusal (Ok v) l why q e p = absurd (accepts why (sym (ap (λ (c : Call UpdateAnswer Memory). c.answer.verdict) l) ∙ q))
  by_refusal {k} (Err other) l why q e p =
      let both : ◌≡◌ {A = Result ⊤ Refusal} (Err why) (Err other) = sym q ∙ ap (λ (c : Call UpdateAnswer Memory). c.answer.verdict) l in
      let one : why ≡ other = cc in
      let same : k ≡ number other = e ∙ ap number one in
      let left : m' ≡ m = ap (λ (c : Call UpdateAnswer Memory). c.lent) l in
      rw (left, p.cells, p.ends ∙ zero-add (length (refused_line k nth)), same)

  by_acceptance : {k : ℕ} {st : State} (v : Result ⊤ Refusal) → By v state all g m r m' → r.verdict ≡ Ok tt → k ≡ r.emitted → st ≡ r.state
      → lines_in (memory_after settings all g m).output (length g.output) ≡ rows line (records_of all g)
      → Put 0 (lines_in m'.output k) text n text' → work_with (done st n) (record { memory = m'; text = text' }) ≡ work_by v nth all g (record { memory = m; text = text })
  by_acceptance {k} {st} (Ok v) l q e d lines p =
      let count : k ≡ length g.output = e ∙ ap (λ (c : Call UpdateAnswer Memory). c.answer.emitted) l in
      let then : st ≡ state_after g = d ∙ ap (λ (c : Call UpdateAnswer Memory). c.answer.state) l in
      let left : m' ≡ memory_after settings all g m = ap (λ (c : Call UpdateAnswer Memory). c.lent) l in
      let said : lines_in m'.output k ≡ rows line (records_of all g) = rw (left, count) lines in
      rw (left, p.cells, p.ends ∙ zero-add (length (lines_in m'.output k)), said, then)
  by_acceptance (Err other) l q e d lines p = absurd (accepts other (sym q ∙ ap (λ (c : Call UpdateAnswer Memory). c.answer.verdict) l))

-- which verdict it was
judged-so : (v : Result ⊤ Refusal) (state : State) (all : List ℕ) (g : Stages) (m : Memory)
    → (where_accepted v (call_with (accepted_answer g) (memory_after settings all g m)) (call_with (refused_answer v state) m)).answer.verdict ≡ v
judged-so (Ok v) state all g m = refl
judged-so (Err why) state all g m = refl

module _ (s : Settings) (is : s ≡ settings) (state : State) (nth : ℕ) (b : Boxes) (m : Memory) (text : List ℕ) {r : UpdateAnswer} {m' : Memory} (given : call_with r m' ≡ updated s state b m) where
  abbrev g : Stages
  g = worked settings state b m

  -- the labels of all trackers in it
  abbrev all : List ℕ
  all = labels_of state b m g

  abbrev lent : Lent
  lent = record { memory = m; text = text }

  ends : By (verdict_of state b lent) state all g m r m'
  unfolding updated
  ends = subst (λ (s : Settings). call_with r m' ≡ updated s state b m) is given

  pub work-refused : {k n : ℕ} {text' : List ℕ} {why : Refusal} → r.verdict ≡ Err why → k ≡ number why → Put 0 (refused_line k nth) text n text'
      → work_with (Err n) (record { memory = m'; text = text' }) ≡ work state nth b lent
  unfolding work
  work-refused {why = why} q e p = by_refusal state all g m nth (verdict_of state b lent) ends why q e p

  module _ (q : r.verdict ≡ Ok tt) where
    verdict-is : verdict_of state b lent ≡ Ok tt
    verdict-is = sym (ap (λ (c : Call UpdateAnswer Memory). c.answer.verdict) ends ∙ judged-so (verdict_of state b lent) state all g m) ∙ q

    leaves : By (Ok tt) state all g m r m'
    leaves = subst (λ (v : Result ⊤ Refusal). By v state all g m r m') verdict-is ends

    pub work-accepted : {k n : ℕ} {text' : List ℕ} {st : State} → k ≡ r.emitted → st ≡ r.state → Put 0 (lines_in m'.output k) text n text'
        → work_with (done st n) (record { memory = m'; text = text' }) ≡ work state nth b lent
    unfolding work
    work-accepted e d p =
        by_acceptance state all g m nth (verdict_of state b lent) ends q e d
        (lines_are settings state m.table b (length m.output) (length m.work64) (length m.work32) verdict-is m.output) p

    -- the output has no more records than it was lent for, so that there is room for their lines
    pub emitted-room : {k : ℕ} → k ≡ r.emitted → length m'.output ≡ length m.output → has_room (length m.output) (length text) ≡ true → (k ≤ length m'.output / track_bytes) × (k * line_bytes ≤ length text)
    unfolding laid
    emitted-room {k} e kept room =
        let out : List ℕ = m.output in
        let inds : List ℕ = emitted_inds g.frame_count settings.min_hits g.started.trackers in
        let enc : ℕ → List ℕ = bytes_at false g.frame_count g.started.trackers all in
        let many = inds-many settings state m.table b (length m.output) (length m.work64) (length m.work32) verdict-is in
        let count : k ≡ length g.output = e ∙ ap (λ (c : Call UpdateAnswer Memory). c.answer.emitted) leaves in
        let long : length (rows enc inds) ≡ length inds * track_bytes = length-rows enc track_bytes (λ i. length-track (record_at g.frame_count g.started.trackers all i)) inds in
        let whole : length m'.output ≡ length (rows enc inds) + length (drop (length inds * track_bytes) out) =
        ap (λ (c : Call UpdateAnswer Memory). length c.lent.output) leaves ∙ length-append (rows enc inds) (drop (length inds * track_bytes) out) in
        let rest = length-drop (length inds * track_bytes) out in
        let lines = ltb-true (length out / track_bytes) (length text / line_bytes) room in
        let few : k * track_bytes ≤ length out = omega (arith, count, many, long, whole, rest, kept) in
        (omega (arith, few, kept), omega (arith, few, lines))

pub text-room : (out text : ℕ) → has_room out text ≡ true → line_bytes ≤ text
text-room out text room = let lines = ltb-true (out / track_bytes) (text / line_bytes) room in omega arith
