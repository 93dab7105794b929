-- What specs/Facts states of a box of an accepted frame, and of every call that explains one. Assumes nothing.
use mathlib.Core.Path.{◌≡◌, refl, sym, ap, subst, ◌∙◌}
use mathlib.Core.Bool.{Bool, true, false, cond}
use mathlib.Core.List.{List}
use Prim.Native.Nat.{ℕ, ◌+◌, ◌<◌}
use native.Mathlib.Omega.{arith}
use borrow.Author.Tests.{ltb-true}
use lib.Dec.{ltb}
use lib.ListN.{length}
use Rattle.assoc_assignment.specs.Assignment.{Assignment}
use Rattle.assoc_matching.specs.Answers.{zeroed}
use Rattle.assoc.specs.Answers.{cleared}
use Rattle.boost_tracker_settings.specs.declared.settings.Settings.{Settings}
use Rattle.boost_tracker_table.specs.Lent.{Table, tracks_in, labels_in, Call, call_with}
use Rattle.std.specs.Bool.{⊤}
use Rattle.std.proofs.Common.{Result, Ok, Err}
use Rattle.boost_tracker_verdict.specs.declared.refusal.Refusal.{Refusal as FrameRefusal}
use Rattle.boost_tracker_verdict.specs.declared.sound.State.{State}
use Rattle.boost_tracker_verdict.specs.Boxes.{Boxes}
use Rattle.boost_tracker_verdict.specs.Verdict.{boxes_in, verdict, where_accepted}
use Rattle.boost_tracker_definition.specs.Update.{Stages, update}
use Rattle.boost_tracker_fate.specs.declared.kinds.Lot.{Lot}
use Rattle.boost_tracker_fate.specs.declared.kinds.Lot.TheVariants.{Under, Paired, Refused, Alone}
use Rattle.boost_tracker_fate.specs.declared.kinds.Fate.TheVariants.{Matched, Started, UnderThreshold, Rejected}
use Rattle.boost_tracker_fate.specs.declared.kinds.Explanation.{Explanation}
use Rattle.boost_tracker_why.specs.declared.refusal.WhyRefusal.{WhyRefusal}
use Rattle.boost_tracker_why.specs.declared.refusal.WhyRefusal.TheVariants.{NoBox}
use Rattle.boost_tracker_fate.specs.Fate.{fate_number, fate_id}
use Rattle.boost_tracker_fate.specs.Partner.{nobody}
use Rattle.boost_tracker_why.specs.Why.{lot_of, started_id, fate_of, paired_with, partner_in, explanation}
use Rattle.boost_tracker_why.specs.Answers.{Work, work_with, turned_down, why_call}
use Rattle.boost_tracker_why.specs.Facts.{Named, MatchedTo, StartedAs, RejectedWith, LeftOut, FateFacts}
use Rattle.boost_tracker_why.proofs.LotLaws.{retained-is}
use Rattle.boost_tracker_why.proofs.ToldLaws.{Within, lot-within, started_id_lem}
use Rattle.boost_tracker_why.proofs.FateLaws.{Condition, holds, one_of, in-matched, in-rejected, in_unpaired, left_out, matched_to, rejected_with, starts, started_as}

module _ (s : Settings) (state : State) (t : Table) (boxes : Boxes) (out work64 work32 : ℕ) (e : verdict s state t boxes out work64 work32 ≡ Ok tt) (b : ℕ) (low : b < boxes_in boxes.values) where
  abbrev labels : List ℕ
  labels = labels_in t state.count

  abbrev g : Stages
  g = update s state boxes (tracks_in t state.count) labels

  abbrev found : Assignment
  found = g.result

  -- what is known of a lot
  abbrev Known : Lot → Type 0
  Known l = Condition s state t boxes out work64 work32 e b low l × Within state.count (length found.unmatched_detections) l

  named_by : (l : Lot) → Known l → Named g b (fate_of g l)
  named_by Under k = k.0
  named_by (Paired i) k = in-matched s state t boxes out work64 work32 e b low i k.0
  named_by (Refused i place) k = in-rejected s state t boxes out work64 work32 e b low i place k.0
  named_by (Alone place) k = in_unpaired s state t boxes out work64 work32 e b low place k.0

  -- a started track has the id of its place
  by_id : (place id : ℕ) → place < length found.unmatched_detections → started_id g place ≡ id → StartedAs s state boxes g b (state.last + place + 1) → StartedAs s state boxes g b id
  by_id place id h q a = subst (λ (k : ℕ). StartedAs s state boxes g b k) (sym (started_id_lem s state t boxes out work64 work32 e b low place h) ∙ q) a

  matched_by : (id : ℕ) (l : Lot) → Known l → fate_of g l ≡ Matched id → MatchedTo s boxes labels g b id (partner_in g boxes labels b l)
  matched_by id Under k q = let f : ◌≡◌ {A = ℕ} 3 1 = ap fate_number q in absurd (omega arith)
  matched_by id (Paired i) k q =
      subst (λ (n : ℕ). MatchedTo s boxes labels g b n (paired_with g boxes labels b i)) (ap fate_id q) (matched_to s state t boxes out work64 work32 e b low i k.0 k.1)
  matched_by id (Refused i place) k q = let f : ◌≡◌ {A = ℕ} 4 1 = ap fate_number q in absurd (omega arith)
  matched_by id (Alone place) k q = let f : ◌≡◌ {A = ℕ} 2 1 = ap fate_number q in absurd (omega arith)

  started_by_lem : (id : ℕ) (l : Lot) → Known l → fate_of g l ≡ Started id → StartedAs s state boxes g b id × (partner_in g boxes labels b l ≡ nobody)
  started_by_lem id Under k q = let f : ◌≡◌ {A = ℕ} 3 2 = ap fate_number q in absurd (omega arith)
  started_by_lem id (Paired i) k q = let f : ◌≡◌ {A = ℕ} 1 2 = ap fate_number q in absurd (omega arith)
  started_by_lem id (Refused i place) k q = let f : ◌≡◌ {A = ℕ} 4 2 = ap fate_number q in absurd (omega arith)
  started_by_lem id (Alone place) k q =
      let c = k.0 in
      (by_id place id k.1 (ap fate_id q) (started_as s state t boxes out work64 work32 e b low place c.0 c.1 c.2), refl)

  under_by : (l : Lot) → Known l → fate_of g l ≡ UnderThreshold → LeftOut g b × (partner_in g boxes labels b l ≡ nobody)
  under_by Under k q = (left_out s state t boxes out work64 work32 e b low k.0, refl)
  under_by (Paired i) k q = let f : ◌≡◌ {A = ℕ} 1 3 = ap fate_number q in absurd (omega arith)
  under_by (Refused i place) k q = let f : ◌≡◌ {A = ℕ} 4 3 = ap fate_number q in absurd (omega arith)
  under_by (Alone place) k q = let f : ◌≡◌ {A = ℕ} 2 3 = ap fate_number q in absurd (omega arith)

  rejected_by : (id : ℕ) (l : Lot) → Known l → fate_of g l ≡ Rejected id → StartedAs s state boxes g b id × RejectedWith s boxes labels g b (partner_in g boxes labels b l)
  rejected_by id Under k q = let f : ◌≡◌ {A = ℕ} 3 4 = ap fate_number q in absurd (omega arith)
  rejected_by id (Paired i) k q = let f : ◌≡◌ {A = ℕ} 1 4 = ap fate_number q in absurd (omega arith)
  rejected_by id (Refused i place) k q =
      let c = k.0 in (
        by_id place id k.1.1 (ap fate_id q) (started_as s state t boxes out work64 work32 e b low place c.0 c.1 c.2),
        rejected_with s state t boxes out work64 work32 e b low i place c k.1.0,
      )
  rejected_by id (Alone place) k q = let f : ◌≡◌ {A = ℕ} 2 4 = ap fate_number q in absurd (omega arith)

  known : Known (lot_of g b)
  known = (holds s state t boxes out work64 work32 e b low, lot-within s state t boxes out work64 work32 e b low)

  pub fate_facts : FateFacts s state boxes labels g b (explanation g boxes labels b)
  unfolding explanation
  fate_facts = record {
    threshold = retained-is s state t boxes out work64 work32 e b low;
    one = one_of s state t boxes out work64 work32 e b low;
    named = named_by (lot_of g b) known;
    matched = λ id q. matched_by id (lot_of g b) known q;
    started = λ id q. started_by_lem id (lot_of g b) known q;
    under = λ q. under_by (lot_of g b) known q;
    rejected = λ id q. rejected_by id (lot_of g b) known q;
    starts = λ k h. starts s state t boxes out work64 work32 e b low k h;
  }

-- ---- a call

module _ (s : Settings) (state : State) (t : Table) (boxes : Boxes) (room b : ℕ) (l : Work) where
  abbrev of_box : Explanation
  of_box = explanation (update s state boxes (tracks_in t state.count) (labels_in t state.count)) boxes (labels_in t state.count) b

  -- what an answer tells, and whether it does
  abbrev told_in : Result Explanation WhyRefusal → Explanation
  told_in (Ok x) = x
  told_in (Err why) = of_box

  abbrev silent : Result Explanation WhyRefusal → ℕ
  silent (Ok x) = 0
  silent (Err why) = 1

  -- every call of `why`, by its contract, that explains a box
  pub explained : {x : Explanation} {l' : Work} → call_with (Ok x) l' ≡ why_call s state boxes t room b l
      → FateFacts s state boxes (labels_in t state.count) (update s state boxes (tracks_in t state.count) (labels_in t state.count)) b x
  unfolding why_call
  explained {x} {l'} ends = by_cases (verdict s state t boxes room (length l.work64) (length l.work32)) refl (ltb b (boxes_in boxes.values)) refl (ap (λ (k : Call (Result Explanation WhyRefusal) Work). k.answer) ends)
    where
      by_cases : (v : Result ⊤ FrameRefusal) → verdict s state t boxes room (length l.work64) (length l.work32) ≡ v → (w : Bool) → ltb b (boxes_in boxes.values) ≡ w
          → Ok x ≡ (where_accepted v (cond w (call_with (Ok of_box) (work_with (zeroed l.work64) (cleared l.work32))) (call_with (Err NoBox) l)) (call_with (turned_down v) l)).answer
          → FateFacts s state boxes (labels_in t state.count) (update s state boxes (tracks_in t state.count) (labels_in t state.count)) b x
      by_cases (Ok tt) e true q h =
          rw (ap told_in h) (fate_facts s state t boxes room (length l.work64) (length l.work32) e b (ltb-true b (boxes_in boxes.values) q))
      by_cases (Ok tt) e false q h = let f : ◌≡◌ {A = ℕ} 0 1 = ap silent h in absurd (omega arith)
      by_cases (Err why) e w q h = let f : ◌≡◌ {A = ℕ} 0 1 = ap silent h in absurd (omega arith)
