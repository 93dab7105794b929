-- Steps 1 to 4 of an accepted frame are accepted one after the other, and they are the definition's; how a call of `prepare` ends. Assumes nothing.
use mathlib.Core.Path.{◌≡◌, refl, sym, ap, ◌∙◌}
use mathlib.Core.Bool.{Bool, true, false, ◌&&◌}
use mathlib.Core.List.{List, ◌++◌, map}
use Prim.Native.Nat.{ℕ, ◌+◌, ◌*◌, ◌≤◌, ◌<◌, max}
use native.Mathlib.Nat.{le_of_eq, mul-le-mul}
use native.Mathlib.Omega.{arith}
use borrow.Author.Tests.{leb-true}
use lib.Dec.{leb}
use lib.ListN.{length, length-map, get_or, take, get_or-map}
use lib.Seq.{take_all, take-append-le}
use lib.Ieee.{Float}
use Rattle.laws.specs.Tab.{get_d_any}
use Rattle.laws.specs.Tests.{and_left, and_right}
use Rattle.laws.specs.Laid.{length-rows}
use Rattle.laws.specs.Grid.{grid, grid-front}
use Rattle.labels.specs.Label.{same_label, alike}
use Rattle.floats.specs.Single.{plus_zero}
use Rattle.laws.specs.Over.{over-front}
use Rattle.strack.specs.Strack.{predict, get_state}
use Rattle.strack.proofs.Laws.{predict_since}
use Rattle.std.specs.Bool.{⊤}
use Rattle.std.proofs.Common.{Result, Ok, Err}
use Rattle.boost_tracker_settings.specs.declared.settings.Settings.{Settings}
use Rattle.boost_tracker_table.specs.Table.{Track, blank}
use Rattle.boost_tracker_table.specs.Lent.{Table, tracks_in, labels_in}
use Rattle.boost_tracker_verdict.specs.declared.refusal.Refusal.{Refusal}
use Rattle.boost_tracker_verdict.specs.declared.refusal.Refusal.TheVariants.{WorkShort}
use Rattle.boost_tracker_verdict.specs.declared.sound.State.{State}
use Rattle.boost_tracker_verdict.specs.Boxes.{Boxes}
use Rattle.boost_tracker_verdict.specs.Verdict as Frame
use Rattle.boost_tracker_verdict.specs.Verdict.{boxes_in}
use Rattle.boost_tracker_verdict.specs.Ready.{Ready}
use Rattle.boost_tracker_mh_dist.specs.MhDist.{get_mh_dist_matrix}
use Rattle.boost_tracker_seen.specs.Seen.{remain_before, seen_with}
use Rattle.boost_tracker_definition.specs.Update.{corners_of, xyxy_of, tracker_at, bboxes, scores, trks, confs, after_dlo, after_duo, remain_inds, det_bboxes, det_scores, det_labels, mh_dist, stages_from, steps, update_by}
use Rattle.boost_tracker_pairs.specs.Pairs.{Inputs, inputs_with, roomy, roomy_for, seen_in, PrepareCall, prepare_verdict}
use Rattle.boost_tracker_seen.specs.declared.seen.Seen.{Seen}
use Rattle.boost_tracker_pairs.specs.declared.pairing.Prepared.{Prepared}
use Rattle.boost_tracker_pairs.specs.Private.{SinceLow, LocalRoom, StateRoom, TrackLists, TracksRead, box_lists_with, Retained, Raised, Distant, TrackRoom, Room, Readied, once, twice, inds}

-- ---- sizes

-- the boosts have room
pub boost_room : {held n floats counters labels corners scores trks confs x sigma work32 : ℕ} → Room held n floats counters labels work32 → LocalRoom held n corners scores trks confs → StateRoom held x sigma
    → Distant scores held corners x sigma work32 × TrackRoom held floats counters trks confs
boost_room {held} {n} {floats} {counters} {labels} {corners} {scores} {trks} {confs} {x} {sigma} {work32} w l s =
    let placed = w.placed in
    let square : n * held ≤ max held n * max held n = mul-le-mul (omega arith) (omega arith) in
    let singles = w.singles in
    rw l.scores_fit (
      record { few-boxes = w.few-boxes; few-tracks = omega arith; corners_fit = l.corners_fit; x_fits = s.x_fits; sigma-fits = s.sigma-fits; room = omega arith },
      record { placed = w.placed; trks_fit = l.trks_fit; confs_fit = l.confs_fit },
    )

-- fewer boxes have room
pub distant_room : (kept : ℕ) {held n floats counters labels work32 corners x sigma : ℕ} → Room held n floats counters labels work32 → kept ≤ n → corners ≡ kept * 4 → StateRoom held x sigma
    → Distant kept held corners x sigma work32
distant_room kept {held} {n} {floats} {counters} {labels} {work32} w fewer ec s =
    let few = w.few-boxes in
    let placed = w.placed in
    let singles = w.singles in
    let square : kept * held ≤ max held n * max held n = mul-le-mul (omega arith) (omega arith) in
    record { few-boxes = omega (arith, few, fewer); few-tracks = omega (arith, placed); corners_fit = ec; x_fits = s.x_fits; sigma-fits = s.sigma-fits; room = omega (arith, square, singles) }

-- ---- steps 1 to 4

pub corners-many : (objects : List Float) (is : List ℕ) → length (det_bboxes objects is) ≡ length is * 4
unfolding det_bboxes
corners-many objects is = length-rows (λ i. corners_of (xyxy_of objects i)) 4 (λ _. refl) is

scores-many : (probs : List Float) (is : List ℕ) → length (det_scores probs is) ≡ length is
unfolding det_scores
scores-many probs is = length-map is _

labels-many : (box_labels is : List ℕ) → length (det_labels box_labels is) ≡ length is
unfolding det_labels
labels-many box_labels is = length-map is _

pub trks-many : (P : List Track) → length (trks P) ≡ length P * 4
unfolding trks
trks-many P = length-rows corners_of 4 (λ _. refl) (map get_state P) ∙ ap (λ (n : ℕ). n * 4) (length-map P get_state)

pub confs-many : (P : List Track) → length (confs P) ≡ length P
unfolding confs
confs-many P = length-map P _

module _ (self : Settings) (frame : ℕ) (boxes : Boxes) (P : List Track) (L : List ℕ) (held seen : ℕ) where
  abbrev like : ℕ → ℕ → Bool
  like = alike same_label boxes.labels L

  pub raised_is : {one : Float} {corners probs probs' : List Float} {l : TrackLists} → corners ≡ bboxes boxes.values → probs ≡ scores boxes.values → TracksRead held P l
      → (one ≡ get_or (after_dlo like self corners l.trks l.confs P probs) seen plus_zero) × (probs' ≡ after_duo self frame corners P (after_dlo like self corners l.trks l.confs P probs))
      → Raised self frame boxes P L held seen one corners probs' l
  raised_is {one} {corners} {probs} {probs'} {l} ec es q e = record {
    first = e.0 ∙ rw (ec, es, q.trks_are, q.confs_are);
    raised = e.1 ∙ rw (ec, es, q.trks_are, q.confs_are);
    corners_are = ec;
    read = q;
  }

  -- with the retained boxes' distances in the front of the work slice
  module _ (labels₀ : List ℕ) (work : List Float) {one : Float} {corners probs corners' probs' work' : List Float} {l : TrackLists} {labels : List ℕ} {kept : ℕ} {asked : Seen}
      (w : Raised self frame boxes P L held seen one corners probs l) (es : asked ≡ seen_with self.det_thresh one probs seen)
      (k : Retained self.det_thresh boxes (box_lists_with probs corners labels₀) (box_lists_with probs' corners' labels) kept) (many : length probs ≡ boxes_in boxes.values)
      (d : work' ≡ grid (get_mh_dist_matrix (take (kept * 4) corners') (tracker_at P)) kept held work) where
    abbrev is : List ℕ
    is = inds self frame boxes P L

    abbrev D : List Float
    D = det_bboxes boxes.values is

    abbrev K : List ℕ
    K = det_labels boxes.labels is

    abbrev Q : List Float
    Q = det_scores (twice self frame boxes P L) is

    abbrev answer : Prepared
    answer = record { kept = kept; seen = asked }

    counted : kept ≡ length is
    counted = k.count ∙ ap (λ (q : List Float). length (remain_inds self.det_thresh q)) w.raised

    told : asked ≡ seen_in self.det_thresh (once self frame boxes P L) (twice self frame boxes P L) seen
    unfolding remain_before
    told = rw (es, w.first, w.raised)

    front-corners : take (kept * 4) corners' ≡ D
    front-corners = rw (k.corners_are, w.raised) (over-front D corners (kept * 4) (ap (λ (n : ℕ). n * 4) counted ∙ sym (corners-many boxes.values is)))

    front-labels : take kept labels ≡ K
    front-labels = rw (k.labels_are, w.raised) (over-front K labels₀ kept (counted ∙ sym (labels-many boxes.labels is)))

    front-trks : take (held * 4) l.trks ≡ trks P
    front-trks = rw w.read.trks_are (take_all (held * 4) (trks P) (le_of_eq (trks-many P ∙ ap (λ (n : ℕ). n * 4) w.read.states.many)))

    front-confs : take held l.confs ≡ confs P
    front-confs = rw w.read.confs_are (take_all held (confs P) (le_of_eq (confs-many P ∙ w.read.states.many)))

    front_distances : take (kept * held) work' ≡ mh_dist (length Q) D P
    unfolding mh_dist
    front_distances =
        let sized : length Q ≡ kept = scores-many (twice self frame boxes P L) is ∙ sym counted in
        rw (d, front-corners, sized, w.read.states.many) (grid-front (get_mh_dist_matrix D (tracker_at P)) kept held work)

    pub readied_is : Readied self frame boxes P L held seen answer (inputs_with corners' labels probs' l.trks l.confs) work'
    unfolding steps stages_from
    readied_is = record {
      few = rw many at k.few;
      prepared = λ last. record {
        count = counted;
        seen-is = told;
        corners_are = front-corners;
        labels_are = front-labels;
        scores_are = k.scores_are ∙ ap (λ (q : List Float). det_scores q (remain_inds self.det_thresh q)) w.raised;
        trks_are = front-trks;
        confs_are = front-confs;
        distances_are = front_distances;
      };
    }

  -- with more behind the fronts
  pub readied_longer : (corners' probs' ts' cs' : List Float) {r : Prepared} {corners probs ts cs work : List Float} {labels : List ℕ}
      → length corners ≡ boxes_in boxes.values * 4 → length probs ≡ boxes_in boxes.values → length ts ≡ held * 4 → length cs ≡ held
      → Readied self frame boxes P L held seen r (inputs_with corners labels probs ts cs) work
      → Readied self frame boxes P L held seen r (inputs_with (corners ++ corners') labels (probs ++ probs') (ts ++ ts') (cs ++ cs')) work
  readied_longer corners' probs' ts' cs' {r} {corners} {probs} {ts} {cs} {work} {labels} lc lp lt ls w =
      let few = w.few in
      record {
        few = few;
        prepared = λ last.
            let q = w.prepared last in
            record {
              count = q.count;
              seen-is = q.seen-is;
              corners_are = take-append-le (r.kept * 4) corners corners' (omega (arith, few, lc)) ∙ q.corners_are;
              labels_are = q.labels_are;
              scores_are = take-append-le r.kept probs probs' (omega (arith, few, lp)) ∙ q.scores_are;
              trks_are = take-append-le (held * 4) ts ts' (le_of_eq (sym lt)) ∙ q.trks_are;
              confs_are = take-append-le held cs cs' (le_of_eq (sym ls)) ∙ q.confs_are;
              distances_are = q.distances_are;
            };
      }

-- ---- a call

-- times since update of predicted tracks fit 32 bits
pub since_low : (s : Settings) (state : State) (t : Table) (boxes : Boxes) (out work64 work32 : ℕ) → Ready s state t boxes out work64 work32
    → SinceLow state.count (map predict (tracks_in t state.count))
since_low s state t boxes out work64 work32 r j h =
    let T : List Track = tracks_in t state.count in
    let u : Track = get_or T j blank in
    let held = r.each j h in
    let low = held.since_low in
    let frames = r.frames-low in
    let many : j < length (map predict T) = rw (length-map T predict, r.many) h in
    let same : tracker_at (map predict T) j ≡ predict u = get_d_any (map predict T) j blank (predict blank) many ∙ get_or-map predict T j blank in
    let next : (predict u).since ≡ u.since + 1 = predict_since u (omega arith) in
    rw (same, next) (omega arith)

-- lists that passed the test
pub record Roomy (corners labels scores trks confs : ℕ) : Type 0 where
  pub corners_fit : 1020 ≤ corners
  pub labels_fit : 255 ≤ labels
  pub scores_fit : 255 ≤ scores
  pub trks_fit : 1020 ≤ trks
  pub confs_fit : 255 ≤ confs

pub roomy-fits : (corners labels scores trks confs : ℕ) → roomy corners labels scores trks confs ≡ true → Roomy corners labels scores trks confs
unfolding roomy
roomy-fits corners labels scores trks confs e =
    let a : Bool = leb 1020 corners && leb 255 labels in
    let b : Bool = leb 255 scores && leb 1020 trks in
    let front = and_left (a && b) (leb 255 confs) e in
    let first = and_left a b front in
    let second = and_right a b front in
    record {
      corners_fit = leb-true 1020 corners (and_left (leb 1020 corners) (leb 255 labels) first);
      labels_fit = leb-true 255 labels (and_right (leb 1020 corners) (leb 255 labels) first);
      scores_fit = leb-true 255 scores (and_left (leb 255 scores) (leb 1020 trks) second);
      trks_fit = leb-true 1020 trks (and_right (leb 255 scores) (leb 1020 trks) second);
      confs_fit = leb-true 255 confs (and_right (a && b) (leb 255 confs) e);
    }

module _ (s : Settings) (state : State) (boxes : Boxes) (t : Table) (room work64 i : ℕ) (l : Inputs) (work : List Float) where
  abbrev said : Result ⊤ Refusal
  said = Frame.verdict s state t boxes room work64 (length work)

  -- refused, and nothing changed
  ends-unprepared : {why : Refusal} → Err why ≡ prepare_verdict s state boxes t room work64 l work → PrepareCall s state boxes t room work64 i l work (Err why) l work
  ends-unprepared {why} e = record { says = e; refused = λ _. (refl, refl); prepared = λ e'. absurd (cc) }

  pub ends-refused : {why : Refusal} → said ≡ Err why → PrepareCall s state boxes t room work64 i l work (Err why) l work
  ends-refused e = ends-unprepared (rw e)

  pub ends-short : said ≡ Ok tt → roomy_for l ≡ false → PrepareCall s state boxes t room work64 i l work (Err WorkShort) l work
  ends-short e f = ends-unprepared (rw (e, f))

  -- accepted
  pub ends-prepared : {p : Prepared} {l' : Inputs} {work' : List Float} → said ≡ Ok tt → roomy_for l ≡ true
      → Readied s (state.frames + 1) boxes (map predict (tracks_in t state.count)) (labels_in t state.count) state.count i p l' work' → PrepareCall s state boxes t room work64 i l work (Ok p) l' work'
  unfolding update_by
  ends-prepared {p} e f w = record { says = rw (e, f); refused = λ e'. absurd (cc); prepared = λ {p = p'} e'. let same : p ≡ p' = cc in rw (← same) (w.prepared state.last) }
