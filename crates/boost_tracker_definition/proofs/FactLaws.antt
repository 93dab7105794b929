-- The facts of an accepted frame, and the account of its assignment. Assumes nothing.
use mathlib.Core.Path.{◌≡◌, refl, sym, ap, ◌∙◌}
use mathlib.Core.Bool.{Bool, true, false, cond, not, ◌&&◌, ◌||◌}
use mathlib.Core.List.{List, ◌++◌, map}
use Prim.Native.Nat.{ℕ, ◌+◌, ◌*◌, ◌≤◌, ◌<◌}
use native.Mathlib.Nat.{le_trans}
use native.Mathlib.Omega.{arith}
use lib.Dec.{eqb, leb}
use lib.ListN.{length, length-append, length-map, get_or, get_or-map}
use lib.Seq.{get_or-take, length-take-le}
use lib.Ieee.{Float, nan}
use Rattle.laws.specs.Tab.{length-tab, get_d_any, indices}
use Rattle.laws.specs.Sieve.{sieve-few}
use Rattle.labels.specs.Label.{label_at, is_label, same_label, alike, where_alike}
use Rattle.floats.specs.Single.{plus_zero}
use Rattle.strack.specs.Strack.{predict}
use Rattle.strack.proofs.Laws.{update-accepted}
use Rattle.boost_tracker_dlo.specs.declared.dlo.DloSettings.{DloSettings}
use Rattle.boost_tracker_mh_dist.specs.MhDist.{det, get_mh_dist_matrix}
use Rattle.boost_tracker_dlo.specs.Dlo.{similarity, coefficient, soft, varying, boosted, dlo_confidence_boost}
use Rattle.boost_tracker_duo.specs.Duo.{boost_candidates, masked, duo_confidence_boost}
use Rattle.assoc_matching.specs.Matching.{Pair, pair, boxes_of, tracks_of}
use Rattle.assoc_assignment.specs.Account.{Accounted}
use Rattle.assoc.specs.Association.{ious, stands}
use Rattle.assoc.proofs.Theorem.{account, stands_alike}
use Rattle.std.proofs.Common.{Ok}
use Rattle.boost_tracker_settings.specs.declared.settings.Settings.{Settings}
use Rattle.boost_tracker_verdict.specs.declared.sound.State.{State}
use Rattle.boost_tracker_table.specs.Table.{Track, blank, young, retained, Emptied}
use Rattle.boost_tracker_table.specs.Lent.{Table, places_of, tracks_in, labels_in, holding}
use Rattle.boost_tracker_table.proofs.Laws.{emptied-tracks}
use Rattle.boost_tracker_table.proofs.LabelLaws.{labels_where_are, none-unlabelled, held-places, held-labels}
use Rattle.boost_tracker_table.proofs.LabelLaws as table
use Rattle.boost_tracker_verdict.specs.Sound.{rising}
use Rattle.boost_tracker_verdict.specs.Boxes.{Boxes}
use Rattle.boost_tracker_verdict.specs.Verdict.{boxes_in, verdict}
use Rattle.boost_tracker_verdict.specs.Ready.{HeldTrack, Ready}
use Rattle.boost_tracker_verdict.proofs.ReadyLaws.{ready}
use Rattle.boost_tracker_definition.specs.Update.{some, tracker_at, prob_of, bboxes, scores, dlo_settings, dlo, duo, after_dlo, after_duo, remains, remain_inds, det_scores, mh_dist, params, result, Started, started_from, Stages, stages_from, steps, update_by, update, labels_retained}
use Rattle.boost_tracker_definition.specs.Facts.{pair_at, correction_at, labels_of_boxes, labels_all, FrameFacts}
use Rattle.boost_tracker_definition.specs.Plain.{corrected_by, started_by}
use Rattle.boost_tracker_definition.proofs.PlainLaws.{all_above, matched-is, started-is}
use Rattle.boost_tracker_definition.proofs.TrackFacts.{hit-is, hits_many, news_many, old_id, new_id_is, sound-after}
use Rattle.boost_tracker_definition.proofs.LabelFacts.{Labelled, labels-many, old_label, new_label, all-labels, remain_below}

-- ---- the pairs

predicted-at : (held : List Track) (i : ℕ) → i < length held → tracker_at (map predict held) i ≡ predict (tracker_at held i)
predicted-at held i h = get_d_any (map predict held) i blank (predict blank) (rw (length-map held predict) h) ∙ get_or-map predict held i blank

-- a held track is correctable once predicted, and no track is in two pairs
pairs-corrected : (state : State) (held : List Track) → ((i : ℕ) → i < length held → HeldTrack state (tracker_at held i)) → (g : Stages) → g.predicted ≡ map predict held
    → g.matched ≡ corrected_by g.det_bboxes (boxes_of g.result.matches) (tracks_of g.result.matches) (map predict held)
    → {ok : Pair → Bool} → Accounted ok (length g.det_scores) (length held) g.result
    → (k : ℕ) → k < length g.result.matches → ((correction_at g k).0 ≡ 0) × (tracker_at g.matched (pair_at g k).track ≡ (correction_at g k).1)
pairs-corrected state held each g predicted hit acc k h =
    let ms : List Pair = g.result.matches in
    let box-is : get_or (boxes_of ms) k 0 ≡ (pair_at g k).box = get_or-map (λ (p : Pair). p.box) ms k (pair 0 0) in
    let track-is : get_or (tracks_of ms) k 0 ≡ (pair_at g k).track = get_or-map (λ (p : Pair). p.track) ms k (pair 0 0) in
    let within : k < length (tracks_of ms) = rw (length-map ms (λ (p : Pair). p.track)) h in
    let halves : length (boxes_of ms) ≡ length (tracks_of ms) = length-map ms (λ (p : Pair). p.box) ∙ sym (length-map ms (λ (p : Pair). p.track)) in
    let low : get_or (tracks_of ms) k 0 < length held = acc.tracks-once.below k within in
    let t : ℕ = (pair_at g k).track in
    let low-t : t < length held = rw track-is at low in
    let is : tracker_at g.predicted t ≡ predict (tracker_at held t) = rw predicted (predicted-at held t low-t) in
    let corrects = hit-is g.det_bboxes (boxes_of ms) (tracks_of ms) (map predict held) acc.tracks-once.apart halves k within (rw (length-map held predict) low) in
    let hits = rw (box-is, track-is) at corrects in
    let takes = update-accepted (predict (tracker_at held t)) (det g.det_bboxes (pair_at g k).box) (each t low-t).correctable in
    (rw (is, takes) refl, rw (hit, predicted) hits)

-- ---- the table and the ids

-- what a caller learns, of any stages whose tracks are those held, corrected, and those started
facts_of : (self : Settings) (state : State) (boxes : Boxes) (held : List Track) (labels : List ℕ) → ((i : ℕ) → i < length held → HeldTrack state (tracker_at held i)) → rising 0 held ≡ true → state.frames < 2147483647
    → state.last ≤ 255 * state.frames → (g : Stages) → g.frame_count ≡ state.frames + 1 → g.retained ≡ retained self.max_age g.started.trackers
    → {ok : Pair → Bool} → Accounted ok (length g.det_scores) (length held) g.result
    → g.started ≡ started_from (state.last + length g.result.unmatched_detections)
    (corrected_by g.det_bboxes (boxes_of g.result.matches) (tracks_of g.result.matches) (map predict held) ++ started_by state.last g.det_bboxes g.result.unmatched_detections)
    → g.predicted ≡ map predict held → g.matched ≡ corrected_by g.det_bboxes (boxes_of g.result.matches) (tracks_of g.result.matches) (map predict held)
    → length g.result.unmatched_detections ≤ 255 → Labelled boxes labels (length held) g → (t : Table) → length held + length g.result.unmatched_detections ≤ places_of t
    → FrameFacts self state boxes held labels g (holding g.retained (labels_retained self (labels_all boxes labels g) g) t)
facts_of self state boxes held labels each rises low ids g frame kept {ok} acc all predicted hit few named t room =
    let corners : List Float = g.det_bboxes in
    let oldest : ℕ = self.max_age in
    let pb : List ℕ = boxes_of g.result.matches in
    let pt : List ℕ = tracks_of g.result.matches in
    let un : List ℕ = g.result.unmatched_detections in
    let halves : length pb ≡ length pt = length-map g.result.matches (λ (p : Pair). p.box) ∙ sym (length-map g.result.matches (λ (p : Pair). p.track)) in
    let apart = acc.tracks-once.apart in
    let hits : List Track = corrected_by corners pb pt (map predict held) in
    let news : List Track = started_by state.last corners un in
    let whole : g.started.trackers ≡ hits ++ news = ap (λ (t : Started). t.trackers) all in
    let last : g.started.track_id_count ≡ state.last + length un = ap (λ (t : Started). t.track_id_count) all in
    let many : length (hits ++ news) ≡ length held + length un =
    length-append hits news ∙ rw (hits_many state held each rises low corners pb pt un halves apart, news_many state held each rises low corners pb pt un halves apart) in
    let ls : List ℕ = labels_retained self (labels_all boxes labels g) g in
    let after : Table = holding g.retained ls t in
    let places : ℕ = places_of t in
    let z : Emptied t.floats t.counters places g.retained after.floats after.counters = record { floats = refl; counters = refl } in
    let left : length g.retained ≤ places = rw (kept, whole) (le_trans (sieve-few (young oldest) (hits ++ news)) (rw many room)) in
    let holds : tracks_in after (length g.retained) ≡ g.retained = emptied-tracks z left (omega arith) in
    let is-sound = sound-after state held each rises low corners pb pt un halves apart (young oldest) places ids few (rw many room) in
    let pairs = pairs-corrected state held each g predicted hit acc in
    let as_many : length ls ≡ length g.retained = table.labels-many (young oldest) g.started.trackers (labels_all boxes labels g) ∙ sym (ap length kept) in
    let front : labels_in after (length g.retained) ≡ ls = rw as_many at (held-labels g.retained ls t) in
    let same : places_of after ≡ places = held-places g.retained ls t left (rw as_many left) in
    let all-many : length (labels_all boxes labels g) ≡ length g.started.trackers = labels-many boxes labels (length held) g named ∙ sym (ap length whole ∙ many) in
    let good : (i : ℕ) → i < length ls → is_label (label_at ls i) ≡ true =
    labels_where_are is_label (young oldest) g.started.trackers (labels_all boxes labels g) (λ i h. all-labels boxes labels (length held) g named (λ n. is_label n ≡ true) named.olds named.news i (rw (whole, many) at h)) in
    record {
      holds = holds;
      sound = rw (same, holds, frame, last, kept, whole) is-sound;
      accepted = λ i h. (pairs i h).0;
      corrected = λ i h. (pairs i h).1;
      matched-many = rw (hit, hits_many state held each rises low corners pb pt un halves apart);
      many = rw whole many;
      old_ids = λ i h. rw whole (old_id state held each rises low corners pb pt un halves apart i h);
      new-ids = λ i h. rw whole (new_id_is state held each rises low corners pb pt un halves apart i h);
      last_id = last;
      many-labels = all-many;
      old_labels = old_label boxes labels (length held) g named;
      new-labels = new_label boxes labels (length held) g named;
      holds-labels = front;
      labelled = none-unlabelled ls places t.labels (length g.retained) (sym as_many) good;
      paired_alike = named.alike;
      turns = acc.turns;
      scans = acc.scans;
    }

frame_is : (self : Settings) (state : State) (objects : Boxes) (trackers : List Track) (labels : List ℕ) → (update self state objects trackers labels).frame_count ≡ state.frames + 1
unfolding update_by steps stages_from
frame_is self state objects trackers labels = refl

-- those stay that are not too old
pub retained-is : (self : Settings) (state : State) (objects : Boxes) (trackers : List Track) (labels : List ℕ)
    → (update self state objects trackers labels).retained ≡ retained self.max_age (update self state objects trackers labels).started.trackers
unfolding update_by steps stages_from
retained-is self state objects trackers labels = refl

-- ---- how many boxes are retained

cond_many : {A : Type 0} (b : Bool) (xs ys : List A) (n : ℕ) → length xs ≡ n → length ys ≡ n → length (cond b xs ys) ≡ n
cond_many true xs ys n e f = e
cond_many false xs ys n e f = f

-- a boost leaves a score for each box
module _ (st : DloSettings) (sim : ℕ → ℕ → Float) (since : ℕ → ℕ) (n trackers : ℕ) (l : List Float) where
  coefficient-many : length (coefficient st sim since n trackers l) ≡ n
  unfolding coefficient
  coefficient-many = length-tab _ n

  soft-many : length (soft st sim since n trackers l) ≡ n
  unfolding soft
  soft-many = length-tab _ n

  varying-many : length (varying st sim since n trackers l) ≡ n
  unfolding varying
  varying-many = length-tab _ n

boosted-many : (st : DloSettings) (sim : ℕ → ℕ → Float) (since : ℕ → ℕ) (n trackers : ℕ) (l : List Float) → length l ≡ n → length (boosted st sim since n trackers l) ≡ n
unfolding boosted
boosted-many st sim since n trackers l e =
    let softened : List Float = cond st.soft (soft st sim since n trackers l) l in
    cond_many (not st.soft && not st.varying) (coefficient st sim since n trackers l) (cond st.varying (varying st sim since n trackers softened) softened) n (coefficient-many st sim since n trackers l)
    (cond_many st.varying (varying st sim since n trackers softened) softened n (varying-many st sim since n trackers softened)
    (cond_many st.soft (soft st sim since n trackers l) l n (soft-many st sim since n trackers l) e))

pub dlo-many : (like : ℕ → ℕ → Bool) (self : Settings) (corners ts cs : List Float) (trackers : List Track) (l : List Float) → length (after_dlo like self corners ts cs trackers l) ≡ length l
unfolding after_dlo dlo dlo_confidence_boost
dlo-many like self corners ts cs trackers l =
    let n : ℕ = length l in
    let k : ℕ = length trackers in
    let st : DloSettings = dlo_settings self in
    let sim : ℕ → ℕ → Float = where_alike like (similarity st corners ts cs (get_mh_dist_matrix corners (tracker_at trackers)) n) plus_zero in
    let boost : List Float = boosted st sim (λ j. (tracker_at trackers j).since) n k l in
    cond_many (self.use_dlo_boost && some trackers) (cond (eqb k 0 || eqb n 0) l boost) l n
    (cond_many (eqb k 0 || eqb n 0) l boost n refl (boosted-many st sim (λ j. (tracker_at trackers j).since) n k l refl))
    refl

masked-many : (corners l : List Float) (candidates : List ℕ) (thresh : Float) (n : ℕ) → length (masked corners l candidates thresh n) ≡ n
unfolding masked
masked-many corners l candidates thresh n = length-tab _ n

pub duo-many : (self : Settings) (frame_count : ℕ) (corners : List Float) (trackers : List Track) (l : List Float) → length (after_duo self frame_count corners trackers l) ≡ length l
unfolding after_duo duo duo_confidence_boost
duo-many self frame_count corners trackers l =
    let n : ℕ = length l in
    let k : ℕ = length trackers in
    let candidates : List ℕ = boost_candidates (get_mh_dist_matrix corners (tracker_at trackers)) self.det_thresh n k l in
    let mask : List Float = masked corners l candidates self.det_thresh n in
    let third : List Float = cond (eqb (length candidates) 0) l mask in
    let second : List Float = cond (eqb n 0 || eqb k 0) l third in
    let first : List Float = cond (eqb k 0 || (eqb n 0 || leb frame_count 1)) l second in
    cond_many (self.use_duo_boost && some trackers) first l n
    (cond_many (eqb k 0 || (eqb n 0 || leb frame_count 1)) l second n refl
    (cond_many (eqb n 0 || eqb k 0) l third n refl (cond_many (eqb (length candidates) 0) l mask n refl (masked-many corners l candidates self.det_thresh n))))
    refl

pub scores-many : (objects : List Float) → length (scores objects) ≡ boxes_in objects
unfolding scores
scores-many objects = length-tab (prob_of objects) (boxes_in objects)

pub scores_of : (l : List Float) (inds : List ℕ) → length (det_scores l inds) ≡ length inds
unfolding det_scores
scores_of l inds = length-map inds (λ i. get_or l i nan)

remain_few : (thresh : Float) (l : List Float) → length (remain_inds thresh l) ≤ length l
unfolding remain_inds
remain_few thresh l = rw (length-tab (λ i. i) (length l)) at (sieve-few (remains thresh l) (indices (length l)))

pub kept_few : (thresh : Float) (l : List Float) → length (det_scores l (remain_inds thresh l)) ≤ length l
kept_few thresh l = rw (scores_of l (remain_inds thresh l)) (remain_few thresh l)

-- ---- the definition's frame

-- the test by which a pair of the frame stands
abbrev pub standing : Settings → List Float → ℕ → ℕ → List Float → List ℕ → List ℕ → Pair → Bool
standing self boxes dets tracks ts box_labels labels =
    stands (alike same_label box_labels labels) (ious (alike same_label box_labels labels) dets tracks boxes ts) tracks self.iou_threshold

result_account : (self : Settings) (boxes probs : List Float) (trackers : List Track) (ts cs : List Float) (box_labels labels : List ℕ) → length probs ≤ 255 → length trackers ≤ 255
    → Accounted (standing self boxes (length probs) (length trackers) ts box_labels labels) (length probs) (length trackers) (result same_label self boxes probs trackers ts cs box_labels labels)
unfolding result
result_account self boxes probs trackers ts cs box_labels labels few-boxes few-tracks =
    account same_label (params self (length probs) (length trackers)) (length probs) (length trackers) boxes ts (mh_dist (length probs) boxes trackers) cs probs box_labels labels few-boxes few-tracks

module _ (s : Settings) (state : State) (t : Table) (boxes : Boxes) (out work64 work32 : ℕ) (e : verdict s state t boxes out work64 work32 ≡ Ok tt) where
  abbrev held : List Track
  held = tracks_in t state.count

  abbrev labels : List ℕ
  labels = labels_in t state.count

  abbrev frame : Stages
  frame = update s state boxes held labels

  knows : Ready s state t boxes out work64 work32
  knows = ready s state t boxes out work64 work32 e

  -- the boosts leave a score for each box
  pub scored-many : length frame.after_duo ≡ boxes_in boxes.values
  unfolding update_by steps stages_from
  scored-many =
      duo-many s (state.frames + 1) (bboxes boxes.values) (map predict held) frame.after_dlo
      ∙ dlo-many (alike same_label boxes.labels labels) s (bboxes boxes.values) frame.trks frame.confs (map predict held) (scores boxes.values)
      ∙ scores-many boxes.values

  -- no more boxes are retained than there are
  pub retained-few : length frame.det_scores ≤ boxes_in boxes.values
  unfolding update_by steps stages_from
  retained-few = let few = kept_few s.det_thresh frame.after_duo in rw scored-many at few

  -- the assignment accounts for every retained box and every held track
  pub frame_account : Accounted (standing s frame.det_bboxes (length frame.det_scores) state.count frame.trks (labels_of_boxes boxes frame) labels) (length frame.det_scores) state.count frame.result
  unfolding update_by steps stages_from
  frame_account =
      let many : length (map predict held) ≡ state.count = length-map held predict ∙ knows.many in
      let few = retained-few in
      let low = knows.boxes-low in
      let space = knows.space in
      let all : length (map predict held) ≤ 255 = rw many (omega arith) in
      rw many at (result_account s frame.det_bboxes frame.det_scores (map predict held) frame.trks frame.confs (labels_of_boxes boxes frame) labels (omega arith) all)

  pub started-few : length frame.result.unmatched_detections ≤ boxes_in boxes.values
  started-few = let whole = frame_account.boxes-many in let few = retained-few in omega arith

  matched-so : frame.matched ≡ corrected_by frame.det_bboxes (boxes_of frame.result.matches) (tracks_of frame.result.matches) (map predict held)
  unfolding update_by steps stages_from
  matched-so = matched-is frame.det_bboxes frame.result.matches (map predict held)

  predicted-so : frame.predicted ≡ map predict held
  unfolding update_by steps stages_from
  predicted-so = refl

  -- all tracks before retirement
  pub all-started : frame.started ≡ started_from (state.last + length frame.result.unmatched_detections)
      (corrected_by frame.det_bboxes (boxes_of frame.result.matches) (tracks_of frame.result.matches) (map predict held) ++ started_by state.last frame.det_bboxes frame.result.unmatched_detections)
  unfolding update_by steps stages_from
  all-started =
      started-is s.det_thresh frame.det_bboxes frame.det_scores frame.result.unmatched_detections state.last frame.matched (all_above s.det_thresh frame.after_duo)
      (λ k h. frame_account.unmatched-boxes-once.below k h)
      ∙ rw (matched-is frame.det_bboxes frame.result.matches (map predict held))

  -- an index for each retained score, and each is of a box
  pub inds-many : length frame.det_scores ≡ length frame.remain_inds
  unfolding update_by steps stages_from
  inds-many = scores_of frame.after_duo frame.remain_inds

  inds-below : (i : ℕ) → i < length frame.remain_inds → get_or frame.remain_inds i 0 < boxes_in boxes.values
  unfolding update_by steps stages_from
  inds-below i h = let low = remain_below s.det_thresh frame.after_duo i h in rw scored-many at low

  unmatched-within : (k : ℕ) → k < length frame.result.unmatched_detections → get_or frame.result.unmatched_detections k 0 < length frame.remain_inds
  unmatched-within k h = let low = frame_account.unmatched-boxes-once.below k h in rw inds-many at low

  pub frame-labels : Labelled boxes labels state.count frame
  frame-labels =
      let space = knows.space in
      record {
        many = length-take-le state.count t.labels (omega arith);
        olds = λ j h. rw (get_or-take state.count t.labels j 0 h) (knows.labels-good j h);
        news = λ k h. knows.box-labels-good _ (inds-below _ (unmatched-within k h));
        within = unmatched-within;
        alike = λ k h. stands_alike (alike same_label (labels_of_boxes boxes frame) labels) _ state.count s.iou_threshold (pair_at frame k) (frame_account.stands k h);
      }

  pub frame_facts : FrameFacts s state boxes held labels frame (holding frame.retained (labels_retained s (labels_all boxes labels frame) frame) t)
  frame_facts =
      let space = knows.space in
      let low = knows.boxes-low in
      let few = started-few in
      facts_of s state boxes held labels (λ i h. knows.each i (rw knows.many at h)) knows.ids_rise knows.frames-low knows.ids-low frame (frame_is s state boxes held labels) (retained-is s state boxes held labels)
      {ok = standing s frame.det_bboxes (length frame.det_scores) state.count frame.trks (labels_of_boxes boxes frame) labels}
      (rw knows.many frame_account) all-started predicted-so matched-so (omega arith) (rw knows.many frame-labels) t (rw knows.many (omega arith))

  -- a label that every held track and every box has is that of every tracker
  pub frame_label : (label : ℕ) → ((j : ℕ) → j < state.count → label_at t.labels j ≡ label) → ((i : ℕ) → i < boxes_in boxes.values → label_at boxes.labels i ≡ label)
      → (i : ℕ) → i < length frame.started.trackers → label_at (labels_all boxes labels frame) i ≡ label
  frame_label label tracks_are boxes_are i h =
      all-labels boxes labels state.count frame frame-labels (λ n. n ≡ label) (λ j c. get_or-take state.count t.labels j 0 c ∙ tracks_are j c) (λ k c. boxes_are _ (inds-below _ (unmatched-within k c))) i
      (rw (frame_facts.many, knows.many) at h)
