-- For each row its column: what either path leaves, and the pairs in it. Assumes nothing.
use Rattle.std.proofs.Common.{◌≡◌, ℕ, ◌*◌, ◌<◌, ◌≤◌, min, max, Bool, true, false, cond, List, length, sym, refl, ap, ◌∙◌, Option, Some, Ok}
use lib.Ieee.{Float}
use Rattle.laws.specs.Tab.{tab_ext}
use Rattle.laws.specs.Tests.{true_not_false}
use Rattle.laws.specs.Over.{over}
use Rattle.lapjv.specs.declared.Counts.{Counts}
use Rattle.assoc_matching.specs.Matching.{Pair, boxes_of, tracks_of, simple, simple_matches, Matched, match_detections}
use Rattle.assoc_matching.specs.declared.matching.MatchCounts.{MatchCounts}
use Rattle.assoc_matching.specs.Answers.{zeroed, MatchLent, match_lent_with, match_lent_after, match_counts, match_call_with}
use Rattle.assoc_direct.specs.Direct.{is_matrix, DirectCall, direct_call_of, direct_call_with, direct_call, direct_pairs}
use Rattle.assoc_matching.specs.Partners.{Sized, pairs_of, held, direct_column, direct_columns, solved_column, solved_match, solution, partner_of, Partnered, PairRoom, Wrote}
use Rattle.assoc_matching.specs.Private.{Whole, Solution, MatchReady}
use Rattle.assoc_direct.proofs.DirectLaws.{matrix, columns_are}
use Rattle.assoc_direct.proofs.PairLaws.{wrote_many, held-is}
use Rattle.assoc_direct.proofs.OpenLaws.{pairs-few, room, NotOpen, pairs_are}
use Rattle.assoc_matching.proofs.MatchLaws.{apart_solved, square_bounds, match_is, match_direct, match_solved, apart}

pub cells_in : (n m : ℕ) {side work : ℕ} → side ≡ max n m → max n m * max n m ≤ work → side * side ≤ work
cells_in n m e h = rw e h

pub whole_is : (n m : ℕ) {side work : ℕ} → side ≡ max n m → 1 ≤ max n m → work ≡ side * side → Whole n m side work side side
whole_is n m f h l = record { side = f; some = rw f h; long = l; long-x = refl; long-y = refl }

-- written to lent memory, with the work slice cleared
pub match_left : (a : Matched) (l : MatchLent) {ps : List Pair} {boxes tracks : List ℕ} {work : List Float} {k turns scans : ℕ} → ps ≡ a.matches
    → Wrote ps l.pair_boxes l.pair_tracks k boxes tracks → turns ≡ a.turns → scans ≡ a.scans → work ≡ zeroed l.work
    → match_call_with (Ok (record { pairs = k; turns = turns; scans = scans })) (match_lent_with boxes tracks work) ≡ match_call_with (Ok (match_counts a)) (match_lent_after a l)
match_left a l {ps} {boxes} {tracks} {work} {k} e o f g z =
    let q : Wrote a.matches l.pair_boxes l.pair_tracks k boxes tracks = rw e at o in
    rw (wrote_many q, f, g, q.boxes_are.cells, q.tracks_are.cells, z)

-- ---- the direct path

module _ (cost : List Float) (n m : ℕ) (t : Float) where
  -- an accepted call fits
  pub as_called : (boxes tracks : List ℕ) {work : ℕ} {x : DirectCall} → MatchReady n m (length cost) (length boxes) (length tracks) work → x ≡ direct_pairs cost n m t boxes tracks → x ≡ direct_call cost n m t boxes tracks
  as_called boxes tracks r e = e ∙ pairs_are cost n m t boxes tracks r.sides r.room-boxes r.room-tracks

  -- for a caller that asks by rows
  pub partnered_direct : (partner₀ : List ℕ) {partner : List ℕ} → Sized n m (length cost) → length partner₀ ≡ n → simple cost n m t ≡ true → partner ≡ direct_columns cost m t partner₀
      → Partnered cost n m t (record { turns = 0; scans = 0 }) partner
  partnered_direct partner₀ s l e d =
      let q : is_matrix (length partner₀) m (length cost) ≡ true = rw l (matrix s) in
      let r = columns_are cost m t partner₀ refl q l in
      record { counts = rw e; partners = d ∙ r ∙ tab_ext (direct_column cost m t) (partner_of cost n m t) n (λ (i : ℕ) (h : i < n). rw e) }

-- ---- the path by lapjv

module _ (cost : List Float) (n m : ℕ) where
  pub solved_room : {r : Counts} {partner : List ℕ} {a b : ℕ} → Solution cost n m r partner → 1 ≤ max n m → min n m ≤ a → min n m ≤ b → PairRoom (held m partner) a b
  solved_room {r} {partner} w some h l =
      rw (held-is m (solved_column cost n m) n partner w.partners)
      (room (pairs-few m (solved_column cost n m) n (apart_solved n m (solution cost n m).x (solution cost n m).y (square_bounds cost n m some).pairs)) h l)

  pub solved_done : (l : MatchLent) {r : Counts} {partner boxes tracks : List ℕ} {work : List Float} {k : ℕ} → Solution cost n m r partner
      → Wrote (held m partner) l.pair_boxes l.pair_tracks k boxes tracks → work ≡ zeroed l.work
      → match_call_with (Ok (record { pairs = k; turns = r.turns; scans = r.scans })) (match_lent_with boxes tracks work)
      ≡ match_call_with (Ok (match_counts (solved_match cost n m))) (match_lent_after (solved_match cost n m) l)
  solved_done l {r} {partner} w o z =
      match_left (solved_match cost n m) l (held-is m (solved_column cost n m) n partner w.partners) o (ap (λ (k : Counts). k.turns) w.counts) (ap (λ (k : Counts). k.scans) w.counts) z

-- ---- both

module _ (cost : List Float) (n m : ℕ) (t : Float) (few-rows : n ≤ 255) (few-cols : m ≤ 255) where
  -- the pairs of the definition are those of the rows
  pub matches_are : (match_detections cost n m t).matches ≡ pairs_of m (partner_of cost n m t) n
  matches_are = ap (λ (a : Matched). a.matches) (match_is cost n m t few-rows few-cols)

  pub held-matches : {r : Counts} {partner : List ℕ} → Partnered cost n m t r partner → held m partner ≡ (match_detections cost n m t).matches
  held-matches {r} {partner} w = held-is m (partner_of cost n m t) n partner w.partners ∙ sym matches_are

  pub turns_are : {r : Counts} {partner : List ℕ} → Partnered cost n m t r partner → r.turns ≡ (match_detections cost n m t).turns
  turns_are w = ap (λ (k : Counts). k.turns) w.counts ∙ sym (ap (λ (a : Matched). a.turns) (match_is cost n m t few-rows few-cols))

  pub scans_are : {r : Counts} {partner : List ℕ} → Partnered cost n m t r partner → r.scans ≡ (match_detections cost n m t).scans
  scans_are w = ap (λ (k : Counts). k.scans) w.counts ∙ sym (ap (λ (a : Matched). a.scans) (match_is cost n m t few-rows few-cols))

  pub matches-few : length (match_detections cost n m t).matches ≤ min n m
  matches-few = rw matches_are (pairs-few m (partner_of cost n m t) n (apart cost n m t few-rows few-cols))

  -- a call of match_detections on the direct path
  pub taken-done : (l : MatchLent) {d : Option ℕ} {k : ℕ} {boxes tracks : List ℕ} {work : List Float} → direct_call_with d boxes tracks ≡ direct_call cost n m t l.pair_boxes l.pair_tracks → d ≡ Some k
      → work ≡ zeroed l.work
      → match_call_with (Ok (record { pairs = k; turns = 0; scans = 0 })) (match_lent_with boxes tracks work)
      ≡ match_call_with (Ok (match_counts (match_detections cost n m t))) (match_lent_after (match_detections cost n m t) l)
  unfolding direct_call
  taken-done l {d} {k} {boxes} {tracks} {work} e f z = by_cases (simple cost n m t) refl (rw f at e)
    where
      by_cases : (v : Bool) → simple cost n m t ≡ v
          → direct_call_of true k boxes tracks
          ≡ cond v (direct_call_of true (length (simple_matches cost n m t)) (over (boxes_of (simple_matches cost n m t)) l.pair_boxes) (over (tracks_of (simple_matches cost n m t)) l.pair_tracks))
          (direct_call_of false 0 l.pair_boxes l.pair_tracks)
          → match_call_with (Ok (record { pairs = k; turns = 0; scans = 0 })) (match_lent_with boxes tracks work)
          ≡ match_call_with (Ok (match_counts (match_detections cost n m t))) (match_lent_after (match_detections cost n m t) l)
      by_cases true s q =
          rw (match_direct cost n m t few-rows few-cols s, z)
          (ap (λ (x : DirectCall). match_call_with (Ok (record { pairs = x.pairs; turns = 0; scans = 0 })) (match_lent_with x.pair_boxes x.pair_tracks (zeroed l.work))) q)
      by_cases false s q = absurd (true_not_false (ap (λ (x : DirectCall). x.taken) q))

  -- and elsewhere
  pub ready_as : {boxes tracks boxes' tracks' : List ℕ} {work : ℕ} → NotOpen cost n m t boxes tracks boxes' tracks' → MatchReady n m (length cost) (length boxes) (length tracks) work
      → MatchReady n m (length cost) (length boxes') (length tracks') work
  ready_as w r = rw (w.boxes_are, w.tracks_are) r

  pub not_taken-done : (l : MatchLent) {boxes' tracks' boxes tracks : List ℕ} {work : List Float} {r : MatchCounts} → NotOpen cost n m t l.pair_boxes l.pair_tracks boxes' tracks'
      → match_call_with (Ok r) (match_lent_with boxes tracks work)
      ≡ match_call_with (Ok (match_counts (solved_match cost n m))) (match_lent_after (solved_match cost n m) (match_lent_with boxes' tracks' l.work))
      → match_call_with (Ok r) (match_lent_with boxes tracks work)
      ≡ match_call_with (Ok (match_counts (match_detections cost n m t))) (match_lent_after (match_detections cost n m t) l)
  not_taken-done l w q = rw (match_solved cost n m t few-rows few-cols w.path) (rw (w.boxes_are, w.tracks_are) at q)
