-- The sizes of the boosts fit, and over what was gathered they are the definition's. Assumes nothing.
use mathlib.Core.Path.{◌≡◌, refl, sym, ap, fun_ext, ◌∙◌}
use mathlib.Core.Bool.{Bool, true, false, cond, ◌&&◌, ◌||◌}
use mathlib.Core.List.{List, ◌++◌}
use Prim.Native.Nat.{ℕ, ◌*◌, ◌≤◌}
use native.Mathlib.Omega.{arith}
use lib.Dec.{ltb, eqb}
use lib.ListN.{length, length-append, get_or}
use lib.Ieee.{Float, nan}
use borrow.Author.Tests.{le-ltb, eq-eqb}
use Rattle.laws.specs.Packed.{packed}
use Rattle.laws.specs.Grid.{grid, cell_at}
use Rattle.labels.specs.Label.{where_alike}
use Rattle.floats.specs.Single.{plus_zero}
use Rattle.strack.specs.Strack.{get_kf_state, get_kf_covariance_diag}
use Rattle.std.specs.Bool.{⊤}
use Rattle.std.proofs.Common.{Result, Ok}
use Rattle.refusals.specs.declared.refusal.Refusal.{Refusal}
use Rattle.assoc_similarity.specs.Sizes.{after}
use Rattle.boost_tracker_mh_dist.specs.MhDist as MhDist
use Rattle.boost_tracker_mh_dist.specs.MhDist.{row, reciprocals, z, get_mh_dist_matrix}
use Rattle.boost_tracker_dlo.specs.Dlo.{similarity, boosted, dlo_confidence_boost}
use Rattle.boost_tracker_mh_dist.specs.Sizes.{of_states}
use Rattle.boost_tracker_dlo.specs.Sizes.{of_dlo}
use Rattle.boost_tracker_mh_dist.proofs.Laws.{mh_gathered}
use Rattle.boost_tracker_dlo.proofs.Laws.{dlo-over}
use Rattle.boost_tracker_duo.specs.Duo.{duo_confidence_boost}
use Rattle.boost_tracker_boosts.specs.Sizes.{of_boost, boosted_by}
use Rattle.boost_tracker_duo.proofs.Laws.{duo-over}
use Rattle.boost_tracker_dlo.specs.declared.dlo.DloSettings.{DloSettings}
use Rattle.boost_tracker_settings.specs.declared.settings.Settings.{Settings}
use Rattle.boost_tracker_table.specs.Table.{Track}
use Rattle.boost_tracker_definition.specs.Update.{tracker_at, dlo_settings, dlo, duo, after_dlo, after_duo}
use Rattle.boost_tracker_pairs.specs.Private.{since_of, States, Distant, TrackRoom}
use Rattle.boost_tracker_pairs.proofs.GatherLaws.{states_are, sigmas_are, since_at}

-- ---- distances

module _ (corners : List Float) (boxes held : ℕ) (x sigma out : List Float) (d : Distant boxes held (length corners) (length x) (length sigma) (length out)) where
  pub states-accepted : of_states boxes held (length corners) (length x) (length sigma) (length out) ≡ Ok tt
  states-accepted =
      rw (
        le-ltb 255 boxes d.few-boxes,
        le-ltb 255 held d.few-tracks,
        eq-eqb (length corners) (boxes * 4) d.corners_fit,
        eq-eqb (length x) (held * 4) d.x_fits,
        eq-eqb (length sigma) (held * 4) d.sigma-fits,
        le-ltb (length out) (boxes * held) d.room,
      )

  pub distances_are : {out' : List Float} {r : Result ⊤ Refusal} → r ≡ of_states boxes held (length corners) (length x) (length sigma) (length out)
      → out' ≡ after r (MhDist.mh_dist (z corners) (cell_at nan 4 x) (cell_at nan 4 sigma)) boxes held out
      → (ts : List Track) → States held ts x sigma → out' ≡ grid (get_mh_dist_matrix corners (tracker_at ts)) boxes held out
  distances_are {out'} {r} er eo ts s =
      let trackers : ℕ → Track = tracker_at ts in
      let ex : x ≡ packed (λ j. row (get_kf_state (trackers j))) 4 x held = s.states_are ∙ sym (states_are ts held s.many x d.x_fits) in
      let es : sigma ≡ packed (λ j. row (reciprocals (get_kf_covariance_diag (trackers j)))) 4 sigma held = s.sigmas_are ∙ sym (sigmas_are ts held s.many sigma d.sigma-fits) in
      let a : r ≡ Ok tt = er ∙ states-accepted in
      let stored : out' ≡ grid (MhDist.mh_dist (z corners) (cell_at nan 4 x) (cell_at nan 4 sigma)) boxes held out = eo ∙ ap (λ (v : Result ⊤ Refusal). after v (MhDist.mh_dist (z corners) (cell_at nan 4 x) (cell_at nan 4 sigma)) boxes held out) a in
      stored ∙ ap (λ (y : List Float). grid (MhDist.mh_dist (z corners) (cell_at nan 4 y) (cell_at nan 4 sigma)) boxes held out) ex
      ∙ ap (λ (y : List Float). grid (MhDist.mh_dist (z corners) (cell_at nan 4 (packed (λ j. row (get_kf_state (trackers j))) 4 x held)) (cell_at nan 4 y)) boxes held out) es
      ∙ mh_gathered corners trackers x sigma out boxes held

-- ---- DLO

pub dlo-accepted : (held floats counters corners trks confs x sigma times work scores : ℕ) → Distant scores held corners x sigma work → TrackRoom held floats counters trks confs → times ≡ held → of_dlo scores held corners trks confs times work scores ≡ Ok tt
dlo-accepted held floats counters corners trks confs x sigma times work scores d w timed =
    rw (
      le-ltb 255 scores d.few-boxes,
      le-ltb 255 held d.few-tracks,
      eq-eqb trks (held * 4) w.trks_fit,
      eq-eqb confs held w.confs_fit,
      eq-eqb times held timed,
      eq-eqb corners (scores * 4) d.corners_fit,
      eq-eqb scores scores refl,
      le-ltb work (scores * held) d.room,
    )

-- without the rich similarity the distances are not looked at
poor : (like : ℕ → ℕ → Bool) (q : DloSettings) → q.rich ≡ false → (corners trks confs : List Float) (f g : ℕ → ℕ → Float) (since : ℕ → ℕ) (boxes held : ℕ) (scores : List Float)
    → dlo_confidence_boost like q corners trks confs f since boxes held scores ≡ dlo_confidence_boost like q corners trks confs g since boxes held scores
unfolding dlo_confidence_boost similarity
poor like q h corners trks confs f g since boxes held scores =
    ap (λ (cell : ℕ → ℕ → Float). cond (eqb held 0 || eqb boxes 0) scores (boosted q (where_alike like cell plus_zero) since boxes held scores))
    (fun_ext {f = similarity q corners trks confs f boxes} {g = similarity q corners trks confs g boxes} (λ i. fun_ext (λ j. rw h)))

module _ (like : ℕ → ℕ → Bool) (self : Settings) (corners trks confs : List Float) (cell : ℕ → ℕ → Float) (since : ℕ → ℕ) (boxes held : ℕ) (work scores : List Float) where
  rich_or_poor : {work' : List Float} → work' ≡ cond self.use_rich_similarity (grid cell boxes held work) work
      → dlo_confidence_boost like (dlo_settings self) corners trks confs (cell_at nan held work') since boxes held scores ≡ dlo_confidence_boost like (dlo_settings self) corners trks confs cell since boxes held scores
  rich_or_poor {work'} e = by_cases self.use_rich_similarity refl
    where
      by_cases : (b : Bool) → self.use_rich_similarity ≡ b
          → dlo_confidence_boost like (dlo_settings self) corners trks confs (cell_at nan held work') since boxes held scores ≡ dlo_confidence_boost like (dlo_settings self) corners trks confs cell since boxes held scores
      by_cases true h = let stored : work' ≡ grid cell boxes held work = rw h at e in rw stored (dlo-over like (dlo_settings self) corners trks confs cell work since boxes held scores)
      by_cases false h = poor like (dlo_settings self) h corners trks confs (cell_at nan held work') cell since boxes held scores

module _ (like : ℕ → ℕ → Bool) (self : Settings) (corners trks confs : List Float) (ts : List Track) (held : ℕ) (many : length ts ≡ held) (work scores : List Float) where
  pub dlo-is : {floats counters x sigma : ℕ} {times : List ℕ} {work' scores' : List Float} {q : DloSettings} {r : Result ⊤ Refusal} → Distant (length scores) held (length corners) x sigma (length work) → TrackRoom held floats counters (length trks) (length confs) → length times ≡ held
      → q ≡ dlo_settings self → times ≡ since_of ts
      → work' ≡ cond self.use_rich_similarity (grid (get_mh_dist_matrix corners (tracker_at ts)) (length scores) held work) work → length work' ≡ length work
      → r ≡ of_dlo (length scores) held (length corners) (length trks) (length confs) (length times) (length work') (length scores)
      → scores' ≡ boosted_by r (dlo_confidence_boost like q corners trks confs (cell_at nan held work') (λ j. get_or times j 0) (length scores) held scores) scores
      → scores' ≡ dlo like self corners trks confs ts scores
  unfolding dlo
  dlo-is {floats} {counters} {x} {sigma} {times} {work'} {scores'} {q} {r} d w timed eq et ew lw er es =
      let a : r ≡ Ok tt = er ∙ rw lw (dlo-accepted held floats counters (length corners) (length trks) (length confs) x sigma (length times) (length work) (length scores) d w timed) in
      let stored : scores' ≡ dlo_confidence_boost like q corners trks confs (cell_at nan held work') (λ j. get_or times j 0) (length scores) held scores =
      es ∙ ap (λ (v : Result ⊤ Refusal). boosted_by v (dlo_confidence_boost like q corners trks confs (cell_at nan held work') (λ j. get_or times j 0) (length scores) held scores) scores) a in
      let times_are : ◌≡◌ {A = ℕ → ℕ} (λ j. get_or times j 0) (λ j. (tracker_at ts j).since) = fun_ext (λ j. ap (λ (l : List ℕ). get_or l j 0) et ∙ since_at ts j) in
      stored ∙ rw (eq, times_are, many) (rich_or_poor like self corners trks confs (get_mh_dist_matrix corners (tracker_at ts)) (λ j. (tracker_at ts j).since) (length scores) held work scores ew)

  -- the test, and where it fails
  pub dlo-done : {scores' : List Float} → (self.use_dlo_boost && ltb 0 held) ≡ true → scores' ≡ dlo like self corners trks confs ts scores → scores' ≡ after_dlo like self corners trks confs ts scores
  unfolding after_dlo
  dlo-done h e = rw (many, h) e

  pub dlo-left : (self.use_dlo_boost && ltb 0 held) ≡ false → scores ≡ after_dlo like self corners trks confs ts scores
  unfolding after_dlo
  dlo-left h = rw (many, h)

-- ---- DUO

pub duo-accepted : (boxes held corners x sigma work : ℕ) → Distant boxes held corners x sigma work → of_boost boxes held corners work boxes ≡ Ok tt
duo-accepted boxes held corners x sigma work w =
    rw (le-ltb 255 boxes w.few-boxes, le-ltb 255 held w.few-tracks, eq-eqb corners (boxes * 4) w.corners_fit, eq-eqb boxes boxes refl, le-ltb work (boxes * held) w.room)

module _ (self : Settings) (frame : ℕ) (corners : List Float) (ts : List Track) (held : ℕ) (many : length ts ≡ held) (work scores : List Float) where
  pub duo-is : {x sigma : ℕ} {work' scores' : List Float} {r : Result ⊤ Refusal} → Distant (length scores) held (length corners) x sigma (length work)
      → (self.use_duo_boost && ltb 0 held) ≡ true → work' ≡ grid (get_mh_dist_matrix corners (tracker_at ts)) (length scores) held work → length work' ≡ length work
      → r ≡ of_boost (length scores) held (length corners) (length work') (length scores)
      → scores' ≡ boosted_by r (duo_confidence_boost frame self.det_thresh corners (cell_at nan held work') (length scores) held scores) scores
      → scores' ≡ after_duo self frame corners ts scores
  unfolding after_duo duo
  duo-is {x} {sigma} {work'} {scores'} {r} w h ew lw er es =
      let a : r ≡ Ok tt = er ∙ rw lw (duo-accepted (length scores) held (length corners) x sigma (length work) w) in
      let stored : scores' ≡ duo_confidence_boost frame self.det_thresh corners (cell_at nan held work') (length scores) held scores =
      es ∙ ap (λ (v : Result ⊤ Refusal). boosted_by v (duo_confidence_boost frame self.det_thresh corners (cell_at nan held work') (length scores) held scores) scores) a in
      stored ∙ rw (many, h, ew) (duo-over frame self.det_thresh corners (get_mh_dist_matrix corners (tracker_at ts)) work (length scores) held scores)

  pub duo-left : (self.use_duo_boost && ltb 0 held) ≡ false → scores ≡ after_duo self frame corners ts scores
  unfolding after_duo
  duo-left h = rw (many, h)

-- a part that is given back lies in the front
pub front-in : {A : Type 0} (front rest : List A) (n : ℕ) → length front ≡ n → n ≤ length (front ++ rest)
front-in front rest n e = omega (arith, length-append front rest, e)
