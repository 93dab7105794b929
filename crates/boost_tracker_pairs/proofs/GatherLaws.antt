-- Tracks predicted as they are read, and lists that a loop over boxes or tracks fills, are those of the definition. Assumes nothing.
use mathlib.Core.Path.{◌≡◌, refl, sym, ap, ◌∙◌}
use mathlib.Core.List.{List, map}
use Prim.Native.Nat.{ℕ, ◌+◌, ◌-◌, ◌*◌, ◌≤◌, ◌<◌}
use native.Mathlib.Nat.{le_of_eq}
use borrow.Rule.Slice.PartMut.{put_mid}
use borrow.Author.Tests.{lt-ltb, le-ltb}
use lib.ListN.{length, length-map, get_or, set, get_or-map}
use lib.Ieee.{Float}
use Rattle.laws.specs.Tab.{tab, tab-map, get_d_any, Filling, fill_start, fill_on, fill_whole}
use Rattle.laws.specs.Grid.{Rowing, rows_start, rows_on, rows_end}
use Rattle.laws.specs.Laid.{rows}
use Rattle.laws.specs.Packed.{packed, packed-whole}
use Rattle.strack.specs.Strack.{predict, get_state, get_kf_state, get_kf_covariance_diag, get_confidence}
use Rattle.boost_tracker_mh_dist.specs.MhDist.{row, reciprocals}
use Rattle.boost_tracker_table.specs.Table.{Track, blank, capacity, tracks}
use Rattle.boost_tracker_emission.specs.Record.{nine_tenths}
use Rattle.boost_tracker_table.proofs.Laws.{tracks-many}
use Rattle.boost_tracker_verdict.specs.Verdict.{boxes_in}
use Rattle.boost_tracker_definition.specs.Update.{corners_of, xyxy_of, tracker_at, bboxes, trks, confs}
use Rattle.boost_tracker_pairs.specs.Pairs.{nowhere, xyxy_at}
use Rattle.boost_tracker_pairs.specs.Private.{predicted_in, since_of, StateRoom, TrackLists, track_lists_with, states_of, sigmas_of, TracksRead}

module _ (f : List Float) (c : List ℕ) (held : ℕ) (room : held ≤ capacity (length f) (length c)) where
  abbrev T : List Track
  T = tracks f c held

  pub predicted-many : length (predicted_in f c held) ≡ held
  predicted-many = length-map T predict ∙ tracks-many f c held room

  pub predicted-at : (j : ℕ) → j < held → predict (get_or T j blank) ≡ tracker_at (predicted_in f c held) j
  predicted-at j h =
      let inside : j < length (map predict T) = rw predicted-many h in
      sym (get_d_any (map predict T) j blank (predict blank) inside ∙ get_or-map predict T j blank)

-- a box that is there, and one that is not
module _ (objects : List Float) (i : ℕ) where
  pub xyxy_here : i < boxes_in objects → xyxy_at objects i ≡ xyxy_of objects i
  unfolding xyxy_at
  xyxy_here h = rw (lt-ltb i (boxes_in objects) h)

  pub xyxy_gone : boxes_in objects ≤ i → xyxy_at objects i ≡ nowhere
  unfolding xyxy_at
  xyxy_gone h = rw (le-ltb i (boxes_in objects) h)

pub bboxes_are : (objects l : List Float) → length l ≡ boxes_in objects * 4 → packed (λ i. corners_of (xyxy_of objects i)) 4 l (boxes_in objects) ≡ bboxes objects
unfolding bboxes
bboxes_are objects l e = packed-whole corners_of (xyxy_of objects) 4 l (boxes_in objects) e

module _ (ts : List Track) (held : ℕ) (many : length ts ≡ held) where
  pub trks_are : (l : List Float) → length l ≡ held * 4 → packed (λ j. corners_of (get_state (tracker_at ts j))) 4 l held ≡ trks ts
  unfolding trks
  trks_are l e = packed-whole corners_of (λ j. get_state (tracker_at ts j)) 4 l held e ∙ ap (rows corners_of) (tab-map get_state ts held blank many)

  pub states_are : (l : List Float) → length l ≡ held * 4 → packed (λ j. row (get_kf_state (tracker_at ts j))) 4 l held ≡ states_of ts
  unfolding states_of
  states_are l e = packed-whole row (λ j. get_kf_state (tracker_at ts j)) 4 l held e ∙ ap (rows row) (tab-map get_kf_state ts held blank many)

  pub sigmas_are : (l : List Float) → length l ≡ held * 4 → packed (λ j. row (reciprocals (get_kf_covariance_diag (tracker_at ts j)))) 4 l held ≡ sigmas_of ts
  unfolding sigmas_of
  sigmas_are l e =
      packed-whole row (λ j. reciprocals (get_kf_covariance_diag (tracker_at ts j))) 4 l held e ∙ ap (rows row) (tab-map (λ t. reciprocals (get_kf_covariance_diag t)) ts held blank many)

  pub confs_are : tab (λ j. get_confidence (tracker_at ts j) nine_tenths) held ≡ confs ts
  unfolding confs
  confs_are = tab-map (λ t. get_confidence t nine_tenths) ts held blank many

  pub since_are : tab (λ j. (tracker_at ts j).since) held ≡ since_of ts
  unfolding since_of
  since_are = tab-map (λ t. t.since) ts held blank many

-- past the trackers there is a blank one
pub since_at : (ts : List Track) (j : ℕ) → get_or (since_of ts) j 0 ≡ (tracker_at ts j).since
unfolding since_of
since_at ts j = get_or-map (λ (t : Track). t.since) ts j blank

-- ---- the loop over the tracks

-- what it knows when j are read and the next rows start at `at`
pub record Gathering (ts : List Track) (held : ℕ) (l₀ : TrackLists) (j at : ℕ) (l : TrackLists) : Type 0 where
  pub trks-rows : Rowing (λ k. corners_of (get_state (tracker_at ts k))) held 4 l₀.trks j at l.trks
  pub x-rows : Rowing (λ k. row (get_kf_state (tracker_at ts k))) held 4 l₀.x j at l.x
  pub sigma-rows : Rowing (λ k. row (reciprocals (get_kf_covariance_diag (tracker_at ts k)))) held 4 l₀.sigma j at l.sigma
  pub confs-filled : Filling (λ k. get_confidence (tracker_at ts k) nine_tenths) l₀.confs held j l.confs

module _ (ts : List Track) (held : ℕ) (l₀ : TrackLists) (sizes : (length l₀.trks ≡ held * 4) × (length l₀.confs ≡ held)) (states : StateRoom held (length l₀.x) (length l₀.sigma)) where
  pub gather_start : Gathering ts held l₀ 0 0 l₀
  gather_start = record {
    trks-rows = rows_start (le_of_eq (sym sizes.0));
    x-rows = rows_start (le_of_eq (sym states.x_fits));
    sigma-rows = rows_start (le_of_eq (sym states.sigma-fits));
    confs-filled = fill_start _ _ _;
  }

  module _ {j at : ℕ} {l : TrackLists} (w : Gathering ts held l₀ j at l) where
    -- one more track is read
    pub gather_on : {t : Track} {trk state variances confs' : List Float} → j < held → t ≡ tracker_at ts j → trk ≡ corners_of (get_state t) → state ≡ row (get_kf_state t)
        → variances ≡ row (reciprocals (get_kf_covariance_diag t)) → confs' ≡ set l.confs j (get_confidence t nine_tenths)
        → Gathering ts held l₀ (j + 1) (at + 4) (track_lists_with (put_mid at (at + 4 - at) l.trks trk) confs' (put_mid at (at + 4 - at) l.x state) (put_mid at (at + 4 - at) l.sigma variances))
    gather_on {t} h e et es ev ec = record {
      trks-rows = rows_on w.trks-rows h (λ _. refl) (et ∙ ap (λ (u : Track). corners_of (get_state u)) e);
      x-rows = rows_on w.x-rows h (λ _. refl) (es ∙ ap (λ (u : Track). row (get_kf_state u)) e);
      sigma-rows = rows_on w.sigma-rows h (λ _. refl) (ev ∙ ap (λ (u : Track). row (reciprocals (get_kf_covariance_diag u))) e);
      confs-filled = rw ec (fill_on _ _ _ w.confs-filled h (le_of_eq (sym sizes.1)) (ap (λ (u : Track). get_confidence u nine_tenths) e));
    }

    pub gather_end : held ≤ j → length ts ≡ held → TracksRead held ts l
    gather_end h many = record {
      trks_are = rows_end w.trks-rows h ∙ trks_are ts held many l₀.trks sizes.0;
      confs_are = fill_whole _ _ _ w.confs-filled h sizes.1 ∙ confs_are ts held many;
      states = record {
        many = many;
        states_are = rows_end w.x-rows h ∙ states_are ts held many l₀.x states.x_fits;
        sigmas_are = rows_end w.sigma-rows h ∙ sigmas_are ts held many l₀.sigma states.sigma-fits;
      };
    }
