-- What an accepted call knows of its sizes, and sizes with which a call of a matrix routine is accepted. Assumes nothing.
use Rattle.std.proofs.Common.{◌≡◌, ℕ, ◌*◌, ◌||◌, ltb, ltb-false, le-ltb, Ok}
use Rattle.laws.specs.Tests.{or_none}
use Rattle.refusals.specs.Refusal.{too_many}
use Rattle.assoc_similarity.specs.Sizes.{of_cells}
use Rattle.refusals.proofs.Laws.{passed, few-sides}
use Rattle.boost_tracker_boosts.specs.Sizes.{other_boxes}
use Rattle.boost_tracker_boosts.proofs.Laws.{boxes_fit, three_fit}
use Rattle.boost_tracker_dlo.specs.Sizes.{of_dlo, other_tracks}
use Rattle.boost_tracker_dlo.specs.Private.{Measured}

pub record DloReady (boxes tracks detections trks confs since distance scores : ℕ) : Type 0 where
  pub measured : Measured boxes tracks distance
  pub detections_fit : detections ≡ boxes * 4
  pub trks_fit : trks ≡ tracks * 4
  pub confs_fit : confs ≡ tracks
  pub since_fits : since ≡ tracks
  pub scores_fit : scores ≡ boxes

pub dlo-ready : (boxes tracks detections trks confs since distance scores : ℕ) → of_dlo boxes tracks detections trks confs since distance scores ≡ Ok tt
    → DloReady boxes tracks detections trks confs since distance scores
dlo-ready boxes tracks detections trks confs since distance scores e =
    let a = passed (too_many boxes tracks) (other_tracks tracks trks confs since || other_boxes boxes detections scores) (ltb distance (boxes * tracks)) e in
    let s = or_none (other_tracks tracks trks confs since) (other_boxes boxes detections scores) a.sized in
    let t = three_fit trks (tracks * 4) confs tracks since tracks s.0 in
    let b = boxes_fit boxes detections scores s.1 in
    let few = few-sides boxes tracks a.few in
    record {
      measured = record { boxes-few = few.0; tracks-few = few.1; room = ltb-false distance (boxes * tracks) a.enough };
      detections_fit = b.0;
      trks_fit = t.0;
      confs_fit = t.1;
      since_fits = t.2;
      scores_fit = b.1;
    }

-- ---- accepted

pub accepted-cells : (boxes tracks distance : ℕ) → Measured boxes tracks distance → of_cells boxes tracks distance ≡ Ok tt
accepted-cells boxes tracks distance w = rw (le-ltb 255 boxes w.boxes-few, le-ltb 255 tracks w.tracks-few, le-ltb distance (boxes * tracks) w.room)
