-- What an accepted call knows of its sizes. Assumes nothing.
use mathlib.Core.Path.{◌≡◌}
use mathlib.Core.Bool.{not, ◌||◌}
use Prim.Native.Nat.{ℕ, ◌*◌}
use lib.Dec.{ltb, eqb}
use borrow.Author.Tests.{ltb-false}
use Rattle.std.proofs.Common.{Ok}
use Rattle.refusals.specs.Refusal.{too_many}
use Rattle.refusals.proofs.Laws.{passed}
use Rattle.boost_tracker_boosts.proofs.Laws.{three_fit}
use Rattle.boost_tracker_mh_dist.specs.Sizes.{of_states}
use Rattle.boost_tracker_mh_dist.specs.Private.{Stated}

pub stated : (boxes tracks detections x sigma out : ℕ) → of_states boxes tracks detections x sigma out ≡ Ok tt → Stated boxes tracks detections x sigma out
stated boxes tracks detections x sigma out e =
    let a = passed (too_many boxes tracks) ((not (eqb detections (boxes * 4)) || not (eqb x (tracks * 4))) || not (eqb sigma (tracks * 4))) (ltb out (boxes * tracks)) e in
    let s = three_fit detections (boxes * 4) x (tracks * 4) sigma (tracks * 4) a.sized in
    record { detections_fit = s.0; x_fits = s.1; sigma-fits = s.2; room = ltb-false out (boxes * tracks) a.enough }
