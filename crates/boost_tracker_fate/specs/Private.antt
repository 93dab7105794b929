-- What the contracts of functions cite that are `pub` for the crate above alone: what the lists of the pairs say of a box, and what is told of it.
use Rattle.std.specs.Prelude.{Bool, cond, List, ℕ, ◌+◌, ◌-◌, ltb, length, get_or, Float, Option, Some, None}
use Rattle.boost_tracker_fate.specs.declared.kinds.Lot.{Lot}
use Rattle.boost_tracker_fate.specs.declared.kinds.Lot.TheVariants.{Under, Paired, Refused, Alone}
use Rattle.boost_tracker_fate.specs.declared.kinds.Fate.{Fate}
use Rattle.boost_tracker_fate.specs.declared.kinds.Fate.TheVariants.{Matched, Started, UnderThreshold, Rejected}
use Rattle.boost_tracker_fate.specs.declared.kinds.Partner.{Partner}
use Rattle.boost_tracker_fate.specs.declared.kinds.Explanation.{Explanation}
use Rattle.boost_tracker_fate.specs.Fate.{place_in}

-- ---- by the lists

-- of the retained box d, by its place in the pairs or in the unmatched list, whose last are the rejected pairs' as those of the tracks' list are
unfoldable pub lot_by : Bool → ℕ → ℕ → List ℕ → List ℕ → List ℕ → List ℕ → Lot
lot_by retained d rejected pair_boxes pair_tracks unmatched left =
    let pair : ℕ = place_in d pair_boxes in
    let place : ℕ = place_in d unmatched in
    let alone : ℕ = length unmatched - rejected in
    cond retained
    (cond (ltb pair (length pair_boxes)) (Paired (get_or pair_tracks pair 0))
    (cond (ltb place alone) (Alone place) (Refused (get_or left ((length left - rejected) + (place - alone)) 0) place)))
    Under

-- ---- of a lot

abbrev pub track_of : Lot → Option ℕ
track_of Under = None
track_of (Paired t) = Some t
track_of (Refused t place) = Some t
track_of (Alone place) = None

abbrev pub place_of : Lot → ℕ
place_of Under = 0
place_of (Paired t) = 0
place_of (Refused t place) = place
place_of (Alone place) = place

-- by the ids of the track of its pair, and of the track that starts at its place
abbrev pub fate_by : ℕ → ℕ → Lot → Fate
fate_by held started Under = UnderThreshold
fate_by held started (Paired t) = Matched held
fate_by held started (Refused t place) = Rejected started
fate_by held started (Alone place) = Started started

-- ---- what is told

-- by the id of the track that starts at its place, and the score as given, after the DLO boost and after the DUO boost
abbrev pub told_by : Lot → Partner → ℕ → Float → Float → Float → Explanation
told_by l partner started score dlo duo = record { fate = fate_by partner.id started l; score = score; score_dlo = dlo; score_duo = duo; partner = partner }
