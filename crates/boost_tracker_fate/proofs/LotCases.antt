-- What the lists of the pairs say of a box: the code's cases, and that its place is in the unmatched list. Assumes nothing.
use mathlib.Core.Path.{◌≡◌}
use mathlib.Core.Bool.{Bool, true, false, cond}
use mathlib.Core.List.{List}
use Prim.Native.Nat.{ℕ, ◌+◌, ◌-◌, ◌≤◌, ◌<◌}
use native.Mathlib.Omega.{arith}
use borrow.Author.Tests.{lt-ltb, le-ltb}
use lib.Dec.{ltb}
use lib.ListN.{length, get_or}
use Rattle.boost_tracker_fate.specs.declared.kinds.Lot.{Lot}
use Rattle.boost_tracker_fate.specs.declared.kinds.Lot.TheVariants.{Under, Paired, Refused, Alone}
use Rattle.boost_tracker_fate.specs.Fate.{place_in}
use Rattle.boost_tracker_fate.specs.Private.{lot_by, place_of}
use Rattle.boost_tracker_fate.proofs.PlaceLaws.{place-most}

module _ (retained : Bool) (d rejected : ℕ) (pair_boxes pair_tracks unmatched left : List ℕ) where
  pub lot-under : retained ≡ false → Under ≡ lot_by retained d rejected pair_boxes pair_tracks unmatched left
  unfolding lot_by
  lot-under h = rw h

  pub lot-paired : {pair t : ℕ} → retained ≡ true → pair ≡ place_in d pair_boxes → pair < length pair_boxes → t ≡ get_or pair_tracks pair 0 → Paired t ≡ lot_by retained d rejected pair_boxes pair_tracks unmatched left
  unfolding lot_by
  lot-paired {pair} {t} h e l q = rw (h, ← e, lt-ltb pair (length pair_boxes) l, q)

  module _ {pair place alone : ℕ} (h : retained ≡ true) (e : pair ≡ place_in d pair_boxes) (l : length pair_boxes ≤ pair) (ep : place ≡ place_in d unmatched) (ea : alone ≡ length unmatched - rejected) where
    pub lot-alone : place < alone → Alone place ≡ lot_by retained d rejected pair_boxes pair_tracks unmatched left
    unfolding lot_by
    lot-alone k = rw (h, ← e, le-ltb pair (length pair_boxes) l, ← ep, ← ea, lt-ltb place alone k)

    pub lot-refused : {from t : ℕ} → alone ≤ place → from ≡ length left - rejected → t ≡ get_or left (from + (place - alone)) 0 → Refused t place ≡ lot_by retained d rejected pair_boxes pair_tracks unmatched left
    unfolding lot_by
    lot-refused {from} {t} k ef et = rw (h, ← e, le-ltb pair (length pair_boxes) l, ← ep, ← ea, le-ltb place alone k, ← ef, et)

  -- its place is in the unmatched list
  pub lot-few : {k : Lot} → k ≡ lot_by retained d rejected pair_boxes pair_tracks unmatched left → length unmatched ≤ 255 → place_of k ≤ 255
  unfolding lot_by
  lot-few e h = rw e (by_cases retained (ltb (place_in d pair_boxes) (length pair_boxes)) (ltb (place_in d unmatched) (length unmatched - rejected)))
    where
      low : place_in d unmatched ≤ 255
      low = omega (arith, place-most d unmatched, h)

      by_cases : (u v w : Bool) → place_of (cond u (cond v (Paired (get_or pair_tracks (place_in d pair_boxes) 0))
          (cond w (Alone (place_in d unmatched)) (Refused (get_or left ((length left - rejected) + (place_in d unmatched - (length unmatched - rejected))) 0) (place_in d unmatched)))) Under) ≤ 255
      by_cases false v w = omega arith
      by_cases true true w = omega arith
      by_cases true false true = low
      by_cases true false false = low
