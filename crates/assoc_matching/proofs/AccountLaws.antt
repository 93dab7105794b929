-- The theorem of specs/Account, of the definition alone. Assumes nothing.
use Rattle.std.proofs.Common.{◌≡◌, ℕ, ◌-◌, ◌*◌, ◌/◌, ◌<◌, ◌≤◌, max, Bool, true, false, cond, ltb, List, length, refl, zero-le, le_trans}
use lib.Ieee.{Float}
use Rattle.laws.specs.Count.{bit, bit_le}
use Rattle.laws.specs.Occurs.{occurs, occurs-apart, occurs-below}
use Rattle.assoc_matching.specs.Matching.{boxes_of, tracks_of, simple, match_detections}
use Rattle.assoc_matching.specs.Partners.{partner_of, counts_of, counts_for, solution}
use Rattle.assoc_matching.specs.Account.{Distinct, OneToOne}
use Rattle.assoc_direct.proofs.PairLaws.{boxes-once, tracks-once}
use Rattle.assoc_matching.proofs.MatchLaws.{some-side, square_bounds, match_is, apart}
use Rattle.assoc_matching.proofs.PartnerLaws.{matches_are, matches-few}

pub distinct : (n : ℕ) (xs : List ℕ) → ((b : ℕ) → occurs b xs ≤ bit (ltb b n)) → Distinct n xs
distinct n xs h = record {
  apart = occurs-apart xs 0 (λ (b : ℕ). le_trans (h b) (bit_le (ltb b n)));
  below = λ (i : ℕ) (l : i < length xs). occurs-below xs n h i 0 l;
}

module _ (cost : List Float) (n m : ℕ) (t : Float) (few-rows : n ≤ 255) (few-cols : m ≤ 255) where
  -- how often a box and a track stand in the pairs
  pub boxes-in : (b : ℕ) → occurs b (boxes_of (match_detections cost n m t).matches) ≤ bit (ltb b n)
  boxes-in b = rw (matches_are cost n m t few-rows few-cols) (boxes-once m (partner_of cost n m t) n b)

  pub tracks-in : (k : ℕ) → occurs k (tracks_of (match_detections cost n m t).matches) ≤ bit (ltb k m)
  tracks-in k = rw (matches_are cost n m t few-rows few-cols) (tracks-once m (partner_of cost n m t) n k (apart cost n m t few-rows few-cols))

  -- the counts are 0 on the direct path, and lapjv's elsewhere
  turns-few : (counts_for cost n m t).turns ≤ 2 * max n m * (max n m - 1)
  turns-few = by_cases (simple cost n m t) refl
    where
      by_cases : (v : Bool) → simple cost n m t ≡ v → (cond v (record { turns = 0; scans = 0 }) (counts_of (solution cost n m))).turns ≤ 2 * max n m * (max n m - 1)
      by_cases true e = zero-le
      by_cases false e = (square_bounds cost n m (some-side cost n m t e)).turns

  scans-few : (counts_for cost n m t).scans ≤ max n m * (max n m - 1) / 2
  scans-few = by_cases (simple cost n m t) refl
    where
      by_cases : (v : Bool) → simple cost n m t ≡ v → (cond v (record { turns = 0; scans = 0 }) (counts_of (solution cost n m))).scans ≤ max n m * (max n m - 1) / 2
      by_cases true e = zero-le
      by_cases false e = (square_bounds cost n m (some-side cost n m t e)).scans

  pub one_to_one : OneToOne n m (match_detections cost n m t)
  one_to_one = record {
    boxes-once = distinct n _ boxes-in;
    tracks-once = distinct m _ tracks-in;
    few = matches-few cost n m t few-rows few-cols;
    turns = rw (match_is cost n m t few-rows few-cols) turns-few;
    scans = rw (match_is cost n m t few-rows few-cols) scans-few;
  }
