-- What the contracts of the private functions of assignment.rt cite. proofs/ shows that it comes to the definition.
use Rattle.std.specs.Prelude.{◌≡◌, Result, List, ◌++◌, Bool, true, false, cond, not, ◌&&◌, ℕ, ◌+◌, ◌*◌, ◌≤◌, max, min, ltb, Float, length, set}
use Rattle.laws.specs.Tab.{tab}
use Rattle.laws.specs.Sieve.{sieve}
use Rattle.laws.specs.Elem.{elem}
use Rattle.laws.specs.Count.{bit}
use Rattle.laws.specs.Occurs.{occurs}
use Rattle.laws.specs.Over.{over, Pushed}
use Rattle.assoc_matching.specs.Matching.{Pair, pair, boxes_of, tracks_of}
use Rattle.assoc_matching.specs.Partners.{held, Partnered}
use Rattle.lapjv.specs.declared.Counts.{Counts}
use Rattle.refusals.specs.declared.refusal.Refusal.{Refusal}
use Rattle.assoc_matching.specs.Answers.{zeroed, partner_number, partner_values}
use Rattle.assoc_assignment.specs.declared.assignment.Left.{Left}
use Rattle.assoc_assignment.specs.declared.assignment.Lengths.{Lengths}
use Rattle.assoc_assignment.specs.Assignment.{Assignment, unmatched}
use Rattle.assoc_assignment.specs.declared.assignment.Room.{Room}
use Rattle.assoc_assignment.specs.Answers.{Lists, listed}

-- ---- the matched pairs

-- accepted, with for each row its column and lapjv's counts, and the work slice zero
pub record Found (cost : List Float) (n m : ℕ) (t : Float) (work : List Float) (r : Result Counts Refusal) (partner : List ℕ) (work' : List Float) : Type 0 where
  pub accepted : partner_number r ≡ 0
  pub pairs : Partnered cost n m t (partner_values r) partner
  pub cleared : work' ≡ zeroed work

-- ---- the pairs that stand, or the others

abbrev pub chosen : Bool → Bool → Bool
chosen true valid = valid
chosen false valid = not valid

-- the column j of row i, if the pair has q
unfoldable pub picked : (Pair → Bool) → ℕ → ℕ → ℕ → ℕ
picked q m i j = cond (ltb j m && q (pair i j)) j m

-- ---- marks

-- a row's marks
pub record Mark (b : Bool) (i j : ℕ) (boxes tracks boxes' tracks' : List Bool) : Type 0 where
  pub boxes_are : boxes' ≡ cond b (set boxes i true) boxes
  pub tracks_are : tracks' ≡ cond b (set tracks j true) tracks

pub record Marked (ps : List Pair) (n m : ℕ) (boxes tracks : List Bool) : Type 0 where
  pub boxes_are : boxes ≡ tab (λ b. elem b (boxes_of ps)) n
  pub tracks_are : tracks ≡ tab (λ k. elem k (tracks_of ps)) m

-- ---- the unmatched

-- the pairs ps without those that stand
abbrev pub rejected : (Pair → Bool) → List Pair → List Pair
rejected ok ps = sieve (λ p. not (ok p)) ps

-- the pairs ps behind the first a and b of two lists
pub record TailRoom (ps : List Pair) (a b boxes tracks : ℕ) : Type 0 where
  pub boxes_fit : a + length ps ≤ boxes
  pub tracks_fit : b + length ps ≤ tracks
  pub boxes-few : a + length ps ≤ 255
  pub tracks-few : b + length ps ≤ 255

-- whatever the first a and b are, the pairs are pushed behind them
pub record Tails (ps : List Pair) (a b : ℕ) (boxes tracks : List ℕ) (r : Left) (boxes' tracks' : List ℕ) : Type 0 where
  pub boxes_are : (l us : List ℕ) → Pushed l us a boxes → Pushed l (us ++ boxes_of ps) r.boxes boxes'
  pub tracks_are : (l us : List ℕ) → Pushed l us b tracks → Pushed l (us ++ tracks_of ps) r.tracks tracks'
  pub rejected_are : r.rejected ≡ length ps

-- of the pairs ps, of which those with ok stand
abbrev pub left_boxes : (Pair → Bool) → List Pair → ℕ → List ℕ
left_boxes ok ps n = unmatched (boxes_of ps) n ++ boxes_of (rejected ok ps)

abbrev pub left_tracks : (Pair → Bool) → List Pair → ℕ → List ℕ
left_tracks ok ps m = unmatched (tracks_of ps) m ++ tracks_of (rejected ok ps)

pub record LeftRoom (ok : Pair → Bool) (ps : List Pair) (n m boxes tracks : ℕ) : Type 0 where
  pub boxes-all : n ≤ boxes
  pub tracks-all : m ≤ tracks
  pub boxes_fit : length (left_boxes ok ps n) ≤ n
  pub tracks_fit : length (left_tracks ok ps m) ≤ m

-- how many boxes and tracks are left, and the lists of them
pub record Leaving : Type 0 where
  pub many : Left
  pub boxes : List ℕ
  pub tracks : List ℕ

abbrev pub leaving_with : Left → List ℕ → List ℕ → Leaving
leaving_with many boxes tracks = record { many = many; boxes = boxes; tracks = tracks }

-- over the fronts
abbrev pub leaving : (Pair → Bool) → List Pair → ℕ → ℕ → List ℕ → List ℕ → Leaving
leaving ok ps n m boxes tracks =
    leaving_with
    (record { boxes = length (left_boxes ok ps n); tracks = length (left_tracks ok ps m); rejected = length (rejected ok ps) })
    (over (left_boxes ok ps n) boxes)
    (over (left_tracks ok ps m) tracks)

-- ---- all lists

-- a column for each row, none twice
pub record Rowed (n m : ℕ) (partner : List ℕ) : Type 0 where
  pub long : length partner ≡ n
  pub boxes-once : (b : ℕ) → occurs b (boxes_of (held m partner)) ≤ bit (ltb b n)
  pub tracks-once : (k : ℕ) → occurs k (tracks_of (held m partner)) ≤ bit (ltb k m)

pub record ListRoom (n m : ℕ) (room : Room) : Type 0 where
  pub pairs_fit : min n m ≤ room.pair_boxes
  pub partners_fit : min n m ≤ room.pair_tracks
  pub boxes-all : n ≤ room.unmatched_detections
  pub tracks-all : m ≤ room.unmatched_tracks

-- how many pairs, boxes and tracks are listed, and the lists of them
pub record Listing : Type 0 where
  pub many : Lengths
  pub lists : Lists

abbrev pub listing_with : Lengths → Lists → Listing
listing_with many lists = record { many = many; lists = lists }

-- those of an assignment over the fronts
abbrev pub listing : Assignment → Lists → Listing
listing a l = listing_with (record { pairs = length a.matches; boxes = length a.unmatched_detections; tracks = length a.unmatched_tracks; rejected = length a.rejected }) (listed a l)

-- what an accepted call of linear_assignment has been found to hold
pub record AssignmentReady (n m ious costs : ℕ) (room : Room) (work : ℕ) : Type 0 where
  pub few-rows : n ≤ 255
  pub few-cols : m ≤ 255
  pub long-iou : ious ≡ n * m
  pub long-cost : costs ≡ n * m
  pub room-lists : ListRoom n m room
  pub room-work : max n m * max n m ≤ work
