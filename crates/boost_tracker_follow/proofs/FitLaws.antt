-- What the tests of `follow` tell: that counts, places and ids fit, and that every index is of a box. Assumes nothing.
use mathlib.Core.Path.{◌≡◌, refl, sym, ◌∙◌}
use mathlib.Core.Bool.{Bool, true, false, cond, ◌&&◌}
use mathlib.Core.List.{List, [], ◌∷◌}
use Prim.Native.Nat.{ℕ, zero, suc, ◌+◌, ◌-◌, ◌/◌, ◌≤◌, ◌<◌, ◌^◌}
use native.Mathlib.Nat.{le_of_eq, not-suc-le-zero}
use Rattle.std.proofs.Common.{le_of_suc-le-suc}
use Rattle.std.specs.List.{list_all}
use native.Mathlib.Omega.{arith}
use lib.Dec.{leb, ltb}
use lib.ListN.{length, get_or}
use borrow.Author.Tests.{ltb-true, ltb-false, leb-true, leb-false, lt-ltb, le-ltb, le-leb, lt-leb}
use Rattle.laws.specs.Tests.{and_left, and_right, true_not_false}
use Rattle.laws.specs.Scan.{lowest, lowest_never}
use Rattle.laws.specs.Every.{lowest-none}
use Rattle.assoc_assignment.specs.declared.assignment.AssignmentCounts.{AssignmentCounts}
use Rattle.boost_tracker_follow.specs.Corrections.{inside, fits, Listed}

-- ---- counts, places and ids

pub record FollowRoom (held places last : ℕ) (counts : AssignmentCounts) (pair_boxes pair_tracks unmatched : ℕ) : Type 0 where
  pub room : held + counts.detections ≤ places
  pub ids_fit : last + 255 < 2 ^ 64
  pub pairs-in-boxes : counts.pairs ≤ pair_boxes
  pub pairs-in-tracks : counts.pairs ≤ pair_tracks
  pub started-in : counts.detections ≤ unmatched

pub fits-room : {held places last : ℕ} {counts : AssignmentCounts} {pair_boxes pair_tracks unmatched : ℕ} → fits held places last counts pair_boxes pair_tracks unmatched ≡ true
    → FollowRoom held places last counts pair_boxes pair_tracks unmatched
unfolding fits
fits-room {held} {places} {last} {counts} {pair_boxes} {pair_tracks} {unmatched} e = by_cases (ltb places held) refl e
  where
    pairs : ℕ
    pairs = counts.pairs

    started : ℕ
    started = counts.detections

    rest : Bool
    rest = (leb started (places - held) && (leb pairs pair_boxes && leb pairs pair_tracks)) && (leb started unmatched && ltb last 18446744073709551361)

    by_cases : (b : Bool) → ltb places held ≡ b → cond b false rest ≡ true → FollowRoom held places last counts pair_boxes pair_tracks unmatched
    by_cases true h q = let z : ◌≡◌ {A = ℕ} 0 1 = cc in absurd (omega arith)
    by_cases false h q =
        let s = and_left (leb started (places - held) && (leb pairs pair_boxes && leb pairs pair_tracks)) (leb started unmatched && ltb last 18446744073709551361) q in
        let t = and_right (leb started (places - held) && (leb pairs pair_boxes && leb pairs pair_tracks)) (leb started unmatched && ltb last 18446744073709551361) q in
        let u = and_right (leb started (places - held)) (leb pairs pair_boxes && leb pairs pair_tracks) s in
        let placed : held ≤ places = ltb-false places held h in
        let room : started ≤ places - held = leb-true started (places - held) (and_left (leb started (places - held)) (leb pairs pair_boxes && leb pairs pair_tracks) s) in
        let low : last < 18446744073709551361 = ltb-true last 18446744073709551361 (and_right (leb started unmatched) (ltb last 18446744073709551361) t) in
        record {
          room = omega (arith, placed, room);
          ids_fit = omega (arith, low);
          pairs-in-boxes = leb-true pairs pair_boxes (and_left (leb pairs pair_boxes) (leb pairs pair_tracks) u);
          pairs-in-tracks = leb-true pairs pair_tracks (and_right (leb pairs pair_boxes) (leb pairs pair_tracks) u);
          started-in = leb-true started unmatched (and_left (leb started unmatched) (ltb last 18446744073709551361) t);
        }

pub room_fits : {held places last : ℕ} {counts : AssignmentCounts} {pair_boxes pair_tracks unmatched : ℕ} → FollowRoom held places last counts pair_boxes pair_tracks unmatched
    → fits held places last counts pair_boxes pair_tracks unmatched ≡ true
unfolding fits
room_fits {held} {places} {last} {counts} {pair_boxes} {pair_tracks} {unmatched} w =
    let pairs : ℕ = counts.pairs in
    let started : ℕ = counts.detections in
    let room = w.room in
    let ids = w.ids_fit in
    let placed : held ≤ places = omega (arith, room) in
    let left : started ≤ places - held = omega (arith, room) in
    let low : last < 18446744073709551361 = omega (arith, ids) in
    rw (
      le-ltb places held placed,
      le-leb started (places - held) left,
      le-leb pairs pair_boxes w.pairs-in-boxes,
      le-leb pairs pair_tracks w.pairs-in-tracks,
      le-leb started unmatched w.started-in,
      lt-ltb last 18446744073709551361 low,
    )

-- ---- indices

pub inside-listed : (indices : List ℕ) (corners : ℕ) → inside indices (corners / 4) ≡ true → Listed indices corners
unfolding inside
inside-listed indices corners e k h =
    let p : ℕ → Bool = λ j. leb (corners / 4) (get_or indices j 0) in
    let none : p k ≡ false = lowest-none p (length indices) (leb-true (length indices) (lowest p (length indices)) e) k h in
    let low : get_or indices k 0 < corners / 4 = leb-false (corners / 4) (get_or indices k 0) none in
    omega (arith, low)

pub listed-inside : (indices : List ℕ) (corners : ℕ) → Listed indices corners → inside indices (corners / 4) ≡ true
unfolding inside
listed-inside indices corners w =
    let p : ℕ → Bool = λ j. leb (corners / 4) (get_or indices j 0) in
    let none : (j : ℕ) → j < length indices → p j ≡ false = λ j h. lt-leb (corners / 4) (get_or indices j 0) (let b = w j h in omega (arith, b)) in
    let all : lowest p (length indices) ≡ length indices = lowest_never p (length indices) none in
    le-leb (length indices) (lowest p (length indices)) (le_of_eq (sym all))

-- as std's search tells it
module _ (n : ℕ) where
  each-below : (xs : List ℕ) → list_all (λ i. ltb i n) xs ≡ true → (k : ℕ) → k < length xs → get_or xs k 0 < n
  each-below [] e k h = absurd (not-suc-le-zero h)
  each-below (x ∷ xs) e zero h = ltb-true x n (and_left (ltb x n) (list_all (λ i. ltb i n) xs) e)
  each-below (x ∷ xs) e (suc k) h = each-below xs (and_right (ltb x n) (list_all (λ i. ltb i n) xs) e) k (le_of_suc-le-suc h)

  below-each : (xs : List ℕ) → ((k : ℕ) → k < length xs → get_or xs k 0 < n) → list_all (λ i. ltb i n) xs ≡ true
  below-each [] f = refl
  below-each (x ∷ xs) f = rw (lt-ltb x n (f 0 (omega arith)), below-each xs (λ k h. f (suc k) (omega (arith, h))))

pub all-inside : (indices : List ℕ) (n : ℕ) → list_all (λ i. ltb i n) indices ≡ inside indices n
unfolding inside
all-inside indices n = by_cases (list_all (λ i. ltb i n) indices) (leb (length indices) (lowest p (length indices))) refl refl
  where
    p : ℕ → Bool
    p = λ k. leb n (get_or indices k 0)

    by_cases : (a b : Bool) → list_all (λ i. ltb i n) indices ≡ a → leb (length indices) (lowest p (length indices)) ≡ b → a ≡ b
    by_cases true true e f = refl
    by_cases false false e f = refl
    by_cases true false e f =
        let all : lowest p (length indices) ≡ length indices = lowest_never p (length indices) (λ k h. lt-leb n (get_or indices k 0) (each-below n indices e k h)) in
        absurd (true_not_false (sym (le-leb (length indices) (lowest p (length indices)) (le_of_eq (sym all))) ∙ f))
    by_cases false true e f =
        let none : (k : ℕ) → k < length indices → p k ≡ false = lowest-none p (length indices) (leb-true (length indices) (lowest p (length indices)) f) in
        absurd (true_not_false (sym (below-each n indices (λ k h. leb-false n (get_or indices k 0) (none k h))) ∙ e))
