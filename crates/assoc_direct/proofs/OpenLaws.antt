-- What the direct path leaves: no more pairs than the smaller side has places, and what an answer says. Assumes nothing.
use mathlib.Core.Path.{◌≡◌, refl, sym, ap, ◌∙◌}
use mathlib.Core.List.{List}
use mathlib.Core.Bool.{Bool, true, false, cond, ◌&&◌}
use Prim.Native.Nat.{ℕ, ◌≤◌, min}
use native.Mathlib.Nat.{le_trans, le-min}
use lib.Dec.{leb}
use lib.Ieee.{Float}
use lib.ListN.{length, length-map}
use borrow.Author.Tests.{leb-true, le-leb}
use Rattle.laws.specs.Tests.{and_left, and_right, false_not_true}
use Rattle.laws.specs.Occurs.{occurs-few}
use Rattle.laws.specs.Over.{over}
use Rattle.std.proofs.Common.{Option, Some, None}
use Rattle.assoc_direct.specs.Simple.{Pair, boxes_of, tracks_of, simple, simple_matches}
use Rattle.assoc_direct.specs.Rows.{Sized, pairs_of, direct_column, PairRoom, Wrote}
use Rattle.assoc_direct.specs.Direct.{is_matrix, DirectCall, direct_call_of, direct_call_with, direct_call, fitting, direct_pairs}
use Rattle.assoc_direct.proofs.DirectLaws.{matrix, sized}
use Rattle.assoc_direct.proofs.PairLaws.{wrote_many, boxes-once, tracks-once, Apart}
use Rattle.assoc_direct.proofs.SimpleLaws.{simple-pairs, apart-simple}

-- no more pairs than the smaller side
pub pairs-few : (m : ℕ) (f : ℕ → ℕ) (n : ℕ) → Apart m f n → length (pairs_of m f n) ≤ min n m
pairs-few m f n a =
    let b : length (pairs_of m f n) ≤ n = rw (← length-map (pairs_of m f n) (λ (p : Pair). p.box)) (occurs-few (boxes_of (pairs_of m f n)) n (boxes-once m f n)) in
    let k : length (pairs_of m f n) ≤ m =
    rw (← length-map (pairs_of m f n) (λ (p : Pair). p.track)) (occurs-few (tracks_of (pairs_of m f n)) m (λ (k : ℕ). tracks-once m f n k a)) in
    le-min b k

pub room : {ps : List Pair} {few a b : ℕ} → length ps ≤ few → few ≤ a → few ≤ b → PairRoom ps a b
room q h l = record { boxes_fit = le_trans q h; tracks_fit = le_trans q l }

module _ (cost : List Float) (n m : ℕ) (t : Float) where
  pub direct_room : {p q : ℕ} → simple cost n m t ≡ true → min n m ≤ p → min n m ≤ q → PairRoom (pairs_of m (direct_column cost m t) n) p q
  direct_room e h l = room (pairs-few m (direct_column cost m t) n (apart-simple cost n m t e)) h l

  pub direct_not : {boxes tracks : List ℕ} → simple cost n m t ≡ false → direct_call_with None boxes tracks ≡ direct_call cost n m t boxes tracks
  unfolding direct_call
  direct_not e = rw e

  pub direct_done : {k : ℕ} {boxes tracks boxes' tracks' : List ℕ} → simple cost n m t ≡ true
      → Wrote (pairs_of m (direct_column cost m t) n) boxes tracks k boxes' tracks' → direct_call_with (Some k) boxes' tracks' ≡ direct_call cost n m t boxes tracks
  unfolding direct_call
  direct_done {k} {boxes} {tracks} {boxes'} {tracks'} e o =
      let q : Wrote (simple_matches cost n m t) boxes tracks k boxes' tracks' = rw (simple-pairs cost n m t e) o in
      rw (e, wrote_many q, q.boxes_are.cells, q.tracks_are.cells)

  -- an answer that it is not taken: the slices are as they were
  pub record NotOpen (boxes tracks boxes' tracks' : List ℕ) : Type 0 where
    pub path : simple cost n m t ≡ false
    pub boxes_are : boxes' ≡ boxes
    pub tracks_are : tracks' ≡ tracks

  pub not_open : {d : Option ℕ} {boxes tracks boxes' tracks' : List ℕ} → direct_call_with d boxes' tracks' ≡ direct_call cost n m t boxes tracks → d ≡ None → NotOpen boxes tracks boxes' tracks'
  unfolding direct_call
  not_open {d} {boxes} {tracks} {boxes'} {tracks'} e f = by_cases (simple cost n m t) refl (rw f at e)
    where
      by_cases : (v : Bool) → simple cost n m t ≡ v
          → direct_call_of false 0 boxes' tracks'
          ≡ cond v (direct_call_of true (length (simple_matches cost n m t)) (over (boxes_of (simple_matches cost n m t)) boxes) (over (tracks_of (simple_matches cost n m t)) tracks)) (direct_call_of false 0 boxes tracks)
          → NotOpen boxes tracks boxes' tracks'
      by_cases true s q = absurd (false_not_true (ap (λ (x : DirectCall). x.taken) q))
      by_cases false s q = record { path = s; boxes_are = ap (λ (x : DirectCall). x.pair_boxes) q; tracks_are = ap (λ (x : DirectCall). x.pair_tracks) q }

-- ---- of any sides and lists

-- what fits is a matrix, with room for the pairs
pub fitted : (n m cells boxes tracks : ℕ) → fitting n m cells boxes tracks ≡ true → Sized n m cells × ((min n m ≤ boxes) × (min n m ≤ tracks))
unfolding fitting
fitted n m cells boxes tracks e =
    let a = is_matrix n m cells in
    let b = leb (min n m) boxes in
    let c = leb (min n m) tracks in
    let r = and_right a (b && c) e in
    (sized n m cells (and_left a (b && c) e), (leb-true (min n m) boxes (and_left b c r), leb-true (min n m) tracks (and_right b c r)))

fits-is : (n m cells boxes tracks : ℕ) → Sized n m cells → min n m ≤ boxes → min n m ≤ tracks → fitting n m cells boxes tracks ≡ true
unfolding fitting
fits-is n m cells boxes tracks s h l = rw (matrix s, le-leb (min n m) boxes h, le-leb (min n m) tracks l)

module _ (cost : List Float) (n m : ℕ) (t : Float) (boxes tracks : List ℕ) where
  pub pairs_fit : {v : Bool} {c : DirectCall} → v ≡ fitting n m (length cost) (length boxes) (length tracks) → v ≡ true → c ≡ direct_call cost n m t boxes tracks → c ≡ direct_pairs cost n m t boxes tracks
  unfolding direct_pairs
  pairs_fit e f d = d ∙ rw (sym e ∙ f)

  pub pairs_misfit : {v : Bool} → v ≡ fitting n m (length cost) (length boxes) (length tracks) → v ≡ false → direct_call_with None boxes tracks ≡ direct_pairs cost n m t boxes tracks
  unfolding direct_pairs
  pairs_misfit e f = rw (sym e ∙ f)

  -- for a caller that knows that they fit
  pub pairs_are : Sized n m (length cost) → min n m ≤ length boxes → min n m ≤ length tracks → direct_pairs cost n m t boxes tracks ≡ direct_call cost n m t boxes tracks
  unfolding direct_pairs
  pairs_are s h l = rw (fits-is n m (length cost) (length boxes) (length tracks) s h l)
