-- The lists of linear_assignment from a column for each row: the pairs that stand or not, and what is left. Assumes nothing.
use mathlib.Core.Path.{◌≡◌, refl, sym, ap, ◌∙◌}
use mathlib.Core.List.{List, ◌++◌, map}
use mathlib.Core.Bool.{Bool, true, false, cond, not, ◌&&◌}
use Prim.Native.Nat.{ℕ, ◌+◌, ◌-◌, ◌≤◌, ◌<◌, min}
use native.Mathlib.Nat.{le_trans, le-min}
use native.Mathlib.Omega.{arith}
use lib.Dec.{ltb}
use lib.Ieee.{Float}
use lib.ListN.{length, get_or, take, drop, length-append, length-drop, length-map}
use borrow.Rule.Slice.PartMut.{put_mid}
use Rattle.laws.specs.Tab.{indices}
use Rattle.laws.specs.Sieve.{sieve, sieve-few, maybe}
use Rattle.laws.specs.Joined.{joined_ext, joined-sieve}
use Rattle.laws.specs.Count.{bit}
use Rattle.laws.specs.Occurs.{occurs, occurs-append, occurs-few}
use Rattle.laws.specs.Over.{over, Pushed, push_tail, tail-part}
use Rattle.lapjv.specs.declared.Counts.{Counts}
use Rattle.assoc_matching.specs.Matching.{Pair, pair, boxes_of, tracks_of, matched, match_detections}
use Rattle.assoc_matching.specs.Answers.{zeroed}
use Rattle.assoc_matching.specs.Partners.{pairs_of, held, Sized, Clean, PairRoom, Wrote, Partnered}
use Rattle.assoc_direct.proofs.PairLaws.{paired, no-column, wrote_many}
use Rattle.assoc_matching.proofs.PartnerLaws.{held-matches, turns_are, scans_are}
use Rattle.assoc_matching.proofs.AccountLaws.{boxes-in, tracks-in}
use Rattle.assoc_assignment.specs.declared.assignment.Left.{Left}
use Rattle.assoc_assignment.specs.declared.assignment.Lengths.{Lengths}
use Rattle.std.proofs.Common.{Ok}
use Rattle.assoc_assignment.specs.Assignment.{Assignment, unmatched, validated, assigned_by}
use Rattle.assoc_assignment.specs.declared.assignment.Room.{Room}
use Rattle.assoc_assignment.specs.Answers.{Lists, lists_with, Lent, lent_after, assignment_counts, call_with}
use Rattle.assoc_assignment.specs.Private.{picked, rejected, Marked, TailRoom, Tails, LeftRoom, Leaving, leaving_with, leaving, Rowed, ListRoom, Listing, listing_with, listing}
use Rattle.assoc_assignment.proofs.MarkLaws.{unmarked}
use Rattle.assoc_assignment.proofs.AccountLaws.{each-once, assigned-is}

pub sized_as : {k n m cells : ℕ} → k ≡ n → Sized n m cells → Sized k m cells
sized_as e s = rw e s

pub clean_as : {A : Type 0} {k n : ℕ} {z : A} {l : List A} → k ≡ n → Clean n z l → Clean k z l
clean_as e c = rw e c

-- ---- the pairs of one kind

pub sieve-pairs : (q : Pair → Bool) (m : ℕ) (f : ℕ → ℕ) (n : ℕ) → sieve q (pairs_of m f n) ≡ pairs_of m (λ i. picked q m i (f i)) n
unfolding pairs_of picked sieve
sieve-pairs q m f n =
    joined-sieve q (λ i. paired m i (f i)) n
    ∙ joined_ext (λ i. sieve q (paired m i (f i))) (λ i. paired m i (picked q m i (f i))) n (λ (i : ℕ) (h : i < n). by_cases i (ltb (f i) m) refl (q (pair i (f i))) refl)
  where
    by_cases : (i : ℕ) (a : Bool) → ltb (f i) m ≡ a → (b : Bool) → q (pair i (f i)) ≡ b → sieve q (maybe a (pair i (f i))) ≡ paired m i (cond (a && b) (f i) m)
    by_cases i true e true g = rw (g, e)
    by_cases i true e false g = rw g (sym (no-column m i))
    by_cases i false e b g = sym (no-column m i)

pub picked-room : (q : Pair → Bool) (m : ℕ) (partner : List ℕ) {a b : ℕ} → PairRoom (sieve q (held m partner)) a b → PairRoom (pairs_of m (λ i. picked q m i (get_or partner i 0)) (length partner)) a b
picked-room q m partner r = rw (sieve-pairs q m (λ i. get_or partner i 0) (length partner)) at r

pub picked_wrote : (q : Pair → Bool) (m : ℕ) (partner : List ℕ) {i k : ℕ} {boxes₀ tracks₀ boxes tracks : List ℕ} → i ≡ length partner
    → Wrote (pairs_of m (λ i. picked q m i (get_or partner i 0)) i) boxes₀ tracks₀ k boxes tracks → Wrote (sieve q (held m partner)) boxes₀ tracks₀ k boxes tracks
picked_wrote q m partner e w = rw (sieve-pairs q m (λ i. get_or partner i 0) (length partner)) (rw e at w)

-- ---- what is left

-- the two lists after their first runs
pub record Runs (ps : List Pair) (n m : ℕ) (boxes₀ tracks₀ : List ℕ) (a b : ℕ) (boxes tracks : List ℕ) : Type 0 where
  pub first : Pushed boxes₀ (unmatched (boxes_of ps) n) a boxes
  pub second : Pushed tracks₀ (unmatched (tracks_of ps) m) b tracks

pub runs : {ps : List Pair} {n m : ℕ} {dets trks : List Bool} {boxes₀ tracks₀ boxes tracks : List ℕ} {a b : ℕ} → Marked ps n m dets trks
    → Pushed boxes₀ (sieve (λ j. not (get_or dets j false)) (indices (length dets))) a boxes
    → Pushed tracks₀ (sieve (λ j. not (get_or trks j false)) (indices (length trks))) b tracks
    → Runs ps n m boxes₀ tracks₀ a b boxes tracks
runs {ps} {n} {m} {dets} {trks} w p q = record {
  first = rw (unmarked (boxes_of ps) n dets w.boxes_are) at p;
  second = rw (unmarked (tracks_of ps) m trks w.tracks_are) at q;
}

leaving-same : {r : Left} {a b d : ℕ} {boxes tracks boxes' tracks' : List ℕ} → r.boxes ≡ a → r.tracks ≡ b → r.rejected ≡ d → boxes ≡ boxes' → tracks ≡ tracks'
    → leaving_with r boxes tracks ≡ leaving_with (record { boxes = a; tracks = b; rejected = d }) boxes' tracks'
leaving-same e f k g h = rw (← e, ← f, ← k, g, h)

module _ (ok : Pair → Bool) (ps : List Pair) (n m : ℕ) {boxes₀ tracks₀ : List ℕ} {a b : ℕ} {boxes tracks : List ℕ} where
  -- there is room for the rejected pairs behind them
  pub tail-room : {cells : ℕ} → Sized n m cells → Runs ps n m boxes₀ tracks₀ a b boxes tracks → LeftRoom ok ps n m (length boxes₀) (length tracks₀) → TailRoom (rejected ok ps) a b (length boxes) (length tracks)
  tail-room s w r =
      let e = length-append (unmatched (boxes_of ps) n) (boxes_of (rejected ok ps)) in
      let f = length-append (unmatched (tracks_of ps) m) (tracks_of (rejected ok ps)) in
      let g : length (boxes_of (rejected ok ps)) ≡ length (rejected ok ps) = length-map (rejected ok ps) (λ (p : Pair). p.box) in
      let h : length (tracks_of (rejected ok ps)) ≡ length (rejected ok ps) = length-map (rejected ok ps) (λ (p : Pair). p.track) in
      let u : a + length (rejected ok ps) ≤ n = omega (arith, w.first.many, r.boxes_fit) in
      let v : b + length (rejected ok ps) ≤ m = omega (arith, w.second.many, r.tracks_fit) in
      record {
        boxes_fit = omega (arith, u, w.first.same, r.boxes-all);
        tracks_fit = omega (arith, v, w.second.same, r.tracks-all);
        boxes-few = omega (arith, u, s.few-rows);
        tracks-few = omega (arith, v, s.few-cols);
      }

  pub left_over : {r : Left} {boxes' tracks' : List ℕ} → Runs ps n m boxes₀ tracks₀ a b boxes tracks → Tails (rejected ok ps) a b boxes tracks r boxes' tracks'
      → leaving_with r boxes' tracks' ≡ leaving ok ps n m boxes₀ tracks₀
  left_over w o =
      let p = o.boxes_are _ _ w.first in
      let q = o.tracks_are _ _ w.second in
      leaving-same p.many q.many o.rejected_are p.cells q.cells

module _ (ps : List Pair) (a b : ℕ) (boxes tracks : List ℕ) where
  -- the parts that are lent for them have the room
  pub part_room : TailRoom ps a b (length boxes) (length tracks) → PairRoom ps (length (take (length boxes - a) (drop a boxes))) (length (take (length tracks - b) (drop b tracks)))
  part_room r = record {
    boxes_fit = rw (tail-part boxes a, length-drop a boxes) (omega (arith, r.boxes_fit));
    tracks_fit = rw (tail-part tracks b, length-drop b tracks) (omega (arith, r.tracks_fit));
  }

  pub tails : {k : ℕ} {ub ut : List ℕ} → Wrote ps (take (length boxes - a) (drop a boxes)) (take (length tracks - b) (drop b tracks)) k ub ut
      → Tails ps a b boxes tracks (record { boxes = a + k; tracks = b + k; rejected = k }) (put_mid a (length boxes - a) boxes ub) (put_mid b (length tracks - b) tracks ut)
  tails o = record { boxes_are = λ l us w. push_tail w o.boxes_are; tracks_are = λ l us w. push_tail w o.tracks_are; rejected_are = wrote_many o }

-- ---- room

pub kept_room : (ok : Pair → Bool) (n m : ℕ) (partner : List ℕ) {a b : ℕ} → Rowed n m partner → min n m ≤ a → min n m ≤ b → PairRoom (sieve ok (held m partner)) a b
kept_room ok n m partner w h l =
    let f : length (held m partner) ≤ n = rw (← length-map (held m partner) (λ (p : Pair). p.box)) (occurs-few (boxes_of (held m partner)) n w.boxes-once) in
    let g : length (held m partner) ≤ m = rw (← length-map (held m partner) (λ (p : Pair). p.track)) (occurs-few (tracks_of (held m partner)) m w.tracks-once) in
    let k : length (sieve ok (held m partner)) ≤ min n m = le_trans (sieve-few ok (held m partner)) (le-min f g) in
    record { boxes_fit = le_trans k h; tracks_fit = le_trans k l }

left-few : (g : Pair → ℕ) (ok : Pair → Bool) (ps : List Pair) (n : ℕ) → ((b : ℕ) → occurs b (map g ps) ≤ bit (ltb b n)) → length (unmatched (map g ps) n ++ map g (sieve (λ p. not (ok p)) ps)) ≤ n
left-few g ok ps n h =
    occurs-few (unmatched (map g ps) n ++ map g (sieve (λ p. not (ok p)) ps)) n (λ (b : ℕ).
    omega (arith, occurs-append b (map g (sieve ok ps)) (unmatched (map g ps) n ++ map g (sieve (λ p. not (ok p)) ps)), each-once g ok ps n b (h b)))

pub left-room : (ok : Pair → Bool) (n m : ℕ) (partner : List ℕ) {room : Room} → Rowed n m partner → ListRoom n m room → LeftRoom ok (held m partner) (length partner) m room.unmatched_detections room.unmatched_tracks
left-room ok n m partner w r = left_as w.long (record {
  boxes-all = r.boxes-all;
  tracks-all = r.tracks-all;
  boxes_fit = left-few (λ (p : Pair). p.box) ok (held m partner) n w.boxes-once;
  tracks_fit = left-few (λ (p : Pair). p.track) ok (held m partner) m w.tracks-once;
})
  where
    left_as : {ps : List Pair} {k a b : ℕ} → k ≡ n → LeftRoom ok ps n m a b → LeftRoom ok ps k m a b
    left_as e s = rw e s

-- pairs and what is left, one after the other
pub both_listed : (ok : Pair → Bool) (n m : ℕ) (ps : List Pair) (lists : Lists) {l k : ℕ} {pb pt boxes tracks : List ℕ} {r : Left} → l ≡ n
    → Wrote (sieve ok ps) lists.pair_boxes lists.pair_tracks k pb pt
    → leaving_with r boxes tracks ≡ leaving ok ps l m lists.unmatched_detections lists.unmatched_tracks
    → listing_with (record { pairs = k; boxes = r.boxes; tracks = r.tracks; rejected = r.rejected }) (lists_with pb pt boxes tracks) ≡ listing (validated ok n m (matched ps 0 0)) lists
both_listed ok n m ps lists {l} {k} {pb} {pt} {boxes} {tracks} {r} e o v =
    let kept : List Pair = sieve ok ps in
    let w : leaving_with r boxes tracks ≡ leaving ok ps n m lists.unmatched_detections lists.unmatched_tracks = rw e at v in
    rw (wrote_many o, o.boxes_are.cells, o.tracks_are.cells)
    (ap (λ (x : Leaving). listing_with (record { pairs = length kept; boxes = x.many.boxes; tracks = x.many.tracks; rejected = x.many.rejected })
    (lists_with (over (boxes_of kept) lists.pair_boxes) (over (tracks_of kept) lists.pair_tracks) x.boxes x.tracks)) w)

-- ---- the whole

module _ (cost : List Float) (n m : ℕ) (t : Float) (few-rows : n ≤ 255) (few-cols : m ≤ 255) where
  pub rowed : {r : Counts} {partner : List ℕ} → Partnered cost n m t r partner → length partner ≡ n → Rowed n m partner
  rowed w l =
      let e = held-matches cost n m t few-rows few-cols w in
      record { long = l; boxes-once = λ (b : ℕ). rw e (boxes-in cost n m t few-rows few-cols b); tracks-once = λ (k : ℕ). rw e (tracks-in cost n m t few-rows few-cols k) }

  pub assignment-done : (ok : Pair → Bool) (l : Lent) {r : Counts} {partner : List ℕ} {lists : Lists} {work : List Float} {k : Lengths} → Partnered cost n m t r partner
      → listing_with k lists ≡ listing (validated ok n m (matched (held m partner) 0 0)) l.lists → work ≡ zeroed l.work
      → call_with (Ok (record { pairs = k.pairs; detections = k.boxes; tracks = k.tracks; rejected = k.rejected; turns = r.turns; scans = r.scans })) (record { lists = lists; work = work })
      ≡ call_with (Ok (assignment_counts (assigned_by ok cost n m t))) (lent_after (assigned_by ok cost n m t) l)
  assignment-done ok l {r} {partner} {lists} {work} {k} w o z =
      let a : Assignment = validated ok n m (match_detections cost n m t) in
      let q : listing_with k lists ≡ listing a l.lists = rw (held-matches cost n m t few-rows few-cols w) at o in
      rw (assigned-is ok cost n m t, turns_are cost n m t few-rows few-cols w, scans_are cost n m t few-rows few-cols w, z)
      (ap (λ (x : Listing). call_with (Ok (record { pairs = x.many.pairs; detections = x.many.boxes; tracks = x.many.tracks; rejected = x.many.rejected; turns = a.turns; scans = a.scans })) (record { lists = x.lists; work = zeroed l.work })) q)
