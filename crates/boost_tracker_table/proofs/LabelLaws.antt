-- The labels of the table: what the loops over them know and leave, and what a caller of the functions on the table needs. Assumes nothing.
use mathlib.Core.Path.{◌≡◌, refl, sym, ap, ◌∙◌}
use mathlib.Core.Bool.{Bool, true, false, cond}
use mathlib.Core.List.{List, [], ◌∷◌, ◌++◌, map}
use Prim.Native.Nat.{ℕ, ◌+◌, ◌-◌, ◌*◌, ◌≤◌, ◌<◌, min}
use native.Mathlib.Nat.{le_trans, le_of_eq, min-eq_left, mul-one, add-zero}
use native.Mathlib.Numerals.{add-one}
use native.Mathlib.Omega.{arith}
use lib.ListN.{length, length-append, length-drop, length-map, length-replicate, get_or, set, take, drop, replicate, get_or-append}
use lib.Seq.{drop_at, drop-drop, get_or-drop, length-take-le, set_split, take_at}
use lib.Ieee.{Float}
use borrow.Author.Tests.{le-ltb}
use Rattle.laws.specs.Tab.{map_at, indices}
use Rattle.laws.specs.Scan.{lowest, lowest_never}
use Rattle.laws.specs.Sieve.{sieve, sieve-few}
use Rattle.laws.specs.Picked.{sieve-places, picked-below}
use borrow.Rule.Slice.PartMut.{put_mid}
use Rattle.laws.specs.Splice.{splice, mid_is}
use Rattle.laws.specs.Laid.{rows, laid}
use Rattle.laws.specs.Over.{over, over-front, length_over}
use Rattle.laws.specs.Kept.{Keeping, keep_ahead, keep_on, keep_end}
use Rattle.labels.specs.Label.{is_label, label_at, unlabelled_at, unlabelled}
use Rattle.boost_tracker_table.specs.Table.{Track, blank, capacity, placed, tracks, Laying, Emptied, labels_where, zero_filled, labels_kept, labels_emptied}
use Rattle.boost_tracker_table.specs.Lent.{Table, places_of, labels_in, laid_over, holding}
use Rattle.boost_tracker_table.proofs.Laws.{tracks-placed, tracks-many, lay_lengths, low-room, lay_emptied, emptied_lengths, held-table}

-- ---- a list of single cells

each-one : {X A : Type 0} (f : X → A) (xs : List X) → rows (λ x. f x ∷ []) xs ≡ map f xs
unfolding rows
each-one f [] = refl
each-one f (x ∷ xs) = ap (λ (l : List _). f x ∷ l) (each-one f xs)

laid-over : {X A : Type 0} (f : X → A) (xs : List X) (l : List A) → laid (λ x. f x ∷ []) 1 xs l ≡ over (map f xs) l
unfolding laid over
laid-over f xs l = rw (each-one f xs, length-map xs f, mul-one)

one_cell : {A : Type 0} (l : List A) (w : ℕ) (a : A) → w < length l → set l w a ≡ splice l (w * 1) (a ∷ [])
one_cell l w a h = set_split l w a h ∙ rw (mul-one, add-one)

-- behind a front of no more than i
over-rest : {A : Type 0} (xs l : List A) (i : ℕ) → length xs ≤ i → drop i (over xs l) ≡ drop i l
unfolding over
over-rest xs l i h =
    let k : ℕ = i - length xs in
    let e : length xs + k ≡ i = omega arith in
    let front : drop (length xs) (xs ++ drop (length xs) l) ≡ drop (length xs) l = drop_at xs (drop (length xs) l) (length xs) refl in
    let later : drop (length xs + k) (xs ++ drop (length xs) l) ≡ drop (length xs + k) l =
    sym (drop-drop k (length xs) (xs ++ drop (length xs) l)) ∙ ap (drop k) front ∙ drop-drop k (length xs) l in
    rw e at later

-- ---- labels that stay: of labels 0 .. i - 1 those with p lie in the front, w of them, and the rest is as it was

module _ (p : ℕ → Bool) (l : List ℕ) (n : ℕ) where
  abbrev pub Relabelling : ℕ → ℕ → List ℕ → Type 0
  Relabelling i w out = Keeping (λ k. label_at l k ∷ []) 1 p (λ k. k) l n i w out

  module _ {i w : ℕ} {out : List ℕ} (k : Relabelling i w out) where
    -- the label that is looked at is not stored over yet
    next_label : get_or out i 0 ≡ label_at l i
    next_label =
        let rest : drop i out ≡ drop i l = rw mul-one at (keep_ahead (λ k. label_at l k ∷ []) 1 p (λ k. k) l n (λ _. refl) k) in
        rw add-zero at (sym (get_or-drop i out 0 0) ∙ ap (λ (m : List ℕ). get_or m 0 0) rest ∙ get_or-drop i l 0 0)

    -- one more is looked at; b is its test
    pub relabel_on : {b : Bool} {w' : ℕ} {out' : List ℕ} → i < n → b ≡ p i → w' ≡ cond b (w + 1) w → out' ≡ cond b (set out w (get_or out i 0)) out → Relabelling (i + 1) w' out'
    relabel_on {b} {w'} {out'} h e ew eo =
        let few = k.few in
        let room = k.room in
        let same = k.same in
        let low : w < length out = omega (arith, few, room, same, h) in
        keep_on (λ k. label_at l k ∷ []) 1 p (λ k. k) l n (λ _. refl) k h (rw e at ew) (rw (e, next_label, one_cell out w (label_at l i) low) at eo)

  pub relabel_end : {i w : ℕ} {out : List ℕ} → Relabelling i w out → n ≤ i → out ≡ over (map (label_at l) (sieve p (indices n))) l
  relabel_end k h = (keep_end (λ k. label_at l k ∷ []) 1 p (λ k. k) l n k h).1 ∙ laid-over (label_at l) (sieve p (indices n)) l

-- the labels of those held tracks that have p
module _ (p : Track → Bool) (f : List Float) (c : List ℕ) (held : ℕ) (l : List ℕ) where
  abbrev pub Relabelled : ℕ → ℕ → ℕ → List ℕ → Type 0
  Relabelled n i w out = Relabelling (λ k. p (get_or (tracks f c (min held (length l))) k blank)) l n i w out

  pub relabel_whole : {few n w i : ℕ} {out : List ℕ} → few ≡ min held (length l) → n ≡ placed (length f) (length c) few → Relabelled n i w out → n ≤ i → out ≡ labels_kept p f c held l
  unfolding labels_where
  relabel_whole {few} {n} ef en k h =
      let ts : List Track = tracks f c (min held (length l)) in
      let e : n ≡ length ts = en ∙ ap (placed (length f) (length c)) ef ∙ sym (tracks-placed f c (min held (length l))) in
      rw e at (relabel_end (λ k. p (get_or ts k blank)) l n k h)

-- as many as there are tracks that stay
pub labels-many : (p : Track → Bool) (ts : List Track) (l : List ℕ) → length (labels_where p ts l) ≡ length (sieve p ts)
unfolding labels_where
labels-many p ts l =
    let at : ℕ → Track = λ i. get_or ts i blank in
    let inds : List ℕ = sieve (λ i. p (at i)) (indices (length ts)) in
    length-map inds (label_at l) ∙ sym (length-map inds at) ∙ ap length (sieve-places p ts blank)

-- what holds of all labels holds of those that stay
pub labels_where_are : (q : ℕ → Bool) (p : Track → Bool) (ts : List Track) (labels : List ℕ) → ((i : ℕ) → i < length ts → q (label_at labels i) ≡ true)
    → (k : ℕ) → k < length (labels_where p ts labels) → q (label_at (labels_where p ts labels) k) ≡ true
unfolding labels_where
labels_where_are q p ts labels all k h =
    let inds : List ℕ = sieve (λ i. p (get_or ts i blank)) (indices (length ts)) in
    let c : k < length inds = rw (length-map inds (label_at labels)) at h in
    rw (map_at (label_at labels) inds k 0 0 c) (all (get_or inds k 0) (picked-below (λ i. p (get_or ts i blank)) (length ts) k c))

-- ---- labels beyond: those from behind xs up to the places are zero

pub zero-length : (xs : List ℕ) (places : ℕ) (l : List ℕ) → length xs ≤ places → places ≤ length l → length (zero_filled xs places l) ≡ length l
unfolding zero_filled
zero-length xs places l h r = simp (length-append, length-replicate, length-drop) (omega arith)

-- only labels past the places are kept of the list
pub zero-over : (xs ks : List ℕ) (places : ℕ) (l : List ℕ) → length ks ≤ places → zero_filled xs places (over ks l) ≡ zero_filled xs places l
unfolding zero_filled
zero-over xs ks places l h = rw (over-rest ks l places h)

pub zero-stored : (l : List ℕ) {first places : ℕ} {vs : List ℕ} → first ≤ places → places ≤ length l → vs ≡ replicate (length (take (places - first) (drop first l))) 0
    → put_mid first (places - first) l vs ≡ zero_filled (take first l) places l
unfolding zero_filled
zero-stored l {first} {places} {vs} low room e =
    let k : ℕ = places - first in
    let fill : length (take k (drop first l)) ≡ k = length-take-le k (drop first l) (rw length-drop (omega arith)) in
    let vs-is : vs ≡ replicate k 0 = rw fill at e in
    let whole : length vs ≡ k = ap length vs-is ∙ length-replicate {A = ℕ} k 0 in
    let end : first + k ≡ places = omega arith in
    let many : length (take first l) ≡ first = length-take-le first l (omega arith) in
    mid_is l first k vs whole ∙ rw (whole, end, many, vs-is)

-- where each of these is a label, none in the front is other than 1 to 3
pub none-unlabelled : (ls : List ℕ) (places : ℕ) (l : List ℕ) (n : ℕ) → n ≡ length ls → ((i : ℕ) → i < length ls → is_label (label_at ls i) ≡ true) → unlabelled (zero_filled ls places l) n ≡ false
unfolding zero_filled
none-unlabelled ls places l n e good =
    let all : List ℕ = zero_filled ls places l in
    let none : lowest (unlabelled_at all) n ≡ n = lowest_never (unlabelled_at all) n (λ i h. let c : i < length ls = rw e at h in rw (get_or-append ls _ 0 i c, good i c)) in
    le-ltb (lowest (unlabelled_at all) n) n (le_of_eq (sym none))

-- ---- as a frame ends: some are kept, then zeros beyond

pub labels-finished : (f : List Float) (c l : List ℕ) (held : ℕ) (p : Track → Bool) (places : ℕ) {l₁ l₂ : List ℕ} {n : ℕ} → held ≤ places → places ≤ capacity (length f) (length c) → places ≤ length l
    → n ≡ length (sieve p (tracks f c held)) → l₁ ≡ labels_kept p f c held l → l₂ ≡ labels_emptied n places l₁
    → l₂ ≡ zero_filled (labels_where p (tracks f c held) l) places l
labels-finished f c l held p places {l₁} {l₂} {n} h room low count keeps empties =
    let ts : List Track = tracks f c held in
    let ks : List ℕ = labels_where p ts l in
    let all : min held (length l) ≡ held = min-eq_left (le_trans h low) in
    let is : l₁ ≡ over ks l = rw all at keeps in
    let many : length ks ≡ n = labels-many p ts l ∙ sym count in
    let few : length ks ≤ places = rw (labels-many p ts l) (le_trans (sieve-few p ts) (rw (tracks-many f c held (le_trans h room)) h)) in
    let same : length l₁ ≡ length l = ap length is ∙ length_over ks l (le_trans few low) in
    let end : min places (length l₁) ≡ places = min-eq_left (rw same low) in
    let stay : min n places ≡ n = min-eq_left (rw (← many) few) in
    let front : take n l₁ ≡ ks = ap (take n) is ∙ over-front ks l n (sym many) in
    empties ∙ rw (end, stay, front) (ap (zero_filled ks places) is ∙ zero-over ks ks places l few)

-- ---- the table as one value

-- it has as many places after tracks and labels are laid over its front
pub laid-places : (xs : List Track) (ks : List ℕ) (t : Table) → length xs ≤ places_of t → length ks ≤ places_of t → places_of (laid_over xs ks t) ≡ places_of t
laid-places xs ks t h r =
    let over : Table = laid_over xs ks t in
    let lays : Laying t.floats t.counters over.floats over.counters xs = record { floats = refl; counters = refl } in
    let same = lay_lengths lays (low-room (omega (arith, h))) in
    let labels : length over.labels ≡ length t.labels = length_over ks t.labels (omega (arith, r)) in
    rw (same.0, same.1, labels)

-- and after it is left holding some
pub held-places : (xs : List Track) (ks : List ℕ) (t : Table) → length xs ≤ places_of t → length ks ≤ places_of t → places_of (holding xs ks t) ≡ places_of t
held-places xs ks t h r =
    let after : Table = holding xs ks t in
    let empties : Emptied t.floats t.counters (places_of t) xs after.floats after.counters = record { floats = refl; counters = refl } in
    let same = emptied_lengths empties h (omega arith) in
    let labels : length after.labels ≡ length t.labels = zero-length ks (places_of t) t.labels r (omega arith) in
    rw (same.0, same.1, labels)

-- the labels that it holds are those that it was left with
pub held-labels : (xs : List Track) (ks : List ℕ) (t : Table) → labels_in (holding xs ks t) (length ks) ≡ ks
unfolding zero_filled
held-labels xs ks t = take_at ks _ (length ks) refl

-- zeroing after an operation: what it laid is gone
pub holding-laid : (xs ys : List Track) (ks ms : List ℕ) (t : Table) → length xs ≤ places_of t → length ks ≤ places_of t → holding ys ms (laid_over xs ks t) ≡ holding ys ms t
holding-laid xs ys ks ms t h r =
    let over : Table = laid_over xs ks t in
    let same = laid-places xs ks t h r in
    let lays : Laying t.floats t.counters over.floats over.counters xs = record { floats = refl; counters = refl } in
    rw same (held-table t.labels ms (lay_emptied lays h (record { floats = refl; counters = refl })) (zero-over ms ks (places_of t) t.labels r))
