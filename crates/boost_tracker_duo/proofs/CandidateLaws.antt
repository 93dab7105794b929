-- The candidates, and the boost over their corners as the definition has it. Assumes nothing.
use mathlib.Core.Path.{◌≡◌, refl, sym, ap, ◌∙◌}
use mathlib.Core.Bool.{Bool, true, false, cond, not, ◌&&◌, ◌||◌}
use mathlib.Core.List.{List, [], ◌∷◌, ◌++◌, map, map-append, foldl, foldl-append}
use Prim.Native.Nat.{ℕ, zero, suc, ◌+◌, ◌-◌, ◌*◌, ◌≤◌, ◌<◌, zero-le}
use native.Mathlib.Nat.{le_refl, add-sub_cancel_left}
use native.Mathlib.Decide.{ℕ_discrete}
use native.Mathlib.Omega.{arith}
use lib.Dec.{eqb, ltb, leb}
use borrow.Rule.Slice.PartMut.{mid_len}
use borrow.Author.Tests.{eq-eqb, ne_eqb, eqb-true}
use lib.ListN.{length, get_or, set, take, drop, length-append}
use lib.Seq.{take_at, get_or-take, get_or-drop}
use lib.Ieee.{Float, nan, binary32, of_bits, lt, le}
use Rattle.laws.specs.Tests.{or_none}
use Rattle.laws.specs.Tab.{tab, tab-at, tab_ext, tab_of, length-tab, indices}
use Rattle.laws.specs.Fold.{fold, fold_ext}
use Rattle.laws.specs.Sieve.{sieve, sieve-more, sieve-few}
use Rattle.laws.specs.Packed.{packed-at}
use Rattle.laws.specs.Stored.{set-tab, eqb_flip}
use Rattle.laws.specs.Over.{over, Pushed}
use Rattle.laws.specs.Count.{bit}
use Rattle.laws.specs.Occurs.{occurs, occurs-sieve, occurs-indices, occurs-apart, occurs-below}
use Rattle.laws.specs.Elem.{elem, elem-append}
use Rattle.laws.specs.Picked.{fold-picked, foldl_image, sieve-sieve, sieve_image, picked_ext, elem-picked, elem_image, elem_either}
use Rattle.floats_pick.specs.Pick.{larger, smaller}
use Rattle.floats.specs.Single.{◌⊕◌, ◌⊖◌, one}
use Rattle.assoc_similarity.specs.Overlap.{iou_batch}
use Rattle.boost_tracker_boosts.proofs.OneRow.{one-iou}
use Rattle.boost_tracker_duo.specs.Duo.{max_f32, iou_limit, neg_infinity, is_candidate, boost_candidates, bdiou, bdiou_max, remaining, args, tmp, args_set, args_tmp, conf_max, is_most, remaining_boxes, masked, duo_confidence_boost}
use Rattle.boost_tracker_duo.specs.Private.{box_of, boxes_of, own, own_max, conf_with, conf_row, most_of, remains, raised_by, Candidates, duo_of}

-- ---- the candidates

-- the least of a row, read as a part of the matrix
pub least-is : (distance : List Float) (at tracks : ℕ) → at + tracks ≤ length distance
    → fold (λ m j. smaller m (get_or (take (at + tracks - at) (drop at distance)) j nan)) max_f32 (length (take (at + tracks - at) (drop at distance))) ≡ fold (λ m j. smaller m (get_or distance (at + j) nan)) max_f32 tracks
least-is distance at tracks h =
    let long : length (take (at + tracks - at) (drop at distance)) ≡ tracks = mid_len at (at + tracks) distance h ∙ add-sub_cancel_left at tracks in
    rw long (fold_ext _ _ max_f32 tracks (λ m j l. ap (smaller m) (get_or-take _ (drop at distance) j nan (omega (arith, l)) ∙ get_or-drop at distance j nan)))

-- they are distinct indices of boxes
module _ (mh_dist : ℕ → ℕ → Float) (thresh : Float) (n tracks : ℕ) (scores : List Float) where
  abbrev cs : List ℕ
  cs = boost_candidates mh_dist thresh n tracks scores

  once : (b : ℕ) → occurs b cs ≤ bit (ltb b n)
  unfolding boost_candidates
  once b = rw (occurs-sieve b (is_candidate mh_dist thresh tracks scores) (indices n), occurs-indices b n) (by_cases (is_candidate mh_dist thresh tracks scores b) (bit (ltb b n)))
    where
      by_cases : (v : Bool) (k : ℕ) → cond v k 0 ≤ k
      by_cases true k = le_refl k
      by_cases false k = zero-le

  alone : (b : ℕ) → occurs b cs ≤ 1
  alone b = by_cases (ltb b n) (once b)
    where
      by_cases : (v : Bool) → occurs b cs ≤ bit v → occurs b cs ≤ 1
      by_cases true h = h
      by_cases false h = omega arith

  pub few-candidates : length cs ≤ n
  unfolding boost_candidates
  few-candidates = let h = sieve-few (is_candidate mh_dist thresh tracks scores) (indices n) in rw (length-tab (λ i. i) n) at h

  pub candidates-listed : (detections : ℕ) → n ≤ 255 → detections ≡ n * 4 → Candidates cs detections n
  candidates-listed detections few fits = record {
    few = omega (arith, few-candidates);
    detections_fit = fits;
    scored = λ i h. occurs-below cs n once i 0 h;
    apart = λ i j h k. occurs-apart cs 0 alone i j h k;
  }

-- ---- over the corners of the candidates

and_cond : {A : Type 0} (a b : Bool) (x y : A) → cond a (cond b x y) y ≡ cond (a && b) x y
and_cond true b x y = refl
and_cond false b x y = refl

not_none : (k : ℕ) → not (eqb (k + 1) 0) ≡ true
not_none k = rw (ne_eqb (k + 1) 0 (above k))
  where
    above : (k : ℕ) → k + 1 ≡ 0 → ⊥
    above k e = omega arith

-- a row with its own cell less 1
own_row : (f : ℕ → Float) (n i : ℕ) (v : Float) → i < n → v ≡ f i ⊖ one → set (tab f n) i v ≡ tab (λ j. cond (eqb i j) (f j ⊖ one) (f j)) n
own_row f n i v h e = set-tab f n i v h ∙ tab_ext _ _ n (λ j l. rw (eqb_flip j i) (by_cases j (eqb i j) refl))
  where
    by_cases : (j : ℕ) (b : Bool) → eqb i j ≡ b → cond b v (f j) ≡ cond b (f j ⊖ one) (f j)
    by_cases j true d = e ∙ ap (λ (k : ℕ). f k ⊖ one) (eqb-true i j d)
    by_cases j false d = refl

pub own-filled : (bboxes part row : List Float) (n i : ℕ) → i < n → part ≡ take 4 (drop (i * 4) bboxes) → row ≡ tab (iou_batch part bboxes 0) n
    → set row i (get_or row i nan ⊖ one) ≡ tab (own bboxes i) n
unfolding own
own-filled bboxes part row n i h p e =
    rw (e, p) (own_row (iou_batch (take 4 (drop (i * 4) bboxes)) bboxes 0) n i _ h (rw (tab-at (iou_batch (take 4 (drop (i * 4) bboxes)) bboxes 0) n i nan h))
    ∙ tab_ext _ _ n (λ j l. rw (one-iou bboxes i bboxes j)))

-- rows that are read back
pub fold-row : (f : ℕ → Float) (n : ℕ) (z : Float) {row : List Float} → row ≡ tab f n → fold (λ m j. larger m (get_or row j nan)) z (length row) ≡ fold (λ m j. larger m (f j)) z n
fold-row f n z {row} e =
    let long : length row ≡ n = ap length e ∙ length-tab f n in
    rw long (fold_ext (λ m j. larger m (get_or row j nan)) (λ m j. larger m (f j)) z n (λ m j h. ap (larger m) (rw e (tab-at f n j nan h))))

pub conf-row-is : (f : ℕ → Float) (n : ℕ) (max : List Float) (cs : List ℕ) (scores : List Float) {row : List Float} → row ≡ tab f n → n ≡ length cs
    → conf_row (λ j. get_or row j nan) max cs scores ≡ conf_row f max cs scores
unfolding conf_row
conf-row-is f n max cs scores {row} e k = fold_ext _ _ neg_infinity (length cs) (λ m j h. rw (e, k, tab-at f (length cs) j nan h))

-- a front that was pushed
pub pushed_front : {l xs out : List ℕ} {k : ℕ} → Pushed l xs k out → take k out ≡ xs
unfolding over
pushed_front {l} {xs} {out} {k} w = rw (w.cells, w.many) (take_at xs (drop (length xs) l) (length xs) refl)

module _ (detections scores : List Float) (cs : List ℕ) (out : List Float) where
  abbrev candidate : ℕ → ℕ
  candidate i = get_or cs i 0

  abbrev n : ℕ
  n = length cs

  abbrev bboxes : List Float
  bboxes = boxes_of detections cs out

  corner : (i k : ℕ) → i < n → k < 4 → get_or bboxes (i * 4 + k) nan ≡ get_or (box_of detections (candidate i)) k nan
  corner i k h l =
      sym (get_or-drop (i * 4) bboxes k nan) ∙ sym (get_or-take 4 (drop (i * 4) bboxes) k nan l)
      ∙ ap (λ (r : List Float). get_or r k nan) (packed-at (λ i. box_of detections (candidate i)) 4 out (λ i. refl) n i h)

  first : (i : ℕ) → i < n → get_or bboxes (i * 4) nan ≡ get_or detections (candidate i * 4) nan
  first i h = ap (λ (k : ℕ). get_or bboxes k nan) (omega arith) ∙ corner i 0 h (omega arith)

  iou-is : (i j : ℕ) → i < n → j < n → iou_batch bboxes bboxes i j ≡ iou_batch detections detections (candidate i) (candidate j)
  iou-is i j h l =
      rw (first i h, corner i 1 h (omega arith), corner i 2 h (omega arith), corner i 3 h (omega arith), first j l, corner j 1 l (omega arith), corner j 2 l (omega arith), corner j 3 l (omega arith))

  own_is : (i j : ℕ) → i < n → j < n → own bboxes i j ≡ bdiou detections scores cs i j
  unfolding own bdiou
  own_is i j h l = rw (iou-is i j h l)

  max_is : (i : ℕ) → i < n → own_max bboxes n i ≡ bdiou_max detections scores cs i
  unfolding own_max bdiou_max
  max_is i h = fold_ext _ _ neg_infinity n (λ m j l. ap (larger m) (own_is i j h l))

  abbrev maxima : List Float
  maxima = tab (own_max bboxes n) n

  top-is : (i : ℕ) → i < n → get_or maxima i nan ≡ bdiou_max detections scores cs i
  top-is i h = tab-at (own_max bboxes n) n i nan h ∙ max_is i h

  module _ (apart : (i j : ℕ) → i < length cs → j < length cs → get_or cs i 0 ≡ get_or cs j 0 → i ≡ j) where
    abbrev high : ℕ → Bool
    high j = lt iou_limit (bdiou_max detections scores cs j)

    among : (j : ℕ) → j < n → elem (candidate j) (args_set detections scores cs) ≡ high j
    unfolding args_set args
    among j h = elem_image candidate high j n (λ i l e. apart j i h l e) ∙ elem-picked high n j h

    abbrev near : ℕ → ℕ → Bool
    near i j = lt iou_limit (bdiou detections scores cs i j)

    conf-is : (i : ℕ) → i < n → larger (conf_row (own bboxes i) maxima cs scores) (get_or scores (candidate i) nan) ≡ conf_max detections scores cs i
    unfolding conf_row conf_with conf_max args_tmp tmp
    conf-is i h =
        let g : Float → ℕ → Float = λ m idx. larger m (get_or scores idx nan) in
        let in_set : ℕ → Bool = λ idx. elem idx (args_set detections scores cs) in
        let both : ℕ → Bool = λ j. near i j && in_set (candidate j) in
        let listed : sieve in_set (map candidate (sieve (near i) (indices n))) ≡ map candidate (sieve both (indices n)) =
        sieve_image in_set candidate (sieve (near i) (indices n)) ∙ ap (map candidate) (sieve-sieve (λ j. in_set (candidate j)) (near i) (indices n)) in
        let folded : foldl g neg_infinity (map candidate (sieve both (indices n))) ≡ fold (λ m j. cond (both j) (g m (candidate j)) m) neg_infinity n =
        foldl_image g candidate neg_infinity (sieve both (indices n)) ∙ fold-picked (λ m j. g m (candidate j)) neg_infinity both n in
        let steps : conf_row (own bboxes i) maxima cs scores ≡ fold (λ m j. cond (both j) (g m (candidate j)) m) neg_infinity n =
        fold_ext _ _ neg_infinity n (λ m j l. rw (own_is i j h l, top-is j l, ← among j l) (and_cond (near i j) (in_set (candidate j)) (g m (candidate j)) m)) in
        sym (foldl-append g neg_infinity (sieve in_set (map candidate (sieve (near i) (indices n)))) (candidate i ∷ [])
        ∙ ap (λ (m : Float). larger m (get_or scores (candidate i) nan)) (ap (foldl g neg_infinity) listed ∙ folded ∙ sym steps))

    some : (i : ℕ) → not (eqb (length (args_tmp detections scores cs i)) 0) ≡ true
    unfolding args_tmp
    some i =
        let xs : List ℕ = sieve (λ idx. elem idx (args_set detections scores cs)) (map candidate (tmp detections scores cs i)) in
        rw (length-append xs (candidate i ∷ [])) (not_none (length xs))

    most-is : (i : ℕ) → i < n → most_of bboxes maxima cs scores i ≡ is_most detections scores cs i
    unfolding most_of is_most
    most-is i h = rw (conf-is i h, some i)

    abbrev low : ℕ → Bool
    low i = le (bdiou_max detections scores cs i) iou_limit

    remains-is : (i : ℕ) → i < n → remains bboxes maxima cs scores i ≡ (low i || (high i && is_most detections scores cs i))
    unfolding remains
    remains-is i h = rw (top-is i h, most-is i h) (by_cases (low i) (high i) (is_most detections scores cs i))
      where
        by_cases : (a b e : Bool) → cond a true (cond b e false) ≡ (a || (b && e))
        by_cases true b e = refl
        by_cases false true e = refl
        by_cases false false e = refl

    -- the marked candidates are the remaining boxes
    remaining-is : (k : ℕ) → elem k (map candidate (sieve (remains bboxes maxima cs scores) (indices n))) ≡ elem k (remaining_boxes detections scores cs)
    unfolding remaining_boxes remaining args
    remaining-is k =
        ap (λ (l : List ℕ). elem k (map candidate l)) (picked_ext _ (λ i. low i || (high i && is_most detections scores cs i)) n (λ i h. remains-is i h))
        ∙ sym (elem-append k (map candidate (sieve low (indices n))) (map candidate (sieve (is_most detections scores cs) (sieve high (indices n))))
        ∙ ap (λ (l : List ℕ). elem k (map candidate (sieve low (indices n))) || elem k (map candidate l)) (sieve-sieve (is_most detections scores cs) high (indices n))
        ∙ elem_either candidate low (λ i. high i && is_most detections scores cs i) k (indices n))

-- ---- raised

raise_on : (xs : List ℕ) (scores : List Float) (raised : Float) (idx : ℕ) (b : Bool) → idx < length scores
    → cond b (set (tab (λ k. cond (elem k xs) raised (get_or scores k nan)) (length scores)) idx raised) (tab (λ k. cond (elem k xs) raised (get_or scores k nan)) (length scores))
    ≡ tab (λ k. cond (elem k (cond b (xs ++ (idx ∷ [])) xs)) raised (get_or scores k nan)) (length scores)
unfolding elem
raise_on xs scores raised idx false h = refl
raise_on xs scores raised idx true h =
    set-tab (λ k. cond (elem k xs) raised (get_or scores k nan)) (length scores) idx raised h
    ∙ tab_ext _ _ (length scores) (λ k l. rw (elem-append k xs (idx ∷ [])) (by_cases (eqb k idx) (elem k xs) (get_or scores k nan)))
  where
    by_cases : (a b : Bool) (s : Float) → cond a raised (cond b raised s) ≡ cond (b || (a || false)) raised s
    by_cases true true s = refl
    by_cases true false s = refl
    by_cases false true s = refl
    by_cases false false s = refl

raised_is : (mark : ℕ → Bool) (candidate : ℕ → ℕ) (raised : Float) (scores : List Float) (n : ℕ) → ((i : ℕ) → i < n → candidate i < length scores)
    → fold (λ out i. cond (mark i) (set out (candidate i) raised) out) scores n
    ≡ tab (λ k. cond (elem k (map candidate (sieve mark (indices n)))) raised (get_or scores k nan)) (length scores)
unfolding fold tab sieve elem
raised_is mark candidate raised scores zero h = tab_of (λ k. get_or scores k nan) scores (length scores) nan refl (λ k l. refl)
raised_is mark candidate raised scores (suc n) h =
    rw (raised_is mark candidate raised scores n (λ i l. h i (omega arith)), sieve-more mark (indices n) n) (raise_on (map candidate (sieve mark (indices n))) scores raised (candidate n) (mark n) (h n (le_refl (suc n))) ∙ by_cases (mark n))
  where
    xs : List ℕ
    xs = sieve mark (indices n)

    by_cases : (b : Bool) → tab (λ k. cond (elem k (cond b (map candidate xs ++ (candidate n ∷ [])) (map candidate xs))) raised (get_or scores k nan)) (length scores)
        ≡ tab (λ k. cond (elem k (map candidate (cond b (xs ++ (n ∷ [])) xs))) raised (get_or scores k nan)) (length scores)
    by_cases true = rw (map-append candidate xs (n ∷ []))
    by_cases false = refl

pub masked-is : (detections scores : List Float) (cs : List ℕ) (thresh : Float) (detections_length : ℕ) (out bboxes max : List Float) (marks : List Bool) → Candidates cs detections_length (length scores)
    → bboxes ≡ boxes_of detections cs out → max ≡ tab (own_max bboxes (length cs)) (length cs) → marks ≡ tab (remains bboxes max cs scores) (length cs)
    → raised_by marks cs (thresh ⊕ of_bits binary32 0x38d1_b717) scores ≡ masked detections scores cs thresh (length scores)
unfolding raised_by masked
masked-is detections scores cs thresh d out bboxes max marks w b m k =
    let apart = w.apart in
    let mark : ℕ → Bool = remains (boxes_of detections cs out) (tab (own_max (boxes_of detections cs out) (length cs)) (length cs)) cs scores in
    let marked : marks ≡ tab mark (length cs) = k ∙ rw (m, b) in
    fold_ext _ (λ o i. cond (mark i) (set o (get_or cs i 0) (thresh ⊕ of_bits binary32 0x38d1_b717)) o) scores (length cs) (λ o i h. rw (marked, tab-at mark (length cs) i false h))
    ∙ raised_is mark (λ i. get_or cs i 0) (thresh ⊕ of_bits binary32 0x38d1_b717) scores (length cs) w.scored
    ∙ tab_ext _ _ (length scores) (λ j h. ap (λ (v : Bool). cond v (thresh ⊕ of_bits binary32 0x38d1_b717) (get_or scores j nan)) (remaining-is detections scores cs out apart j))

-- ---- the early returns

pub duo-none : (frames : ℕ) (thresh : Float) (detections : List Float) (mh_dist : ℕ → ℕ → Float) (boxes tracks : ℕ) (scores : List Float) → (eqb tracks 0 || leb frames 1) ≡ true
    → scores ≡ duo_confidence_boost frames thresh detections mh_dist boxes tracks scores
unfolding duo_confidence_boost
duo-none frames thresh detections mh_dist boxes tracks scores e = by_cases (eqb tracks 0) (eqb boxes 0) (leb frames 1) e
  where
    rest : List Float
    rest =
        cond (eqb boxes 0 || eqb tracks 0) scores
        (cond (eqb (length (boost_candidates mh_dist thresh boxes tracks scores)) 0) scores (masked detections scores (boost_candidates mh_dist thresh boxes tracks scores) thresh boxes))

    by_cases : (a b d : Bool) → (a || d) ≡ true → scores ≡ cond (a || (b || d)) scores rest
    by_cases true b d e = refl
    by_cases false true d e = refl
    by_cases false false d e = rw e

pub duo-some : (frames : ℕ) (thresh : Float) (detections : List Float) (mh_dist : ℕ → ℕ → Float) (boxes tracks : ℕ) (scores : List Float) → (eqb tracks 0 || leb frames 1) ≡ false → length scores ≡ boxes
    → duo_of thresh detections mh_dist tracks scores ≡ duo_confidence_boost frames thresh detections mh_dist boxes tracks scores
unfolding duo_confidence_boost duo_of boost_candidates sieve tab
duo-some frames thresh detections mh_dist boxes tracks scores e size =
    let s = or_none (eqb tracks 0) (leb frames 1) e in
    rw (size, s.0, s.1) (by_cases (ℕ_discrete boxes 0))
  where
    all : ℕ → List Float
    all n =
        cond (eqb (length (boost_candidates mh_dist thresh n tracks scores)) 0) scores (masked detections scores (boost_candidates mh_dist thresh n tracks scores) thresh n)

    by_cases : Dec (boxes ≡ 0) → all boxes ≡ cond (eqb boxes 0 || false) scores (cond (eqb boxes 0 || false) scores (all boxes))
    by_cases (yes q) = rw (eq-eqb boxes 0 q, q)
    by_cases (no q) = rw (ne_eqb boxes 0 q)

module _ (thresh : Float) (detections : List Float) (mh_dist : ℕ → ℕ → Float) (tracks : ℕ) (scores : List Float) where
  abbrev found : List ℕ
  found = boost_candidates mh_dist thresh (length scores) tracks scores

  pub duo-empty : {l out : List ℕ} {k : ℕ} → Pushed l found k out → k ≡ 0 → scores ≡ duo_of thresh detections mh_dist tracks scores
  unfolding duo_of
  duo-empty w e = rw (eq-eqb (length found) 0 (sym w.many ∙ e))

  pub duo-full : {l out : List ℕ} {k : ℕ} {s : List Float} → Pushed l found k out → (k ≡ 0 → ⊥) → s ≡ masked detections scores (take k out) thresh (length scores)
      → s ≡ duo_of thresh detections mh_dist tracks scores
  unfolding duo_of
  duo-full w n e = rw (ne_eqb (length found) 0 (λ q. n (w.many ∙ q))) (e ∙ rw (pushed_front w))

  pub duo-listed : {l out : List ℕ} {k d : ℕ} → Pushed l found k out → length scores ≤ 255 → d ≡ length scores * 4 → Candidates (take k out) d (length scores)
  duo-listed {l} {out} {k} {d} w few fits = rw (pushed_front w) (candidates-listed mh_dist thresh (length scores) tracks scores d few fits)

  pub duo-few : {l out : List ℕ} {k : ℕ} → Pushed l found k out → length scores ≤ length l → k ≤ length out
  duo-few w h = omega (arith, w.many, w.same, few-candidates mh_dist thresh (length scores) tracks scores)
