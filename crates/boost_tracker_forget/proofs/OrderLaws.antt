-- Keeping the tracks with one test: what is left is sound; and then those with another is keeping those with both: tracks, labels and every cell of the table. Assumes nothing.
use mathlib.Core.Path.{◌≡◌, refl, sym, ap, ◌∙◌}
use mathlib.Core.Bool.{Bool, true, false, cond, not, ◌&&◌, ◌||◌}
use mathlib.Core.List.{List, [], ◌∷◌, ◌++◌, map, map-append, map-map, append_assoc}
use Prim.Native.Nat.{ℕ, zero, suc, ◌-◌, ◌*◌, ◌≤◌, ◌<◌}
use native.Mathlib.Nat.{le_refl, le_trans, mul-le-mul_right}
use native.Mathlib.Omega.{arith}
use lib.ListN.{length, length-append, length-map, length-replicate, get_or, drop, replicate, get_or-append}
use lib.Dec.{ltb}
use lib.Seq.{drop_at}
use borrow.Author.Tests.{ltb-false, not-false}
use Rattle.laws.specs.Tab.{tab, indices, map_at}
use Rattle.laws.specs.Laid.{rows, length-rows}
use Rattle.laws.specs.Scan.{lowest}
use Rattle.laws.specs.Sieve.{sieve, sieve-more, sieve-few, sieve_agree}
use Rattle.laws.specs.Occurs.{occurs}
use Rattle.laws.specs.Elem.{elem, elem-append, elem-occurs}
use Rattle.laws.specs.Every.{lowest-none}
use Rattle.laws.specs.Picked.{sieve-sieve, sieve-places, picked_ext}
use Rattle.labels.specs.Label.{is_label, label_at, unlabelled_at, unlabelled}
use Rattle.floats.specs.Single.{plus_zero}
use Rattle.boost_tracker_table.specs.Table.{place_floats, place_counters, Track, blank, floats_of, counters_of, unlisted, filled_up, Emptied, labels_where, zero_filled}
use Rattle.boost_tracker_table.specs.Lent.{Table, places_of, tracks_in, labels_in, holding, Call, call_with}
use Rattle.boost_tracker_table.proofs.Laws.{tracks-many, emptied-tracks}
use Rattle.boost_tracker_table.proofs.LabelLaws.{labels-many, labels_where_are, none-unlabelled, held-places, held-labels}
use Rattle.boost_tracker_verdict.specs.declared.sound.State.{State}
use Rattle.boost_tracker_verdict.specs.Sound.{sound_table}
use Rattle.boost_tracker_verdict.proofs.SoundLaws.{sound-sieve}
use Rattle.boost_tracker_forget.specs.Forget.{without}

-- ---- cells

-- only cells past the places are kept of a list
filled-filled : {A : Type 0} (enc : Track → List A) (s : ℕ) (size : (t : Track) → length (enc t) ≡ s) (nought : A) (ys ts : List Track) (places : ℕ) (l : List A) → length ts ≤ places
    → filled_up enc s nought ys places (filled_up enc s nought ts places l) ≡ filled_up enc s nought ys places l
unfolding filled_up
filled-filled {A} enc s size nought ys ts places l h =
    let low : length ts * s ≤ places * s = mul-le-mul_right s h in
    let k : ℕ = places * s - length ts * s in
    let front : List A = rows enc ts ++ replicate k nought in
    let many : length front ≡ places * s = simp (length-append, length-rows enc s size ts, length-replicate) (omega arith) in
    let rest : drop (places * s) (rows enc ts ++ (replicate k nought ++ drop (places * s) l)) ≡ drop (places * s) l =
    ap (drop (places * s)) (sym (append_assoc (rows enc ts) (replicate k nought) (drop (places * s) l))) ∙ drop_at front (drop (places * s) l) (places * s) many in
    rw rest

zero-zero : (ms ks : List ℕ) (places : ℕ) (l : List ℕ) → length ks ≤ places → zero_filled ms places (zero_filled ks places l) ≡ zero_filled ms places l
unfolding zero_filled
zero-zero ms ks places l h =
    let k : ℕ = places - length ks in
    let front : List ℕ = ks ++ replicate k 0 in
    let many : length front ≡ places = simp (length-append, length-replicate) (omega arith) in
    let rest : drop places (ks ++ (replicate k 0 ++ drop places l)) ≡ drop places l =
    ap (drop places) (sym (append_assoc ks (replicate k 0) (drop places l))) ∙ drop_at front (drop places l) places many in
    rw rest

-- ---- labels

-- maps that agree below n
map-picked : (f g : ℕ → ℕ) (p : ℕ → Bool) (n : ℕ) → ((k : ℕ) → k < n → f k ≡ g k) → map f (sieve p (indices n)) ≡ map g (sieve p (indices n))
unfolding tab sieve
map-picked f g p zero e = refl
map-picked f g p (suc n) e = rw (sieve-more p (indices n) n) (by_cases (p n) (map-picked f g p n (λ k h. e k (omega arith))) (e n (le_refl (suc n))))
  where
    by_cases : (b : Bool) → map f (sieve p (indices n)) ≡ map g (sieve p (indices n)) → f n ≡ g n
        → map f (cond b (sieve p (indices n) ++ (n ∷ [])) (sieve p (indices n))) ≡ map g (cond b (sieve p (indices n) ++ (n ∷ [])) (sieve p (indices n)))
    by_cases true r q = map-append f (sieve p (indices n)) (n ∷ []) ∙ rw (r, q) (sym (map-append g (sieve p (indices n)) (n ∷ [])))
    by_cases false r q = r

module _ (p q : Track → Bool) (ts : List Track) (l l₁ : List ℕ) where
  -- the places of those with p
  inds : List ℕ
  inds = sieve (λ i. p (get_or ts i blank)) (indices (length ts))

  images : map (λ i. get_or ts i blank) inds ≡ sieve p ts
  unfolding inds
  images = sieve-places p ts blank

  many-inds : length (sieve p ts) ≡ length inds
  many-inds = sym (ap length images) ∙ length-map inds (λ i. get_or ts i blank)

  at_ind : (k : ℕ) → k < length inds → get_or (sieve p ts) k blank ≡ get_or ts (get_or inds k 0) blank
  at_ind k h = rw (← images) (map_at (λ i. get_or ts i blank) inds k 0 blank h)

  where_where : ((k : ℕ) → k < length inds → label_at l₁ k ≡ label_at l (get_or inds k 0)) → labels_where q (sieve p ts) l₁ ≡ labels_where (λ x. p x && q x) ts l
  unfolding labels_where inds
  where_where e =
      let r : ℕ → Bool = λ i. q (get_or ts i blank) in
      let tests : sieve (λ k. q (get_or (sieve p ts) k blank)) (indices (length inds)) ≡ sieve (λ k. r (get_or inds k 0)) (indices (length inds)) =
      picked_ext (λ k. q (get_or (sieve p ts) k blank)) (λ k. r (get_or inds k 0)) (length inds) (λ k h. ap q (at_ind k h)) in
      rw (many-inds, tests)
      (map-picked (label_at l₁) (λ k. label_at l (get_or inds k 0)) (λ k. r (get_or inds k 0)) (length inds) e
      ∙ sym (map-map (label_at l) (λ k. get_or inds k 0) (sieve (λ k. r (get_or inds k 0)) (indices (length inds))))
      ∙ ap (map (label_at l)) (sieve-places r inds 0 ∙ sieve-sieve r (λ i. p (get_or ts i blank)) (indices (length ts))))

  -- the labels that were left for them
  left_label : (places k : ℕ) → k < length inds → label_at (zero_filled (labels_where p ts l) places l) k ≡ label_at l (get_or inds k 0)
  unfolding zero_filled labels_where inds
  left_label places k h =
      let low : k < length (map (label_at l) inds) = rw (length-map inds (label_at l)) h in
      get_or-append (map (label_at l) inds) _ 0 k low ∙ map_at (label_at l) inds k 0 0 h

-- ---- the table as one value

-- the held tracks that have p, with their labels, and zeros beyond them
abbrev pub keeping : (Track → Bool) → State → Table → Call State Table
keeping p s t =
    let ts : List Track = tracks_in t s.count in
    call_with (record { count = length (sieve p ts); last = s.last; frames = s.frames }) (holding (sieve p ts) (labels_where p ts t.labels) t)

-- tests that agree
keeping_agree : (p r : Track → Bool) (s : State) (t : Table) → ((x : Track) → p x ≡ r x) → keeping p s t ≡ keeping r s t
unfolding labels_where
keeping_agree p r s t e =
    let ts : List Track = tracks_in t s.count in
    rw (
      sieve_agree p r ts blank (λ i h. e (get_or ts i blank)),
      picked_ext (λ i. p (get_or ts i blank)) (λ i. r (get_or ts i blank)) (length ts) (λ j h. e (get_or ts j blank)),
    )

module _ (p : Track → Bool) (s : State) (t : Table) (room : s.count ≤ places_of t) where
  abbrev ts : List Track
  ts = tracks_in t s.count

  abbrev ks : List ℕ
  ks = labels_where p ts t.labels

  abbrev then-left : Table
  then-left = holding (sieve p ts) ks t

  pub tracks-held : length ts ≡ s.count
  tracks-held = tracks-many t.floats t.counters s.count (omega arith)

  few : length (sieve p ts) ≤ places_of t
  few = le_trans (sieve-few p ts) (rw tracks-held room)

  few-labels : length ks ≤ places_of t
  few-labels = rw (labels-many p ts t.labels) few

  pub left-tracks : tracks_in then-left (length (sieve p ts)) ≡ sieve p ts
  left-tracks =
      let empties : Emptied t.floats t.counters (places_of t) (sieve p ts) then-left.floats then-left.counters = record { floats = refl; counters = refl } in
      emptied-tracks empties few (omega arith)

  pub left-labels : labels_in then-left (length (sieve p ts)) ≡ ks
  left-labels = rw (labels-many p ts t.labels) at (held-labels (sieve p ts) ks t)

  left-places : places_of then-left ≡ places_of t
  left-places = held-places (sieve p ts) ks t few few-labels

  pub left-room : length (sieve p ts) ≤ places_of then-left
  left-room = rw left-places few

  -- what is left of a sound table with labels is sound and has labels
  pub left-sound : sound_table s t ≡ true → sound_table (keeping p s t).answer then-left ≡ true
  left-sound is-sound = rw (left-tracks, left-places) (sound-sieve p (places_of t) s ts (rw tracks-held room) is-sound)

  pub left-labelled : unlabelled t.labels s.count ≡ false → unlabelled then-left.labels (length (sieve p ts)) ≡ false
  left-labelled is-labelled =
      let none : s.count ≤ lowest (unlabelled_at t.labels) s.count = ltb-false _ s.count is-labelled in
      none-unlabelled ks (places_of t) t.labels (length (sieve p ts)) (sym (labels-many p ts t.labels))
      (labels_where_are is_label p ts t.labels (λ i h. not-false _ (lowest-none (unlabelled_at t.labels) s.count none i (rw tracks-held at h))))

  pub keep_keep : (q : Track → Bool) → keeping q (keeping p s t).answer (keeping p s t).lent ≡ keeping (λ x. p x && q x) s t
  keep_keep q =
      let both : Track → Bool = λ x. p x && q x in
      let labelled : labels_where q (sieve p ts) then-left.labels ≡ labels_where both ts t.labels = where_where p q ts t.labels then-left.labels (left_label p q ts t.labels then-left.labels (places_of t)) in
      let floats = filled-filled floats_of place_floats (λ _. refl) plus_zero (sieve both ts) (sieve p ts) (places_of t) t.floats few in
      let counters = filled-filled counters_of place_counters (λ _. refl) 0 (sieve both ts) (sieve p ts) (places_of t) t.counters few in
      let labels = zero-zero (labels_where both ts t.labels) ks (places_of t) t.labels few-labels in
      rw (left-tracks, labelled, sieve-sieve q p ts, left-places, floats, counters, labels)

-- ---- drops

neither : (a b : Bool) → (not a && not b) ≡ not (a || b)
neither true b = refl
neither false b = refl

-- dropping some and then others is dropping all of them
pub drop-drop : (s : State) (t : Table) (xs ys : List ℕ) → s.count ≤ places_of t → without (without s t xs).answer (without s t xs).lent ys ≡ without s t (xs ++ ys)
drop-drop s t xs ys room =
    keep_keep (unlisted xs) s t room (unlisted ys)
    ∙ keeping_agree (λ x. unlisted xs x && unlisted ys x) (unlisted (xs ++ ys)) s t (λ x. rw (elem-append x.id xs ys) (neither (elem x.id xs) (elem x.id ys)))

-- the same ids in another order
pub without_agree : (s : State) (t : Table) (xs ids : List ℕ) → ((id : ℕ) → occurs id xs ≡ occurs id ids) → without s t xs ≡ without s t ids
without_agree s t xs ids e =
    keeping_agree (unlisted xs) (unlisted ids) s t (λ x. ap not (elem-occurs x.id xs ∙ ap (ltb 0) (e x.id) ∙ sym (elem-occurs x.id ids)))
