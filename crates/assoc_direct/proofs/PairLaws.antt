-- Pairs by rows: how they are written one behind the other, and how often a box or a track stands in them. Assumes nothing.
use mathlib.Core.Path.{◌≡◌, refl, sym, ap, ◌∙◌}
use mathlib.Core.List.{List, [], ◌++◌, map, map-append}
use mathlib.Core.Bool.{Bool, true, false, ◌&&◌}
use Prim.Native.Nat.{ℕ, zero, suc, ◌+◌, ◌≤◌, ◌<◌, zero-le}
use native.Mathlib.Nat.{le_refl, le_trans, add-zero}
use native.Mathlib.Omega.{arith}
use lib.Dec.{ltb, eqb}
use lib.ListN.{length, get_or, length-append, length-map}
use borrow.Author.Tests.{ltb-true, ltb-false, eqb-true, lt-ltb, le-ltb}
use Rattle.laws.specs.Tab.{tab, tab-at, length-tab}
use Rattle.laws.specs.Sieve.{maybe}
use Rattle.laws.specs.Joined.{joined, joined-none, joined_suc, joined-more, joined_ext, joined_grow}
use Rattle.laws.specs.Tests.{and_left, and_right}
use Rattle.laws.specs.Count.{bit, count_where, count-is, count_mono}
use Rattle.laws.specs.Occurs.{occurs, occurs-append}
use Rattle.laws.specs.Over.{push_start, push_maybe}
use Rattle.assoc_direct.specs.Simple.{Pair, pair, boxes_of, tracks_of}
use Rattle.assoc_direct.specs.Rows.{pairs_of, held, putting, Put, Wrote}

-- the pair of row i and its column j, if that is one
abbrev pub paired : ℕ → ℕ → ℕ → List Pair
paired m i j = maybe (ltb j m) (pair i j)

pub no-column : (m i : ℕ) → paired m i m ≡ []
no-column m i = rw (le-ltb m m (le_refl m))

pub map-maybe : {A B : Type 0} (f : A → B) (b : Bool) (x : A) → map f (maybe b x) ≡ maybe b (f x)
map-maybe f true x = refl
map-maybe f false x = refl

pub map-pairs : (g : Pair → ℕ) (m : ℕ) (f : ℕ → ℕ) (i : ℕ) → map g (pairs_of m f (i + 1)) ≡ map g (pairs_of m f i) ++ maybe (ltb (f i) m) (g (pair i (f i)))
unfolding pairs_of
map-pairs g m f i =
    ap (map g) (sym (joined-more (λ k. paired m k (f k)) i)) ∙ map-append g (joined (λ k. paired m k (f k)) i) (paired m i (f i))
    ∙ ap (λ (l : List ℕ). map g (joined (λ k. paired m k (f k)) i) ++ l) (map-maybe g (ltb (f i) m) (pair i (f i)))

-- ---- written to two lists

pub wrote_many : {ps : List Pair} {boxes₀ tracks₀ : List ℕ} {k : ℕ} {boxes tracks : List ℕ} → Wrote ps boxes₀ tracks₀ k boxes tracks → k ≡ length ps
wrote_many {ps} w = w.boxes_are.many ∙ length-map ps (λ (p : Pair). p.box)

-- both lists have the place where a pair is put
pub put-places : (j m k : ℕ) (boxes tracks : List ℕ) → putting j m k boxes tracks ≡ true → (k < length boxes) × (k < length tracks)
put-places j m k boxes tracks e =
    let front = and_left (ltb j m && ltb k (length boxes)) (ltb k (length tracks)) e in
    (ltb-true k (length boxes) (and_right (ltb j m) (ltb k (length boxes)) front), ltb-true k (length tracks) (and_right (ltb j m && ltb k (length boxes)) (ltb k (length tracks)) e))

-- where there is room for each pair, one is put wherever there is one
put_is : (j m k : ℕ) (boxes tracks : List ℕ) → (ltb j m ≡ true → (k < length boxes) × (k < length tracks)) → putting j m k boxes tracks ≡ ltb j m
put_is j m k boxes tracks room = by_cases (ltb j m) refl
  where
    by_cases : (b : Bool) → ltb j m ≡ b → ((b && ltb k (length boxes)) && ltb k (length tracks)) ≡ b
    by_cases true e = let h = room e in rw (lt-ltb k (length boxes) h.0, lt-ltb k (length tracks) h.1)
    by_cases false e = refl

module _ (m : ℕ) (f : ℕ → ℕ) (boxes₀ tracks₀ : List ℕ) where
  pub wrote_start : Wrote (pairs_of m f 0) boxes₀ tracks₀ 0 boxes₀ tracks₀
  unfolding pairs_of
  wrote_start = rw (joined-none (λ i. paired m i (f i))) (record { boxes_are = push_start boxes₀; tracks_are = push_start tracks₀ })

  -- there is room for one pair more
  pub wrote_room : {i n k : ℕ} {boxes tracks : List ℕ} → Wrote (pairs_of m f i) boxes₀ tracks₀ k boxes tracks → i < n → f i < m → k < length (pairs_of m f n)
  unfolding pairs_of
  wrote_room {i} {n} {k} w h l =
      let e : length (pairs_of m f (i + 1)) ≡ length (pairs_of m f i) + 1 =
      ap length (sym (joined-more (λ q. paired m q (f q)) i)) ∙ length-append (pairs_of m f i) (paired m i (f i)) ∙ rw (lt-ltb (f i) m l) in
      let g = joined_grow (λ q. paired m q (f q)) (i + 1) n (omega arith) in
      let z = wrote_many w in
      omega arith

  pub wrote_on : {i n k r : ℕ} {boxes tracks boxes' tracks' : List ℕ} → Wrote (pairs_of m f i) boxes₀ tracks₀ k boxes tracks → i < n
      → length (pairs_of m f n) ≤ length boxes₀ → length (pairs_of m f n) ≤ length tracks₀
      → Put (putting (f i) m k boxes tracks) k (pair i (f i)) boxes tracks r boxes' tracks' → Wrote (pairs_of m f (i + 1)) boxes₀ tracks₀ r boxes' tracks'
  wrote_on {i} {n} {k} {r} {boxes} {tracks} {boxes'} {tracks'} w h a b p =
      let room : ltb (f i) m ≡ true → k < length (pairs_of m f n) = λ e. wrote_room w h (ltb-true (f i) m e) in
      let places : ltb (f i) m ≡ true → (k < length boxes) × (k < length tracks) = λ e. (rw w.boxes_are.same (le_trans (room e) a), rw w.tracks_are.same (le_trans (room e) b)) in
      let q : Put (ltb (f i) m) k (pair i (f i)) boxes tracks r boxes' tracks' = rw (put_is (f i) m k boxes tracks places) at p in
      record {
        boxes_are = rw (map-pairs (λ (p : Pair). p.box) m f i) (push_maybe boxes₀ (ltb (f i) m) i w.boxes_are (λ e. le_trans (room e) a) q.many q.boxes_are);
        tracks_are = rw (map-pairs (λ (p : Pair). p.track) m f i) (push_maybe tracks₀ (ltb (f i) m) (f i) w.tracks_are (λ e. le_trans (room e) b) q.many q.tracks_are);
      }

  -- the same, of a column that was found for the row
  pub wrote_found : {i n j k r : ℕ} {boxes tracks boxes' tracks' : List ℕ} → j ≡ f i → Wrote (pairs_of m f i) boxes₀ tracks₀ k boxes tracks → i < n
      → length (pairs_of m f n) ≤ length boxes₀ → length (pairs_of m f n) ≤ length tracks₀
      → Put (putting j m k boxes tracks) k (pair i j) boxes tracks r boxes' tracks' → Wrote (pairs_of m f (i + 1)) boxes₀ tracks₀ r boxes' tracks'
  wrote_found e w h a b p = wrote_on w h a b (rw e at p)

-- pairs are given by their rows
pub pairs_ext : (m : ℕ) (f g : ℕ → ℕ) (n : ℕ) → ((i : ℕ) → i < n → f i ≡ g i) → pairs_of m f n ≡ pairs_of m g n
unfolding pairs_of
pairs_ext m f g n e = joined_ext (λ i. paired m i (f i)) (λ i. paired m i (g i)) n (λ (i : ℕ) (h : i < n). ap (paired m i) (e i h))

pub held-is : (m : ℕ) (f : ℕ → ℕ) (n : ℕ) (partner : List ℕ) → partner ≡ tab f n → held m partner ≡ pairs_of m f n
held-is m f n partner e = rw (e, length-tab f n) (pairs_ext m (λ i. get_or (tab f n) i 0) f n (λ (i : ℕ) (h : i < n). tab-at f n i 0 h))

-- ---- counted

-- how often a number stands in the pairs, where g takes it from a pair
pairs-count : (g : Pair → ℕ) (m : ℕ) (f : ℕ → ℕ) (n b : ℕ) → occurs b (map g (pairs_of m f n)) ≡ count_where (λ i. ltb (f i) m && eqb b (g (pair i (f i)))) n
unfolding pairs_of count_where occurs
pairs-count g m f zero b = rw (joined-none (λ i. paired m i (f i)))
pairs-count g m f (suc n) b =
    rw (
      joined_suc (λ i. paired m i (f i)) n,
      map-append g (joined (λ i. paired m i (f i)) n) (paired m n (f n)),
      occurs-append b (map g (joined (λ i. paired m i (f i)) n)) (map g (paired m n (f n))),
      pairs-count g m f n b,
    )
    (ap (λ (k : ℕ). count_where (λ i. ltb (f i) m && eqb b (g (pair i (f i)))) n + k) (by_cases (ltb (f n) m)))
  where
    by_cases : (v : Bool) → occurs b (map g (maybe v (pair n (f n)))) ≡ bit (v && eqb b (g (pair n (f n))))
    by_cases true = add-zero (bit (eqb b (g (pair n (f n)))))
    by_cases false = refl

-- each row stands once at most, and only rows do
pub boxes-once : (m : ℕ) (f : ℕ → ℕ) (n b : ℕ) → occurs b (boxes_of (pairs_of m f n)) ≤ bit (ltb b n)
boxes-once m f n b =
    rw (pairs-count (λ (p : Pair). p.box) m f n b, ← count-is b n)
    (count_mono (λ i. ltb (f i) m && eqb b i) (λ i. eqb b i) n (λ (i : ℕ) (l : i < n) q. and_right (ltb (f i) m) (eqb b i) q))

-- no column is that of two rows
abbrev pub Apart : ℕ → (ℕ → ℕ) → ℕ → Type 0
Apart m f n = (k : ℕ) → k < m → count_where (λ i. eqb k (f i)) n ≤ 1

-- then each column stands once at most, and only columns do
pub tracks-once : (m : ℕ) (f : ℕ → ℕ) (n k : ℕ) → Apart m f n → occurs k (tracks_of (pairs_of m f n)) ≤ bit (ltb k m)
tracks-once m f n k a = rw (pairs-count (λ (p : Pair). p.track) m f n k) (by_cases (ltb k m) refl)
  where
    beyond : (i : ℕ) → f i < m → k ≡ f i → m ≤ k → ⊥
    beyond i a b c = omega arith

    by_cases : (v : Bool) → ltb k m ≡ v → count_where (λ i. ltb (f i) m && eqb k (f i)) n ≤ bit v
    by_cases true e = le_trans (count_mono (λ i. ltb (f i) m && eqb k (f i)) (λ i. eqb k (f i)) n (λ (i : ℕ) (l : i < n) q. and_right (ltb (f i) m) (eqb k (f i)) q)) (a k (ltb-true k m e))
    by_cases false e =
        le_trans
        (count_mono (λ i. ltb (f i) m && eqb k (f i)) (λ i. eqb n i) n (λ (i : ℕ) (l : i < n) q.
        absurd (beyond i (ltb-true (f i) m (and_left (ltb (f i) m) (eqb k (f i)) q)) (eqb-true k (f i) (and_right (ltb (f i) m) (eqb k (f i)) q)) (ltb-false k m e))))
        (rw (count-is n n, le-ltb n n (le_refl n)) zero-le)
