-- What the operations on the table leave and what their loops know: the tracks passed lie in the front, and those to come are as they were. Assumes nothing.
use mathlib.Core.Path.{◌≡◌, refl, sym, ap, ◌∙◌}
use mathlib.Core.Bool.{Bool, true, false}
use mathlib.Core.List.{List, [], ◌∷◌, ◌++◌, map}
use Prim.Native.Nat.{ℕ, ◌+◌, ◌-◌, ◌*◌, ◌≤◌, ◌<◌, zero-le}
use native.Mathlib.Nat.{le_refl, min-eq_right, mul-le-mul_right}
use native.Mathlib.Numerals.{add-one}
use native.Mathlib.Omega.{arith}
use lib.ListN.{length, length-drop, length-replicate, get_or, set, take, drop, replicate}
use lib.Seq.{length-take-le, set_out, set-get_or, take_at}
use lib.Ieee.{Float}
use Rattle.laws.specs.Tab.{tab, length-tab, map-tab}
use Rattle.laws.specs.Kept.{Keeping, keep_start, keep_ahead, keep_on, keep_end}
use Rattle.laws.specs.Splice.{splice, mid_is}
use Rattle.laws.specs.Laid.{rows, length-rows, laid}
use Rattle.strack.specs.declared.rect.Xyxy.{Xyxy}
use Rattle.strack_filter.specs.KalmanFilter.{updatable}
use Rattle.strack.specs.Strack.{update}
use Rattle.strack.proofs.Laws.{update-accepted, update-refused}
use Rattle.boost_tracker_table.specs.Table.{place_floats, place_counters, Room, Track, track_at, floats_of, counters_of, blank, capacity, placed, tracks, corrected, pushed, Laying, KeptWhere, filled_up}
use borrow.Rule.Slice.PartMut.{put_mid}
use Rattle.boost_tracker_table.proofs.Laws.{tracks-placed, tracks-many, lay_here, lay_none, lay_lengths, same_place, lay_behind, lay_on, lay_set, pushed_room}

-- ---- one track

-- a refused correction hands the track back as it was
refused-same : (t : Track) (bbox : Xyxy) {u : Track} → (12, u) ≡ update t bbox → (update t bbox).1 ≡ t
refused-same t bbox {u} q = by_cases (updatable t.kf) refl
  where
    by_cases : (b : Bool) → updatable t.kf ≡ b → (update t bbox).1 ≡ t
    by_cases true e = let z : ◌≡◌ {A = ℕ} 12 0 = ap (λ (a : ℕ × Track). a.0) (q ∙ update-accepted t bbox e) in absurd (omega arith)
    by_cases false e = rw (update-refused t bbox e)

module _ (f : List Float) (c : List ℕ) (held : ℕ) where
  pub stored : (i : ℕ) (t : Track) {f' : List Float} {c' : List ℕ} → i < placed (length f) (length c) held → f' ≡ splice f (i * place_floats) (floats_of t) → c' ≡ splice c (i * place_counters) (counters_of t)
      → Laying f c f' c' (set (tracks f c held) i t)
  stored i t h ef ec = rw (ef, ec) (lay_set (lay_here f c held) i t (rw (tracks-placed f c held) h))

  pub not_stored : (i : ℕ) (t : Track) → placed (length f) (length c) held ≤ i → Laying f c f c (set (tracks f c held) i t)
  not_stored i t h = rw (set_out (tracks f c held) i t (rw (tracks-placed f c held) h)) (lay_here f c held)

  -- track i was loaded; its correction is refused
  module _ (i : ℕ) (bbox : Xyxy) {t u : Track} (e : t ≡ get_or (tracks f c held) i blank) where
    pub correction_refused : (12, u) ≡ update t bbox → Laying f c f c (corrected (tracks f c held) i bbox)
    correction_refused q =
        let same = refused-same (get_or (tracks f c held) i blank) bbox (rw e at q) in
        rw (same, set-get_or (tracks f c held) i blank) (lay_here f c held)

  pub appended : (t : Track) {f' : List Float} {c' : List ℕ} → held < capacity (length f) (length c) → f' ≡ splice f (held * place_floats) (floats_of t) → c' ≡ splice c (held * place_counters) (counters_of t)
      → Laying f c f' c' (pushed (capacity (length f) (length c)) (tracks f c held) t)
  appended t h ef ec =
      let n : length (tracks f c held) ≡ held = tracks-many f c held (omega arith) in
      rw (ef, ec, pushed_room (capacity (length f) (length c)) (tracks f c held) t (rw n h)) (rw n at (lay_on (lay_here f c held) t))

  pub not_appended : (t : Track) → capacity (length f) (length c) ≤ held → Laying f c f c (pushed (capacity (length f) (length c)) (tracks f c held) t)
  not_appended t h =
      let n : length (tracks f c held) ≡ capacity (length f) (length c) = tracks-placed f c held ∙ min-eq_right h in
      rw (take_at (tracks f c held) (t ∷ []) (capacity (length f) (length c)) n) (lay_here f c held)

-- ---- every track: those before i are replaced by h 0 .. h (i - 1)

pub record Walking (h : ℕ → Track) (f₀ : List Float) (c₀ : List ℕ) (n : ℕ) (f : List Float) (c : List ℕ) (i : ℕ) : Type 0 where
  pub room : Room (length f₀) (length c₀) n
  pub upto : i ≤ n
  pub laying : Laying f₀ c₀ f c (tab h i)
  pub same-f : length f ≡ length f₀
  pub same-c : length c ≡ length c₀

module _ (h : ℕ → Track) (f₀ : List Float) (c₀ : List ℕ) where
  pub walk_start : {n : ℕ} → Room (length f₀) (length c₀) n → Walking h f₀ c₀ n f₀ c₀ 0
  unfolding tab
  walk_start r = record { room = r; upto = zero-le; laying = lay_none f₀ c₀; same-f = refl; same-c = refl }

  module _ {n : ℕ} {f : List Float} {c : List ℕ} {i : ℕ} (w : Walking h f₀ c₀ n f c i) where
    -- the track that comes next is as it was at the start
    pub walk_next : track_at f c i ≡ track_at f₀ c₀ i
    walk_next = lay_behind w.laying i (rw (length-tab h i) (le_refl i))

    -- h i is stored
    pub walk_on : {f' : List Float} {c' : List ℕ} {t : Track} → i < n → t ≡ h i → f' ≡ splice f (i * place_floats) (floats_of t) → c' ≡ splice c (i * place_counters) (counters_of t) → Walking h f₀ c₀ n f' c' (i + 1)
    unfolding tab
    walk_on {f'} {c'} {t} b e ef ec =
        let l : Laying f₀ c₀ f' c' (tab h i ++ (t ∷ [])) = rw (ef, ec) (rw (length-tab h i) at (lay_on w.laying t)) in
        let k : Laying f₀ c₀ f' c' (tab h (i + 1)) = rw add-one (rw e at l) in
        let in_f = w.room.in-floats in
        let in_c = w.room.in-counters in
        let few = w.room.few in
        let lens = lay_lengths k (rw (length-tab h (i + 1)) (record { few = omega arith; in-floats = omega arith; in-counters = omega arith })) in
        record { room = w.room; upto = omega arith; laying = k; same-f = lens.0; same-c = lens.1 }

-- each track of the table replaced by g of it
pub walk_all : (g : Track → Track) (f₀ : List Float) (c₀ : List ℕ) (held n i : ℕ) {f : List Float} {c : List ℕ} → n ≡ placed (length f₀) (length c₀) held
    → Walking (λ k. g (track_at f₀ c₀ k)) f₀ c₀ n f c i → n ≤ i → Laying f₀ c₀ f c (map g (tracks f₀ c₀ held))
unfolding tracks
walk_all g f₀ c₀ held n i {f} {c} e w h =
    let z : i ≡ placed (length f₀) (length c₀) held = omega (arith, e, w.upto) in
    rw (map-tab g (track_at f₀ c₀) (placed (length f₀) (length c₀) held)) (rw z at w.laying)

-- ---- those that stay

-- what a loop knows that keeps the tracks with p: those before i that have it lie in the front, w of them, and the rest is as it was
pub record Sieving (p : Track → Bool) (f₀ : List Float) (c₀ : List ℕ) (n : ℕ) (f : List Float) (c : List ℕ) (w i : ℕ) : Type 0 where
  pub floats : Keeping floats_of place_floats p (track_at f₀ c₀) f₀ n i w f
  pub counters : Keeping counters_of place_counters p (track_at f₀ c₀) c₀ n i w c

module _ (p : Track → Bool) (f₀ : List Float) (c₀ : List ℕ) (n : ℕ) where
  pub sieve-start : Room (length f₀) (length c₀) n → Sieving p f₀ c₀ n f₀ c₀ 0 0
  sieve-start r = record {
    floats = keep_start floats_of place_floats p (track_at f₀ c₀) f₀ n r.in-floats;
    counters = keep_start counters_of place_counters p (track_at f₀ c₀) c₀ n r.in-counters;
  }

  module _ {f : List Float} {c : List ℕ} {w i : ℕ} (k : Sieving p f₀ c₀ n f c w i) where
    -- the track that is looked at is not stored over yet
    pub sieve-next : track_at f c i ≡ track_at f₀ c₀ i
    sieve-next =
        same_place f f₀ c c₀ i
        (keep_ahead floats_of place_floats p (track_at f₀ c₀) f₀ n (λ _. refl) k.floats)
        (keep_ahead counters_of place_counters p (track_at f₀ c₀) c₀ n (λ _. refl) k.counters)

    -- one more is looked at: t is the track, which stays
    pub sieve_kept : {f' : List Float} {c' : List ℕ} {t : Track} → i < n → t ≡ track_at f c i → true ≡ p t → f' ≡ splice f (w * place_floats) (floats_of t) → c' ≡ splice c (w * place_counters) (counters_of t)
        → Sieving p f₀ c₀ n f' c' (w + 1) (i + 1)
    sieve_kept {t = t} b e q ef ec =
        let is : t ≡ track_at f₀ c₀ i = e ∙ sieve-next in
        let test : p (track_at f₀ c₀ i) ≡ true = sym (q ∙ ap p is) in
        record {
          floats = keep_on floats_of place_floats p (track_at f₀ c₀) f₀ n (λ _. refl) k.floats b (rw test) (rw (test, ← is) ef);
          counters = keep_on counters_of place_counters p (track_at f₀ c₀) c₀ n (λ _. refl) k.counters b (rw test) (rw (test, ← is) ec);
        }

    -- or does not
    pub sieve_passed : {t : Track} → i < n → t ≡ track_at f c i → false ≡ p t → Sieving p f₀ c₀ n f c w (i + 1)
    sieve_passed {t} b e q =
        let test : p (track_at f₀ c₀ i) ≡ false = sym (q ∙ ap p (e ∙ sieve-next)) in
        record {
          floats = keep_on floats_of place_floats p (track_at f₀ c₀) f₀ n (λ _. refl) k.floats b (rw test) (rw test);
          counters = keep_on counters_of place_counters p (track_at f₀ c₀) c₀ n (λ _. refl) k.counters b (rw test) (rw test);
        }

  pub sieve-whole : (held : ℕ) {f : List Float} {c : List ℕ} {w i : ℕ} → n ≡ placed (length f₀) (length c₀) held → Sieving p f₀ c₀ n f c w i → n ≤ i → KeptWhere p f₀ c₀ held f c w
  unfolding tracks
  sieve-whole held e k h =
      let ef = keep_end floats_of place_floats p (track_at f₀ c₀) f₀ n k.floats h in
      let ec = keep_end counters_of place_counters p (track_at f₀ c₀) c₀ n k.counters h in
      record { count = rw e at ef.0; laying = record { floats = rw e at ef.1; counters = rw e at ec.1 } }

-- ---- the places beyond: cells from the one behind ts to the last place are stored over

pub zeroed : {A : Type 0} (enc : Track → List A) (s : ℕ) → ((t : Track) → length (enc t) ≡ s) → (nought : A) (ts : List Track) (l : List A) {first places : ℕ} {vs : List A} → l ≡ laid enc s ts l → length ts ≡ first → first ≤ places
    → places * s ≤ length l → vs ≡ replicate (length (take (places * s - first * s) (drop (first * s) l))) nought → put_mid (first * s) (places * s - first * s) l vs ≡ filled_up enc s nought ts places l
unfolding laid filled_up
zeroed enc s size nought ts l {first} {places} {vs} here many low room e =
    let k : ℕ = places * s - first * s in
    let fits : first * s ≤ places * s = mul-le-mul_right s low in
    let size-is : length (rows enc ts) ≡ first * s = length-rows enc s size ts ∙ rw many in
    let front : take (first * s) l ≡ rows enc ts = ap (take (first * s)) here ∙ take_at (rows enc ts) _ (first * s) size-is in
    let fill : length (take k (drop (first * s) l)) ≡ k = length-take-le k (drop (first * s) l) (rw length-drop (omega arith)) in
    let vs-is : vs ≡ replicate k nought = rw fill at e in
    let whole : length vs ≡ k = ap length vs-is ∙ length-replicate k nought in
    let end : first * s + k ≡ places * s = omega arith in
    mid_is l (first * s) k vs whole ∙ rw (whole, end, front, many, vs-is)
