-- What a caller of the operations on the table needs: where the tracks of a list are read and stored, how operations follow each other, and how many tracks there are. Assumes nothing.
use mathlib.Core.Path.{◌≡◌, refl, sym, ap, ◌∙◌}
use mathlib.Core.Bool.{Bool}
use mathlib.Core.List.{List, [], ◌∷◌, ◌++◌}
use Prim.Native.Nat.{ℕ, zero, suc, ◌+◌, ◌-◌, ◌*◌, ◌≤◌, ◌<◌, min}
use native.Mathlib.Nat.{le_trans, min-eq_left, mul-le-mul_right}
use native.Mathlib.Omega.{arith}
use lib.ListN.{length, length-append, length-drop, get_or, set, take, drop, replicate, length-replicate, drop_of_length-le, get_or-eq_default}
use lib.Seq.{drop_at, drop-cons, length-take-le, take_all}
use lib.Ieee.{Float, nan}
use Rattle.laws.specs.Tab.{tab, length-tab, tab-at, tab_of}
use Rattle.laws.specs.Sieve.{sieve, sieve-few}
use Rattle.laws.specs.Splice.{splice}
use Rattle.laws.specs.Laid.{rows, length-rows, laid, laid_none, laid_more, laid-rest, laid-at, length-laid}
use Rattle.laws.specs.Over.{over}
use Rattle.laws.specs.Records.{laid-here, laid-set, laid-laid}
use Rattle.floats.specs.Single as single
use Rattle.boost_tracker_table.specs.Table.{place_floats, place_counters, Room, Track, track_of, track_at, floats_of, counters_of, blank, capacity, places_in, placed, tracks, pushed, Laying, KeptWhere, filled_up, Emptied, zero_filled}
use Rattle.boost_tracker_table.specs.Lent.{table_with, laid_over, holding}

-- ---- how many

pub placed-room : (floats counters held : ℕ) → Room floats counters (placed floats counters held)
placed-room floats counters held = record { few = omega arith; in-floats = omega arith; in-counters = omega arith }

pub capacity-room : (floats counters : ℕ) → Room floats counters (capacity floats counters)
capacity-room floats counters = record { few = omega arith; in-floats = omega arith; in-counters = omega arith }

-- as many as the capacity allows
pub low-room : {floats counters n : ℕ} → n ≤ capacity floats counters → Room floats counters n
low-room h = record { few = omega arith; in-floats = omega arith; in-counters = omega arith }

pub tracks-placed : (f : List Float) (c : List ℕ) (held : ℕ) → length (tracks f c held) ≡ placed (length f) (length c) held
unfolding tracks
tracks-placed f c held = length-tab (track_at f c) (placed (length f) (length c) held)

-- each held track has its place, where the count is at most the capacity
pub tracks-many : (f : List Float) (c : List ℕ) (held : ℕ) → held ≤ capacity (length f) (length c) → length (tracks f c held) ≡ held
tracks-many f c held h = tracks-placed f c held ∙ min-eq_left h

pub tracks-at : (f : List Float) (c : List ℕ) (held i : ℕ) (d : Track) → i < placed (length f) (length c) held → get_or (tracks f c held) i d ≡ track_at f c i
unfolding tracks
tracks-at f c held i d h = tab-at (track_at f c) (placed (length f) (length c) held) i d h

-- the track that was read at place i is track i
pub track-read : (f : List Float) (c : List ℕ) (held : ℕ) {n i : ℕ} {t : Track} → n ≡ placed (length f) (length c) held → i < n → t ≡ track_at f c i → t ≡ get_or (tracks f c held) i blank
track-read f c held {n} {i} e h q = q ∙ sym (tracks-at f c held i blank (rw e at h))

pub tracks_past : (f : List Float) (c : List ℕ) (held i : ℕ) (d : Track) → placed (length f) (length c) held ≤ i → get_or (tracks f c held) i d ≡ d
tracks_past f c held i d h = get_or-eq_default (tracks f c held) d {n = i} (rw (tracks-placed f c held) h)

-- ---- a place

-- a stored track is read back
read_back : (t : Track) → track_of (floats_of t) (counters_of t) ≡ t
read_back t = refl

-- r elements from k on
from : {A : Type 0} → List A → A → ℕ → ℕ → List A
from l d k zero = []
from l d k (suc r) = get_or l k d ∷ from l d (suc k) r

from_is : {A : Type 0} (l : List A) (d : A) (k r : ℕ) → k + r ≡ length l → from l d k r ≡ drop k l
unfolding from
from_is l d k zero e = sym (drop_of_length-le l {i = k} (omega arith))
from_is l d k (suc r) e = ap (λ (m : List _). get_or l k d ∷ m) (from_is l d (suc k) r (omega arith)) ∙ sym (drop-cons l k d (omega arith))

-- and what is read is what was stored
floats-back : (l : List Float) (c : List ℕ) → length l ≡ place_floats → floats_of (track_of l c) ≡ l
unfolding from
floats-back l c e = from_is l nan 0 place_floats (sym e)

counters-back : (l : List Float) (c : List ℕ) → length c ≡ place_counters → counters_of (track_of l c) ≡ c
unfolding from
counters-back l c e = from_is c 0 0 place_counters (sym e)

-- record i of s elements
part_size : {A : Type 0} (l : List A) (s i : ℕ) → i * s + s ≤ length l → length (take s (drop (i * s) l)) ≡ s
part_size l s i h = length-take-le s (drop (i * s) l) (rw length-drop (omega arith))

-- a track is in the floats and the counters of its place
pub same_place : (f f₀ : List Float) (c c₀ : List ℕ) (i : ℕ) → drop (i * place_floats) f ≡ drop (i * place_floats) f₀ → drop (i * place_counters) c ≡ drop (i * place_counters) c₀ → track_at f c i ≡ track_at f₀ c₀ i
unfolding track_at
same_place f f₀ c c₀ i df dc =
    ap (λ (l : List Float). track_of (take place_floats l) (take place_counters (drop (i * place_counters) c))) df ∙ ap (λ (l : List ℕ). track_of (take place_floats (drop (i * place_floats) f₀)) (take place_counters l)) dc

-- ---- operations one after the other

-- a table holds its tracks
pub lay_here : (f : List Float) (c : List ℕ) (held : ℕ) → Laying f c f c (tracks f c held)
unfolding tracks track_at
lay_here f c held =
    let room = placed-room (length f) (length c) held in
    let in_f : placed (length f) (length c) held * place_floats ≤ length f = room.in-floats in
    let in_c : placed (length f) (length c) held * place_counters ≤ length c = room.in-counters in
    record {
      floats = laid-here floats_of place_floats (track_at f c) f _ (λ i h. floats-back (take place_floats (drop (i * place_floats) f)) (take place_counters (drop (i * place_counters) c)) (part_size f place_floats i (omega (arith, h, in_f))));
      counters = laid-here counters_of place_counters (track_at f c) c _ (λ i h. counters-back (take place_floats (drop (i * place_floats) f)) (take place_counters (drop (i * place_counters) c)) (part_size c place_counters i (omega (arith, h, in_c))));
    }

pub lay_none : (f : List Float) (c : List ℕ) → Laying f c f c []
lay_none f c = record { floats = laid_none floats_of place_floats f; counters = laid_none counters_of place_counters c }

module _ {f₀ : List Float} {c₀ : List ℕ} {f : List Float} {c : List ℕ} {xs : List Track} (w : Laying f₀ c₀ f c xs) where
  pub lay_lengths : Room (length f₀) (length c₀) (length xs) → (length f ≡ length f₀) × (length c ≡ length c₀)
  lay_lengths r = (
    ap length w.floats ∙ length-laid floats_of place_floats (λ _. refl) xs f₀ r.in-floats,
    ap length w.counters ∙ length-laid counters_of place_counters (λ _. refl) xs c₀ r.in-counters,
  )

  -- a track of the list is in its place
  pub lay_read : (i : ℕ) (d : Track) → i < length xs → track_at f c i ≡ get_or xs i d
  unfolding track_at
  lay_read i d h = rw (w.floats, w.counters, laid-at floats_of place_floats (λ _. refl) xs f₀ i d h, laid-at counters_of place_counters (λ _. refl) xs c₀ i d h) (read_back (get_or xs i d))

  -- a place behind the list is as it was
  pub lay_behind : (i : ℕ) → length xs ≤ i → track_at f c i ≡ track_at f₀ c₀ i
  lay_behind i h =
      same_place f f₀ c c₀ i
      (ap (drop (i * place_floats)) w.floats ∙ laid-rest floats_of place_floats (λ _. refl) xs f₀ i h)
      (ap (drop (i * place_counters)) w.counters ∙ laid-rest counters_of place_counters (λ _. refl) xs c₀ i h)

  -- one more is stored
  pub lay_on : (t : Track) → Laying f₀ c₀ (splice f (length xs * place_floats) (floats_of t)) (splice c (length xs * place_counters) (counters_of t)) (xs ++ (t ∷ []))
  lay_on t = record {
    floats = ap (λ (l : List Float). splice l (length xs * place_floats) (floats_of t)) w.floats ∙ laid_more floats_of place_floats (λ _. refl) xs f₀ t;
    counters = ap (λ (l : List ℕ). splice l (length xs * place_counters) (counters_of t)) w.counters ∙ laid_more counters_of place_counters (λ _. refl) xs c₀ t;
  }

  -- one is stored over
  pub lay_set : (i : ℕ) (t : Track) → i < length xs → Laying f₀ c₀ (splice f (i * place_floats) (floats_of t)) (splice c (i * place_counters) (counters_of t)) (set xs i t)
  lay_set i t h = record {
    floats = ap (λ (l : List Float). splice l (i * place_floats) (floats_of t)) w.floats ∙ laid-set floats_of place_floats (λ _. refl) xs f₀ i t h;
    counters = ap (λ (l : List ℕ). splice l (i * place_counters) (counters_of t)) w.counters ∙ laid-set counters_of place_counters (λ _. refl) xs c₀ i t h;
  }

  pub lay_capacity : length xs ≤ capacity (length f₀) (length c₀) → capacity (length f) (length c) ≡ capacity (length f₀) (length c₀)
  lay_capacity h = let same = lay_lengths (low-room h) in rw (same.0, same.1)

  -- the list is what the table holds
  pub lay_tracks : {held : ℕ} → length xs ≡ held → held ≤ capacity (length f₀) (length c₀) → tracks f c held ≡ xs
  unfolding tracks
  lay_tracks {held} e h =
      let n : placed (length f) (length c) held ≡ held = min-eq_left (rw (lay_capacity (rw e h)) h) in
      ap (tab (track_at f c)) n ∙ sym (tab_of (track_at f c) xs held blank e (λ i q. sym (lay_read i blank (rw e q))))

  -- an operation after an operation, where the second leaves no fewer tracks
  pub lay_lay : {f₂ : List Float} {c₂ : List ℕ} {ys : List Track} → Laying f c f₂ c₂ ys → length xs ≤ length ys → Laying f₀ c₀ f₂ c₂ ys
  lay_lay {f₂} {c₂} {ys} v h = record {
    floats = v.floats ∙ ap (laid floats_of place_floats ys) w.floats ∙ laid-laid floats_of place_floats (λ _. refl) xs ys f₀ h;
    counters = v.counters ∙ ap (laid counters_of place_counters ys) w.counters ∙ laid-laid counters_of place_counters (λ _. refl) xs ys c₀ h;
  }

  -- an operation on the tracks that the first one left
  pub lay_next : {f₂ : List Float} {c₂ : List ℕ} {held : ℕ} (g : List Track → List Track) → length xs ≡ held → held ≤ capacity (length f₀) (length c₀)
      → Laying f c f₂ c₂ (g (tracks f c held)) → length xs ≤ length (g xs) → Laying f₀ c₀ f₂ c₂ (g xs)
  lay_next g e h v l = lay_lay (rw (lay_tracks e h) at v) l

  -- the zeroing after an operation: only cells past the places are as they were before both
  pub lay_emptied : {f₂ : List Float} {c₂ : List ℕ} {places : ℕ} {ys : List Track} → length xs ≤ places → Emptied f c places ys f₂ c₂ → Emptied f₀ c₀ places ys f₂ c₂
  unfolding filled_up
  lay_emptied {f₂} {c₂} {places} {ys} h v =
      let df : drop (places * place_floats) f ≡ drop (places * place_floats) f₀ = ap (drop (places * place_floats)) w.floats ∙ laid-rest floats_of place_floats (λ _. refl) xs f₀ places h in
      let dc : drop (places * place_counters) c ≡ drop (places * place_counters) c₀ = ap (drop (places * place_counters)) w.counters ∙ laid-rest counters_of place_counters (λ _. refl) xs c₀ places h in
      record { floats = rw df at v.floats; counters = rw dc at v.counters }

-- keeping some and zeroing after an operation, as a frame ends
pub lay_finished : {f₀ f f₂ f₃ : List Float} {c₀ c c₂ c₃ : List ℕ} {xs : List Track} {p : Track → Bool} {held places n : ℕ} → Laying f₀ c₀ f c xs → length xs ≡ held → held ≤ places → places ≤ capacity (length f₀) (length c₀)
    → KeptWhere p f c held f₂ c₂ n → Emptied f₂ c₂ (placed (length f₂) (length c₂) places) (tracks f₂ c₂ (min n places)) f₃ c₃
    → (n ≡ length (sieve p xs)) × Emptied f₀ c₀ places (sieve p xs) f₃ c₃
lay_finished {f₀} {f} {f₂} {f₃} {c₀} {c} {c₂} {c₃} {xs} {p} {held} {places} {n} w e h room r v =
    let ys : List Track = sieve p xs in
    let fits : length xs ≤ places = rw e h in
    let fewer : length ys ≤ places = le_trans (sieve-few p xs) fits in
    let holds : tracks f c held ≡ xs = lay_tracks w e (le_trans h room) in
    let count : n ≡ length ys = rw holds at r.count in
    let left : Laying f c f₂ c₂ ys = rw holds at r.laying in
    let same : capacity (length f) (length c) ≡ capacity (length f₀) (length c₀) = lay_capacity w (le_trans fits room) in
    let low : places ≤ capacity (length f) (length c) = rw same room in
    let same₂ : capacity (length f₂) (length c₂) ≡ capacity (length f) (length c) = lay_capacity left (le_trans fewer low) in
    let end : placed (length f₂) (length c₂) places ≡ places = min-eq_left (rw same₂ low) in
    let all : min n places ≡ n = min-eq_left (rw count fewer) in
    let stay : tracks f₂ c₂ n ≡ ys = lay_tracks left (sym count) (rw count (le_trans fewer low)) in
    (count, lay_emptied w fits (lay_emptied left fewer (rw (end, all, stay) at v)))

-- one more, where there is a place
pub pushed_room : (places : ℕ) (ts : List Track) (t : Track) → length ts < places → pushed places ts t ≡ ts ++ (t ∷ [])
pushed_room places ts t h = take_all places (ts ++ (t ∷ [])) (simp length-append (omega arith))

-- ---- what the next frame finds

module _ {A : Type 0} (enc : Track → List A) (s : ℕ) (size : (t : Track) → length (enc t) ≡ s) (nought : A) (ts : List Track) (places : ℕ) (l f : List A) (e : f ≡ filled_up enc s nought ts places l) where
  filled-holds : f ≡ laid enc s ts f
  unfolding filled_up laid
  filled-holds =
      let rest : List A = replicate (places * s - length ts * s) nought ++ drop (places * s) l in
      let behind : drop (length ts * s) f ≡ rest = ap (drop (length ts * s)) e ∙ drop_at (rows enc ts) rest (length ts * s) (length-rows enc s size ts) in
      e ∙ ap (λ (r : List A). rows enc ts ++ r) (sym behind)

  filled-length : length ts ≤ places → places * s ≤ length l → length f ≡ length l
  unfolding filled_up
  filled-length h r =
      let low : length ts * s ≤ places * s = mul-le-mul_right s h in
      ap length e ∙ simp (length-append, length-rows enc s size ts, length-replicate, length-drop) (omega arith)

module _ {f₀ : List Float} {c₀ : List ℕ} {places : ℕ} {ts : List Track} {f : List Float} {c : List ℕ} (v : Emptied f₀ c₀ places ts f c) (h : length ts ≤ places) (low : places ≤ capacity (length f₀) (length c₀)) where
  pub emptied_lengths : (length f ≡ length f₀) × (length c ≡ length c₀)
  emptied_lengths =
      let room = low-room low in (
        filled-length floats_of place_floats (λ _. refl) single.plus_zero ts places f₀ f v.floats h room.in-floats,
        filled-length counters_of place_counters (λ _. refl) 0 ts places c₀ c v.counters h room.in-counters,
      )

  -- the tracks that a frame left are those that the next one holds
  pub emptied-tracks : tracks f c (length ts) ≡ ts
  emptied-tracks =
      let here : Laying f c f c ts = record {
        floats = filled-holds floats_of place_floats (λ _. refl) single.plus_zero ts places f₀ f v.floats;
        counters = filled-holds counters_of place_counters (λ _. refl) 0 ts places c₀ c v.counters;
      } in
      lay_tracks here refl (rw (emptied_lengths.0, emptied_lengths.1) (le_trans h low))

-- ---- what the operations leave, as one value of the table

pub laid_table : {f f' : List Float} {c c' l' : List ℕ} (l labels : List ℕ) {ts : List Track} → Laying f c f' c' ts → l' ≡ over labels l → table_with f' c' l' ≡ laid_over ts labels (table_with f c l)
laid_table l labels w e = rw (w.floats, w.counters, e)

pub held-table : {f f' : List Float} {c c' l' : List ℕ} (l labels : List ℕ) {ts : List Track} → Emptied f c (places_in (length f) (length c) (length l)) ts f' c'
    → l' ≡ zero_filled labels (places_in (length f) (length c) (length l)) l → table_with f' c' l' ≡ holding ts labels (table_with f c l)
held-table l labels w e = rw (w.floats, w.counters, e)
