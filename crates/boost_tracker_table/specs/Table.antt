-- The lent table, document 01, "Records and limits": 24 floats and four counters (id, time since update, streak, age) a place, and 02's N2: a label, a byte, "beside the old fields".
-- Its meaning is a list of tracks and a list of their labels. An operation on the table says which tracks it leaves in the front (Laying); Emptied also says that every place beyond is zero.
use Rattle.std.specs.Prelude.{◌≡◌, Bool, not, List, [], ◌∷◌, ◌++◌, map, ℕ, ◌+◌, ◌-◌, ◌*◌, ◌/◌, ◌≤◌, min, leb, length, get_or, set, take, drop, replicate, Float}
use Rattle.std.specs.Float.{nan}
use Rattle.laws.specs.Tab.{tab, indices}
use Rattle.laws.specs.Laid.{rows, laid}
use Rattle.laws.specs.Over.{over}
use Rattle.laws.specs.Sieve.{sieve}
use Rattle.laws.specs.Elem.{elem}
use Rattle.labels.specs.Label.{label_at}
use Rattle.strack.specs.declared.rect.Xyxy.{Xyxy}
use Rattle.strack_filter.specs.declared.kalman_filter.Pair.{Pair}
use Rattle.strack.specs.declared.strack.KalmanBoxTracker.{KalmanBoxTracker}
use Rattle.floats.specs.Single.{plus_zero}
use Rattle.strack.specs.Strack.{update}

abbrev pub Track : Type 0
Track = KalmanBoxTracker

-- ---- a place

abbrev pub place_floats : ℕ
place_floats = 24

abbrev pub place_counters : ℕ
place_counters = 4

-- p, v, A, B, C, D
abbrev pub pair_at : List Float → ℕ → Pair
pair_at f at = record {
  p = get_or f at nan;
  v = get_or f (at + 1) nan;
  a = get_or f (at + 2) nan;
  b = get_or f (at + 3) nan;
  c = get_or f (at + 4) nan;
  d = get_or f (at + 5) nan;
}

abbrev pub pair_floats : Pair → List Float
pair_floats s = s.p ∷ s.v ∷ s.a ∷ s.b ∷ s.c ∷ s.d ∷ []

-- x, y, h, r
abbrev pub floats_of : Track → List Float
floats_of t = pair_floats t.kf.x ++ (pair_floats t.kf.y ++ (pair_floats t.kf.h ++ pair_floats t.kf.r))

abbrev pub counters_of : Track → List ℕ
counters_of t = t.id ∷ t.since ∷ t.streak ∷ t.age ∷ []

-- the track in the floats and the counters of a place
abbrev pub track_of : List Float → List ℕ → Track
track_of f c = record {
  kf = record { x = pair_at f 0; y = pair_at f 6; h = pair_at f 12; r = pair_at f 18 };
  id = get_or c 0 0;
  since = get_or c 1 0;
  streak = get_or c 2 0;
  age = get_or c 3 0;
}

-- the track at place i
unfoldable pub track_at : List Float → List ℕ → ℕ → Track
track_at f c i = track_of (take place_floats (drop (i * place_floats) f)) (take place_counters (drop (i * place_counters) c))

-- what a place of zeros holds
abbrev pub blank_pair : Pair
blank_pair = record { p = plus_zero; v = plus_zero; a = plus_zero; b = plus_zero; c = plus_zero; d = plus_zero }

abbrev pub blank : Track
blank = record { kf = record { x = blank_pair; y = blank_pair; h = blank_pair; r = blank_pair }; id = 0; since = 0; streak = 0; age = 0 }

-- ---- the table

-- whole places of the floats and the counters, at most 255: the lengths of the slices are given
abbrev pub capacity : ℕ → ℕ → ℕ
capacity floats counters = min (min (floats / place_floats) (counters / place_counters)) 255

-- "It holds as many tracks as its slices allow, at most 255": the labels are one of its slices
abbrev pub places_in : ℕ → ℕ → ℕ → ℕ
places_in floats counters labels = min (capacity floats counters) labels

-- a count above the capacity, as no sound table has it, stands for the capacity
abbrev pub placed : ℕ → ℕ → ℕ → ℕ
placed floats counters held = min held (capacity floats counters)

-- n places lie within slices of these lengths
pub record Room (floats counters n : ℕ) : Type 0 where
  pub few : n ≤ 255
  pub in-floats : n * place_floats ≤ floats
  pub in-counters : n * place_counters ≤ counters

-- the tracks that a table with this count holds
unfoldable pub tracks : List Float → List ℕ → ℕ → List Track
tracks f c held = tab (track_at f c) (placed (length f) (length c) held)

abbrev pub ids_of : List Track → List ℕ
ids_of ts = map (λ (t : Track). t.id) ts

-- the tracks xs lie in the front of f and c, and the rest is as in f₀ and c₀
pub record Laying (f₀ : List Float) (c₀ : List ℕ) (f : List Float) (c : List ℕ) (xs : List Track) : Type 0 where
  pub floats : f ≡ laid floats_of place_floats xs f₀
  pub counters : c ≡ laid counters_of place_counters xs c₀

-- ---- what the operations leave

-- track i corrected by a box; one that cannot be corrected stays
abbrev pub corrected : List Track → ℕ → Xyxy → List Track
corrected ts i bbox = set ts i (update (get_or ts i blank) bbox).1

-- one more track, as far as the capacity goes
abbrev pub pushed : ℕ → List Track → Track → List Track
pushed places ts t = take places (ts ++ (t ∷ []))

-- retain(|t| t.time_since_update() <= max_age)
abbrev pub young : ℕ → Track → Bool
young oldest t = leb t.since oldest

abbrev pub retained : ℕ → List Track → List Track
retained oldest ts = sieve (young oldest) ts

-- document 02, N11: the list does not name the track
abbrev pub unlisted : List ℕ → Track → Bool
unlisted ids t = not (elem t.id ids)

-- of the held tracks those that have p lie in the front, in their order
pub record KeptWhere (p : Track → Bool) (f₀ : List Float) (c₀ : List ℕ) (held : ℕ) (f : List Float) (c : List ℕ) (left : ℕ) : Type 0 where
  pub count : left ≡ length (sieve p (tracks f₀ c₀ held))
  pub laying : Laying f₀ c₀ f c (sieve p (tracks f₀ c₀ held))

abbrev pub Retired : List Float → List ℕ → ℕ → ℕ → List Float → List ℕ → ℕ → Type 0
Retired f₀ c₀ held oldest f c left = KeptWhere (young oldest) f₀ c₀ held f c left

-- the records of ts, zero up to `places` records of s cells, and l behind them
unfoldable pub filled_up : {A : Type 0} → (Track → List A) → ℕ → A → List Track → ℕ → List A → List A
filled_up enc s nought ts places l = rows enc ts ++ (replicate (places * s - length ts * s) nought ++ drop (places * s) l)

-- the table holds ts, every place beyond is zero, and cells past its places are as in f₀ and c₀
pub record Emptied (f₀ : List Float) (c₀ : List ℕ) (places : ℕ) (ts : List Track) (f : List Float) (c : List ℕ) : Type 0 where
  pub floats : f ≡ filled_up floats_of place_floats plus_zero ts places f₀
  pub counters : c ≡ filled_up counters_of place_counters 0 ts places c₀

-- ---- the labels

-- those of the tracks that have p
unfoldable pub labels_where : (Track → Bool) → List Track → List ℕ → List ℕ
labels_where p ts labels = map (label_at labels) (sieve (λ i. p (get_or ts i blank)) (indices (length ts)))

-- these, zero up to `places` labels, and l behind them
unfoldable pub zero_filled : List ℕ → ℕ → List ℕ → List ℕ
zero_filled labels places l = labels ++ (replicate (places - length labels) 0 ++ drop places l)

-- the labels of those held tracks that have p, over the front of l
abbrev pub labels_kept : (Track → Bool) → List Float → List ℕ → ℕ → List ℕ → List ℕ
labels_kept p f c held l = over (labels_where p (tracks f c (min held (length l))) l) l

abbrev pub labels_retired : List Float → List ℕ → ℕ → ℕ → List ℕ → List ℕ
labels_retired f c held oldest l = labels_kept (young oldest) f c held l

-- every label beyond the held tracks is zero, as far as there are labels
abbrev pub labels_emptied : ℕ → ℕ → List ℕ → List ℕ
labels_emptied held places l = let end : ℕ = min places (length l) in zero_filled (take (min held end) l) end l
