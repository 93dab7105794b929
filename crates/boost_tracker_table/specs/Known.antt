-- Examples that the definitions compute: capacities and labels.
use Rattle.std.specs.Prelude.{◌≡◌, refl, [], ◌∷◌, ℕ}
use Rattle.laws.specs.Tab.{tab}
use Rattle.laws.specs.Sieve.{sieve}
use Rattle.boost_tracker_table.specs.Table.{Track, blank, capacity, places_in, young, labels_where, zero_filled, labels_emptied}

-- ---- capacities: whole places of the slices, at most 255
pub capacities : (capacity 48 8 ≡ 2) × (capacity 47 8 ≡ 1) × (capacity 48 7 ≡ 1) × (capacity 7200 1024 ≡ 255) × (capacity 0 8 ≡ 0)
capacities = (refl, refl, refl, refl, refl)

pub places : (places_in 48 8 2 ≡ 2) × (places_in 48 8 1 ≡ 1) × (places_in 48 8 0 ≡ 0) × (places_in 48 8 9 ≡ 2) × (places_in 7200 1024 300 ≡ 255)
places = (refl, refl, refl, refl, refl)

-- ---- labels: those of the tracks that stay, and zeros behind them up to the places

abbrev lost : ℕ → Track
lost since = record { kf = blank.kf; id = 1; since = since; streak = 0; age = 9 }

pub retired-labels : labels_where (young 30) (lost 0 ∷ lost 31 ∷ lost 30 ∷ []) (2 ∷ 3 ∷ 1 ∷ 7 ∷ []) ≡ 2 ∷ 1 ∷ []
unfolding labels_where sieve tab
retired-labels = refl

pub emptied-labels : (labels_emptied 1 3 (2 ∷ 3 ∷ 1 ∷ 7 ∷ []) ≡ 2 ∷ 0 ∷ 0 ∷ 7 ∷ []) × (labels_emptied 3 3 (2 ∷ 3 ∷ 1 ∷ 7 ∷ []) ≡ 2 ∷ 3 ∷ 1 ∷ 7 ∷ [])
unfolding zero_filled
emptied-labels = (refl, refl)
