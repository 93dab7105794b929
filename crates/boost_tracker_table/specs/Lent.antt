-- The lent table as one value, as contracts speak of it, and what a call answers and leaves.
use Rattle.std.specs.Prelude.{List, ℕ, length, take, Float}
use Rattle.laws.specs.Laid.{laid}
use Rattle.laws.specs.Over.{over}
use Rattle.floats.specs.Single.{plus_zero}
use Rattle.boost_tracker_table.specs.Table.{place_floats, place_counters, Track, floats_of, counters_of, places_in, tracks, filled_up, zero_filled}

-- ---- the table

pub record Table : Type 0 where
  pub floats : List Float
  pub counters : List ℕ
  -- a byte a place
  pub labels : List ℕ

abbrev pub table_with : List Float → List ℕ → List ℕ → Table
table_with floats counters labels = record { floats = floats; counters = counters; labels = labels }

-- how many tracks it holds at most
abbrev pub places_of : Table → ℕ
places_of t = places_in (length t.floats) (length t.counters) (length t.labels)

-- the tracks that it holds with this count, and their labels
abbrev pub tracks_in : Table → ℕ → List Track
tracks_in t held = tracks t.floats t.counters held

abbrev pub labels_in : Table → ℕ → List ℕ
labels_in t held = take held t.labels

-- these tracks with these labels over its front
abbrev pub laid_over : List Track → List ℕ → Table → Table
laid_over ts labels t = table_with (laid floats_of place_floats ts t.floats) (laid counters_of place_counters ts t.counters) (over labels t.labels)

-- these tracks with these labels, zero in every place beyond them, and cells past the places as they were
abbrev pub holding : List Track → List ℕ → Table → Table
holding ts labels t =
    let places : ℕ = places_of t in
    table_with (filled_up floats_of place_floats plus_zero ts places t.floats) (filled_up counters_of place_counters 0 ts places t.counters) (zero_filled labels places t.labels)

-- ---- a call

-- what it answers, and what it leaves of what it was lent
pub record Call (Answer Lent : Type 0) : Type 0 where
  pub answer : Answer
  pub lent : Lent

abbrev pub call_with : {A L : Type 0} → A → L → Call A L
call_with answer lent = record { answer = answer; lent = lent }
