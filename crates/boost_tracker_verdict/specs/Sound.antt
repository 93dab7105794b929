-- Document 01, "Records and limits": a table is sound if count is at most its capacity, ids rise strictly from 1 or more, none exceeds last id, last id is at most 255 × frame count,
-- and every counter but id is at most frame count. The labels are one of the slices that give the capacity.
use Rattle.std.specs.Prelude.{Bool, true, ◌&&◌, List, [], ◌∷◌, ℕ, ◌*◌, leb, ltb}
use Rattle.laws.specs.Every.{every}
use Rattle.boost_tracker_verdict.specs.declared.sound.State.{State}
use Rattle.boost_tracker_table.specs.Table.{Track}
use Rattle.boost_tracker_table.specs.Lent.{Table, places_of, tracks_in}

-- the ids rise strictly, the first of them above low
unfoldable pub rising : ℕ → List Track → Bool
rising low [] = true
rising low (t ∷ ts) = ltb low t.id && rising t.id ts

abbrev pub counters_in : ℕ → Track → Bool
counters_in frames t = leb t.since frames && (leb t.streak frames && leb t.age frames)

unfoldable pub sound : ℕ → State → List Track → Bool
sound places s ts =
    leb s.count places
    && (rising 0 ts && (every (λ t. leb t.id s.last) ts && (leb s.last (255 * s.frames) && every (counters_in s.frames) ts)))

abbrev pub sound_table : State → Table → Bool
sound_table s t = sound (places_of t) s (tracks_in t s.count)
