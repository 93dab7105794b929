-- Drops from a table of four places that holds tracks 1, 3 and 4 with labels 1, 2 and 3; something is in the place beyond, and in a cell past the places of each slice. Computed by the definition.
use Rattle.std.specs.Prelude.{◌≡◌, refl, List, [], ◌∷◌, ◌++◌, ℕ, replicate, Float}
use Rattle.std.specs.Float.{nan}
use Rattle.floats.specs.Known.{f32}
use Rattle.floats.specs.Single.{plus_zero}
use Rattle.laws.specs.Tab.{tab}
use Rattle.laws.specs.Laid.{rows}
use Rattle.laws.specs.Sieve.{sieve}
use Rattle.laws.specs.Scan.{scan}
use Rattle.laws.specs.Every.{every}
use Rattle.laws.specs.Elem.{elem}
use Rattle.labels.specs.Label.{is_label}
use Rattle.boost_tracker_table.specs.Table.{place_floats, tracks, track_at, filled_up, labels_where, zero_filled}
use Rattle.boost_tracker_table.specs.Lent.{Table, table_with, Call}
use Rattle.boost_tracker_verdict.specs.declared.sound.State.{State}
use Rattle.boost_tracker_verdict.specs.Sound.{rising, sound}
use Rattle.boost_tracker_forget.specs.declared.drops.Forgotten.{Forgotten}
use Rattle.boost_tracker_forget.specs.Forget.{answer, twice, first_of, verdict, forgotten}

-- the floats of a track, all of them one value
abbrev place : Float → List Float
place x = replicate place_floats x

abbrev one : List Float
one = place (f32 0x3f80_0000)

abbrev two : List Float
two = place (f32 0x4000_0000)

abbrev three : List Float
three = place (f32 0x4040_0000)

abbrev zeros : List Float
zeros = place plus_zero

abbrev state : ℕ → State
state count = record { count = count; last = 4; frames = 1 }

abbrev labelled : List ℕ → Table
labelled labels = table_with (one ++ (two ++ (three ++ (place nan ++ (nan ∷ []))))) (1 ∷ 0 ∷ 1 ∷ 1 ∷ 3 ∷ 0 ∷ 0 ∷ 0 ∷ 4 ∷ 1 ∷ 0 ∷ 1 ∷ 9 ∷ 9 ∷ 9 ∷ 9 ∷ 9 ∷ []) labels

abbrev table : Table
table = labelled (1 ∷ 2 ∷ 3 ∷ 9 ∷ 9 ∷ [])

abbrev left : List ℕ → Call Forgotten Table
left ids = forgotten (state 3) table ids

abbrev said : List ℕ → ℕ
said ids = answer (left ids).answer.verdict

-- accepted; 9 stands beyond the count, and 0 nowhere
pub numbers : (said (3 ∷ []) ≡ 0) × (said (9 ∷ []) ≡ 102) × (said (0 ∷ []) ≡ 102) × (said (2 ∷ 2 ∷ []) ≡ 101) × (said (1 ∷ 2 ∷ []) ≡ 102) × (said [] ≡ 0)
unfolding forgotten verdict first_of twice tracks track_at tab sieve rows scan every elem is_label rising sound
numbers = (refl, refl, refl, refl, refl, refl)

-- a count above the places, and a held track with label 0, also with an empty set
pub of_the_frame : (answer (forgotten (state 5) table []).answer.verdict ≡ 11) × (answer (forgotten (state 3) (labelled (1 ∷ 0 ∷ 3 ∷ 9 ∷ 9 ∷ [])) []).answer.verdict ≡ 10)
unfolding forgotten verdict first_of twice tracks track_at tab sieve rows scan every elem is_label rising sound
of_the_frame = (refl, refl)

-- tracks 1 and 4 stay in this order, and the two places beyond are zero; the cells past the places are as they were
pub two-left : ((left (3 ∷ [])).answer.state ≡ state 2)
    × ((left (3 ∷ [])).lent ≡ table_with (one ++ (three ++ (zeros ++ (zeros ++ (nan ∷ []))))) (1 ∷ 0 ∷ 1 ∷ 1 ∷ 4 ∷ 1 ∷ 0 ∷ 1 ∷ 0 ∷ 0 ∷ 0 ∷ 0 ∷ 0 ∷ 0 ∷ 0 ∷ 0 ∷ 9 ∷ []) (1 ∷ 3 ∷ 0 ∷ 0 ∷ 9 ∷ []))
unfolding forgotten verdict first_of twice tracks track_at tab sieve rows scan every elem is_label rising sound filled_up labels_where zero_filled
two-left = (refl, refl)

-- track 3 takes the first place
pub one_left : ((left (4 ∷ 1 ∷ [])).answer.state ≡ state 1)
    × ((left (4 ∷ 1 ∷ [])).lent ≡ table_with (two ++ (zeros ++ (zeros ++ (zeros ++ (nan ∷ []))))) (3 ∷ 0 ∷ 0 ∷ 0 ∷ 0 ∷ 0 ∷ 0 ∷ 0 ∷ 0 ∷ 0 ∷ 0 ∷ 0 ∷ 0 ∷ 0 ∷ 0 ∷ 0 ∷ 9 ∷ []) (2 ∷ 0 ∷ 0 ∷ 0 ∷ 9 ∷ []))
unfolding forgotten verdict first_of twice tracks track_at tab sieve rows scan every elem is_label rising sound filled_up labels_where zero_filled
one_left = (refl, refl)

pub none_left : ((left (3 ∷ 1 ∷ 4 ∷ [])).answer.state ≡ state 0)
    × ((left (3 ∷ 1 ∷ 4 ∷ [])).lent ≡ table_with (zeros ++ (zeros ++ (zeros ++ (zeros ++ (nan ∷ []))))) (replicate 16 0 ++ (9 ∷ [])) (0 ∷ 0 ∷ 0 ∷ 0 ∷ 9 ∷ []))
unfolding forgotten verdict first_of twice tracks track_at tab sieve rows scan every elem is_label rising sound filled_up labels_where zero_filled
none_left = (refl, refl)

-- an empty set leaves the place beyond as it is, and so does one that is turned away
pub all_left : ((left []).answer.state ≡ state 3) × ((left []).lent ≡ table) × ((left (3 ∷ 2 ∷ [])).lent ≡ table)
unfolding forgotten verdict first_of twice tracks track_at tab sieve rows scan every elem is_label rising sound
all_left = (refl, refl, refl)
