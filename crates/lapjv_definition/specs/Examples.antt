-- Known results of the definition, by computation.
use Rattle.std.specs.Prelude.{◌≡◌, refl, false, [], ◌∷◌, Float, negsuc}
use Rattle.std.specs.Float.{fin}
use Rattle.std.specs.Float.Ieee.{lt, le, sub, of_int, of_bits, of_fields, add, neg, sum, round, units, odd, climb, size, span}
use Rattle.std.specs.Int.Count.{count_trailing_zeros}
use Rattle.laws.specs.Tab.{tab}
use Rattle.lapjv_definition.specs.Ca.{ca_from}
use Rattle.lapjv_definition.specs.Carr.{two_from, carr_two, carr_turn, carr_from}
use Rattle.lapjv_definition.specs.Ccrt.{row_from, rows_from, cols_from, min_from, reduce_from}
use Rattle.lapjv_definition.specs.Entry.{owner_of, is_free, row_of}
use Rattle.lapjv_definition.specs.Lapjv.{assignment, rounds_from, lapjv}
use Rattle.lapjv_definition.specs.Path.{search_step, search_from, find_path_dense}

-- 0.5
abbrev pub half : Float
half = fin false 1 (negsuc 0)

-- costs all 0.5, two by two: row 0 with column 1 and row 1 with column 0, in 1 turn and 0 scans
pub all-half : lapjv 2 (half ∷ half ∷ half ∷ half ∷ []) ≡ assignment 0 (1 ∷ 0 ∷ []) (1 ∷ 0 ∷ []) 1 0
unfolding tab owner_of is_free row_of lapjv rounds_from carr_two carr_turn carr_from two_from row_from rows_from cols_from min_from reduce_from search_step search_from find_path_dense ca_from lt le sub of_int of_bits of_fields add neg sum round units odd climb size span count_trailing_zeros
all-half = refl
