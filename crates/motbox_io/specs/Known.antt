-- Examples that the definitions compute.
use Rattle.std.specs.Prelude.{◌≡◌, refl, List, [], ◌∷◌, ◌++◌, ℕ}
use Rattle.std.specs.Float.Ieee.{of_bits, to_bits, round, lt, neg}
use Rattle.mot_number.specs.Index.{index_of, index_after}
use Rattle.laws.specs.Every.{every}
use Rattle.box_verdict.specs.Box.{beyond, bad_box}
use Rattle.records.specs.Field.{little_endian}
use Rattle.mot_number.specs.Number.{one_to_six, is_unsigned, with_digits}
use Rattle.mot_fields.specs.Fields.{fields, of_forms, is_line}
use Rattle.mot_line.specs.Call.{bad_frame, first_of, mot_line}
use Rattle.motbox_io.specs.Text.{lines_of, converting, converted, motbox}

-- of nothing; `a` and `b` with a line feed behind both, and behind the first alone; an empty line before `a`
known-lines : (lines_of [] ≡ []) × (lines_of (97 ∷ 10 ∷ 98 ∷ 10 ∷ []) ≡ (97 ∷ 10 ∷ []) ∷ (98 ∷ 10 ∷ []) ∷ []) × (lines_of (97 ∷ 10 ∷ 98 ∷ []) ≡ (97 ∷ 10 ∷ []) ∷ (98 ∷ []) ∷ [])
    × (lines_of (10 ∷ 97 ∷ []) ≡ (10 ∷ []) ∷ (97 ∷ []) ∷ [])
unfolding lines_of
known-lines = (refl, refl, refl, refl)

-- `,-1,10,20,32,64,0.75,-1,-1,-1`, document 01's box, behind its frame number
abbrev box : List ℕ
box =
    44 ∷ 45 ∷ 49 ∷ 44 ∷ 49 ∷ 48 ∷ 44 ∷ 50 ∷ 48 ∷ 44 ∷ 51 ∷ 50 ∷ 44 ∷ 54 ∷ 52 ∷ 44 ∷ 48 ∷ 46 ∷ 55 ∷ 53 ∷ 44 ∷ 45 ∷ 49 ∷ 44 ∷ 45 ∷ 49 ∷ 44 ∷ 45 ∷ 49 ∷ []

abbrev values : List ℕ
values = 0 ∷ 0 ∷ 32 ∷ 65 ∷ 0 ∷ 0 ∷ 160 ∷ 65 ∷ 0 ∷ 0 ∷ 0 ∷ 66 ∷ 0 ∷ 0 ∷ 128 ∷ 66 ∷ 0 ∷ 0 ∷ 64 ∷ 63 ∷ 1 ∷ []

-- frame 1 and frame 2; behind frame 2 frame 1 is turned away with 52, and what follows it is not looked at; a last line without its line feed is turned away with 51
known_texts : (motbox ((49 ∷ box) ++ (10 ∷ (50 ∷ box) ++ (10 ∷ []))) ≡ converting ((1 ∷ 0 ∷ 0 ∷ 0 ∷ values) ++ (2 ∷ 0 ∷ 0 ∷ 0 ∷ values)) 0 2)
    × (motbox ((50 ∷ box) ++ (10 ∷ (49 ∷ box) ++ (10 ∷ (50 ∷ box) ++ (10 ∷ [])))) ≡ converting (2 ∷ 0 ∷ 0 ∷ 0 ∷ values) 52 2)
    × (motbox ((49 ∷ box) ++ (10 ∷ 50 ∷ box)) ≡ converting (1 ∷ 0 ∷ 0 ∷ 0 ∷ values) 51 2) × (motbox [] ≡ converting [] 0 0)
unfolding lines_of converted mot_line first_of bad_frame bad_box beyond every is_line of_forms fields is_unsigned one_to_six index_of index_after with_digits little_endian of_bits to_bits round lt neg
known_texts = (refl, refl, refl, refl)
