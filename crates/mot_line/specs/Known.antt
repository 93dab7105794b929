-- Lines as they are written, and what a call answers and leaves, by computation: document 01's box with its record, and each refusal beside a line that just passes it.
use Rattle.std.specs.Prelude.{◌≡◌, refl, List, [], ◌∷◌, ◌++◌, map, ℕ, replicate, Ok}
use Rattle.std.specs.Float.Ieee.{of_bits, to_bits, round, lt, neg}
use Rattle.mot_number.specs.Index.{index_of, index_after}
use Rattle.laws.specs.Every.{every}
use Rattle.box_verdict.specs.Box.{beyond, bad_box}
use Rattle.records.specs.Field.{little_endian}
use Rattle.mot_number.specs.Number.{one_to_six, is_unsigned, with_digits}
use Rattle.mot_fields.specs.Fields.{fields, of_forms, is_line}
use Rattle.mot_line.specs.Call.{bad_frame, refusal_number, frame_read, first_of, outcome, mot_line}

-- ---- the parts of a line: `,-1,` behind the frame, `,20,` behind left, `,64,` behind width, `,-1,-1,-1` behind the score
abbrev line_with : List ℕ → List ℕ → List ℕ → List ℕ → List ℕ → List ℕ
line_with frame left width score end =
    frame ++ (44 ∷ 45 ∷ 49 ∷ 44 ∷ (left ++ (44 ∷ 50 ∷ 48 ∷ 44 ∷ (width ++ (44 ∷ 54 ∷ 52 ∷ 44 ∷ (score ++ (44 ∷ 45 ∷ 49 ∷ 44 ∷ 45 ∷ 49 ∷ 44 ∷ 45 ∷ 49 ∷ end)))))))

-- `1`, `10`, `32`, `0.75` and the line feed
abbrev one : List ℕ
one = 49 ∷ []

abbrev ten : List ℕ
ten = 49 ∷ 48 ∷ []

abbrev wide : List ℕ
wide = 51 ∷ 50 ∷ []

abbrev sure : List ℕ
sure = 48 ∷ 46 ∷ 55 ∷ 53 ∷ []

abbrev feed : List ℕ
feed = 10 ∷ []

-- ---- document 01's box. Two bytes more are lent than a record has
known-record : mot_line (line_with one ten wide sure feed) 0 (replicate 27 170)
    ≡ outcome (Ok 1) (1 ∷ 0 ∷ 0 ∷ 0 ∷ 0 ∷ 0 ∷ 32 ∷ 65 ∷ 0 ∷ 0 ∷ 160 ∷ 65 ∷ 0 ∷ 0 ∷ 0 ∷ 66 ∷ 0 ∷ 0 ∷ 128 ∷ 66 ∷ 0 ∷ 0 ∷ 64 ∷ 63 ∷ 1 ∷ 170 ∷ 170 ∷ [])
unfolding mot_line first_of bad_frame bad_box beyond every is_line of_forms fields is_unsigned one_to_six index_of index_after with_digits little_endian of_bits to_bits round lt neg
known-record = refl

-- ---- refusal and frame, behind this frame and with so many bytes lent
abbrev told : ℕ → ℕ → List ℕ → ℕ × ℕ
told previous room l = (refusal_number (mot_line l previous (replicate room 0)).answer, frame_read (mot_line l previous (replicate room 0)).answer)

-- 51: no line feed, two, a carriage return before it, a line feed before the end; seven digits, and six; `1.`, `+1`, ` 1`, `1e1`; a comma too many
known_51 : map (told 0 25) ((line_with one ten wide sure [])
    ∷ (line_with one ten wide sure (10 ∷ 10 ∷ []))
    ∷ (line_with one ten wide sure (13 ∷ 10 ∷ []))
    ∷ (line_with (49 ∷ 10 ∷ []) ten wide sure feed)
    ∷ (line_with one (48 ∷ 48 ∷ 48 ∷ 48 ∷ 48 ∷ 49 ∷ 48 ∷ []) wide sure feed)
    ∷ (line_with one (48 ∷ 48 ∷ 48 ∷ 48 ∷ 49 ∷ 48 ∷ []) wide sure feed)
    ∷ (line_with one (49 ∷ 46 ∷ []) wide sure feed)
    ∷ (line_with one (43 ∷ 49 ∷ []) wide sure feed)
    ∷ (line_with one (32 ∷ 49 ∷ []) wide sure feed)
    ∷ (line_with one (49 ∷ 101 ∷ 49 ∷ []) wide sure feed)
    ∷ (line_with one ten wide sure (44 ∷ 10 ∷ [])) ∷ [])
    ≡ (51, 0) ∷ (51, 0) ∷ (51, 0) ∷ (51, 0) ∷ (51, 0) ∷ (0, 1) ∷ (51, 0) ∷ (51, 0) ∷ (51, 0) ∷ (51, 0) ∷ (51, 0) ∷ []
unfolding mot_line first_of bad_frame bad_box beyond every is_line of_forms fields is_unsigned one_to_six index_of index_after with_digits little_endian of_bits to_bits round lt neg
known_51 = refl

-- 52: frame 0; behind frame 7 the frames 6, 7, 1007 and 1008
known-frames : map (told 7 25) ((line_with (48 ∷ []) ten wide sure feed)
    ∷ (line_with (54 ∷ []) ten wide sure feed)
    ∷ (line_with (55 ∷ []) ten wide sure feed)
    ∷ (line_with (49 ∷ 48 ∷ 48 ∷ 55 ∷ []) ten wide sure feed)
    ∷ (line_with (49 ∷ 48 ∷ 48 ∷ 56 ∷ []) ten wide sure feed) ∷ [])
    ≡ (52, 0) ∷ (52, 0) ∷ (0, 7) ∷ (0, 1007) ∷ (52, 0) ∷ []
unfolding mot_line first_of bad_frame bad_box beyond every is_line of_forms fields is_unsigned one_to_six index_of index_after with_digits little_endian of_bits to_bits round lt neg
known-frames = refl

-- 52: `65536.003906`, which is 65536, and `65536.003907`; widths of `0`, `-0` and `0.000001`; scores of `1`, `1.000001`, `-0` and `-0.000001`
known_values : map (told 0 25) ((line_with one (54 ∷ 53 ∷ 53 ∷ 51 ∷ 54 ∷ 46 ∷ 48 ∷ 48 ∷ 51 ∷ 57 ∷ 48 ∷ 54 ∷ []) wide sure feed)
    ∷ (line_with one (54 ∷ 53 ∷ 53 ∷ 51 ∷ 54 ∷ 46 ∷ 48 ∷ 48 ∷ 51 ∷ 57 ∷ 48 ∷ 55 ∷ []) wide sure feed)
    ∷ (line_with one ten (48 ∷ []) sure feed)
    ∷ (line_with one ten (45 ∷ 48 ∷ []) sure feed)
    ∷ (line_with one ten (48 ∷ 46 ∷ 48 ∷ 48 ∷ 48 ∷ 48 ∷ 48 ∷ 49 ∷ []) sure feed)
    ∷ (line_with one ten wide (49 ∷ []) feed)
    ∷ (line_with one ten wide (49 ∷ 46 ∷ 48 ∷ 48 ∷ 48 ∷ 48 ∷ 48 ∷ 49 ∷ []) feed)
    ∷ (line_with one ten wide (45 ∷ 48 ∷ []) feed)
    ∷ (line_with one ten wide (45 ∷ 48 ∷ 46 ∷ 48 ∷ 48 ∷ 48 ∷ 48 ∷ 48 ∷ 49 ∷ []) feed) ∷ [])
    ≡ (0, 1) ∷ (52, 0) ∷ (52, 0) ∷ (52, 0) ∷ (0, 1) ∷ (0, 1) ∷ (52, 0) ∷ (0, 1) ∷ (52, 0) ∷ []
unfolding mot_line first_of bad_frame bad_box beyond every is_line of_forms fields is_unsigned one_to_six index_of index_after with_digits little_endian of_bits to_bits round lt neg
known_values = refl

-- 53: a record has 25 bytes. 52 comes before it, and 51 before both
known_53 : map (told 0 24) ((line_with one ten wide sure feed)
    ∷ (line_with one ten wide (50 ∷ []) feed)
    ∷ (line_with one ten wide (50 ∷ []) []) ∷ [])
    ≡ (53, 0) ∷ (52, 0) ∷ (51, 0) ∷ []
unfolding mot_line first_of bad_frame bad_box beyond every is_line of_forms fields is_unsigned one_to_six index_of index_after with_digits little_endian of_bits to_bits round lt neg
known_53 = refl
