-- Examples that the definitions compute: lines as real files have them that are turned away, the first of a text but for the last three.
use Rattle.std.specs.Prelude.{◌≡◌, refl, List, [], ◌∷◌, map, ℕ, Ok}
use Rattle.std.specs.Float.Ieee.{of_bits, round, lt, neg}
use Rattle.mot_number.specs.Index.{index_of, index_after}
use Rattle.laws.specs.Scan.{scan}
use Rattle.laws.specs.Every.{every}
use Rattle.box_verdict.specs.Box.{beyond}
use Rattle.mot_number.specs.Number.{one_to_six, is_unsigned, with_digits}
use Rattle.mot_fields.specs.Fields.{fields, of_forms, is_line}
use Rattle.mot_line.specs.Line.{line_of}
use Rattle.mot_fault.specs.declared.kinds.Fault.TheVariants.{NoLineFeed, EmptyLine, CarriageReturn, FieldCount, Empty, OtherByte, MinusAlone, NoDigits, ManyDigits, NoDecimals, ManyDecimals, NotMinusOne, FilledId}
use Rattle.mot_fault.specs.declared.kinds.Fault.TheVariants.{FrameZero, FrameBack, FirstFrameFar, FrameFar, NotAboveZero, Beyond, BelowZero, AboveOne}
use Rattle.mot_fault.specs.Form.{digits_fault, unsigned_fault, number_fault, minus_one_fault, id_fault, field_fault}
use Rattle.mot_fault.specs.Value.{frame_value, place_value, side_value, score_value, reported, value_fault}
use Rattle.mot_fault.specs.Line.{first_fault, field_report, report_of}

-- `,20,32,64,0.75,-1,-1,-1` and the line feed: what stands behind left in most of them
abbrev tail : List ℕ
tail = 44 ∷ 50 ∷ 48 ∷ 44 ∷ 51 ∷ 50 ∷ 44 ∷ 54 ∷ 52 ∷ 44 ∷ 48 ∷ 46 ∷ 55 ∷ 53 ∷ 44 ∷ 45 ∷ 49 ∷ 44 ∷ 45 ∷ 49 ∷ 44 ∷ 45 ∷ 49 ∷ 10 ∷ []

-- of the line: nothing wrong; no line feed; nothing but it; a carriage return; seven fields; 13
known-lines : map (λ (l : List ℕ). report_of l 0) (
    (49 ∷ 44 ∷ 45 ∷ 49 ∷ 44 ∷ 49 ∷ 48 ∷ tail)
    ∷ (49 ∷ 44 ∷ 45 ∷ 49 ∷ 44 ∷ 49 ∷ 48 ∷ 44 ∷ 50 ∷ 48 ∷ 44 ∷ 51 ∷ 50 ∷ 44 ∷ 54 ∷ 52 ∷ 44 ∷ 48 ∷ 46 ∷ 55 ∷ 53 ∷ 44 ∷ 45 ∷ 49 ∷ 44 ∷ 45 ∷ 49 ∷ 44 ∷ 45 ∷ 49 ∷ [])
    ∷ (10 ∷ [])
    ∷ (49 ∷ 44 ∷ 45 ∷ 49 ∷ 44 ∷ 49 ∷ 48 ∷ 44 ∷ 50 ∷ 48 ∷ 44 ∷ 51 ∷ 50 ∷ 44 ∷ 54 ∷ 52 ∷ 44 ∷ 48 ∷ 46 ∷ 55 ∷ 53 ∷ 44 ∷ 45 ∷ 49 ∷ 44 ∷ 45 ∷ 49 ∷ 44 ∷ 45 ∷ 49 ∷ 13 ∷ 10 ∷ [])
    ∷ (49 ∷ 44 ∷ 45 ∷ 49 ∷ 44 ∷ 49 ∷ 48 ∷ 44 ∷ 50 ∷ 48 ∷ 44 ∷ 51 ∷ 50 ∷ 44 ∷ 54 ∷ 52 ∷ 44 ∷ 48 ∷ 46 ∷ 55 ∷ 53 ∷ 10 ∷ [])
    ∷ (49 ∷ 44 ∷ 45 ∷ 49 ∷ 44 ∷ 49 ∷ 48 ∷ 44 ∷ 50 ∷ 48 ∷ 44 ∷ 51 ∷ 50 ∷ 44 ∷ 54 ∷ 52 ∷ 44 ∷ 48 ∷ 46 ∷ 55 ∷ 53 ∷ 44 ∷ 45 ∷ 49 ∷ 44 ∷ 45 ∷ 49 ∷ 44 ∷ 45 ∷ 49 ∷ 44 ∷ 45 ∷ 49 ∷ 44 ∷ 45 ∷ 49 ∷ 44 ∷ 45 ∷ 49 ∷ 10 ∷ []) ∷ [])
    ≡ Ok tt ∷ reported NoLineFeed 0 0 ∷ reported EmptyLine 0 0 ∷ reported CarriageReturn 0 0 ∷ reported FieldCount 7 0 ∷ reported FieldCount 11 0 ∷ []
unfolding report_of field_report first_fault field_fault digits_fault unsigned_fault number_fault minus_one_fault id_fault scan value_fault frame_value place_value side_value score_value line_of is_line of_forms fields is_unsigned one_to_six every index_of index_after with_digits beyond of_bits round lt neg
known-lines = refl

-- of a field: `1.0` as frame; `7` and `-2` as id; left `10.1234567`, `-1234567`, `-` and `-.5`; top `2e1`, nothing and `20.`; confidence `.75`
known_forms : map (λ (l : List ℕ). report_of l 0) (
    (49 ∷ 46 ∷ 48 ∷ 44 ∷ 45 ∷ 49 ∷ 44 ∷ 49 ∷ 48 ∷ tail)
    ∷ (49 ∷ 44 ∷ 55 ∷ 44 ∷ 49 ∷ 48 ∷ tail)
    ∷ (49 ∷ 44 ∷ 45 ∷ 50 ∷ 44 ∷ 49 ∷ 48 ∷ tail)
    ∷ (49 ∷ 44 ∷ 45 ∷ 49 ∷ 44 ∷ 49 ∷ 48 ∷ 46 ∷ 49 ∷ 50 ∷ 51 ∷ 52 ∷ 53 ∷ 54 ∷ 55 ∷ tail)
    ∷ (49 ∷ 44 ∷ 45 ∷ 49 ∷ 44 ∷ 45 ∷ 49 ∷ 50 ∷ 51 ∷ 52 ∷ 53 ∷ 54 ∷ 55 ∷ tail)
    ∷ (49 ∷ 44 ∷ 45 ∷ 49 ∷ 44 ∷ 45 ∷ tail)
    ∷ (49 ∷ 44 ∷ 45 ∷ 49 ∷ 44 ∷ 45 ∷ 46 ∷ 53 ∷ tail)
    ∷ (49 ∷ 44 ∷ 45 ∷ 49 ∷ 44 ∷ 49 ∷ 48 ∷ 44 ∷ 50 ∷ 101 ∷ 49 ∷ 44 ∷ 51 ∷ 50 ∷ 44 ∷ 54 ∷ 52 ∷ 44 ∷ 48 ∷ 46 ∷ 55 ∷ 53 ∷ 44 ∷ 45 ∷ 49 ∷ 44 ∷ 45 ∷ 49 ∷ 44 ∷ 45 ∷ 49 ∷ 10 ∷ [])
    ∷ (49 ∷ 44 ∷ 45 ∷ 49 ∷ 44 ∷ 49 ∷ 48 ∷ 44 ∷ 44 ∷ 51 ∷ 50 ∷ 44 ∷ 54 ∷ 52 ∷ 44 ∷ 48 ∷ 46 ∷ 55 ∷ 53 ∷ 44 ∷ 45 ∷ 49 ∷ 44 ∷ 45 ∷ 49 ∷ 44 ∷ 45 ∷ 49 ∷ 10 ∷ [])
    ∷ (49 ∷ 44 ∷ 45 ∷ 49 ∷ 44 ∷ 49 ∷ 48 ∷ 44 ∷ 50 ∷ 48 ∷ 46 ∷ 44 ∷ 51 ∷ 50 ∷ 44 ∷ 54 ∷ 52 ∷ 44 ∷ 48 ∷ 46 ∷ 55 ∷ 53 ∷ 44 ∷ 45 ∷ 49 ∷ 44 ∷ 45 ∷ 49 ∷ 44 ∷ 45 ∷ 49 ∷ 10 ∷ [])
    ∷ (49 ∷ 44 ∷ 45 ∷ 49 ∷ 44 ∷ 49 ∷ 48 ∷ 44 ∷ 50 ∷ 48 ∷ 44 ∷ 51 ∷ 50 ∷ 44 ∷ 54 ∷ 52 ∷ 44 ∷ 46 ∷ 55 ∷ 53 ∷ 44 ∷ 45 ∷ 49 ∷ 44 ∷ 45 ∷ 49 ∷ 44 ∷ 45 ∷ 49 ∷ 10 ∷ []) ∷ [])
    ≡ reported OtherByte 1 2 ∷ reported FilledId 2 0 ∷ reported NotMinusOne 2 0 ∷ reported ManyDecimals 3 10 ∷ reported ManyDigits 3 8 ∷ reported MinusAlone 3 0 ∷ reported NoDigits 3 0 ∷ reported OtherByte 4 2 ∷ reported Empty 4 0 ∷ reported NoDecimals 4 0 ∷ reported NoDigits 7 0 ∷ []
unfolding report_of field_report first_fault field_fault digits_fault unsigned_fault number_fault minus_one_fault id_fault scan value_fault frame_value place_value side_value score_value line_of is_line of_forms fields is_unsigned one_to_six every index_of index_after with_digits beyond of_bits round lt neg
known_forms = refl

-- of a value, in the first line: frames 0 and 1001; left `-65537`; height 0; confidence 1.5 and -0.5
known_values : map (λ (l : List ℕ). report_of l 0) (
    (48 ∷ 44 ∷ 45 ∷ 49 ∷ 44 ∷ 49 ∷ 48 ∷ tail)
    ∷ (49 ∷ 48 ∷ 48 ∷ 49 ∷ 44 ∷ 45 ∷ 49 ∷ 44 ∷ 49 ∷ 48 ∷ tail)
    ∷ (49 ∷ 44 ∷ 45 ∷ 49 ∷ 44 ∷ 45 ∷ 54 ∷ 53 ∷ 53 ∷ 51 ∷ 55 ∷ tail)
    ∷ (49 ∷ 44 ∷ 45 ∷ 49 ∷ 44 ∷ 49 ∷ 48 ∷ 44 ∷ 50 ∷ 48 ∷ 44 ∷ 51 ∷ 50 ∷ 44 ∷ 48 ∷ 44 ∷ 48 ∷ 46 ∷ 55 ∷ 53 ∷ 44 ∷ 45 ∷ 49 ∷ 44 ∷ 45 ∷ 49 ∷ 44 ∷ 45 ∷ 49 ∷ 10 ∷ [])
    ∷ (49 ∷ 44 ∷ 45 ∷ 49 ∷ 44 ∷ 49 ∷ 48 ∷ 44 ∷ 50 ∷ 48 ∷ 44 ∷ 51 ∷ 50 ∷ 44 ∷ 54 ∷ 52 ∷ 44 ∷ 49 ∷ 46 ∷ 53 ∷ 44 ∷ 45 ∷ 49 ∷ 44 ∷ 45 ∷ 49 ∷ 44 ∷ 45 ∷ 49 ∷ 10 ∷ [])
    ∷ (49 ∷ 44 ∷ 45 ∷ 49 ∷ 44 ∷ 49 ∷ 48 ∷ 44 ∷ 50 ∷ 48 ∷ 44 ∷ 51 ∷ 50 ∷ 44 ∷ 54 ∷ 52 ∷ 44 ∷ 45 ∷ 48 ∷ 46 ∷ 53 ∷ 44 ∷ 45 ∷ 49 ∷ 44 ∷ 45 ∷ 49 ∷ 44 ∷ 45 ∷ 49 ∷ 10 ∷ []) ∷ [])
    ≡ reported FrameZero 1 0 ∷ reported FirstFrameFar 1 0 ∷ reported Beyond 3 0 ∷ reported NotAboveZero 6 0 ∷ reported AboveOne 7 0 ∷ reported BelowZero 7 0 ∷ []
unfolding report_of field_report first_fault field_fault digits_fault unsigned_fault number_fault minus_one_fault id_fault scan value_fault frame_value place_value side_value score_value line_of is_line of_forms fields is_unsigned one_to_six every index_of index_after with_digits beyond of_bits round lt neg
known_values = refl

-- behind frame 7: frames 6, 7 and 1008
known-frames : map (λ (l : List ℕ). report_of l 7) (
    (54 ∷ 44 ∷ 45 ∷ 49 ∷ 44 ∷ 49 ∷ 48 ∷ tail)
    ∷ (55 ∷ 44 ∷ 45 ∷ 49 ∷ 44 ∷ 49 ∷ 48 ∷ tail)
    ∷ (49 ∷ 48 ∷ 48 ∷ 56 ∷ 44 ∷ 45 ∷ 49 ∷ 44 ∷ 49 ∷ 48 ∷ tail) ∷ [])
    ≡ reported FrameBack 1 0 ∷ Ok tt ∷ reported FrameFar 1 0 ∷ []
unfolding report_of field_report first_fault field_fault digits_fault unsigned_fault number_fault minus_one_fault id_fault scan value_fault frame_value place_value side_value score_value line_of is_line of_forms fields is_unsigned one_to_six every index_of index_after with_digits beyond of_bits round lt neg
known-frames = refl
