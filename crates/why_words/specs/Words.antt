-- What is printed of a box: its fate, the track that it was paired with, and its scores, in words and numbers.
use Rattle.std.specs.Prelude.{◌≡◌, ℕ, ◌+◌, ◌/◌, ◌%◌, ◌^◌, Bool, true, false, cond, List, [] as none, ◌∷◌ as ◌then◌, ◌++◌, take, pos, negsuc, ◌==◌, refl, Float, Option, Some, None}
use Prim.Native.Char.{code}
use Prim.Native.String.{String, [], ◌∷◌}
use Rattle.std.specs.Float.{binary64}
use Rattle.std.specs.Float.Ieee.{add, mul, neg, lt, of_bits, of_int, round, to_unsigned}
use Rattle.floats.specs.Single.{plus_zero}
use Rattle.records_line.specs.Text.{decimal}
use Rattle.assoc_boxes.specs.Overlap.{ratio}
use Rattle.boost_tracker_fate.specs.declared.kinds.Fate.{Fate}
use Rattle.boost_tracker_fate.specs.declared.kinds.Fate.TheVariants.{Matched, Started, UnderThreshold, Rejected}
use Rattle.boost_tracker_fate.specs.declared.kinds.Partner.{Partner}
use Rattle.boost_tracker_fate.specs.declared.kinds.Explanation.{Explanation}
use Rattle.why_words.specs.declared.value.Value.{Value}
use Rattle.why_words.specs.declared.value.Value.TheVariants as value

-- the bytes of a text in ASCII
unfoldable pub ascii : String → List ℕ
ascii [] = none
ascii (c ∷ s) = code c then ascii s

-- ---- a number: to the nearest thousandth, a half up, without zeros at the end

-- the constants by their bits, as the code has them, and what they are
abbrev pub thousand : Float
thousand = of_bits binary64 0x408f_4000_0000_0000

abbrev pub half : Float
half = of_bits binary64 0x3fe0_0000_0000_0000

abbrev pub minus_one : Float
minus_one = neg (of_bits binary64 0x3ff0_0000_0000_0000)

abbrev pub limit : Float
limit = of_bits binary64 0x43f0_0000_0000_0000

pub constants : (thousand ≡ of_int binary64 (pos 1000)) × (half ≡ round binary64 false 1 2) × (minus_one ≡ of_int binary64 (negsuc 0)) × (limit ≡ of_int binary64 (pos (2 ^ 64)))
unfolding of_bits of_int round neg
constants = (refl, refl, refl, refl)

-- x × 1000 + 1/2 in f64, each operation rounded once: of an f32 the product is exact
abbrev pub scaled : Float → Float
scaled x = add binary64 (mul binary64 x thousand) half

-- its whole part, where a u64 has it
unfoldable pub whole : Float → Option ℕ
whole w = cond (lt minus_one w) (cond (lt w limit) (Some (to_unsigned 64 w)) None) None

abbrev pub above : Option ℕ → Value
above (Some n) = value.Above n
above None = value.Beyond

abbrev pub below : Option ℕ → Value
below (Some n) = value.Below n
below None = value.Beyond

unfoldable pub value_of : Float → Value
value_of x = cond (lt x plus_zero) (below (whole (scaled (neg x)))) (above (whole (scaled x)))

-- the point and at most three digits
abbrev pub fraction_bytes : ℕ → ℕ
fraction_bytes f = cond (f == 0) 0 (cond (f % 100 == 0) 2 (cond (f % 10 == 0) 3 4))

unfoldable pub fraction : ℕ → List ℕ
fraction f = take (fraction_bytes f) (46 then ((48 + f / 100) then ((48 + f / 10 % 10) then ((48 + f % 10) then none))))

unfoldable pub fixed : ℕ → List ℕ
fixed n = decimal (n / 1000) ++ fraction (n % 1000)

abbrev pub minus : List ℕ
minus = 45 then none

abbrev pub value_text : Value → List ℕ
value_text (value.Above n) = fixed n
value_text (value.Below n) = minus ++ fixed n
value_text value.Beyond = ascii "out of range"

unfoldable pub number : Float → List ℕ
number x = value_text (value_of x)

-- a word and a number
abbrev pub counted : String → ℕ → List ℕ
counted w n = ascii w ++ decimal n

abbrev pub measured : String → Float → List ℕ
measured w x = ascii w ++ number x

-- ---- the line of a box

unfoldable pub head : ℕ → ℕ → List ℕ
head frame index = counted "frame " frame ++ (counted " box " index ++ ascii ": ")

abbrev pub label_text : Bool → List ℕ
label_text true = none
label_text false = ascii ", label differs"

-- the share of the areas, also under unequal labels, where the IoU is 0
unfoldable pub overlap_text : Partner → List ℕ
overlap_text p = measured ": overlap " (ratio p.intersection p.union) ++ (measured " of " p.intersection ++ (measured " over " p.union ++ label_text p.alike))

unfoldable pub matched_text : ℕ → Partner → List ℕ
matched_text id p = counted "matched to id " id ++ overlap_text p

unfoldable pub started_text : ℕ → List ℕ
started_text id = counted "started as id " id ++ ascii ", in no pair"

unfoldable pub rejected_text : ℕ → Partner → List ℕ
rejected_text id p = counted "started as id " id ++ (counted ", rejected as a pair with id " p.id ++ overlap_text p)

abbrev pub fate_text : Fate → Partner → List ℕ
fate_text (Matched id) p = matched_text id p
fate_text (Started id) p = started_text id
fate_text UnderThreshold p = ascii "under the score threshold"
fate_text (Rejected id) p = rejected_text id p

unfoldable pub scores_text : Float → Float → Float → List ℕ
scores_text given dlo duo = measured "; score " given ++ (measured ", " dlo ++ (measured " after the DLO boost, " duo ++ ascii " after the DUO boost\n"))

unfoldable pub explanation_line : ℕ → ℕ → Explanation → List ℕ
explanation_line frame index e = head frame index ++ (fate_text e.fate e.partner ++ scores_text e.score e.score_dlo e.score_duo)

-- ---- 81: a frame of so many boxes

unfoldable pub no_box_line : ℕ → ℕ → ℕ → List ℕ
no_box_line frame index boxes = counted "refused 81 frame " frame ++ (counted " box " index ++ (counted ": no such box; boxes in the frame: " boxes ++ ascii "\n"))

-- no line is longer
abbrev pub line_most : ℕ
line_most = 400
