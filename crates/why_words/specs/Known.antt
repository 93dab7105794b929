-- Numbers and lines, computed by the definition: the line of a rejected box, as a scorer sees it, and those of the other fates.
use Rattle.std.specs.Prelude.{◌≡◌, ℕ, Bool, true, false, List, [], ◌∷◌, map, refl}
use Rattle.std.specs.Float.Ieee.{add, mul, neg, lt, div, of_bits, to_unsigned}
use Rattle.floats.specs.Known.{f32}
use Rattle.records_line.specs.Text.{glyph, digits, places_up_to, decimal}
use Rattle.assoc_boxes.specs.Overlap.{ratio}
use Rattle.boost_tracker_fate.specs.declared.kinds.Fate.{Fate}
use Rattle.boost_tracker_fate.specs.declared.kinds.Fate.TheVariants.{Matched, Started, UnderThreshold, Rejected}
use Rattle.boost_tracker_fate.specs.declared.kinds.Explanation.{Explanation}
use Rattle.why_words.specs.Words.{ascii, whole, value_of, fraction, fixed, number, head, overlap_text, matched_text, started_text, rejected_text, scores_text, explanation_line, no_box_line}

-- the f32 nearest to each: 0, 0.58, 1, 1630.5, 7764.2, 0.596, -3.25, minus zero, an infinity, a NaN
pub numbers : map number (f32 0 ∷ f32 0x3f14_7ae1 ∷ f32 0x3f80_0000 ∷ f32 0x44cb_d000 ∷ f32 0x45f2_a19a ∷ f32 0x3f18_9375 ∷ f32 0xc050_0000 ∷ f32 0x8000_0000 ∷ f32 0x7f80_0000 ∷ f32 0x7fc0_0000 ∷ [])
    ≡ map ascii ("0" ∷ "0.58" ∷ "1" ∷ "1630.5" ∷ "7764.2" ∷ "0.596" ∷ "-3.25" ∷ "0" ∷ "out of range" ∷ "out of range" ∷ [])
unfolding ascii number value_of whole fixed fraction decimal digits glyph places_up_to add mul neg lt of_bits to_unsigned
numbers = refl

-- 0.58, 0.66 and 0.66; 1630.5 over 7764.2
abbrev told : Fate → ℕ → Bool → Explanation
told fate id alike = record {
  fate = fate;
  score = f32 0x3f14_7ae1;
  score_dlo = f32 0x3f28_f5c3;
  score_duo = f32 0x3f28_f5c3;
  partner = record { id = id; alike = alike; iou = f32 0; intersection = f32 0x44cb_d000; union = f32 0x45f2_a19a };
}

abbrev line : Fate → ℕ → Bool → List ℕ
line fate id alike = explanation_line 812 2 (told fate id alike)

pub lines : line (Rejected 17) 9 false ∷ line (Matched 9) 9 true ∷ line (Started 17) 0 false ∷ line UnderThreshold 0 false ∷ no_box_line 812 2 2 ∷ []
    ≡ map ascii (
    "frame 812 box 2: started as id 17, rejected as a pair with id 9: overlap 0.21 of 1630.5 over 7764.2, label differs; score 0.58, 0.66 after the DLO boost, 0.66 after the DUO boost\n"
    ∷ "frame 812 box 2: matched to id 9: overlap 0.21 of 1630.5 over 7764.2; score 0.58, 0.66 after the DLO boost, 0.66 after the DUO boost\n"
    ∷ "frame 812 box 2: started as id 17, in no pair; score 0.58, 0.66 after the DLO boost, 0.66 after the DUO boost\n"
    ∷ "frame 812 box 2: under the score threshold; score 0.58, 0.66 after the DLO boost, 0.66 after the DUO boost\n"
    ∷ "refused 81 frame 812 box 2: no such box; boxes in the frame: 2\n"
    ∷ []
    )
unfolding ascii number value_of whole fixed fraction decimal digits glyph places_up_to add mul neg lt div of_bits to_unsigned head overlap_text matched_text started_text rejected_text scores_text explanation_line no_box_line ratio
lines = refl
