-- `bedside_corrected` of include/bedside.h: an answer of a pair's correction as the scope document's number and the pair that it hands back. And boxes as four floats.
use Rattle.std.specs.Prelude.{List, [], ◌∷◌, get_or, Float, ℕ}
use Rattle.std.specs.Float.{nan}
use Rattle.strack_filter.specs.declared.kalman_filter.Pair.{Pair}
use Rattle.strack_filter.specs.declared.kalman_filter.DetectBox.{DetectBox}
use Rattle.strack.specs.declared.rect.Xyxy.{Xyxy}
use Rattle.bedside_answers.specs.declared.filter.Corrected.{Corrected}

abbrev pub in_c : ℕ × Pair → Corrected
in_c a = record { refusal = a.0; pair = a.1 }

-- x1, y1, x2, y2
abbrev pub corners : List Float → Xyxy
corners l = record { x1 = get_or l 0 nan; y1 = get_or l 1 nan; x2 = get_or l 2 nan; y2 = get_or l 3 nan }

abbrev pub corner_list : Xyxy → List Float
corner_list b = b.x1 ∷ b.y1 ∷ b.x2 ∷ b.y2 ∷ []

-- x, y, h, r
abbrev pub measurement : List Float → DetectBox
measurement l = record { x = get_or l 0 nan; y = get_or l 1 nan; h = get_or l 2 nan; r = get_or l 3 nan }

abbrev pub measurement_list : DetectBox → List Float
measurement_list z = z.x ∷ z.y ∷ z.h ∷ z.r ∷ []
