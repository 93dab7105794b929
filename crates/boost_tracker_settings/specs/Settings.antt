-- The settings of a tracker: boost_tracker.rs, `new`, lines 73-101, and the `with_` options, lines 108-180; ECC's are left out. In the Rust `..self` keeps every other field.
-- The last field is not the Rust's: cap_confidence, under which an emitted confidence above 1 is written as 1. Only the records that are written know it.
use Rattle.std.specs.Prelude.{◌≡◌, refl, Bool, true, false, ℕ, Float}
use Rattle.std.specs.Float.{binary32}
use Rattle.std.specs.Float.Ieee.{of_bits, round}
use Rattle.boost_tracker_settings.specs.declared.settings.Settings.{Settings}

-- 0.5, 0.25 and 0.65, by their bits as the code has them
abbrev half : Float
half = of_bits binary32 0x3f00_0000

abbrev quarter : Float
quarter = of_bits binary32 0x3e80_0000

abbrev sixty_five_hundredths : Float
sixty_five_hundredths = of_bits binary32 0x3f26_6666

-- and what they are: the f32 nearest to each
pub constants : (half ≡ round binary32 false 1 2) × (quarter ≡ round binary32 false 1 4) × (sixty_five_hundredths ≡ round binary32 false 65 100)
unfolding of_bits round
constants = (refl, refl, refl)

abbrev pub new : Float → Float → ℕ → ℕ → Settings
new det_thresh iou_threshold max_age min_hits = record {
  det_thresh = det_thresh;
  iou_threshold = iou_threshold;
  lambda_iou = half;
  lambda_mhd = quarter;
  lambda_shape = quarter;
  dlo_boost_coef = sixty_five_hundredths;
  max_age = max_age;
  min_hits = min_hits;
  use_dlo_boost = true;
  use_duo_boost = true;
  use_rich_similarity = false;
  use_shape_similarity_correction = true;
  use_soft_boost = false;
  use_varying_threshold = false;
  cap_confidence = false;
}

abbrev pub with_lambdas : Settings → Float → Float → Float → Settings
with_lambdas s lambda_iou lambda_mhd lambda_shape = record {
  det_thresh = s.det_thresh;
  iou_threshold = s.iou_threshold;
  lambda_iou = lambda_iou;
  lambda_mhd = lambda_mhd;
  lambda_shape = lambda_shape;
  dlo_boost_coef = s.dlo_boost_coef;
  max_age = s.max_age;
  min_hits = s.min_hits;
  use_dlo_boost = s.use_dlo_boost;
  use_duo_boost = s.use_duo_boost;
  use_rich_similarity = s.use_rich_similarity;
  use_shape_similarity_correction = s.use_shape_similarity_correction;
  use_soft_boost = s.use_soft_boost;
  use_varying_threshold = s.use_varying_threshold;
  cap_confidence = s.cap_confidence;
}

-- s with these switches: dlo boost, duo boost, rich similarity, shape similarity correction, soft boost, varying threshold
abbrev switched : Settings → Bool → Bool → Bool → Bool → Bool → Bool → Settings
switched s dlo duo rich correction soft varying = record {
  det_thresh = s.det_thresh;
  iou_threshold = s.iou_threshold;
  lambda_iou = s.lambda_iou;
  lambda_mhd = s.lambda_mhd;
  lambda_shape = s.lambda_shape;
  dlo_boost_coef = s.dlo_boost_coef;
  max_age = s.max_age;
  min_hits = s.min_hits;
  use_dlo_boost = dlo;
  use_duo_boost = duo;
  use_rich_similarity = rich;
  use_shape_similarity_correction = correction;
  use_soft_boost = soft;
  use_varying_threshold = varying;
  cap_confidence = s.cap_confidence;
}

abbrev pub with_boost : Settings → Bool → Bool → Settings
with_boost s use_dlo_boost use_duo_boost = switched s use_dlo_boost use_duo_boost s.use_rich_similarity s.use_shape_similarity_correction s.use_soft_boost s.use_varying_threshold

abbrev pub with_boost_plus : Settings → Settings
with_boost_plus s = switched s s.use_dlo_boost s.use_duo_boost true s.use_shape_similarity_correction s.use_soft_boost s.use_varying_threshold

abbrev pub with_boost_plus_plus : Settings → Settings
with_boost_plus_plus s = switched s s.use_dlo_boost s.use_duo_boost true s.use_shape_similarity_correction true true

abbrev pub with_shape_similarity_v1 : Settings → Settings
with_shape_similarity_v1 s = switched s s.use_dlo_boost s.use_duo_boost s.use_rich_similarity false s.use_soft_boost s.use_varying_threshold

abbrev pub with_cap_confidence : Settings → Bool → Settings
with_cap_confidence s cap_confidence = record {
  det_thresh = s.det_thresh;
  iou_threshold = s.iou_threshold;
  lambda_iou = s.lambda_iou;
  lambda_mhd = s.lambda_mhd;
  lambda_shape = s.lambda_shape;
  dlo_boost_coef = s.dlo_boost_coef;
  max_age = s.max_age;
  min_hits = s.min_hits;
  use_dlo_boost = s.use_dlo_boost;
  use_duo_boost = s.use_duo_boost;
  use_rich_similarity = s.use_rich_similarity;
  use_shape_similarity_correction = s.use_shape_similarity_correction;
  use_soft_boost = s.use_soft_boost;
  use_varying_threshold = s.use_varying_threshold;
  cap_confidence = cap_confidence;
}
