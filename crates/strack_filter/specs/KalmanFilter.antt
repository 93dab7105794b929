-- The filter. A pair is document 01's, "The filter, pair by pair", letter by letter: a position p, a speed v and their covariances A, B, C, D, which are a, b, c, d; R is the noise of what is measured.
-- Over it `KalmanFilter` of kalman_filter.rs, lines 58-154, is the four pairs x, y, h, r.
use Rattle.std.specs.Prelude.{ℕ, Bool, cond, ◌&&◌, Float, Result, Ok, Err}
use Rattle.std.specs.Float.Ieee.Positive.{positive}
use Rattle.floats.specs.Root.{root}
use Rattle.strack_filter.specs.declared.kalman_filter.Pair.{Pair}
use Rattle.strack_filter.specs.declared.kalman_filter.DetectBox.{DetectBox}
use Rattle.strack_filter.specs.declared.kalman_filter.KalmanFilter.{KalmanFilter}
use Rattle.floats.specs.Single.{◌⊕◌, ◌⊖◌, ◌⊗◌, ◌⊘◌, plus_zero, one, ten, ten_thousand, hundredth}

-- ---- a pair

abbrev pub start_pair : Float → Pair
start_pair z = record { p = z; v = plus_zero; a = ten; b = plus_zero; c = plus_zero; d = ten_thousand }

abbrev pub predict_pair : Pair → Pair
predict_pair s = record {
  p = s.p ⊕ s.v;
  v = s.v;
  a = ((s.a ⊕ s.c) ⊕ (s.b ⊕ s.d)) ⊕ one;
  b = s.b ⊕ s.d;
  c = s.c ⊕ s.d;
  d = s.d ⊕ hundredth;
}

-- A + R is positive and finite
abbrev pub correctable : Pair → Float → Bool
correctable s R = positive (s.a ⊕ R)

-- corrected with z, l being the root of A + R; a and m are 1 - k and 0 - g
abbrev pub gained : Pair → Float → Float → Float → Pair
gained s z R l =
    let k : Float = (s.a ⊘ l) ⊘ l in
    let g : Float = (s.c ⊘ l) ⊘ l in
    let a : Float = one ⊖ k in
    let m : Float = plus_zero ⊖ g in
    record {
      p = s.p ⊕ (z ⊖ s.p) ⊗ k;
      v = s.v ⊕ (z ⊖ s.p) ⊗ g;
      a = (a ⊗ s.a) ⊗ a ⊕ (k ⊗ R) ⊗ k;
      b = ((a ⊗ s.a) ⊗ m ⊕ a ⊗ s.b) ⊕ (k ⊗ R) ⊗ g;
      c = (m ⊗ s.a ⊕ s.c) ⊗ a ⊕ (g ⊗ R) ⊗ k;
      d = ((m ⊗ s.a ⊕ s.c) ⊗ m ⊕ (m ⊗ s.b ⊕ s.d)) ⊕ (g ⊗ R) ⊗ g;
    }

unfoldable pub corrected : Pair → Float → Float → Pair
corrected s z R = gained s z R (root (s.a ⊕ R))

-- 12 where A + R is not positive and finite, and then the pair comes back unchanged
unfoldable pub correct_pair : Pair → Float → Float → ℕ × Pair
unfolding corrected
correct_pair s z R = cond (correctable s R) (0, corrected s z R) (12, s)

-- what an answer says: document 01's number, 0 where it is accepted, and the pair handed back
abbrev pub pair_answer : Result Pair Pair → ℕ × Pair
pair_answer (Ok s) = (0, s)
pair_answer (Err s) = (12, s)

-- ---- the four pairs, with noise 1, 1, 10, 0.01

abbrev pub noise_x : Float
noise_x = one

abbrev pub noise_y : Float
noise_y = one

abbrev pub noise_h : Float
noise_h = ten

abbrev pub noise_r : Float
noise_r = hundredth

abbrev pub new : DetectBox → KalmanFilter
new z = record { x = start_pair z.x; y = start_pair z.y; h = start_pair z.h; r = start_pair z.r }

abbrev pub predict : KalmanFilter → KalmanFilter
predict k = record { x = predict_pair k.x; y = predict_pair k.y; h = predict_pair k.h; r = predict_pair k.r }

-- all four are correctable
unfoldable pub updatable : KalmanFilter → Bool
updatable k = ((correctable k.x noise_x && correctable k.y noise_y) && correctable k.h noise_h) && correctable k.r noise_r

abbrev pub updated : KalmanFilter → DetectBox → KalmanFilter
updated k z = record {
  x = corrected k.x z.x noise_x;
  y = corrected k.y z.y noise_y;
  h = corrected k.h z.h noise_h;
  r = corrected k.r z.r noise_r;
}

unfoldable pub update : KalmanFilter → DetectBox → ℕ × KalmanFilter
unfolding updatable
update k z = cond (updatable k) (0, updated k z) (12, k)

abbrev pub filter_answer : Result KalmanFilter KalmanFilter → ℕ × KalmanFilter
filter_answer (Ok k) = (0, k)
filter_answer (Err k) = (12, k)
