-- Document 01, "Known examples", the starred cases on the filter and the confidence. A row is the bit pattern of what a definition gives, and the document's.
use Rattle.std.specs.Prelude.{◌≡◌, ℕ, List, [], ◌∷◌, map, refl, Float}
use Rattle.std.specs.Float.Ieee.{of_bits, to_bits, add, mul, div}
use Rattle.floats.specs.Power.{powi}
use Rattle.floats.specs.Known.{f32, bits}
use Rattle.strack_filter.specs.declared.kalman_filter.Pair.{Pair}
use Rattle.strack.specs.declared.strack.KalmanBoxTracker.{KalmanBoxTracker}
use Rattle.strack_filter.specs.KalmanFilter.{start_pair, predict_pair}
use Rattle.strack.specs.Strack.{confidence, get_confidence}

abbrev nine_tenths : Float
nine_tenths = f32 0x3f66_6666

-- a new pair, at 10, predicted once
abbrev once : Pair
once = predict_pair (start_pair (f32 0x4120_0000))

-- a track of age 7 that was corrected this many frames ago
abbrev seen : ℕ → KalmanBoxTracker
seen ago = record { kf = record { x = once; y = once; h = once; r = once }; id = 1; since = ago; streak = 0; age = 7 }

abbrev pub rows : List (ℕ × ℕ)
rows =
    -- A 10011, B and C 10000, D 10000.009765625
    (bits once.a, 0x461c_6c00)
    ∷ (bits once.b, 0x461c_4000)
    ∷ (bits once.c, 0x461c_4000)
    ∷ (bits once.d, 0x461c_400a)
    -- 0.9 to -1, and to 0
    ∷ (bits (get_confidence (seen 0) nine_tenths), 0x3f8e_38e4)
    ∷ (bits (get_confidence (seen 1) nine_tenths), 0x3f80_0000)
    ∷ []

pub known : map (λ (row : ℕ × ℕ). row.0) rows ≡ map (λ (row : ℕ × ℕ). row.1) rows
unfolding confidence powi of_bits to_bits add mul div
known = refl
