-- The confidence of a track that is put out, by its age. Assumes nothing.
use mathlib.Core.Path.{◌≡◌, refl, ap, ◌∙◌}
use mathlib.Core.Bool.{true}
use Prim.Native.Nat.{ℕ, zero, suc, ◌≤◌, min}
use native.Mathlib.Nat.{min-eq_right}
use native.Mathlib.Omega.{arith}
use lib.ListN.{get_or}
use lib.Ieee.{nan, of_bits, mul, div}
use borrow.Author.Tests.{ltb-true, le-ltb}
use Rattle.laws.specs.Tests.{and_left}
use Rattle.floats.specs.Power.{powi}
use Rattle.strack.specs.Strack.{confidence}
use Rattle.boost_tracker_table.specs.Table.{Track}
use Rattle.boost_tracker_emission.specs.Record.{nine_tenths, record_of}
use Rattle.boost_tracker_emission.specs.Emission.{emits, emitted_confidences}

from_seven : (age : ℕ) → 7 ≤ age → confidence age 0 nine_tenths ≡ get_or emitted_confidences (min age 7) nan
unfolding confidence powi of_bits mul div
from_seven age h = rw (le-ltb age 7 h, min-eq_right h)

by_age : (age : ℕ) → confidence age 0 nine_tenths ≡ get_or emitted_confidences (min age 7) nan
unfolding confidence powi of_bits mul div
by_age zero = refl
by_age (suc zero) = refl
by_age (suc (suc zero)) = refl
by_age (suc (suc (suc zero))) = refl
by_age (suc (suc (suc (suc zero)))) = refl
by_age (suc (suc (suc (suc (suc zero))))) = refl
by_age (suc (suc (suc (suc (suc (suc zero)))))) = refl
by_age (suc (suc (suc (suc (suc (suc (suc k))))))) = from_seven (suc (suc (suc (suc (suc (suc (suc k))))))) (omega arith)

pub emitted-confidence : (frame hits : ℕ) (t : Track) (label : ℕ) → emits frame hits t ≡ true → (record_of frame t label).confidence ≡ get_or emitted_confidences (min t.age 7) nan
unfolding record_of
emitted-confidence frame hits t label e =
    let low = ltb-true t.since 1 (and_left _ _ e) in
    let none : t.since ≡ 0 = omega (arith, low) in
    ap (λ (since : ℕ). confidence t.age since nine_tenths) none ∙ by_age t.age
