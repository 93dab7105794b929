-- The definition computes: the bit patterns of reciprocals, and the ones worked out by hand from the Rust's text: 1e10 at 1e-10 and below.
use Rattle.std.specs.Prelude.{◌≡◌, refl, [], ◌∷◌, map}
use Rattle.std.specs.Float.Ieee.{of_bits, to_bits, of_int, div, lt}
use Rattle.floats.specs.Known.{f32, bits}
use Rattle.boost_tracker_boosts.specs.Examples.{whole}
use Rattle.boost_tracker_mh_dist.specs.MhDist.{reciprocal}

pub known : map bits (map reciprocal (whole 0 ∷ f32 0x2edb_e6ff ∷ whole 10011 ∷ [])) ≡ 0x5015_02f9 ∷ 0x5015_02f9 ∷ 0x38d1_7c1a ∷ []
unfolding reciprocal of_bits to_bits of_int div lt
known = refl
