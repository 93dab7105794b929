-- `floats::packing::rounded` meets its contract. Assumes nothing.
use Rattle.std.proofs.Common.{◌≡◌, ℕ, suc, ◌+◌, ◌-◌, ◌*◌, ◌^◌, ◌<◌, ◌≤◌, false, sym, refl, ap, ◌∙◌, le_trans, lt_of_lt_of_le, le_of_suc-le-suc, lt_of_not-le, not-le_of_lt, arith, pow_mono}
use lib.Count.{count_leading_zeros, leading_le, leading_top}
use lib.Ieee.{binary32, units, round}
use lib.Ieee.Nearest.{closest}
use Rattle.floats.proofs.Pack.{Kept}
use Rattle.floats.proofs.Rounding.{fits_shift, rounds, keeps}
use Rattle.floats.proofs.packing.rounded.Goals as goal

-- the place of the top digit of s
abbrev Top : ℕ → ℕ → Type 0
Top s j = (count_leading_zeros 64 s + suc j ≡ 64) × (2 ^ j ≤ s) × (s < 2 ^ suc j) × (30 ≤ j) × (j ≤ 33)

top : (s : ℕ) → 2 ^ 30 ≤ s → s < 2 ^ 34 → (j : ℕ) × Top s j
top s lo hi =
    let t = leading_top 64 s (omega arith) (omega arith) in (
      t.0,
      (
        t.1,
        t.2,
        t.3,
        le_of_suc-le-suc (lt_of_not-le {n = suc t.0} {m = 30} (λ g. not-le_of_lt (lt_of_lt_of_le t.3 (pow_mono g)) lo)),
        le_of_suc-le-suc (lt_of_not-le {n = 34} {m = t.0} (λ g. not-le_of_lt hi (le_trans (pow_mono g) t.2))),
      ),
    )

module _ (s p d : ℕ) (lo : 2 ^ 30 ≤ s) (hi : s < 2 ^ 34) (o : d ≡ 64 - count_leading_zeros 64 s + p - 56) where
  j : ℕ
  j = (top s lo hi).0

  t : Top s j
  unfolding j
  t = (top s lo hi).1

  K : d ≡ suc j + p - 56
  K = let z : count_leading_zeros 64 s + suc j ≡ 64 = t.0 in omega arith

  room : p ≤ 32 + d
  room = fits_shift s p j d (32 + d - p) t.1 t.2 t.3 K refl

  shifts : (0 < 32 + d - p) × (32 + d - p < 62)
  shifts = let e = K in let a : 30 ≤ j = t.3 in let b : j ≤ 33 = t.4 in (omega arith, omega arith)

  asks : Kept (closest s (2 ^ (32 + d - p))) d
  asks = keeps s p j d (32 + d - p) t.1 t.2 t.3 K refl

  gives : round binary32 false (s * 2 ^ p) (2 ^ 181) ≡ units binary32 false (closest s (2 ^ (32 + d - p))) d
  gives = rounds s p j d (32 + d - p) t.1 t.2 t.3 K refl

  short : p < 512 → d < 1024
  short h = let z : count_leading_zeros 64 s + suc j ≡ 64 = t.0 in omega arith

pub overflow_sub-top : goal.overflow_sub-top
overflow_sub-top c = leading_le 64 c.args.s

pub overflow_sub-dropped : goal.overflow_sub-dropped
overflow_sub-dropped c = room c.args.s c.args.p c.saturating_sub-dropped.result c.requires.fact_1 c.requires.fact_2 c.saturating_sub-dropped.ensures

pub shifted-requires : goal.shifted-requires
shifted-requires c =
    let h = shifts c.args.s c.args.p c.saturating_sub-dropped.result c.requires.fact_1 c.requires.fact_2 c.saturating_sub-dropped.ensures in
    record { fact_1 = omega (arith, c.requires.fact_2); fact_2 = h.0; fact_3 = h.1 }

pub packed-requires : goal.packed-requires
packed-requires c =
    let k = asks c.args.s c.args.p c.saturating_sub-dropped.result c.requires.fact_1 c.requires.fact_2 c.saturating_sub-dropped.ensures in
    record {
      fact_1 = rw c.shifted.ensures k.0;
      fact_2 = rw c.shifted.ensures k.1;
      fact_3 = short c.args.s c.args.p c.saturating_sub-dropped.result c.requires.fact_1 c.requires.fact_2 c.saturating_sub-dropped.ensures c.requires.fact_3;
    }

pub returns : goal.returns
returns c =
    let o = c.saturating_sub-dropped in
    c.packed.ensures ∙ ap (λ (x : ℕ). units binary32 false x o.result) c.shifted.ensures ∙ sym (gives c.args.s c.args.p o.result c.requires.fact_1 c.requires.fact_2 o.ensures)
