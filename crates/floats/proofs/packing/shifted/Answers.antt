-- `floats::packing::shifted` meets its contract. Assumes nothing.
use Rattle.std.proofs.Common.{◌≡◌, ℕ, ◌+◌, ◌-◌, ◌*◌, ◌/◌, ◌%◌, ◌^◌, ◌<◌, ◌≤◌, sym, ap, ◌∙◌, subst, mul_comm, arith, pow_pos, pow_mono, pow-add, w64, Fits}
use lib.Ieee.Nearest.{closest}
use Rattle.floats.proofs.Rounding.{one_shl, carries}
use Rattle.floats.proofs.packing.shifted.Goals as goal

-- half of the unit 2^k, as the machine makes it
abbrev half : ℕ → ℕ
half k = (1 * 2 ^ (k - 1)) % 2 ^ 64

module _ (s k : ℕ) (few : s < 2 ^ 62) (some : 0 < k) (short : k < 62) where
  half_is : half k ≡ 2 ^ (k - 1)
  half_is = one_shl (k - 1) (omega arith)

  half_pos : 0 < half k
  half_pos = subst (λ (x : ℕ). 0 < x) (sym half_is) (pow_pos (k - 1))

  -- whatever is added for the kept part
  sum_fits : (odd : ℕ) → odd ≤ 1 → Fits w64 (s + (half k - 1 + odd))
  sum_fits odd b = let h : half k ≤ 2 ^ 61 = subst (λ (x : ℕ). x ≤ 2 ^ 61) (sym half_is) (pow_mono {i = k - 1} {j = 61} (omega arith)) in record { fits = omega arith }

  halves : 2 ^ k ≡ 2 * half k
  halves = let e : k ≡ k - 1 + 1 = omega arith in ap (λ (x : ℕ). 2 ^ x) e ∙ pow-add 2 (k - 1) 1 ∙ mul_comm (2 ^ (k - 1)) 2 ∙ ap (λ (x : ℕ). 2 * x) (sym half_is)

  rounds : (s + (half k - 1 + s / 2 ^ k % 2)) / 2 ^ k ≡ closest s (2 ^ k)
  rounds = carries s (2 ^ k) (half k) half_pos halves

pub overflow_sub-result : goal.overflow_sub-result
overflow_sub-result c = half_pos c.args.s c.args.shift c.requires.fact_1 c.requires.fact_2 c.requires.fact_3

pub overflow_add-result-2 : goal.overflow_add-result-2
overflow_add-result-2 c = sum_fits c.args.s c.args.shift c.requires.fact_1 c.requires.fact_2 c.requires.fact_3 _ (omega arith)

pub returns : goal.returns
returns c = rounds c.args.s c.args.shift c.requires.fact_1 c.requires.fact_2 c.requires.fact_3
