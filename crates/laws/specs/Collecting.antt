-- Indices that pass a test, pushed onto lent memory in ascending order: what a loop that collects them knows. Assumes nothing.
use Rattle.std.specs.Prelude.{◌≡◌, Bool, List, [], ◌∷◌, ◌++◌, ℕ, ◌+◌, ◌≤◌, ◌<◌, length, set}
use Rattle.std.proofs.Math.Path.{sym}
use Rattle.std.proofs.Math.Bool.{true, false, cond}
use Rattle.std.proofs.Common.{append-nil, zero-le, add-one, arith}
use Rattle.laws.specs.Tab.{tab, indices}
use Rattle.laws.specs.Sieve.{sieve, sieve-more, maybe}
use Rattle.laws.specs.Over.{Pushed, push_start, push_maybe}

-- one more index i is looked at, and pushed behind k others where b holds
pub record Push (b : Bool) (k i : ℕ) (out : List ℕ) (r : ℕ) (out' : List ℕ) : Type 0 where
  pub many : r ≡ cond b (k + 1) k
  pub cells : out' ≡ cond b (set out k i) out

-- at index i, k of the indices before it being pushed
pub record Collecting (p : ℕ → Bool) (out₀ : List ℕ) (n i k : ℕ) (out : List ℕ) : Type 0 where
  pub upto : i ≤ n
  pub few : k ≤ i
  pub pushed : Pushed out₀ (sieve p (indices i)) k out

module _ {p : ℕ → Bool} {out₀ : List ℕ} {n : ℕ} where
  pub collect_start : Collecting p out₀ n 0 0 out₀
  unfolding sieve tab
  collect_start = record { upto = zero-le; few = zero-le; pushed = push_start out₀ }

  pub collect_on : {i k r : ℕ} {b : Bool} {out out' : List ℕ} → Collecting p out₀ n i k out → i < n → n ≤ length out₀ → b ≡ p i → Push b k i out r out' → Collecting p out₀ n (i + 1) r out'
  unfolding sieve tab
  collect_on {i} {k} {r} {b} {out} {out'} w h l e s = record {
    upto = omega arith;
    few = more b s.many;
    pushed = rw (add-one i) (rw (sieve-more p (indices i) i, sym e) (spread b (push_maybe out₀ b i w.pushed (λ q. omega (arith, w.few)) s.many s.cells)));
  }
    where
      more : (v : Bool) → r ≡ cond v (k + 1) k → r ≤ i + 1
      more true q = omega (arith, w.few)
      more false q = omega (arith, w.few)

      spread : (v : Bool) → Pushed out₀ (sieve p (indices i) ++ maybe v i) r out' → Pushed out₀ (cond v (sieve p (indices i) ++ (i ∷ [])) (sieve p (indices i))) r out'
      spread true q = q
      spread false q = rw (append-nil (sieve p (indices i))) at q

  pub collect_end : {i k : ℕ} {out : List ℕ} → Collecting p out₀ n i k out → n ≤ i → Pushed out₀ (sieve p (indices n)) k out
  collect_end {i} w h = let e : i ≡ n = omega (arith, w.upto) in rw e at w.pushed
