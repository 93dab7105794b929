-- The square of costs that lapjv is handed, and what it answers. Assumes nothing.
use Rattle.std.proofs.Common.{◌≡◌, ℕ, ◌*◌, ◌<◌, ◌≤◌, max, false, List, length, get_or, sym, refl, ap, ◌∙◌, append-nil, arith, Result, Ok, Err}
use native.Mathlib.Nat.{max-le}
use lib.Ieee.{Float}
use lib.Seq.{drop-length}
use Rattle.laws.specs.Tab.{tab, length-tab, tab_ext, indices}
use Rattle.laws.specs.Laid.{rows, laid, length-rows}
use Rattle.laws.specs.Joined.{joined}
use Rattle.laws.specs.Packed.{packed}
use Rattle.lapjv.specs.Answers.{Answered, verdict_of, answer_for, lent_after as slice}
use Rattle.lapjv_definition.specs.Lapjv.{lapjv}
use Rattle.lapjv_definition.proofs.Theorem.{bounds}
use Rattle.lapjv.specs.declared.Refusal.{Refusal}
use Rattle.std.specs.Bool.{⊤}
use Rattle.lapjv.specs.declared.Counts.{Counts}
use Rattle.lapjv.proofs.AnswerLaws.{all_fit}
use Rattle.assoc_matching.specs.Matching.{cost_cell, cost_vec, is_err}
use Rattle.assoc_matching.specs.Partners.{Sized, solution, counts_of, column}
use Rattle.assoc_matching.specs.Private.{Whole, Solution}

module _ (cost : List Float) (nrows ncols n : ℕ) where
  -- the rows that the loop has stored
  pub square-is : (l : List Float) → length l ≡ n * n → packed (λ i. tab (cost_cell cost nrows ncols i) n) n l n ≡ cost_vec cost nrows ncols n
  unfolding packed laid cost_vec joined
  square-is l e = rw (length-tab (λ i. i) n, sym e, drop-length l) (append-nil (rows (λ i. tab (cost_cell cost nrows ncols i) n) (indices n)))

  pub square-long : length (cost_vec cost nrows ncols n) ≡ n * n
  unfolding cost_vec joined
  square-long = length-rows (λ i. tab (cost_cell cost nrows ncols i) n) n (λ (i : ℕ). length-tab (cost_cell cost nrows ncols i) n) (indices n) ∙ rw (length-tab (λ i. i) n)

-- lapjv turns no such square down
square-fits : (n costs xs ys : ℕ) → 1 ≤ n → n ≤ 255 → costs ≡ n * n → xs ≡ n → ys ≡ n → verdict_of n costs xs ys ≡ Ok tt
square-fits n costs xs ys some few e f g = all_fit n costs xs ys (λ (z : n ≡ 0). omega arith) few e f g

pub no_error : (cost : List Float) (nrows ncols n : ℕ) → 1 ≤ n → n ≤ 255 → is_err n (cost_vec cost nrows ncols n) ≡ false
unfolding is_err
no_error cost nrows ncols n some few =
    rw (square-fits n (length (cost_vec cost nrows ncols n)) n n some few (square-long cost nrows ncols n) refl refl, (bounds n (cost_vec cost nrows ncols n) some).no_error)

pub side-few : {nrows ncols cells n : ℕ} → Sized nrows ncols cells → n ≡ max nrows ncols → n ≤ 255
side-few {nrows} {ncols} s e = rw e (max-le s.few-rows s.few-cols)

-- what lapjv answers of the square
pub record Got (cost : List Float) (nrows ncols : ℕ) (r : Result Counts Refusal) (x : List ℕ) : Type 0 where
  pub counts : r ≡ Ok (counts_of (solution cost nrows ncols))
  pub rows_are : x ≡ (solution cost nrows ncols).x

pub got : (cost : List Float) (nrows ncols : ℕ) {n cells wl : ℕ} {w : List Float} {x₀ y₀ x y : List ℕ} {r : Result Counts Refusal} → Sized nrows ncols cells → Whole nrows ncols n wl (length x₀) (length y₀)
    → w ≡ cost_vec cost nrows ncols n → Answered n w x₀ y₀ r x y → Got cost nrows ncols r x
unfolding answer_for slice
got cost nrows ncols {n} {cells} {wl} {w} {x₀} {y₀} {x} {y} {r} s h e q =
    let long : length w ≡ n * n = ap length e ∙ square-long cost nrows ncols n in
    let z : verdict_of n (length w) (length x₀) (length y₀) ≡ Ok tt = square-fits n (length w) (length x₀) (length y₀) h.some (side-few s h.side) long h.long-x h.long-y in
    record {
      counts = q.answer ∙ ap (answer_for n w) z ∙ rw (e, h.side);
      rows_are = q.xs ∙ ap (λ (k : Result ⊤ Refusal). slice k (lapjv n w).x x₀) z ∙ rw (e, h.side);
    }

pub got-none : {cost : List Float} {nrows ncols : ℕ} {why : Refusal} {r : Result Counts Refusal} {x : List ℕ} → Got cost nrows ncols r x → r ≡ Err why → ⊥
got-none g e = let a = g.counts in let z : ◌≡◌ {A = ℕ} 0 1 = cc in omega arith

pub got-some : {cost : List Float} {nrows ncols l : ℕ} {r : Result Counts Refusal} {x partner : List ℕ} {k : Counts} → Got cost nrows ncols r x → r ≡ Ok k
    → partner ≡ tab (λ i. column ncols (get_or x i 0)) l → l ≡ nrows → Solution cost nrows ncols k partner
got-some {cost} {nrows} {ncols} {l} {r} {x} {partner} {k} g e h m =
    let a = g.counts in
    record {
      counts = cc;
      partners = h ∙ ap (tab (λ i. column ncols (get_or x i 0))) m
          ∙ tab_ext (λ i. column ncols (get_or x i 0)) (λ i. column ncols (get_or (solution cost nrows ncols).x i 0)) nrows (λ (i : ℕ) (b : i < nrows). rw g.rows_are);
    }
