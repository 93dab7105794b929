-- The verdict on a call, case by case, and that both ways to answer keep what `Answered` says. Assumes nothing.
use mathlib.Core.Path.{◌≡◌, refl, sym, ap, ◌∙◌}
use mathlib.Core.Bool.{Bool, true, false, cond}
use mathlib.Core.List.{List}
use Prim.Native.Nat.{ℕ, ◌*◌, ◌≤◌}
use native.Mathlib.Omega.{arith}
use borrow.Author.Tests.{eq-eqb, ne_eqb, le-ltb}
use lib.Dec.{eqb, ltb}
use lib.ListN.{length}
use lib.Ieee.{Float}
use Rattle.std.specs.Prelude.{Result, Ok, Err, IsErrAnd, ⊤}
use Rattle.lapjv.specs.Answers.{Counts, refusal_number, verdict_of, number_of, turns_of, scans_of, answer_for, lent_after, Answered}
use Rattle.lapjv_definition.specs.Bounds.{Bounds}
use Rattle.lapjv_definition.specs.Halves.{sized, assigning}
use Rattle.lapjv_definition.specs.Invariant.{Ready}
use Rattle.lapjv_definition.specs.Lapjv.{Assignment, assignment, lapjv}
use Rattle.lapjv.specs.declared.Refusal.TheVariants.{NoSide, SideAbove255, WrongSize}
use Rattle.lapjv.specs.declared.Refusal.{Refusal}
use Rattle.lapjv_definition.proofs.HalvesLaws.{fitting, fitted, assigning_does}
use Rattle.lapjv_definition.proofs.Theorem.{bounds}

-- ---- the verdict

pub all_fit : (n costs xs ys : ℕ) → (n ≡ 0 → ⊥) → n ≤ 255 → costs ≡ n * n → xs ≡ n → ys ≡ n → verdict_of n costs xs ys ≡ Ok tt
unfolding verdict_of
all_fit n costs xs ys some small ec ex ey = rw (ne_eqb n 0 some, le-ltb 255 n small, eq-eqb costs (n * n) ec, eq-eqb xs n ex, eq-eqb ys n ey)

-- a call is not refused where the sizes of the two halves fit
sizes_fit : (n costs xs ys : ℕ) → verdict_of n costs xs ys ≡ Ok tt → true ≡ sized n costs xs ys
unfolding verdict_of sized
sizes_fit n costs xs ys e = sym (ap accepted e) ∙ by_cases (eqb n 0) (ltb 255 n) (eqb costs (n * n)) (eqb xs n) (eqb ys n)
  where
    accepted : Result ⊤ Refusal → Bool
    accepted (Ok tt) = true
    accepted (Err why) = false

    by_cases : (none big costs-fit xs-fit ys-fit : Bool)
        → accepted (cond none (Err NoSide) (cond big (Err SideAbove255) (cond costs-fit (cond xs-fit (cond ys-fit (Ok tt) (Err WrongSize)) (Err WrongSize)) (Err WrongSize))))
        ≡ cond none false (cond big false (cond costs-fit (cond xs-fit (cond ys-fit true false) false) false))
    by_cases true _ _ _ _ = refl
    by_cases false true _ _ _ = refl
    by_cases false false false _ _ = refl
    by_cases false false true false _ = refl
    by_cases false false true true false = refl
    by_cases false false true true true = refl

-- so that it has a side from 1 to 255 and slices of its sizes
pub ready : {n : ℕ} {cost : List Float} {x y : List ℕ} → verdict_of n (length cost) (length x) (length y) ≡ Ok tt → Ready n cost x y
ready {n} {cost} {x} {y} e =
    let f = fitting n cost (length x) (length y) (sizes_fit n (length cost) (length x) (length y) e) in
    record { square = f.square; rows = f.first; cols = f.second }

-- ---- the answers

no_zero : (why : Refusal) → refusal_number why ≡ 0 → ⊥
unfolding refusal_number
no_zero NoSide e = omega arith
no_zero SideAbove255 e = omega arith
no_zero WrongSize e = omega arith

pub refuse : {n : ℕ} {cost : List Float} {x y : List ℕ} {why : Refusal} → verdict_of n (length cost) (length x) (length y) ≡ Err why → Answered n cost x y (Err why) x y
unfolding answer_for lent_after number_of turns_of scans_of
refuse {why = why} h = record {
  answer = rw h;
  xs = rw h;
  ys = rw h;
  paired = λ e. absurd (no_zero why e);
  turns = omega arith;
  scans = omega arith;
}

-- what `?` hands on
pub refuse_with : {n : ℕ} {cost : List Float} {x y : List ℕ} {why : Refusal} {r : Result Counts Refusal} → verdict_of n (length cost) (length x) (length y) ≡ Err why
    → IsErrAnd r (λ e. e ≡ why) → Answered n cost x y r x y
refuse_with {r = Err e} h q = rw q (refuse h)
refuse_with {r = Ok _} h q = elim q [ ]

pub accept : {n : ℕ} {cost : List Float} {x y : List ℕ} {c : Counts} {x' y' : List ℕ} → verdict_of n (length cost) (length x) (length y) ≡ Ok tt
    → assignment 0 x' y' c.turns c.scans ≡ assigning n cost x y → Answered n cost x y (Ok c) x' y'
unfolding answer_for lent_after number_of turns_of scans_of
accept {n} {cost} {x} {y} {c} {x'} {y'} h given = record {
  answer = rw h (ap (λ (w : Assignment). Ok (record { turns = w.turns; scans = w.scans })) e);
  xs = rw h ex;
  ys = rw h ey;
  paired = λ q. rw (ex, ey) all.pairs;
  turns = rw (ap (λ (w : Assignment). w.turns) e) all.turns;
  scans = rw (ap (λ (w : Assignment). w.scans) e) all.scans;
}
  where
    sizes : Ready n cost x y
    sizes = ready h

    e : assignment 0 x' y' c.turns c.scans ≡ lapjv n cost
    e = given ∙ assigning_does n cost x y (fitted sizes.square sizes.rows sizes.cols)

    all : Bounds n cost
    all = bounds n cost sizes.square.some

    ex : x' ≡ (lapjv n cost).x
    ex = ap (λ (w : Assignment). w.x) e

    ey : y' ≡ (lapjv n cost).y
    ey = ap (λ (w : Assignment). w.y) e
