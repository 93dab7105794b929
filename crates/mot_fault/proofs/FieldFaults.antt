-- The fault of a field: one of its form exactly where it is not of its form. Assumes nothing.
use mathlib.Core.Path.{◌≡◌, refl, sym, ap, ◌∙◌}
use mathlib.Core.Bool.{Bool, true, false, not, cond, ◌&&◌, ◌||◌}
use mathlib.Core.List.{List, [], ◌∷◌}
use Prim.Native.Nat.{ℕ, zero, suc, ◌+◌, ◌<◌}
use native.Mathlib.Omega.{arith}
use lib.Dec.{eqb, leb, ltb}
use lib.ListN.{length, get_or}
use borrow.Author.Tests.{ltb-true, ltb-false, lt-leb, le-leb, ne_eqb, eq-eqb, not-true, not-false}
use Rattle.mot_number.specs.Index.{index_of}
use Rattle.laws.specs.Tests.{true_not_false}
use Rattle.laws.specs.Scan.{scan}
use Rattle.laws.specs.Every.{every, every-at, every_of, lowest-none}
use Rattle.mot_number.specs.Number.{is_digit, one_to_six, whole_of, behind_of, has_point, is_unsigned, is_negative, unsigned_part, is_number, is_frame}
use Rattle.mot_fields.specs.Fields.{is_minus_one}
use Rattle.mot_fault.specs.declared.kinds.Fault.{Fault}
use Rattle.mot_fault.specs.declared.kinds.Fault.TheVariants.{Empty, OtherByte, MinusAlone, NoDigits, ManyDigits, NoDecimals, ManyDecimals, NotMinusOne, FilledId}
use Rattle.mot_fault.specs.declared.kinds.Found.{Found}
use Rattle.std.specs.Bool.{⊤}
use Rattle.std.proofs.Common.{Result, Ok, Err}
use Rattle.mot_fault.specs.Form.{at, other_at, first_other, digits_fault, or_else, unsigned_fault, number_fault, minus_one_fault, id_fault}
use Rattle.mot_fault.specs.Laws.{of_value, refusal_of, refusal_found}

-- ---- the first byte that is no digit is below the length exactly where not every byte is one

scan_hits : (p : ℕ → Bool) (k r : ℕ) → scan p k r < k + r → p (scan p k r) ≡ true
unfolding scan
scan_hits p k zero h = absurd (omega arith)
scan_hits p k (suc r) h = by_cases (p k) refl h (scan_hits p (suc k) r)
  where
    by_cases : (t : Bool) → p k ≡ t → cond t k (scan p (suc k) r) < k + suc r → (scan p (suc k) r < suc k + r → p (scan p (suc k) r) ≡ true) → p (cond t k (scan p (suc k) r)) ≡ true
    by_cases true e h f = e
    by_cases false e h f = f (omega arith)

others : (t : List ℕ) → ltb (first_other t) (length t) ≡ not (every is_digit t)
others t = go (ltb (first_other t) (length t)) refl (every is_digit t) refl
  where
    go : (b : Bool) → ltb (first_other t) (length t) ≡ b → (e : Bool) → every is_digit t ≡ e → b ≡ not e
    go true f true g =
        let l : first_other t < length t = ltb-true _ _ f in
        let a = every-at is_digit t g (first_other t) 0 l in
        let h : is_digit (get_or t (first_other t) 0) ≡ false = not-true _ (scan_hits (other_at t) 0 (length t) (omega arith)) in
        absurd (true_not_false (sym a ∙ h))
    go true f false g = refl
    go false f true g = refl
    go false f false g = absurd (true_not_false (sym (every_of is_digit t 0 (λ i b. not-false _ (lowest-none (other_at t) (length t) (ltb-false _ _ f) i b))) ∙ g))

-- ---- the forms of fields

pub some_number : (fault : Fault) → refusal_of fault ≡ 0 → ⊥
some_number fault = go (of_value fault)
  where
    go : (b : Bool) → ◌≡◌ {A = ℕ} (cond b 52 51) 0 → ⊥
    go true e = omega (arith, e)
    go false e = omega (arith, e)

digits_are : (none many : Fault) (skip : ℕ) (t : List ℕ) → refusal_of none ≡ 51 → refusal_of many ≡ 51 → refusal_found (digits_fault none many skip t) ≡ cond (one_to_six t) 0 51
unfolding digits_fault one_to_six
digits_are none many skip t a b = go (length t) refl (every is_digit t) refl (ltb 6 (length t)) refl
  where
    go : (n : ℕ) → length t ≡ n → (e : Bool) → every is_digit t ≡ e → (m : Bool) → ltb 6 (length t) ≡ m
        → refusal_found (cond (eqb (length t) 0) (at none 0) (cond (ltb (first_other t) (length t)) (at OtherByte (skip + first_other t + 1)) (cond (ltb 6 (length t)) (at many (skip + 7)) (Ok tt))))
        ≡ cond ((leb 1 (length t) && leb (length t) 6) && every is_digit t) 0 51
    go zero h e f m g = rw (eq-eqb (length t) 0 h, lt-leb 1 (length t) (omega arith)) a
    go (suc n) h false f m g = rw (ne_eqb (length t) 0 (λ z. omega arith), others t, f, le-leb 1 (length t) (omega arith)) (sym (ap (λ (x : Bool). cond x 0 51) (and_false (leb (length t) 6))))
      where
        and_false : (x : Bool) → (x && false) ≡ false
        and_false true = refl
        and_false false = refl
    go (suc n) h true f true g = rw (ne_eqb (length t) 0 (λ z. omega arith), others t, f, g, le-leb 1 (length t) (omega arith), lt-leb (length t) 6 (ltb-true _ _ g)) b
    go (suc n) h true f false g = rw (ne_eqb (length t) 0 (λ z. omega arith), others t, f, g, le-leb 1 (length t) (omega arith), le-leb (length t) 6 (ltb-false _ _ g))

-- a text that has a point is asked before it and then behind it
joined : (a b p : Bool) (x y : Result ⊤ Found) → refusal_found x ≡ cond a 0 51 → refusal_found y ≡ cond b 0 51 → refusal_found (or_else x (cond p y (Ok tt))) ≡ cond (a && (not p || b)) 0 51
joined true b true (Ok tt) y e f = f
joined true b false (Ok tt) y e f = refl
joined true b p (Err found) y e f = absurd (some_number found.fault e)
joined false b p (Ok tt) y e f = absurd (omega (arith, e))
joined false b p (Err found) y e f = e

unsigned_are : (skip : ℕ) (u : List ℕ) → refusal_found (unsigned_fault skip u) ≡ cond (is_unsigned u) 0 51
unfolding unsigned_fault is_unsigned
unsigned_are skip u =
    joined (one_to_six (whole_of u)) (one_to_six (behind_of u)) (has_point u) (digits_fault NoDigits ManyDigits skip (whole_of u)) (digits_fault NoDecimals ManyDecimals (skip + (index_of 46 u + 1)) (behind_of u))
    (digits_are NoDigits ManyDigits skip (whole_of u) refl refl) (digits_are NoDecimals ManyDecimals (skip + (index_of 46 u + 1)) (behind_of u) refl refl)

-- nothing is no number
none-is-none : is_unsigned [] ≡ false
unfolding is_unsigned one_to_six index_of every
none-is-none = refl

pub frame_are : (t : List ℕ) → refusal_found (digits_fault Empty ManyDigits 0 t) ≡ cond (is_frame t) 0 51
frame_are t = digits_are Empty ManyDigits 0 t refl refl

pub number_are : (t : List ℕ) → refusal_found (number_fault t) ≡ cond (is_number t) 0 51
unfolding number_fault
number_are [] = ap (λ (x : Bool). cond x 0 51) (sym none-is-none)
number_are (b ∷ bs) = rw (ne_eqb (suc (length bs)) 0 (λ z. omega arith)) (go (unsigned_part (b ∷ bs)) (cond (is_negative (b ∷ bs)) 1 0))
  where
    -- behind the sign
    go : (u : List ℕ) (skip : ℕ) → refusal_found (cond (eqb (length u) 0) (at MinusAlone 0) (unsigned_fault skip u)) ≡ cond (is_unsigned u) 0 51
    go [] skip = ap (λ (x : Bool). cond x 0 51) (sym none-is-none)
    go (c ∷ cs) skip = rw (ne_eqb (suc (length cs)) 0 (λ z. omega arith)) (unsigned_are skip (c ∷ cs))

pub minus-one_are : (t : List ℕ) → refusal_found (minus_one_fault t) ≡ cond (is_minus_one t) 0 51
unfolding minus_one_fault
minus-one_are t = go (is_minus_one t)
  where
    go : (b : Bool) → refusal_found (cond b (Ok tt) (at NotMinusOne 0)) ≡ cond b 0 51
    go true = refl
    go false = refl

pub id_are : (t : List ℕ) → refusal_found (id_fault t) ≡ cond (is_minus_one t) 0 51
unfolding id_fault
id_are t = go (is_minus_one t) (is_frame t)
  where
    go : (b c : Bool) → refusal_found (cond b (Ok tt) (cond c (at FilledId 0) (at NotMinusOne 0))) ≡ cond b 0 51
    go true c = refl
    go false true = refl
    go false false = refl
