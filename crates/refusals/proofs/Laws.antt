-- What an accepted call's verdict tells of its tests. Assumes nothing.
use mathlib.Core.Path.{◌≡◌, refl}
use mathlib.Core.Bool.{Bool, true, false, not}
use Prim.Native.Nat.{ℕ, ◌≤◌}
use native.Mathlib.Omega.{arith}
use lib.Dec.{ltb, eqb}
use borrow.Author.Tests.{ltb-false, eqb-true}
use Rattle.laws.specs.Choose.{cond_no}
use Rattle.laws.specs.Tests.{or_none, true_not_false}
use Rattle.refusals.specs.declared.refusal.Refusal.{Refusal}
use Rattle.refusals.specs.declared.refusal.Refusal.TheVariants.{TooMany, OtherSize, TooShort, NotLabelled}
use Rattle.std.specs.Bool.{⊤}
use Rattle.std.proofs.Common.{Result, Ok, Err}
use Rattle.refusals.specs.Refusal.{number, verdict_number, too_many, verdict, labelled_too}

refused : (r : Refusal) → ◌≡◌ {A = Result ⊤ Refusal} (Err r) (Ok tt) → ⊥
refused r q = let z : ◌≡◌ {A = ℕ} 0 1 = cc in omega arith

-- no refusal has the number of an accepted call
pub number-some : (why : Refusal) → number why ≡ 0 → ⊥
number-some TooMany e = omega arith
number-some OtherSize e = omega arith
number-some TooShort e = omega arith
number-some NotLabelled e = omega arith

pub accepted_of : (v : Result ⊤ Refusal) → verdict_number v ≡ 0 → v ≡ Ok tt
accepted_of (Ok tt) e = refl
accepted_of (Err why) e = absurd (number-some why e)

-- no test held where the call is accepted
pub record Passed (many other_size short : Bool) : Type 0 where
  pub few : many ≡ false
  pub sized : other_size ≡ false
  pub enough : short ≡ false

pub passed : (many other_size short : Bool) → verdict many other_size short ≡ Ok tt → Passed many other_size short
passed many other_size short e =
    let s₁ = cond_no many (Err TooMany) _ (Ok tt) (refused TooMany) e in
    let s₂ = cond_no other_size (Err OtherSize) _ (Ok tt) (refused OtherSize) s₁.1 in
    let s₃ = cond_no short (Err TooShort) (Ok tt) (Ok tt) (refused TooShort) s₂.1 in
    record { few = s₁.0; sized = s₂.0; enough = s₃.0 }

pub labelled-passed : (v : Result ⊤ Refusal) (bad : Bool) → labelled_too v bad ≡ Ok tt → (v ≡ Ok tt) × (bad ≡ false)
labelled-passed (Ok tt) bad e = (refl, (cond_no bad (Err NotLabelled) (Ok tt) (Ok tt) (refused NotLabelled) e).0)
labelled-passed (Err why) bad e = absurd (refused why e)

-- what the tests say
pub few-sides : (boxes tracks : ℕ) → too_many boxes tracks ≡ false → (boxes ≤ 255) × (tracks ≤ 255)
few-sides boxes tracks e =
    let s = or_none (ltb 255 boxes) (ltb 255 tracks) e in
    (ltb-false 255 boxes s.0, ltb-false 255 tracks s.1)

pub same_size : (a b : ℕ) → not (eqb a b) ≡ false → a ≡ b
same_size a b e = by_cases (eqb a b) refl e
  where
    by_cases : (v : Bool) → eqb a b ≡ v → not v ≡ false → a ≡ b
    by_cases true p q = eqb-true a b p
    by_cases false p q = absurd (true_not_false q)
