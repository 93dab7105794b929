-- What std's `position` finds is the lowest place at which a test holds. Assumes nothing.
use mathlib.Core.Path.{◌≡◌, refl, sym, ◌∙◌}
use mathlib.Core.Bool.{Bool, true, false, cond}
use mathlib.Core.List.{List, [], ◌∷◌}
use Prim.Native.Nat.{ℕ, zero, suc, ◌+◌}
use native.Mathlib.Omega.{arith}
use lib.Dec.{ltb}
use lib.ListN.{length, get_or}
use Rattle.std.specs.List.{position_or_len}
use Rattle.std.proofs.Common.{Option, Some, None, unwrap_or}
use Rattle.std.proofs.lemmas.List.Recursion.{is_position_or_len}
use Rattle.mot_number.proofs.Index.{or_length}
use Rattle.laws.specs.Scan.{scan, lowest}

scan_suc : (p : ℕ → Bool) (k r : ℕ) → scan p (suc k) r ≡ suc (scan (λ i. p (suc i)) k r)
unfolding scan
scan_suc p k zero = refl
scan_suc p k (suc r) = go (p (suc k)) (scan_suc p (suc k) r)
  where
    go : (b : Bool) → scan p (suc (suc k)) r ≡ suc (scan (λ i. p (suc i)) (suc k) r) → cond b (suc k) (scan p (suc (suc k)) r) ≡ suc (cond b k (scan (λ i. p (suc i)) (suc k) r))
    go true e = refl
    go false e = e

module _ (q : ℕ → Bool) where
  abbrev first_in : List ℕ → ℕ
  first_in t = lowest (λ (i : ℕ). q (get_or t i 0)) (length t)

  first_cons : (x : ℕ) (xs : List ℕ) → first_in (x ∷ xs) ≡ cond (q x) 0 (1 + first_in xs)
  unfolding scan
  first_cons x xs = go (q x) (scan_suc (λ (i : ℕ). q (get_or (x ∷ xs) i 0)) 0 (length xs))
    where
      go : (b : Bool) → scan (λ (i : ℕ). q (get_or (x ∷ xs) i 0)) 1 (length xs) ≡ suc (first_in xs) → cond b 0 (scan (λ (i : ℕ). q (get_or (x ∷ xs) i 0)) 1 (length xs)) ≡ cond b 0 (1 + first_in xs)
      go true e = refl
      go false e = omega (arith, e)

  first-none : first_in [] ≡ 0
  unfolding scan
  first-none = refl

  pub position-lowest : (t : List ℕ) (r : Option ℕ) → r ≡ cond (ltb (position_or_len q t) (length t)) (Some (position_or_len q t)) None → unwrap_or r (length t) ≡ first_in t
  position-lowest t r e = or_length q t r e ∙ sym (is_position_or_len first_in q first-none first_cons t)
