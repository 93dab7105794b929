-- A list given by its elements, with one of them stored over. Assumes nothing.
use Rattle.std.specs.Prelude.{◌≡◌, refl, cond, ℕ, ◌<◌, eqb, get_or, set}
use Rattle.std.proofs.Common.{sym, ◌∙◌, length-set, get_or-set_same, get_or-set_other, eq-eqb, ne_eqb}
use Rattle.std.proofs.Math.Decide.{ℕ_discrete}
use Rattle.laws.specs.Tab.{tab, tab-at, tab_of, length-tab}

pub set-tab : {A : Type 0} (f : ℕ → A) (n i : ℕ) (v : A) → i < n → set (tab f n) i v ≡ tab (λ j. cond (eqb j i) v (f j)) n
set-tab f n i v h = tab_of (λ j. cond (eqb j i) v (f j)) (set (tab f n) i v) n v (length-set (tab f n) i v ∙ length-tab f n) (λ j l. by_cases j l (ℕ_discrete j i))
  where
    by_cases : (j : ℕ) → j < n → Dec (j ≡ i) → get_or (set (tab f n) i v) j v ≡ cond (eqb j i) v (f j)
    by_cases j l (yes e) = rw (e, eq-eqb i i refl) (get_or-set_same (tab f n) i v v (rw (length-tab f n) h))
    by_cases j l (no e) = rw (ne_eqb j i e) (get_or-set_other (tab f n) i j v v e ∙ tab-at f n j v l)

-- either way round
pub eqb_flip : (a b : ℕ) → eqb a b ≡ eqb b a
eqb_flip a b = by_cases (ℕ_discrete a b)
  where
    by_cases : Dec (a ≡ b) → eqb a b ≡ eqb b a
    by_cases (yes e) = eq-eqb a b e ∙ sym (eq-eqb b a (sym e))
    by_cases (no e) = ne_eqb a b e ∙ sym (ne_eqb b a (λ q. e (sym q)))
