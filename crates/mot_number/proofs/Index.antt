-- Where a byte first stands in a text, what stands before it and behind it, and that std's `position` finds it. Assumes nothing.
use mathlib.Core.Path.{◌≡◌, refl, sym, ap, ◌∙◌}
use mathlib.Core.Bool.{Bool, true, false, not, cond}
use mathlib.Core.List.{List, [], ◌∷◌, ◌++◌}
use Prim.Native.Nat.{ℕ, suc, ◌+◌, ◌≤◌, ◌<◌}
use native.Mathlib.Nat.{not-suc-le-zero, le_of_suc-le-suc}
use native.Mathlib.Numerals.{add-one}
use native.Mathlib.Omega.{arith}
use lib.Dec.{eqb, ltb}
use lib.ListN.{length, drop}
use borrow.Author.Tests.{eqb-true, ltb-false, ne_eqb, eq-eqb}
use Rattle.std.specs.Prelude.{Option, None, Some, unwrap_or}
use Rattle.std.specs.List.{position_or_len}
use Rattle.std.proofs.lemmas.List.Recursion.{is_position_or_len}
use Rattle.std.proofs.lemmas.List.Sums.{prefix_len-le-length}
use Rattle.mot_number.specs.Index.{index_of, index_after}

abbrev pub Lacks : ℕ → List ℕ → Type 0
Lacks x [] = Unit {0}
Lacks x (b ∷ bs) = (b ≡ x → ⊥) × Lacks x bs

module _ (x : ℕ) where
  after_le : (b : Bool) (k n : ℕ) → k ≤ n → index_after b k ≤ suc n
  unfolding index_after
  after_le true k n h = omega arith
  after_le false k n h = omega arith

  pub index_le : (t : List ℕ) → index_of x t ≤ length t
  unfolding index_of
  index_le [] = omega arith
  index_le (b ∷ bs) = after_le (eqb b x) (index_of x bs) (length bs) (index_le bs)

  -- it stands behind a part that lacks it
  pub index-here : (p t : List ℕ) → Lacks x p → index_of x (p ++ (x ∷ t)) ≡ length p
  unfolding index_of index_after
  index-here [] t l = ap (λ (e : Bool). index_after e (index_of x t)) (eq-eqb x x refl)
  index-here (b ∷ bs) t l = ap (λ (e : Bool). index_after e (index_of x (bs ++ (x ∷ t)))) (ne_eqb b x l.0) ∙ ap suc (index-here bs t l.1)

  pub index-none : (p : List ℕ) → Lacks x p → index_of x p ≡ length p
  unfolding index_of index_after
  index-none [] l = refl
  index-none (b ∷ bs) l = ap (λ (e : Bool). index_after e (index_of x bs)) (ne_eqb b x l.0) ∙ ap suc (index-none bs l.1)

  -- it stands there
  after-at : (e : Bool) (b : ℕ) (bs : List ℕ) → eqb b x ≡ e → (index_of x bs < length bs → drop (index_of x bs) bs ≡ x ∷ drop (index_of x bs + 1) bs)
      → index_after e (index_of x bs) < suc (length bs) → drop (index_after e (index_of x bs)) (b ∷ bs) ≡ x ∷ drop (index_after e (index_of x bs) + 1) (b ∷ bs)
  unfolding index_after
  after-at true b bs e r h = ap (λ (y : ℕ). y ∷ bs) (eqb-true b x e)
  after-at false b bs e r h = r (le_of_suc-le-suc h) ∙ ap (λ (y : ℕ). x ∷ drop y bs) (add-one (index_of x bs)) ∙ sym (ap (λ (y : ℕ). x ∷ drop y (b ∷ bs)) (add-one (suc (index_of x bs))))

  pub index_at : (t : List ℕ) → index_of x t < length t → drop (index_of x t) t ≡ x ∷ drop (index_of x t + 1) t
  unfolding index_of
  index_at [] h = absurd (not-suc-le-zero h)
  index_at (b ∷ bs) h = after-at (eqb b x) b bs refl (index_at bs) h

-- ---- what std's `position` finds

after-cond : (e : Bool) (k : ℕ) → index_after e k ≡ cond e 0 (1 + k)
unfolding index_after
after-cond true k = refl
after-cond false k = let h : suc k ≡ 1 + k = omega arith in h

index-position : (x : ℕ) (t : List ℕ) → index_of x t ≡ position_or_len (λ b. eqb b x) t
unfolding index_of
index-position x = is_position_or_len (index_of x) (λ b. eqb b x) refl (λ b bs. after-cond (eqb b x) (index_of x bs))

-- with the length for None
pub or_length : (q : ℕ → Bool) (t : List ℕ) (r : Option ℕ) → r ≡ cond (ltb (position_or_len q t) (length t)) (Some (position_or_len q t)) None → unwrap_or r (length t) ≡ position_or_len q t
or_length q t r e = go (ltb (position_or_len q t) (length t)) refl e (prefix_len-le-length (λ b. not (q b)) t)
  where
    go : (b : Bool) → ltb (position_or_len q t) (length t) ≡ b → r ≡ cond b (Some (position_or_len q t)) None → position_or_len q t ≤ length t → unwrap_or r (length t) ≡ position_or_len q t
    go true h f m = rw f
    go false h f m = let l : length t ≤ position_or_len q t = ltb-false _ _ h in rw f (omega arith)

pub position-index : (x : ℕ) (t : List ℕ) (r : Option ℕ) → r ≡ cond (ltb (position_or_len (λ b. eqb b x) t) (length t)) (Some (position_or_len (λ b. eqb b x) t)) None → unwrap_or r (length t) ≡ index_of x t
position-index x t r e = or_length (λ b. eqb b x) t r e ∙ sym (index-position x t)
