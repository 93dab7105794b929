-- A number spelt digit by digit, the last first: what the loop over m cells knows when those from i on are stored and `rest` is left of n. Assumes nothing.
use mathlib.Core.Path.{◌≡◌, sym, ap, ◌∙◌}
use mathlib.Core.List.{List, ◌∷◌, ◌++◌}
use Prim.Native.Nat.{ℕ, zero, suc, ◌-◌, ◌/◌, ◌%◌, ◌≤◌, ◌<◌}
use native.Mathlib.Nat.{le_refl}
use native.Mathlib.Omega.{arith}
use lib.ListN.{length, drop, set, length-set}
use lib.Seq.{drop-cons, drop-set-lt, get_or-set_same, append_snoc}
use Rattle.records_line.specs.Text.{glyph, digits}

pub record Spelling (b n m i rest : ℕ) (cells : List ℕ) : Type 0 where
  pub upto : i ≤ m
  pub same : length cells ≡ m
  -- the digits of what is left and what is stored are the digits of n
  pub whole : digits b i rest ++ drop i cells ≡ digits b m n

pub spell_on : (b n m i rest v : ℕ) (cells : List ℕ) → Spelling b n m i rest cells → 0 < i → v ≡ glyph (rest % b) → Spelling b n m (i - 1) (rest / b) (set cells (i - 1) v)
unfolding digits
spell_on b n m zero rest v cells w h e = absurd (omega arith)
spell_on b n m (suc j) rest v cells w h e =
    let upto = w.upto in
    let same = w.same in
    let inside : j < length cells = omega arith in
    let stored : drop j (set cells j v) ≡ v ∷ drop (suc j) cells =
    drop-cons (set cells j v) j 0 (rw length-set inside) ∙ ap (λ (x : ℕ). x ∷ drop (suc j) (set cells j v)) (get_or-set_same cells j v 0 inside)
    ∙ ap (λ (r : List ℕ). v ∷ r) (drop-set-lt (suc j) cells j v (le_refl (suc j))) in
    let whole : digits b j (rest / b) ++ drop j (set cells j v) ≡ digits b m n =
    ap (λ (r : List ℕ). digits b j (rest / b) ++ r) (stored ∙ ap (λ (x : ℕ). x ∷ drop (suc j) cells) e)
    ∙ sym (append_snoc (digits b j (rest / b)) (glyph (rest % b)) (drop (suc j) cells))
    ∙ w.whole in
    let less : suc j - 1 ≡ j = omega arith in
    rw less (record { upto = omega arith; same = length-set cells j v ∙ same; whole = whole })

pub spell_end : (b n m i rest : ℕ) (cells : List ℕ) → Spelling b n m i rest cells → i ≤ 0 → cells ≡ digits b m n
unfolding digits
spell_end b n m zero rest cells w h = w.whole
spell_end b n m (suc i) rest cells w h = absurd (omega arith)
