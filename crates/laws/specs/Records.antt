-- Records laid over the front of a list: one changed in place, others laid over them, and all read back. Assumes nothing.
use Rattle.std.specs.Prelude.{◌≡◌, length, set, take, drop}
use Rattle.std.proofs.Math.Path.{sym, ap}
use Rattle.std.proofs.Common.{◌∙◌, not-suc-le-zero, le_of_suc-le-suc, suc-mul, add_comm, add_assoc, arith, length-set, take-append-drop, take-add}
use mathlib.Core.List.{List, [], ◌∷◌, ◌++◌, append_assoc, append-nil}
use Prim.Native.Nat.{ℕ, zero, suc, ◌+◌, ◌*◌, ◌≤◌, ◌<◌}
use Rattle.std.proofs.Math.Nat.{zero-mul, zero-add}
use Rattle.std.proofs.Math.Seq.{drop_at, take-append-add, drop-append-add}
use Rattle.laws.specs.Tab.{tab, length-tab}
use Rattle.laws.specs.Splice.{splice}
use Rattle.laws.specs.Laid.{rows, laid, rows_append, laid-rest}

-- what lies behind p is stored to
splice-behind : {A : Type 0} (p q vs : List A) (k : ℕ) → splice (p ++ q) (length p + k) vs ≡ p ++ splice q k vs
splice-behind p q vs k = rw (take-append-add p q k, add_assoc (length p) k (length vs), drop-append-add p q (k + length vs)) (append_assoc p (take k q) (vs ++ drop (k + length vs) q))

module _ {X A : Type 0} (enc : X → List A) (s : ℕ) where
  module _ (g : ℕ → X) (l : List A) where
    rows_back : (n : ℕ) → ((i : ℕ) → i < n → enc (g i) ≡ take s (drop (i * s) l)) → rows enc (tab g n) ≡ take (n * s) l
    unfolding rows tab
    rows_back zero e = rw zero-mul
    rows_back (suc n) e =
        rows_append enc (tab g n) (g n ∷ []) ∙ rw (rows_back n (λ i h. e i (omega arith)), append-nil, e n (omega arith), suc-mul) (sym (take-add (n * s) s l))

    -- a list whose records are those of g
    pub laid-here : (n : ℕ) → ((i : ℕ) → i < n → enc (g i) ≡ take s (drop (i * s) l)) → l ≡ laid enc s (tab g n) l
    unfolding laid
    laid-here n e = sym (rw (length-tab g n, rows_back n e) (take-append-drop (n * s) l))

  module _ (size : (x : X) → length (enc x) ≡ s) where
    next-at : (y : X) (i : ℕ) → suc i * s ≡ length (enc y) + i * s
    next-at y i = suc-mul i s ∙ add_comm (i * s) s ∙ ap (λ (m : ℕ). m + i * s) (sym (size y))

    rows-set : (xs : List X) (t : List A) (i : ℕ) (x : X) → i < length xs → splice (rows enc xs ++ t) (i * s) (enc x) ≡ rows enc (set xs i x) ++ t
    unfolding rows
    rows-set [] t i x h = absurd (not-suc-le-zero h)
    rows-set (y ∷ ys) t zero x h =
        rw (zero-mul s, zero-add (length (enc x)), append_assoc (enc y) (rows enc ys) t, drop_at (enc y) (rows enc ys ++ t) (length (enc x)) (size y ∙ sym (size x)))
        (sym (append_assoc (enc x) (rows enc ys) t))
    rows-set (y ∷ ys) t (suc i) x h =
        rw (next-at y i, append_assoc (enc y) (rows enc ys) t)
        (splice-behind (enc y) (rows enc ys ++ t) (enc x) (i * s) ∙ ap (λ (l : List A). enc y ++ l) (rows-set ys t i x (le_of_suc-le-suc h)) ∙ sym (append_assoc (enc y) (rows enc (set ys i x)) t))

    -- a store over record i
    pub laid-set : (xs : List X) (l : List A) (i : ℕ) (x : X) → i < length xs → splice (laid enc s xs l) (i * s) (enc x) ≡ laid enc s (set xs i x) l
    unfolding laid
    laid-set xs l i x h = rows-set xs (drop (length xs * s) l) i x h ∙ rw (length-set xs i x)

    -- laid over no more than were laid before
    pub laid-laid : (xs ys : List X) (l : List A) → length xs ≤ length ys → laid enc s ys (laid enc s xs l) ≡ laid enc s ys l
    unfolding laid
    laid-laid xs ys l h = ap (λ (r : List A). rows enc ys ++ r) (laid-rest enc s size xs l (length ys) h)
