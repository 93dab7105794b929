-- Records of a fixed length laid one after the other over the front of a list. Assumes nothing.
use Rattle.std.specs.Prelude.{◌≡◌, get_or}
use Rattle.std.proofs.Math.Path.{refl, sym, ap}
use Rattle.std.proofs.Common.{◌∙◌, not-suc-le-zero, le_of_suc-le-suc, suc-mul, one-mul, length-drop}
use mathlib.Core.List.{List, [], ◌∷◌, ◌++◌, map, append_assoc, append-nil}
use Prim.Native.Nat.{ℕ, zero, suc, ◌+◌, ◌-◌, ◌*◌, ◌≤◌, ◌<◌}
use Rattle.std.proofs.Math.Nat.{zero-mul, add-mul, add_comm}
use native.Mathlib.Omega.{arith}
use Rattle.std.proofs.Math.ListN.{length, take, drop, length-append}
use Rattle.std.proofs.Math.Seq.{take_at, drop_at, drop-drop, drop-length}
use Rattle.laws.specs.Splice.{splice}

module _ {X A : Type 0} (enc : X → List A) where
  -- the records of xs, one after the other
  unfoldable pub rows : List X → List A
  rows [] = []
  rows (x ∷ xs) = enc x ++ rows xs

  -- l, with its front replaced by the records of xs, each of s elements
  unfoldable pub laid : ℕ → List X → List A → List A
  laid s xs l = rows xs ++ drop (length xs * s) l

  pub rows_append : (xs ys : List X) → rows (xs ++ ys) ≡ rows xs ++ rows ys
  unfolding rows
  rows_append [] ys = refl
  rows_append (x ∷ xs) ys = rw (rows_append xs ys) (sym (append_assoc (enc x) (rows xs) (rows ys)))

  pub laid_none : (s : ℕ) (l : List A) → l ≡ laid s [] l
  unfolding laid rows
  laid_none s l = rw zero-mul

  -- only what lies behind the records is kept of the list
  pub laid_kept : (s : ℕ) (xs : List X) (l k : List A) → drop (length xs * s) l ≡ drop (length xs * s) k → laid s xs l ≡ laid s xs k
  unfolding laid
  laid_kept s xs l k e = ap (λ (r : List A). rows xs ++ r) e

  -- records that fill a list
  pub laid-whole : (s : ℕ) (xs : List X) (l : List A) → length l ≡ length xs * s → laid s xs l ≡ rows xs
  unfolding laid
  laid-whole s xs l e = rw (← e, drop-length l) (append-nil (rows xs))

  module _ (s : ℕ) (size : (x : X) → length (enc x) ≡ s) where
    pub length-rows : (xs : List X) → length (rows xs) ≡ length xs * s
    unfolding rows
    length-rows [] = sym (zero-mul s)
    length-rows (x ∷ xs) = length-append (enc x) (rows xs) ∙ rw (size x, length-rows xs, suc-mul) (add_comm s (length xs * s))

    pub length-laid : (xs : List X) (l : List A) → length xs * s ≤ length l → length (laid s xs l) ≡ length l
    unfolding laid
    length-laid xs l h = simp (length-append, length-rows, length-drop) (omega arith)

    -- a store of one more record
    pub laid_more : (xs : List X) (l : List A) (x : X) → splice (laid s xs l) (length xs * s) (enc x) ≡ laid s (xs ++ (x ∷ [])) l
    unfolding laid rows
    laid_more xs l x =
        let n : ℕ = length xs * s in
        let t : take n (rows xs ++ drop n l) ≡ rows xs = take_at (rows xs) (drop n l) n (length-rows xs) in
        let d : drop (n + s) (rows xs ++ drop n l) ≡ drop (n + s) l =
        sym (drop-drop s n (rows xs ++ drop n l)) ∙ ap (drop s) (drop_at (rows xs) (drop n l) n (length-rows xs)) ∙ drop-drop s n l in
        let m : length (xs ++ (x ∷ [])) * s ≡ n + s = ap (λ (k : ℕ). k * s) (length-append xs (x ∷ [])) ∙ add-mul (length xs) 1 s ∙ ap (λ (k : ℕ). n + k) (one-mul s) in
        rw (t, size x, d, rows_append, m, append-nil) (sym (append_assoc (rows xs) (enc x) (drop (n + s) l)))

    -- what is not yet replaced: from record i on, for an i no less than the records laid
    pub laid-rest : (xs : List X) (l : List A) (i : ℕ) → length xs ≤ i → drop (i * s) (laid s xs l) ≡ drop (i * s) l
    unfolding laid
    laid-rest xs l i h =
        let k : ℕ = i - length xs in
        let e : length xs + k ≡ i = omega arith in
        let m : i * s ≡ length xs * s + k * s = ap (λ (n : ℕ). n * s) (sym e) ∙ add-mul (length xs) k s in
        let d : drop (length xs * s) (rows xs ++ drop (length xs * s) l) ≡ drop (length xs * s) l = drop_at (rows xs) (drop (length xs * s) l) (length xs * s) (length-rows xs) in
        rw m (sym (drop-drop (k * s) (length xs * s) (rows xs ++ drop (length xs * s) l)) ∙ ap (drop (k * s)) d ∙ drop-drop (k * s) (length xs * s) l)

    -- record i of those laid, whatever r follows them
    rows_at : (xs : List X) (i : ℕ) (z : X) (r : List A) → i < length xs → take s (drop (i * s) (rows xs ++ r)) ≡ enc (get_or xs i z)
    unfolding rows
    rows_at [] i z r h = absurd (not-suc-le-zero h)
    rows_at (x ∷ xs) zero z r h = rw (zero-mul, append_assoc) (take_at (enc x) (rows xs ++ r) s (size x))
    rows_at (x ∷ xs) (suc i) z r h =
        let front : drop s (enc x ++ (rows xs ++ r)) ≡ rows xs ++ r = drop_at (enc x) (rows xs ++ r) s (size x) in
        rw (suc-mul, add_comm, ← drop-drop, append_assoc, front) (rows_at xs i z r (le_of_suc-le-suc h))

    pub laid-at : (xs : List X) (l : List A) (i : ℕ) (z : X) → i < length xs → take s (drop (i * s) (laid s xs l)) ≡ enc (get_or xs i z)
    unfolding laid
    laid-at xs l i z h = rows_at xs i z (drop (length xs * s) l) h

-- records of what g makes of each
pub rows-map : {X Y A : Type 0} (enc : X → List A) (g : Y → X) (ys : List Y) → rows (λ y. enc (g y)) ys ≡ rows enc (map g ys)
unfolding rows
rows-map enc g [] = refl
rows-map enc g (y ∷ ys) = ap (λ (l : List _). enc (g y) ++ l) (rows-map enc g ys)
