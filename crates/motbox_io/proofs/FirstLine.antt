-- The lines of a text, from its first line on; and how long a detection line is. Assumes nothing.
use mathlib.Core.Path.{◌≡◌, refl, sym, ap, ◌∙◌}
use mathlib.Core.Bool.{Bool, true, false, cond, ◌&&◌}
use mathlib.Core.List.{List, [], ◌∷◌, ◌++◌, append-nil}
use mathlib.Core.Logic.{◌⊎◌, inl, inr}
use Prim.Native.Nat.{ℕ, zero, suc, ◌+◌, ◌-◌, ◌<◌}
use native.Mathlib.Numerals.{add-one}
use native.Mathlib.Omega.{arith}
use lib.Dec.{eqb, ltb, leb-suc-suc}
use lib.ListN.{length, take, drop, get_or, length-append}
use borrow.Author.Tests.{ltb-false}
use Rattle.mot_number.specs.Index.{index_of, index_after}
use Rattle.laws.specs.Tests.{true_not_false}
use Rattle.mot_fields.specs.Fields.{onto_first, fields, of_forms, body, is_ended, is_line}
use Rattle.mot_line.specs.Line.{detection, is_detection}
use Rattle.mot_line.specs.Detection.{longest_line}
use Rattle.mot_line.proofs.Theorem.{laws}
use Rattle.motbox_io.specs.Text.{has_line, line_length, lines_of}

-- ---- a text with a line feed begins with its first line

-- by where the line feed stands
abbrev Cut : ℕ → List ℕ → List ℕ → Type 0
Cut i t tail = lines_of (t ++ tail) ≡ take (suc i) t ∷ lines_of (drop (suc i) t ++ tail)

cut_cons : (e : Bool) (b : ℕ) (bs tail : List ℕ) → ltb (index_after e (index_of 10 bs)) (suc (length bs)) ≡ true → (has_line bs ≡ true → Cut (index_of 10 bs) bs tail)
    → cond e ((b ∷ []) ∷ lines_of (bs ++ tail)) (onto_first b (lines_of (bs ++ tail))) ≡ take (suc (index_after e (index_of 10 bs))) (b ∷ bs) ∷ lines_of (drop (suc (index_after e (index_of 10 bs))) (b ∷ bs) ++ tail)
unfolding index_after
cut_cons true b bs tail h more = refl
cut_cons false b bs tail h more = ap (onto_first b) (more (sym (leb-suc-suc (suc (index_of 10 bs)) (length bs)) ∙ h))

cut : (t tail : List ℕ) → has_line t ≡ true → Cut (index_of 10 t) t tail
unfolding lines_of index_of
cut [] tail h = absurd (true_not_false (sym h))
cut (b ∷ bs) tail h = cut_cons (eqb b 10) b bs tail h (cut bs tail)

pub first-line : (t tail : List ℕ) → has_line t ≡ true → lines_of (t ++ tail) ≡ take (line_length t) t ∷ lines_of (drop (line_length t) t ++ tail)
first-line t tail h =
    let n : line_length t ≡ suc (index_of 10 t) = ap (λ (b : Bool). cond b (index_of 10 t + 1) (length t)) h ∙ add-one (index_of 10 t) in
    cut t tail h ∙ ap (λ (k : ℕ). take k t ∷ lines_of (drop k t ++ tail)) (sym n)

-- ---- a text without one is the begin of the first line

-- no byte of it is a line feed
abbrev Plain : List ℕ → Type 0
Plain [] = Unit {0}
Plain (b ∷ bs) = (eqb b 10 ≡ false) × Plain bs

plain_cons : (e : Bool) (b : ℕ) (bs : List ℕ) → eqb b 10 ≡ e → ltb (index_after e (index_of 10 bs)) (suc (length bs)) ≡ false → (eqb b 10 ≡ false) × (has_line bs ≡ false)
unfolding index_after
plain_cons true b bs e h = absurd (omega (arith, ltb-false 0 (suc (length bs)) h))
plain_cons false b bs e h = (e, sym (leb-suc-suc (suc (index_of 10 bs)) (length bs)) ∙ h)

plain : (t : List ℕ) → has_line t ≡ false → Plain t
unfolding index_of
plain [] h = tt
plain (b ∷ bs) h = let r = plain_cons (eqb b 10) b bs refl h in (r.0, plain bs r.1)

-- the lines with these bytes before the first
abbrev start_with : List ℕ → List (List ℕ) → List (List ℕ)
start_with [] ls = ls
start_with (b ∷ bs) ls = onto_first b (start_with bs ls)

plain_lines : (t tail : List ℕ) → Plain t → lines_of (t ++ tail) ≡ start_with t (lines_of tail)
unfolding lines_of
plain_lines [] tail h = refl
plain_lines (b ∷ bs) tail h = ap (λ (e : Bool). cond e ((b ∷ []) ∷ lines_of (bs ++ tail)) (onto_first b (lines_of (bs ++ tail)))) h.0 ∙ ap (onto_first b) (plain_lines bs tail h.1)

-- the first line begins with them, and is nothing else where nothing follows
record Begins (t tail : List ℕ) : Type 0 where
  more : List ℕ
  others : List (List ℕ)
  is : lines_of (t ++ tail) ≡ (t ++ more) ∷ others
  none : tail ≡ [] → more ≡ []

begins_some : (b : ℕ) (bs : List ℕ) (ls : List (List ℕ)) → (more : List ℕ) × (others : List (List ℕ)) × (start_with (b ∷ bs) ls ≡ ((b ∷ bs) ++ more) ∷ others) × (ls ≡ [] → more ≡ [])
begins_some b [] [] = ([], [], refl, λ _. refl)
begins_some b [] (f ∷ fs) = (f, fs, refl, λ e. absurd (cons_not_nil f fs e))
  where
    cons_not_nil : (f : List ℕ) (fs : List (List ℕ)) → f ∷ fs ≡ [] → ⊥
    cons_not_nil f fs e = let n : ◌≡◌ {A = ℕ} (suc (length fs)) 0 = ap length e in omega (arith, n)
begins_some b (c ∷ cs) ls = let r = begins_some c cs ls in (r.0, r.1, ap (onto_first b) r.2, r.3)

begins : (t tail : List ℕ) → Plain t → 0 < length t → Begins t tail
unfolding lines_of
begins [] tail h some = absurd (omega (arith, some))
begins (b ∷ bs) tail h some =
    let r = begins_some b bs (lines_of tail) in
    record { more = r.0; others = r.1; is = plain_lines (b ∷ bs) tail h ∙ r.2; none = λ e. r.3 (ap lines_of e) }

-- ---- what is no detection line

-- the last byte of a text without a line feed is none
plain_last : (t : List ℕ) → Plain t → (i : ℕ) → i < length t → eqb (get_or t i 0) 10 ≡ false
plain_last [] h i l = absurd (omega (arith, l))
plain_last (b ∷ bs) h zero l = h.0
plain_last (b ∷ bs) h (suc i) l = plain_last bs h.1 i (omega (arith, l))

not_ended : (t : List ℕ) → Plain t → is_ended t ≡ false
not_ended [] h = refl
not_ended (b ∷ bs) h = plain_last (b ∷ bs) h (suc (length bs) - 1) (omega arith)

plain_no-detection : (t : List ℕ) → Plain t → is_detection t ≡ false
unfolding is_line
plain_no-detection t h = ap (λ (b : Bool). b && of_forms detection (fields (body t))) (not_ended t h)

pub long-no-detection : (l : List ℕ) → longest_line < length l → is_detection l ≡ false
long-no-detection l h = go (is_detection l) refl
  where
    go : (b : Bool) → is_detection l ≡ b → b ≡ false
    go true e = absurd (omega (arith, h, laws.short l e))
    go false e = refl

-- ---- so the first line of a text without a line feed is none, where nothing follows or it is too long already

pub record NoLine (t tail : List ℕ) : Type 0 where
  pub line : List ℕ
  pub others : List (List ℕ)
  pub is : lines_of (t ++ tail) ≡ line ∷ others
  pub refused : is_detection line ≡ false

pub no_line : (t tail : List ℕ) → has_line t ≡ false → 0 < length t → (tail ≡ []) ⊎ (longest_line < length t) → NoLine t tail
no_line t tail h some which =
    let b = begins t tail (plain t h) some in
    record { line = t ++ b.more; others = b.others; is = b.is; refused = by which }
  where
    by : (tail ≡ []) ⊎ (longest_line < length t) → is_detection (t ++ (begins t tail (plain t h) some).more) ≡ false
    by (inl e) = ap (λ (u : List ℕ). is_detection (t ++ u)) ((begins t tail (plain t h) some).none e) ∙ ap is_detection (append-nil t) ∙ plain_no-detection t (plain t h)
    by (inr l) = let u = (begins t tail (plain t h) some).more in let n = length-append t u in long-no-detection (t ++ u) (omega (arith, l))

pub no-feed-refused : (t : List ℕ) → has_line t ≡ false → is_detection t ≡ false
no-feed-refused t h = plain_no-detection t (plain t h)
