-- A line by the tests that the code makes, what a loop that pushes bytes or floats knows, and how many digits a number has. Assumes nothing.
use mathlib.Core.Path.{◌≡◌, refl, sym, ap, subst, ◌∙◌}
use mathlib.Core.Bool.{Bool, true, false}
use mathlib.Core.List.{List, [], ◌∷◌, foldl}
use Prim.Native.Nat.{ℕ, zero, suc, ◌+◌, ◌-◌, ◌^◌, ◌≤◌, ◌<◌}
use native.Mathlib.Nat.{le_trans, lt_of_not-le, not-le_of_lt, pow-le-pow_right}
use native.Mathlib.Omega.{arith}
use native.Mathlib.Numerals.{add-one}
use lib.ListN.{set, take}
use lib.Ieee.{Float}
use borrow.Author.Tests.{lt-ltb, le-ltb}
use Rattle.io.specs.Digits.{last_digits, IsDigitCount}
use Rattle.std.specs.List.{fold}
use Rattle.laws.specs.Scan.{Scanning, lowest, scan-begin, scan-next, scan-found}
use Rattle.vectors.specs.declared.line.Line.{Line}
use Rattle.vectors.specs.Line.{pushed, text, places, spelt, float, floats}

-- a byte
pub room : (l : Line) (b : ℕ) → l.used < 256 → record { bytes = set l.bytes l.used b; used = l.used + 1 } ≡ pushed l b
unfolding pushed
room l b h = rw (lt-ltb l.used 256 h)

pub full : (l : Line) (b : ℕ) → 256 ≤ l.used → l ≡ pushed l b
unfolding pushed
full l b h = rw (le-ltb l.used 256 h)

-- std's `fold` of the bytes of a text, and of floats
folds : {A B : Type 0} (f : B → A → B) (start : B) (l : List A) → fold f start l ≡ foldl f start l
folds f start [] = refl
folds f start (x ∷ xs) = folds f (f start x) xs

pub texted : (s : List ℕ) (start : Line) → fold pushed start s ≡ text start s
unfolding text
texted s start = folds pushed start s

pub listed : (s : List Float) (start : Line) → fold float start s ≡ floats start s
unfolding floats
listed s start = folds float start s

-- the first k at which a test holds
module _ (p : ℕ → Bool) (n : ℕ) where
  past : (k : ℕ) → k ≤ n → ((i : ℕ) → i < k → p i ≡ false) → Scanning p n k
  past zero h f = scan-begin p n
  past (suc k) h f = subst (Scanning p n) (add-one k) (scan-next p n (past k (omega arith) (λ i b. f i (omega arith))) (omega arith) refl (f k (omega arith)))

  first-hit : (k : ℕ) → k < n → p k ≡ true → ((i : ℕ) → i < k → p i ≡ false) → k ≡ lowest p n
  first-hit k h e f = scan-found p n (past k (omega arith) f) h refl e

-- the fewest digits are those of the definition
fewest : (b least n k : ℕ) → 0 < b → IsDigitCount b least n k → least ≤ 20 → n < b ^ 20 → k ≡ places b least n
fewest b least n k pos f few small =
    let sum : least + (k - least) ≡ k = omega (arith, f.0) in
    let hit : n < b ^ (least + (k - least)) = rw sum f.1 in
    let miss : (i : ℕ) → i < k - least → b ^ (least + i) ≤ n =
    λ i q. le_trans (pow-le-pow_right pos (omega arith)) (f.2 (omega arith)) in
    let short : k < 21 = lt_of_not-le (λ (h : 21 ≤ k). not-le_of_lt small (le_trans (pow-le-pow_right pos (omega (arith, h))) (f.2 (omega (arith, h, few))))) in
    sym sum ∙ ap (λ (j : ℕ). least + j) (first-hit _ (21 - least) (k - least) (omega (arith, f.0, short)) (lt-ltb _ _ hit) (λ i q. le-ltb n (b ^ (least + i)) (miss i q)))

-- a space, and the digits that io made
pub spelling : (b least n k : ℕ) (l spaced r : Line) (out : List ℕ) → 0 < b → IsDigitCount b least n k → least ≤ 20 → n < b ^ 20 → take k out ≡ last_digits b k n → spaced ≡ text l (32 ∷ []) → r ≡ text spaced (take k out) → r ≡ spelt b least l n
spelling b least n k l spaced r out pos f few small e es er =
    er ∙ ap (λ (s : Line). text s (take k out)) es ∙ ap (text (text l (32 ∷ []))) (e ∙ ap (λ (j : ℕ). last_digits b j n) (fewest b least n k pos f few small))
