-- Digits: how many a number has, and that they are read back as the number. Assumes nothing.
use mathlib.Core.Path.{◌≡◌, refl, ap, ◌∙◌}
use mathlib.Core.Bool.{Bool, true, false, cond}
use mathlib.Core.List.{List, [], ◌∷◌, ◌++◌}
use Prim.Native.Nat.{ℕ, zero, suc, ◌+◌, ◌-◌, ◌*◌, ◌/◌, ◌%◌, ◌^◌, ◌≤◌, ◌<◌}
use native.Mathlib.Nat.{le_refl, lt_of_not-le, mod-lt, lt_of_lt_of_le, pow-zero, pow-succ', div-add-mod'}
use native.Mathlib.Decide.{dec_le}
use native.Mathlib.Omega.{arith}
use lib.Dec.{ltb, lit<}
use borrow.Author.Tests.{lt-ltb, le-ltb}
use Rattle.records.proofs.Laws.Bytes.{quotient-below}
use Rattle.records_line.specs.Text.{glyph, digits, places_up_to, places}

-- ---- how many decimal digits

pub one_place : (k n : ℕ) → n < 10 → places_up_to k n ≡ 1
unfolding places_up_to
one_place zero n h = refl
one_place (suc k) n h = ap (λ (b : Bool). cond b 1 (suc (places_up_to k (n / 10)))) (lt-ltb n 10 h)

pub next_place : (k n : ℕ) → 10 ≤ n → places_up_to (suc k) n ≡ suc (places_up_to k (n / 10))
unfolding places_up_to
next_place k n h = ap (λ (b : Bool). cond b 1 (suc (places_up_to k (n / 10)))) (le-ltb n 10 h)

-- what has one digit, and what has more
data Size (n : ℕ) : Type 0 where
  one : n < 10 → Size n
  more : 10 ≤ n → Size n

size : (n : ℕ) → Size n
size n = go (dec_le 10 n)
  where
    go : Dec (10 ≤ n) → Size n
    go (yes h) = more h
    go (no h) = one (lt_of_not-le h)

few-places : (k n : ℕ) → places_up_to k n ≤ suc k
unfolding places_up_to
few-places zero n = le_refl 1
few-places (suc k) n = go (ltb n 10) (few-places k (n / 10))
  where
    go : (b : Bool) → places_up_to k (n / 10) ≤ suc k → cond b 1 (suc (places_up_to k (n / 10))) ≤ suc (suc k)
    go true h = omega arith
    go false h = omega arith

pub most-places : (n : ℕ) → places n ≤ 20
most-places n = few-places 19 n

-- a number below 10^j has at most j digits
pub few-below : (k j n : ℕ) → n < 10 ^ suc j → places_up_to k n ≤ suc j
unfolding places_up_to
few-below zero j n h = omega arith
few-below (suc k) zero n h = go (size n)
  where
    go : Size n → places_up_to (suc k) n ≤ 1
    go (one l) = rw (one_place (suc k) n l) (le_refl 1)
    go (more m) = absurd (omega arith)
few-below (suc k) (suc j) n h = go (size n) (few-below k j (n / 10) (quotient-below 10 (suc j) n (lit< tt) h))
  where
    go : Size n → places_up_to k (n / 10) ≤ suc j → places_up_to (suc k) n ≤ suc (suc j)
    go (one l) r = let e = one_place (suc k) n l in omega arith
    go (more m) r = let e = next_place k n m in omega arith

-- the digits are enough, and no fewer would be
pub enough-places : (k n : ℕ) → n < 10 ^ suc k → n < 10 ^ places_up_to k n
unfolding places_up_to
enough-places zero n h = h
enough-places (suc k) n h = go (size n) (enough-places k (n / 10) (quotient-below 10 (suc k) n (lit< tt) h))
  where
    go : Size n → n / 10 < 10 ^ places_up_to k (n / 10) → n < 10 ^ places_up_to (suc k) n
    go (one l) r = rw (one_place (suc k) n l) l
    go (more m) r = let p = pow-succ' 10 (places_up_to k (n / 10)) in rw (next_place k n m) (omega arith)

some-places : (k n : ℕ) → 0 < places_up_to k n
unfolding places_up_to
some-places zero n = lit< tt
some-places (suc k) n = go (ltb n 10)
  where
    go : (b : Bool) → 0 < cond b 1 (suc (places_up_to k (n / 10)))
    go true = lit< tt
    go false = omega arith

pub fewest_places : (k n : ℕ) → 10 ≤ n → 10 ^ (places_up_to k n - 1) ≤ n
unfolding places_up_to
fewest_places zero n h = omega arith
fewest_places (suc k) n h = rw (next_place k n h, less (places_up_to k (n / 10))) (go (size (n / 10)) (fewest_places k (n / 10)) (some-places k (n / 10)))
  where
    less : (p : ℕ) → suc p - 1 ≡ p
    less p = omega arith

    go : Size (n / 10) → (10 ≤ n / 10 → 10 ^ (places_up_to k (n / 10) - 1) ≤ n / 10) → 0 < places_up_to k (n / 10) → 10 ^ places_up_to k (n / 10) ≤ n
    go (one l) r s = rw (one_place k (n / 10) l) h
    go (more m) r s =
        let p : ℕ = places_up_to k (n / 10) in
        let e : p ≡ suc (p - 1) = omega arith in
        let f : 10 ^ p ≡ 10 * 10 ^ (p - 1) = ap (λ (j : ℕ). 10 ^ j) e ∙ pow-succ' 10 (p - 1) in
        let q = r m in
        omega arith

-- ---- read back

-- what a digit stands for, and what a row of digits is read as, behind what was read as v
unfoldable pub digit_of : ℕ → ℕ
digit_of g = cond (ltb g 58) (g - 48) (g - 87)

unfoldable pub read_on : ℕ → ℕ → List ℕ → ℕ
read_on b v [] = v
read_on b v (g ∷ gs) = read_on b (v * b + digit_of g) gs

abbrev pub read_as : ℕ → List ℕ → ℕ
read_as b gs = read_on b 0 gs

read-last : (b v g : ℕ) (gs : List ℕ) → read_on b v (gs ++ (g ∷ [])) ≡ read_on b v gs * b + digit_of g
unfolding read_on
read-last b v g [] = refl
read-last b v g (x ∷ gs) = read-last b (v * b + digit_of x) g gs

digit_glyph : (d : ℕ) → d < 16 → digit_of (glyph d) ≡ d
unfolding digit_of glyph
digit_glyph d h = go (size d)
  where
    go : Size d → digit_of (glyph d) ≡ d
    go (one l) =
        let e : 48 + d < 58 = omega arith in
        let f : 48 + d - 48 ≡ d = omega arith in
        rw (lt-ltb d 10 l, lt-ltb (48 + d) 58 e) f
    go (more m) =
        let e : 58 ≤ 97 + (d - 10) = omega arith in
        let f : 97 + (d - 10) - 87 ≡ d = omega arith in
        rw (le-ltb d 10 m, le-ltb (97 + (d - 10)) 58 e) f

pub read-digits : (b k n : ℕ) → 0 < b → b ≤ 16 → n < b ^ k → read_as b (digits b k n) ≡ n
unfolding digits read_on
read-digits b zero n p q h = let e = pow-zero b in omega arith
read-digits b (suc k) n p q h =
    read-last b 0 (glyph (n % b)) (digits b k (n / b))
    ∙ rw (read-digits b k (n / b) p q (quotient-below b k n p h), digit_glyph (n % b) (lt_of_lt_of_le (mod-lt n p) q)) (div-add-mod' n b)
