-- Which texts are numbers: each that is written is one, with the value that its digits say, and no other is. Assumes nothing.
use mathlib.Core.Path.{◌≡◌, refl, sym, ap, ◌∙◌}
use mathlib.Core.Bool.{Bool, true, false, not, cond, ◌&&◌, ◌||◌}
use mathlib.Core.List.{List, [], ◌∷◌, ◌++◌, map, append-nil}
use Prim.Native.Nat.{ℕ, suc, ◌+◌, ◌-◌, ◌*◌, ◌^◌, ◌≤◌, ◌<◌}
use native.Mathlib.Nat.{not-suc-le-zero, le_trans, le_of_eq, mul_assoc, mul-le-mul_right, pow-succ'}
use native.Mathlib.Omega.{arith}
use lib.Dec.{leb}
use lib.ListN.{length, take, drop, get_or, take-append-drop, drop_of_length-le, length-append}
use lib.Seq.{take_all, take-length, take-append_seam, drop-append-add}
use borrow.Author.Tests.{leb-true, ltb-true, ltb-false, eqb-true, le-leb, le-ltb, ne_eqb}
use Rattle.mot_number.specs.Index.{index_of}
use Rattle.laws.specs.Tests.{and_left, and_right}
use Rattle.laws.specs.Every.{every}
use Rattle.mot_number.specs.Number.{Decimal, is_digit, one_to_six, whole_of, behind_of, has_point, is_unsigned, is_negative, unsigned_part, is_number, with_digits, decimal_of}
use Rattle.mot_number.specs.Numeral.{AreDigits, Numeral, in_bytes, pointed, signed, text_of, digits_behind, value_of}
use Rattle.mot_number.proofs.Index.{Lacks, index-here, index-none, index_at}

-- ---- digits and their bytes

pub bytes-length : (ds : List ℕ) → length (in_bytes ds) ≡ length ds
bytes-length [] = refl
bytes-length (d ∷ ds) = ap suc (bytes-length ds)

pub bytes-append : (a b : List ℕ) → in_bytes (a ++ b) ≡ in_bytes a ++ in_bytes b
bytes-append [] b = refl
bytes-append (d ∷ ds) b = ap (λ (l : List ℕ). (48 + d) ∷ l) (bytes-append ds b)

-- a byte below that of 0 stands in none
pub digits_lack : (x : ℕ) → x < 48 → (ds : List ℕ) → Lacks x (in_bytes ds)
digits_lack x h [] = tt
digits_lack x h (d ∷ ds) = ((λ e. omega arith), digits_lack x h ds)

pub bytes_are : (ds : List ℕ) → AreDigits ds → every is_digit (in_bytes ds) ≡ true
unfolding every
bytes_are [] a = refl
bytes_are (d ∷ ds) a = let l = a.0 in rw (le-leb 48 (48 + d) (omega arith), le-leb (48 + d) 57 (omega arith), bytes_are ds a.1)

pub bytes_make : (v : ℕ) (ds : List ℕ) → with_digits v (in_bytes ds) ≡ digits_behind v ds
unfolding with_digits digits_behind
bytes_make v [] = refl
bytes_make v (d ∷ ds) = let e : 48 + d - 48 ≡ d = omega arith in ap (λ (x : ℕ). with_digits (v * 10 + x) (in_bytes ds)) e ∙ bytes_make (v * 10 + d) ds

pub six_of : (ds : List ℕ) → AreDigits ds → 1 ≤ length ds → length ds ≤ 6 → one_to_six (in_bytes ds) ≡ true
unfolding one_to_six
six_of ds a lo hi = rw (bytes-length ds, le-leb 1 (length ds) lo, le-leb (length ds) 6 hi, bytes_are ds a)

-- the digits of bytes
abbrev pub digits_in : List ℕ → List ℕ
digits_in t = map (λ (b : ℕ). b - 48) t

digits-length : (t : List ℕ) → length (digits_in t) ≡ length t
digits-length [] = refl
digits-length (b ∷ bs) = ap suc (digits-length bs)

pub digits-back : (t : List ℕ) → every is_digit t ≡ true → (in_bytes (digits_in t) ≡ t) × AreDigits (digits_in t)
unfolding every
digits-back [] e = (refl, tt)
digits-back (b ∷ bs) e =
    let d = and_left (is_digit b) (every is_digit bs) e in
    let lo : 48 ≤ b = leb-true _ _ (and_left (leb 48 b) (leb b 57) d) in
    let hi : b ≤ 57 = leb-true _ _ (and_right (leb 48 b) (leb b 57) d) in
    let r = digits-back bs (and_right (is_digit b) (every is_digit bs) e) in
    let f : 48 + (b - 48) ≡ b = omega arith in
    (ap (λ (x : ℕ). x ∷ in_bytes (digits_in bs)) f ∙ ap (λ (l : List ℕ). b ∷ l) r.0, (omega arith, r.1))

-- a text of one to six digits
pub record Six (t : List ℕ) : Type 0 where
  pub spell : in_bytes (digits_in t) ≡ t
  pub digits : AreDigits (digits_in t)
  pub some : 1 ≤ length (digits_in t)
  pub most : length (digits_in t) ≤ 6

pub six_says : (t : List ℕ) → one_to_six t ≡ true → Six t
unfolding one_to_six
six_says t e =
    let l = and_left (leb 1 (length t) && leb (length t) 6) (every is_digit t) e in
    let d = digits-back t (and_right (leb 1 (length t) && leb (length t) 6) (every is_digit t) e) in
    let lo : 1 ≤ length t = leb-true _ _ (and_left (leb 1 (length t)) (leb (length t) 6) l) in
    let hi : length t ≤ 6 = leb-true _ _ (and_right (leb 1 (length t)) (leb (length t) 6) l) in
    let n = digits-length t in
    record { spell = d.0; digits = d.1; some = omega arith; most = omega arith }

-- ---- what is written is a number

-- behind the sign: the digits before the point and those behind it are found
record Found (u whole behind : List ℕ) : Type 0 where
  whole_is : whole_of u ≡ in_bytes whole
  behind-is : behind_of u ≡ in_bytes behind
  point : (not (has_point u) || one_to_six (behind_of u)) ≡ true

found : (whole behind : List ℕ) → AreDigits behind → length behind ≤ 6 → Found (in_bytes whole ++ pointed behind) whole behind
found whole [] a h =
    let u = in_bytes whole ++ [] in
    let e : u ≡ in_bytes whole = append-nil (in_bytes whole) in
    let i : index_of 46 u ≡ length u = ap (index_of 46) e ∙ index-none 46 (in_bytes whole) (digits_lack 46 (omega arith) whole) ∙ sym (ap length e) in
    record {
      whole_is = ap (λ (k : ℕ). take k u) i ∙ take-length u ∙ e;
      behind-is = drop_of_length-le u {i = index_of 46 u + 1} (omega arith);
      point = ap (λ (b : Bool). not b || one_to_six (behind_of u)) (le-ltb (index_of 46 u) (length u) (omega arith));
    }
found whole (d ∷ ds) a h =
    let u = in_bytes whole ++ (46 ∷ in_bytes (d ∷ ds)) in
    let i : index_of 46 u ≡ length (in_bytes whole) = index-here 46 (in_bytes whole) (in_bytes (d ∷ ds)) (digits_lack 46 (omega arith) whole) in
    let n = length-append (in_bytes whole) (46 ∷ in_bytes (d ∷ ds)) in
    let b : behind_of u ≡ in_bytes (d ∷ ds) = ap (λ (k : ℕ). drop (k + 1) u) i ∙ drop-append-add (in_bytes whole) (46 ∷ in_bytes (d ∷ ds)) 1 in
    record {
      whole_is = ap (λ (k : ℕ). take k u) i ∙ take-append_seam (in_bytes whole) (46 ∷ in_bytes (d ∷ ds));
      behind-is = b;
      point = ap (λ (x : Bool). not (has_point u) || x) (ap one_to_six b ∙ six_of (d ∷ ds) a (omega arith) h) ∙ or_true (not (has_point u));
    }
  where
    or_true : (x : Bool) → (x || true) ≡ true
    or_true true = refl
    or_true false = refl

-- the sign is found
sign_of : (negative : Bool) (whole rest : List ℕ) → 1 ≤ length whole → is_negative (signed negative (in_bytes whole ++ rest)) ≡ negative
sign_of true whole rest h = refl
sign_of false [] rest h = absurd (not-suc-le-zero h)
sign_of false (d ∷ ds) rest h = ne_eqb (48 + d) 45 (λ e. omega arith)

part_of : (negative : Bool) (u : List ℕ) → is_negative (signed negative u) ≡ negative → unsigned_part (signed negative u) ≡ u
part_of true u e = refl
part_of false u e = ap (λ (b : Bool). cond b (drop 1 u) u) e

module _ (n : Numeral) where
  unsigned : List ℕ
  unsigned = in_bytes n.whole ++ pointed n.behind

  sign : is_negative (text_of n) ≡ n.negative
  sign = sign_of n.negative n.whole (pointed n.behind) n.whole-some

  part : unsigned_part (text_of n) ≡ unsigned
  unfolding unsigned
  part = part_of n.negative (in_bytes n.whole ++ pointed n.behind) sign

  parts : Found unsigned n.whole n.behind
  unfolding unsigned
  parts = found n.whole n.behind n.behind-digits n.behind-most

  pub text-is-number : is_number (text_of n) ≡ true
  text-is-number = ap is_unsigned part ∙ (unfold is_unsigned in rw (parts.whole_is, six_of n.whole n.whole-digits n.whole-some n.whole-most, parts.point))

  digits_made : with_digits 0 (whole_of unsigned ++ behind_of unsigned) ≡ digits_behind 0 (n.whole ++ n.behind)
  digits_made =
      ap (λ (x : List ℕ). with_digits 0 (x ++ behind_of unsigned)) parts.whole_is ∙ ap (λ (x : List ℕ). with_digits 0 (in_bytes n.whole ++ x)) parts.behind-is
      ∙ ap (with_digits 0) (sym (bytes-append n.whole n.behind)) ∙ bytes_make 0 (n.whole ++ n.behind)

  pub text_has_value : decimal_of (text_of n) ≡ value_of n
  text_has_value =
      fields sign
      (ap (λ (u : List ℕ). with_digits 0 (whole_of u ++ behind_of u)) part ∙ digits_made)
      (ap (λ (u : List ℕ). length (behind_of u)) part ∙ ap length parts.behind-is ∙ bytes-length n.behind)
    where
      decimal : Bool → ℕ → ℕ → Decimal
      decimal s m k = record { negative = s; m = m; k = k }

      fields : {s t : Bool} {m l k j : ℕ} → s ≡ t → m ≡ l → k ≡ j → ◌≡◌ {A = Decimal} (record { negative = s; m = m; k = k }) (record { negative = t; m = l; k = j })
      fields a b c = rw (a, b, c)

-- ---- and no other text is one

-- a text behind its sign, as it is written
record Unsigned (u : List ℕ) : Type 0 where
  behind : List ℕ
  behind-digits : AreDigits behind
  behind-most : length behind ≤ 6
  text : u ≡ in_bytes (digits_in (whole_of u)) ++ pointed behind

pointed-some : (ds : List ℕ) → 1 ≤ length ds → pointed ds ≡ 46 ∷ in_bytes ds
pointed-some [] h = absurd (not-suc-le-zero h)
pointed-some (d ∷ ds) h = refl

unsigned_only : (u : List ℕ) → Six (whole_of u) → (not (has_point u) || one_to_six (behind_of u)) ≡ true → Unsigned u
unsigned_only u w e = go (has_point u) refl e
  where
    go : (b : Bool) → has_point u ≡ b → (not b || one_to_six (behind_of u)) ≡ true → Unsigned u
    go false f g =
        let l : length u ≤ index_of 46 u = ltb-false _ _ f in
        record { behind = []; behind-digits = tt; behind-most = omega arith; text = sym (append-nil (in_bytes (digits_in (whole_of u))) ∙ w.spell ∙ take_all (index_of 46 u) u l) }
    go true f g =
        let s = six_says (behind_of u) g in
        let i = index_at 46 u (ltb-true _ _ f) in
        record {
          behind = digits_in (behind_of u);
          behind-digits = s.digits;
          behind-most = s.most;
          text =
              sym (take-append-drop (index_of 46 u) u) ∙ ap (λ (x : List ℕ). whole_of u ++ x) (i ∙ ap (λ (x : List ℕ). 46 ∷ x) (sym s.spell) ∙ sym (pointed-some (digits_in (behind_of u)) s.some))
              ∙ ap (λ (x : List ℕ). x ++ pointed (digits_in (behind_of u))) (sym w.spell);
        }

signed-only : (t : List ℕ) → t ≡ signed (is_negative t) (unsigned_part t)
signed-only t = go (is_negative t) refl t
  where
    go : (b : Bool) → is_negative t ≡ b → (l : List ℕ) → t ≡ signed b (cond b (drop 1 t) t)
    go false e l = refl
    go true e l = minus t (eqb-true _ _ e)
      where
        minus : (t : List ℕ) → get_or t 0 0 ≡ 45 → t ≡ 45 ∷ drop 1 t
        minus [] f = absurd (omega arith)
        minus (b ∷ bs) f = ap (λ (x : ℕ). x ∷ bs) f

pub number-only : (t : List ℕ) → is_number t ≡ true → (n : Numeral) × (t ≡ text_of n)
unfolding is_unsigned
number-only t e =
    let u = unsigned_part t in
    let w = six_says (whole_of u) (and_left (one_to_six (whole_of u)) (not (has_point u) || one_to_six (behind_of u)) e) in
    let b = unsigned_only u w (and_right (one_to_six (whole_of u)) (not (has_point u) || one_to_six (behind_of u)) e) in (
      record {
        negative = is_negative t;
        whole = digits_in (whole_of u);
        behind = b.behind;
        whole-digits = w.digits;
        whole-some = w.some;
        whole-most = w.most;
        behind-digits = b.behind-digits;
        behind-most = b.behind-most;
      },
      signed-only t ∙ ap (signed (is_negative t)) b.text,
    )

-- ---- twelve digits make a number below 10^12
pub digits-short : (v : ℕ) (ds : List ℕ) → AreDigits ds → digits_behind v ds + 1 ≤ (v + 1) * 10 ^ length ds
unfolding digits_behind
digits-short v [] a = omega arith
digits-short v (d ∷ ds) a =
    let h = a.0 in
    let g : v * 10 + d + 1 ≤ (v + 1) * 10 = omega arith in
    le_trans (digits-short (v * 10 + d) ds a.1) (le_trans (mul-le-mul_right (10 ^ length ds) g) (le_of_eq (mul_assoc (v + 1) 10 (10 ^ length ds) ∙ ap (λ (x : ℕ). (v + 1) * x) (sym (pow-succ' 10 (length ds))))))

pub digits_append : (a b : List ℕ) → AreDigits a → AreDigits b → AreDigits (a ++ b)
digits_append [] b x y = y
digits_append (d ∷ ds) b x y = (x.0, digits_append ds b x.1 y)
