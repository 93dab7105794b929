-- Texts one behind the other, each of at most so many bytes. Assumes nothing.
use Rattle.std.proofs.Common.{◌≡◌, ℕ, ◌+◌, ◌-◌, ◌/◌, ◌%◌, ◌<◌, ◌≤◌, Bool, true, false, cond, eqb, leb, List, [], ◌∷◌, ◌++◌, length, take, drop, sym, ap, ◌∙◌, subst, append-nil, zero-add, Option, Some, None, arith, length-append, length-drop, take-append-drop, length-take, drop-drop, le-leb}
use lib.Seq.{take-length, drop-length}
use lib.Ieee.{Float}
use borrow.Author.Tests.{lt-leb}
use borrow.Rule.Slice.PartMut.{put_mid}
use Rattle.laws.specs.Splice.{splice}
use Rattle.records_line.specs.Text.{decimal}
use Rattle.records.specs.Written.{Writes, WritesText}
use Rattle.records.proofs.Puts.{put-length, put-put, writes, no_write}
use Rattle.records_line.proofs.Laws.{decimal-most}
use Rattle.records.proofs.Laws.{text_fitted}
use Rattle.assoc_boxes.specs.Overlap.{ratio}
use Rattle.boost_tracker_fate.specs.declared.kinds.Partner.{Partner}
use Rattle.std.specs.Option.{MatchOption}
use Rattle.why_words.specs.declared.value.Value.{Value}
use Rattle.why_words.specs.declared.value.Value.TheVariants as value
use Rattle.why_words.specs.Words.{above, below, value_of, fraction_bytes, fraction, value_text, number, measured, line_most}
use Rattle.why_words.specs.Private.{Puts}

module _ {most at next : ℕ} {xs l out : List ℕ} (p : Puts most at xs l next out) where
  pub puts_length : length out ≡ length l
  puts_length = put-length p.put

  -- where the next text starts, and the room that it has
  pub puts_next : (k : ℕ) → most ≡ k → (next ≤ at + k) × (length out ≡ length l)
  puts_next k e = let ends = p.put.ends in let few = p.few in (omega (arith, ends, few, e), puts_length)

  pub puts_then : {more end : ℕ} {ys out' : List ℕ} → Puts more next ys out end out' → Puts (most + more) at (xs ++ ys) l end out'
  puts_then {ys = ys} q =
      let few = p.few in
      let fewer = q.few in
      record { put = put-put p.put q.put; few = rw (length-append xs ys) (omega (arith, few, fewer)) }

  pub puts_few : {k : ℕ} → most ≤ k → Puts k at xs l next out
  puts_few h = let few = p.few in record { put = p.put; few = omega (arith, few, h) }

-- nothing is written
pub puts_none : (at : ℕ) (l : List ℕ) {k : ℕ} → at ≤ length l → Puts k at [] l at l
puts_none at l h =
    let here : at ≡ at + 0 = omega arith in
    record { put = record { ends = here; room = h; cells = sym (take-append-drop at l) ∙ ap (λ (k : ℕ). take at l ++ drop k l) here }; few = omega arith }

-- ---- a number, written into what lies behind `at`

abbrev count_of : Option ℕ → ℕ
count_of (Some n) = n
count_of None = 0

module _ (n at : ℕ) (l : List ℕ) (room : at + 20 ≤ length l) (w : Option ℕ) (vs : List ℕ) (e : WritesText (decimal n) (take (length l - at) (drop at l)) w vs) where
  behind : take (length l - at) (drop at l) ≡ drop at l
  behind = ap (λ (k : ℕ). take k (drop at l)) (sym (length-drop at l)) ∙ take-length (drop at l)

  pub fitted : (w ≡ Some (length (decimal n))) × (vs ≡ splice (drop at l) 0 (decimal n))
  fitted =
      let few = decimal-most n in
      let long = length-drop at l in
      text_fitted (decimal n) (drop at l) w vs (subst (λ (d : List ℕ). WritesText (decimal n) d w vs) behind e) (omega (arith, few, long, room))

  pub decimal-end : {k : ℕ} → w ≡ Some k → at + k ≤ length l
  decimal-end {k} q =
      let few = decimal-most n in
      let is : k ≡ length (decimal n) = ap count_of (sym q ∙ fitted.0) in
      omega (arith, few, is, room)

  whole : put_mid at (length l - at) l vs ≡ take at l ++ vs
  whole =
      ap (λ (r : List ℕ). take at l ++ (vs ++ r)) (ap (λ (k : ℕ). drop k (drop at l)) (sym (length-drop at l)) ∙ drop-length (drop at l))
      ∙ ap (λ (r : List ℕ). take at l ++ r) (append-nil vs)

  pub decimal_puts : {k : ℕ} → w ≡ Some k → Puts 20 at (decimal n) l (at + k) (put_mid at (length l - at) l vs)
  decimal_puts {k} q =
      let is : k ≡ length (decimal n) = ap count_of (sym q ∙ fitted.0) in
      let from : 0 + length (decimal n) ≡ length (decimal n) = zero-add (length (decimal n)) in
      record {
        put = record {
          ends = ap (λ (m : ℕ). at + m) is;
          room = decimal-end q;
          cells = whole ∙ ap (λ (v : List ℕ). take at l ++ v)
              (fitted.1 ∙ ap (λ (m : ℕ). decimal n ++ drop m (drop at l)) from ∙ ap (λ (d : List ℕ). decimal n ++ d) (drop-drop (length (decimal n)) at l));
        };
        few = decimal-most n;
      }

-- ---- a fraction

pub few_bytes : (f : ℕ) → fraction_bytes f ≤ 4
few_bytes f = by_cases (eqb f 0) (eqb (f % 100) 0) (eqb (f % 10) 0)
  where
    by_cases : (a b c : Bool) → cond a 0 (cond b 2 (cond c 3 4)) ≤ 4
    by_cases true b c = omega arith
    by_cases false true c = omega arith
    by_cases false false true = omega arith
    by_cases false false false = omega arith

pub fraction_puts : (f : ℕ) {n a b c at next : ℕ} {l out : List ℕ} → n ≡ fraction_bytes f → a ≡ 48 + f / 100 → b ≡ 48 + f / 10 % 10 → c ≡ 48 + f % 10
    → Puts (length (take n (46 ∷ a ∷ b ∷ c ∷ []))) at (take n (46 ∷ a ∷ b ∷ c ∷ [])) l next out → Puts 4 at (fraction f) l next out
unfolding fraction
fraction_puts f {n} {a} {b} {c} {at} {next} {l} {out} en ea eb ec p =
    let same : take n (46 ∷ a ∷ b ∷ c ∷ []) ≡ fraction f =
    ap (λ (k : ℕ). take k (46 ∷ a ∷ b ∷ c ∷ [])) en
    ∙ ap (λ (d : ℕ). take (fraction_bytes f) (46 ∷ d ∷ b ∷ c ∷ [])) ea
    ∙ ap (λ (d : ℕ). take (fraction_bytes f) (46 ∷ (48 + f / 100) ∷ d ∷ c ∷ [])) eb
    ∙ ap (λ (d : ℕ). take (fraction_bytes f) (46 ∷ (48 + f / 100) ∷ (48 + f / 10 % 10) ∷ d ∷ [])) ec in
    let q : Puts (length (fraction f)) at (fraction f) l next out = subst (λ (xs : List ℕ). Puts (length xs) at xs l next out) same p in
    let few : length (fraction f) ≤ 4 = rw (length-take (fraction_bytes f) (46 ∷ (48 + f / 100) ∷ (48 + f / 10 % 10) ∷ (48 + f % 10) ∷ [])) (omega arith) in
    puts_few q few

-- ---- what a call was handed is the definition's

pub value_puts : (x : Float) {v : Value} {most at next : ℕ} {l out : List ℕ} → v ≡ value_of x → Puts most at (value_text v) l next out → Puts most at (number x) l next out
unfolding number
value_puts x {most = most} {at = at} {next = next} {l = l} {out = out} e p = subst (λ (v : Value). Puts most at (value_text v) l next out) e p

pub share_puts : (p : Partner) {s : Float} {most at next : ℕ} {l out : List ℕ} → s ≡ ratio p.intersection p.union → Puts most at (measured ": overlap " s) l next out
    → Puts most at (measured ": overlap " (ratio p.intersection p.union)) l next out
share_puts p {most = most} {at = at} {next = next} {l = l} {out = out} e q = subst (λ (s : Float). Puts most at (measured ": overlap " s) l next out) e q

-- ---- a number that a u64 has, or not

pub above_is : (w : Option ℕ) {v : Value} → MatchOption w (v ≡ value.Beyond) (λ n. v ≡ value.Above n) → v ≡ above w
above_is (Some n) e = e
above_is None e = e

pub below_is : (w : Option ℕ) {v : Value} → MatchOption w (v ≡ value.Beyond) (λ n. v ≡ value.Below n) → v ≡ below w
below_is (Some n) e = e
below_is None e = e

-- ---- a line

pub line-written : {most next : ℕ} {xs l out : List ℕ} → line_most ≤ length l → Puts most 0 xs l next out → Writes (leb line_most (length l)) 0 xs l (Some next) out
line-written {xs = xs} {l = l} h p = writes (leb line_most (length l)) (le-leb line_most (length l) h) (sym (p.put.ends ∙ zero-add (length xs))) p.put

pub line-short : (xs l : List ℕ) → length l < line_most → Writes (leb line_most (length l)) 0 xs l None l
line-short xs l h = no_write 0 xs l (leb line_most (length l)) (lt-leb line_most (length l) h)
