-- The last step of a turn keeps what is along: a line is read, or turned away, or none is left. Assumes nothing.
use mathlib.Core.Path.{◌≡◌, refl, sym, ap, subst, ◌∙◌}
use mathlib.Core.Bool.{Bool, true, false, not, cond, ◌||◌}
use mathlib.Core.List.{List, [], ◌∷◌, ◌++◌, append_assoc, append-nil}
use mathlib.Core.Logic.{◌⊎◌, inl, inr}
use Prim.Native.Nat.{ℕ, zero, suc, ◌+◌, ◌-◌, ◌≤◌, ◌<◌, min}
use native.Mathlib.Nat.{sub-zero, zero-sub, suc-sub-suc}
use native.Mathlib.Omega.{arith}
use lib.Dec.{eqb}
use lib.ListN.{length, take, drop, length-append, length-drop, take-append-drop}
use lib.Seq.{take-length, take_at, take-nil, length-take-le, drop-drop}
use borrow.Author.Tests.{eqb-true, eqb-false}
use Rattle.std.proofs.Common.{Result, Ok, Err}
use Rattle.mot_number.specs.Index.{index_of}
use Rattle.laws.specs.Tests.{true_not_false, false_not_true}
use Rattle.records.specs.BoxRecord.{box_bytes}
use Rattle.mot_line.specs.declared.call.Refusal.{Refusal}
use Rattle.mot_line.specs.declared.call.Refusal.TheVariants.{NotOfTheForm, BadValue, NoRoom}
use Rattle.mot_line.specs.Line.{is_detection}
use Rattle.mot_line.specs.Call.{number, refusal_number, Outcome, mot_line}
use Rattle.mot_line.specs.Detection.{longest_line}
use Rattle.motbox_io.specs.declared.progress.Progress.{Progress}
use Rattle.motbox_io.specs.Text.{Converted, has_line, line_length, lines_of, converting, behind, later, blank, converted, motbox}
use Rattle.motbox_io.specs.Turn.{done, answered, Stands, held, After, leaving, line_taken, taken}
use Rattle.motbox_io.specs.Run.{waiting}
use Rattle.motbox_io.specs.Printed.{Onward}
use Rattle.motbox_io.proofs.Along.{Along}
use Rattle.motbox_io.proofs.TurnLaws.{line-within}
use Rattle.motbox_io.proofs.FirstLine.{first-line, no_line, no-feed-refused}
use Rattle.motbox_io.proofs.Converting.{refused_not_read, line_adds, line-ends, no_form, same_answer, read-leaves}
use Rattle.motbox_io.proofs.Steps.{on-going, held-long, Settled, Room}

number-some : (why : Refusal) → eqb (number why) 0 ≡ false
number-some NotOfTheForm = refl
number-some BadValue = refl
number-some NoRoom = refl

no_bytes : (l : List ℕ) → length l ≡ 0 → l ≡ []
no_bytes [] e = refl
no_bytes (x ∷ xs) e = absurd (omega (arith, e))

drop_of_take : (n m : ℕ) (l : List ℕ) → drop n (take m l) ≡ take (m - n) (drop n l)
drop_of_take zero m l = ap (λ (k : ℕ). take k l) (sym (sub-zero m))
drop_of_take (suc n) zero l = sym (ap (λ (k : ℕ). take k (drop (suc n) l)) (zero-sub (suc n)))
drop_of_take (suc n) (suc m) [] = sym (take-nil (suc m - suc n))
drop_of_take (suc n) (suc m) (x ∷ xs) = drop_of_take n m xs ∙ ap (λ (k : ℕ). take k (drop n xs)) (sym (suc-sub-suc m n))

behind-behind : (xs ys : List ℕ) (c : Converted) → behind xs (behind ys c) ≡ behind (xs ++ ys) c
behind-behind xs ys c = ap (λ (r : List ℕ). converting r c.refusal c.line) (sym (append_assoc xs ys c.records))

module _ (read written : List ℕ) (p : Progress) (input out : List ℕ) (s : Stands p (length input)) (g : p.going ≡ true) (room : Room p out) (settled : Settled p input) (a : Along read written p input out) where
  -- what is held, and its first line
  abbrev t : List ℕ
  t = held p input

  abbrev n : ℕ
  n = line_length t

  abbrev l : List ℕ
  l = take n t

  abbrev said : List ℕ
  said = written ++ waiting p out

  -- what the definition says from here on
  goes_on : (tail : List ℕ) → Onward p tail → motbox (read ++ tail) ≡ behind said (converted p.previous p.lines (lines_of (t ++ tail)))
  goes_on tail o = a.goes (on-going p g) tail o ∙ ap (λ (x : List ℕ). behind said (converted p.previous p.lines (lines_of (x ++ tail)))) (a.is_held g)

  not_failed : (false || p.failed) ≡ true → ⊥
  not_failed h = true_not_false (sym h ∙ (a.sound g).0)

  -- ---- none is left

  none-held : n ≡ 0 → (has_line t ≡ false) × (length t ≡ 0)
  none-held z = go (has_line t) refl
    where
      go : (b : Bool) → has_line t ≡ b → (has_line t ≡ false) × (length t ≡ 0)
      go true e = let k : index_of 10 t + 1 ≡ 0 = sym (ap (λ (b : Bool). cond b (index_of 10 t + 1) (length t)) e) ∙ z in absurd (omega (arith, k))
      go false e = (e, sym (ap (λ (b : Bool). cond b (index_of 10 t + 1) (length t)) e) ∙ z)

  is_last : n ≡ 0 → p.more ≡ false
  is_last z = go p.more refl
    where
      go : (b : Bool) → p.more ≡ b → b ≡ false
      go true e = absurd (omega (arith, settled e (none-held z).0, (none-held z).1))
      go false e = refl

  nothing : n ≡ 0 → (tail : List ℕ) → Onward p tail → converted p.previous p.lines (lines_of (t ++ tail)) ≡ converting [] 0 p.lines
  unfolding converted lines_of
  nothing z tail o = ap (λ (x : List ℕ). converted p.previous p.lines (lines_of (x ++ tail))) (no_bytes t (none-held z).1) ∙ ap (λ (x : List ℕ). converted p.previous p.lines (lines_of x)) (o (is_last z))

  along_done : n ≡ 0 → Along read written (done p) input out
  along_done z = record {
    rest = a.rest;
    is_held = λ e. absurd (false_not_true e);
    sound = λ e. absurd (false_not_true e);
    goes = λ h. absurd (not_failed h);
    done = λ h tail o. goes_on tail o ∙ ap (behind said) (nothing z tail o) ∙ ap (λ (x : List ℕ). converting x 0 p.lines) (append-nil said) ∙ sym (ap (λ (k : ℕ). converting said k (cond (eqb k 0) p.lines (later p.lines))) (a.sound g).1);
  }

  -- ---- a line is turned away

  along_refused : (why : Refusal) (out' : List ℕ) → waiting p out' ≡ waiting p out
      → ((tail : List ℕ) → Onward p tail → converted p.previous p.lines (lines_of (t ++ tail)) ≡ converting [] (number why) (later p.lines))
      → Along read written (answered p n (length out) (Err why)) input out'
  along_refused why out' same ends = record {
    rest = a.rest;
    is_held = λ e. absurd (false_not_true e);
    sound = λ e. absurd (false_not_true e);
    goes = λ h. absurd (not_failed h);
    done = λ h tail o.
        goes_on tail o ∙ ap (behind said) (ends tail o) ∙ ap (λ (x : List ℕ). converting x (number why) (later p.lines)) (append-nil said ∙ ap (λ (x : List ℕ). written ++ x) (sym same))
        ∙ sym (ap (λ (b : Bool). converting (written ++ waiting p out') (number why) (cond b p.lines (later p.lines))) (number-some why));
  }

  -- ---- a line is read

  abbrev call : Outcome
  call = mot_line l p.previous (drop p.used out)

  abbrev added : List ℕ
  added = (mot_line l p.previous blank).out

  has_room : box_bytes ≤ length (drop p.used out)
  has_room = omega (arith, length-drop p.used out, room g)

  split-line : l ++ drop n t ≡ t
  split-line = take-append-drop n t

  -- what is held then
  left-held : drop n t ≡ take (p.got - min (p.next + n) p.got) (drop (min (p.next + n) p.got) input)
  left-held =
      let w : n ≤ p.got - p.next = omega (arith, line-within t, held-long p input s) in
      let i : min (p.next + n) p.got ≡ p.next + n = omega (arith, w, s.next) in
      let k : p.got - p.next - n ≡ p.got - min (p.next + n) p.got = omega (arith, w, s.next) in
      drop_of_take n (p.got - p.next) (drop p.next input) ∙ ap (take (p.got - p.next - n)) (drop-drop n p.next input ∙ ap (λ (j : ℕ). drop j input) (sym i))
      ∙ ap (λ (j : ℕ). take j (drop (min (p.next + n) p.got) input)) k

  module _ (frame : ℕ) (e : call.answer ≡ Ok frame) where
    -- what waits then
    waits : take (min (p.used + box_bytes) (length out)) (take p.used out ++ call.out) ≡ waiting p out ++ added
    waits =
        let r = read-leaves l p.previous (drop p.used out) has_room frame e in
        let i : min (p.used + box_bytes) (length out) ≡ p.used + box_bytes = omega (arith, room g) in
        let u : length (take p.used out) ≡ p.used = length-take-le p.used out (omega (arith, room g)) in
        let long : length (waiting p out ++ added) ≡ p.used + box_bytes = length-append (waiting p out) added ∙ rw (u, r.1) in
        ap (λ (k : ℕ). take k (take p.used out ++ call.out)) i
        ∙ ap (λ (x : List ℕ). take (p.used + box_bytes) (waiting p out ++ x)) r.0 ∙ ap (take (p.used + box_bytes)) (sym (append_assoc (waiting p out) added (drop box_bytes (drop p.used out))))
        ∙ take_at (waiting p out ++ added) (drop box_bytes (drop p.used out)) (p.used + box_bytes) long

    said-then : said ++ added ≡ written ++ take (min (p.used + box_bytes) (length out)) (take p.used out ++ call.out)
    said-then = append_assoc written (waiting p out) added ∙ ap (λ (x : List ℕ). written ++ x) (sym waits)

    along_read : has_line t ≡ true → Along read written (answered p n (length out) (Ok frame)) input (take p.used out ++ call.out)
    along_read whole = record {
      rest = drop n t;
      is_held = λ _. left-held;
      sound = a.sound;
      goes = λ h tail o.
          let rest = lines_of (drop n t ++ tail) in
          goes_on tail o ∙ ap (λ (ls : List (List ℕ)). behind said (converted p.previous p.lines ls)) (first-line t tail whole)
          ∙ ap (behind said) (line_adds p.previous p.lines l rest frame (same_answer l p.previous (drop p.used out) has_room ∙ e)) ∙ behind-behind said added (converted frame (later p.lines) rest)
          ∙ ap (λ (x : List ℕ). behind x (converted frame (later p.lines) rest)) said-then;
      done = λ h. absurd (true_not_false (sym (on-going p g) ∙ h));
    }

  -- ---- by what the call answered

  -- a line without its line feed is all that is held
  all_held : has_line t ≡ false → l ≡ t
  all_held none = ap (λ (k : ℕ). take k t) (ap (λ (b : Bool). cond b (index_of 10 t + 1) (length t)) none) ∙ take-length t

  no-feed : has_line t ≡ false → is_detection l ≡ false
  no-feed none = ap is_detection (all_held none) ∙ no-feed-refused t none

  ends : (n ≡ 0 → ⊥) → (why : Refusal) → call.answer ≡ Err why → (tail : List ℕ) → Onward p tail → converted p.previous p.lines (lines_of (t ++ tail)) ≡ converting [] (number why) (later p.lines)
  ends some why e tail o = go (has_line t) refl
    where
      which : (b : Bool) → p.more ≡ b → has_line t ≡ false → (tail ≡ []) ⊎ (longest_line < length t)
      which true m none = inr (settled m none)
      which false m none = inl (o m)

      go : (b : Bool) → has_line t ≡ b → converted p.previous p.lines (lines_of (t ++ tail)) ≡ converting [] (number why) (later p.lines)
      go true whole =
          ap (converted p.previous p.lines) (first-line t tail whole)
          ∙ line-ends p.previous p.lines l (lines_of (drop n t ++ tail)) why (same_answer l p.previous (drop p.used out) has_room ∙ e)
      go false none =
          let first = no_line t tail none (omega (arith, some, line-within t, ap (λ (b : Bool). cond b (index_of 10 t + 1) (length t)) none)) (which p.more refl none) in
          let same : Err NotOfTheForm ≡ Err why = sym (no_form l p.previous (drop p.used out) (no-feed none)) ∙ e in
          ap (converted p.previous p.lines) first.is ∙ line-ends p.previous p.lines first.line first.others NotOfTheForm (no_form first.line p.previous blank first.refused)
          ∙ ap (λ (k : ℕ). converting [] k (later p.lines)) (ap refusal_number same)

  along_answered : (n ≡ 0 → ⊥) → (answer : Result ℕ Refusal) → call.answer ≡ answer → Along read written (answered p n (length out) answer) input (take p.used out ++ call.out)
  along_answered some (Ok frame) e = go (has_line t) refl
    where
      go : (b : Bool) → has_line t ≡ b → Along read written (answered p n (length out) (Ok frame)) input (take p.used out ++ call.out)
      go true whole = along_read frame e whole
      go false none = absurd (refused_not_read NotOfTheForm frame (sym (no_form l p.previous (drop p.used out) (no-feed none)) ∙ e))
  along_answered some (Err why) e =
      along_refused why (take p.used out ++ call.out) (take_at (take p.used out) call.out p.used (length-take-le p.used out (omega (arith, room g)))) (ends some why e)

-- ---- the step

abbrev AlongLeft : List ℕ → List ℕ → List ℕ → After → Type 0
AlongLeft read written input x = Along read written x.progress input x.out

along_taken : (read written : List ℕ) (p : Progress) (input out : List ℕ) → Stands p (length input) → Room p out → (p.going ≡ true → Settled p input) → Along read written p input out
    → AlongLeft read written input (taken p input out)
unfolding taken
along_taken read written p input out s room settled a = go p.going refl (eqb (line_length (held p input)) 0) refl
  where
    go : (b : Bool) → p.going ≡ b → (z : Bool) → eqb (line_length (held p input)) 0 ≡ z
        → AlongLeft read written input (cond (not b) (leaving p out) (cond z (leaving (done p) out) (line_taken p (held p input) (line_length (held p input)) out)))
    go false g z e = a
    go true g true e = along_done read written p input out s g room (settled g) a (eqb-true (line_length (held p input)) 0 e)
    go true g false e = along_answered read written p input out s g room (settled g) a (eqb-false (line_length (held p input)) 0 e) (call read written p input out s g room (settled g) a).answer refl

pub along_takes : (read written : List ℕ) (p r : Progress) (input out out' : List ℕ) → Stands p (length input) → Room p out → (p.going ≡ true → Settled p input) → leaving r out' ≡ taken p input out
    → Along read written p input out → Along read written r input out'
along_takes read written p r input out out' s room settled e a = subst (AlongLeft read written input) (sym e) (along_taken read written p input out s room settled a)
