-- The first two steps of a turn keep what is along. Assumes nothing.
use mathlib.Core.Path.{◌≡◌, refl, sym, ap, subst, ◌∙◌}
use mathlib.Core.Bool.{Bool, true, false, not, cond, ◌&&◌, ◌||◌}
use mathlib.Core.List.{List, [], ◌++◌, append_assoc, append-nil}
use Prim.Native.Nat.{ℕ, ◌+◌, ◌-◌, ◌≤◌, ◌<◌, min}
use native.Mathlib.Omega.{arith}
use lib.Dec.{eqb, leb}
use lib.ListN.{length, take, drop, length-drop}
use lib.Seq.{take-add, length-take-le}
use borrow.Author.Tests.{leb-true, ltb-false, eqb-true, not-false}
use Rattle.std.proofs.Common.{Option, Some, None}
use Rattle.laws.specs.Tests.{and_left, and_right, true_not_false, false_not_true}
use Rattle.records.specs.BoxRecord.{box_bytes}
use Rattle.mot_line.specs.Detection.{longest_line}
use Rattle.program_io.specs.Input.{Within}
use Rattle.motbox_io.specs.declared.progress.Progress.{Progress}
use Rattle.motbox_io.specs.Text.{Converted, has_line, lines_of, behind, converted, motbox}
use Rattle.motbox_io.specs.Turn.{crowded, dry, stopped, cleared, emptied, refilled, Stands, held, Empties, Fills}
use Rattle.motbox_io.specs.Run.{waiting, written_out, read_in, brought_in}
use Rattle.motbox_io.proofs.Along.{Along}

-- a run that goes on
pub on-going : (p : Progress) → p.going ≡ true → (p.going || p.failed) ≡ true
on-going p g = ap (λ (b : Bool). b || p.failed) g

-- nothing more was read, or written
pub read-no-more : {read written : List ℕ} {p : Progress} {input out : List ℕ} → Along read written p input out → Along (read ++ []) written p input out
read-no-more {read} {written} {p} {input} {out} a = subst (λ (x : List ℕ). Along x written p input out) (sym (append-nil read)) a

pub written-no-more : {read written : List ℕ} {p : Progress} {input out : List ℕ} → Along read written p input out → Along read (written ++ []) p input out
written-no-more {read} {written} {p} {input} {out} a = subst (λ (x : List ℕ). Along read x p input out) (sym (append-nil written)) a

-- a call failed
pub along_stopped : (read written : List ℕ) (p : Progress) (input after out : List ℕ) → p.going ≡ true → Along read written p input out → Along read written (stopped p) after out
along_stopped read written p input after out g a = record {
  rest = a.rest;
  is_held = λ e. absurd (false_not_true e);
  sound = λ e. absurd (false_not_true e);
  goes = λ _ tail o. a.goes (on-going p g) tail o;
  done = λ e. absurd (true_not_false e);
}

-- ---- what waits is written out

module _ (read written : List ℕ) (p : Progress) (input out : List ℕ) (g : p.going ≡ true) (a : Along read written p input out) where
  all-written : (x : Converted) → behind (written ++ waiting p out) x ≡ behind ((written ++ waiting p out) ++ []) x
  all-written x = ap (λ (w : List ℕ). behind w x) (sym (append-nil (written ++ waiting p out)))

  along_cleared : Along read (written ++ waiting p out) (cleared p) input out
  along_cleared = record {
    rest = a.rest;
    is_held = a.is_held;
    sound = a.sound;
    goes = λ h tail o. a.goes h tail o ∙ all-written (converted p.previous p.lines (lines_of (a.rest ++ tail)));
    done = λ h. absurd (true_not_false (sym (on-going p g) ∙ h));
  }

  along_emptied : (w : Bool) → Along read (written ++ cond w (waiting p out) []) (emptied p w) input out
  along_emptied true = along_cleared
  along_emptied false = written-no-more (along_stopped read written p input input out g a)

  pub along_empties : (r : Progress) (due : Bool) (e : Empties p due r) → Along read (written ++ written_out p out due e.written) r input out
  along_empties r due e = subst (λ (x : Progress). Along read (written ++ written_out p out due e.written) x input out) (sym e.so) (by_due due)
    where
      by_due : (b : Bool) → Along read (written ++ written_out p out b e.written) (cond b (emptied p e.written) p) input out
      by_due true = along_emptied e.written
      by_due false = written-no-more a

-- ---- the buffer is filled

module _ (read written : List ℕ) (p : Progress) (before after out : List ℕ) (s : Stands p (length before)) (a : Along read written p before out) where
  abbrev kept : ℕ
  kept = p.got - p.next

  module _ (g : p.going ≡ true) (more : p.more ≡ true) (moved : take kept after ≡ held p before) where
    along_refilled : (input : Option ℕ) → Within (length before - kept) input → Along (read ++ read_in input (drop kept after)) written (refilled p kept (length before) input) after out
    along_refilled None w = read-no-more (along_stopped read written p before after out g a)
    along_refilled (Some n) w =
        let brought = take n (drop kept after) in
        let all : min (kept + n) (length before) - 0 ≡ kept + n = omega (arith, w, s.got) in
        record {
          rest = a.rest ++ brought;
          is_held = λ _. ap (λ (x : List ℕ). x ++ brought) (a.is_held g ∙ sym moved) ∙ sym (take-add kept n after) ∙ ap (λ (k : ℕ). take k after) (sym all);
          sound = a.sound;
          goes = λ h tail o.
              ap motbox (append_assoc read brought tail) ∙ a.goes h (brought ++ tail) (λ e. absurd (true_not_false (sym more ∙ e)))
              ∙ ap (λ (x : List ℕ). behind (written ++ waiting p out) (converted p.previous p.lines (lines_of x))) (sym (append_assoc a.rest brought tail));
          done = λ h. absurd (true_not_false (sym (on-going p g) ∙ h));
        }

  pub along_fills : (r : Progress) (dry : Bool) → (dry ≡ true → p.more ≡ true) → (f : Fills p dry r before after) → Along (read ++ brought_in p dry f.input after) written r after out
  along_fills r dry m f = subst (λ (x : Progress). Along (read ++ brought_in p dry f.input after) written x after out) (sym f.so) (by_due (p.going && dry) refl)
    where
      by_due : (b : Bool) → (p.going && dry) ≡ b → Along (read ++ cond b (read_in f.input (drop kept after)) []) written (cond b (refilled p kept (length before) f.input) p) after out
      by_due true e = along_refilled (and_left p.going dry e) (m (and_right p.going dry e)) (f.moved e) f.input (f.within e)
      by_due false e = read-no-more (subst (λ (x : List ℕ). Along read written p x out) (sym (f.same e)) a)

-- ---- what a run that goes on stands at then

-- the next line is whole in the buffer, or it is the last, or longer than any
abbrev pub Settled : Progress → List ℕ → Type 0
Settled p input = p.more ≡ true → has_line (held p input) ≡ false → longest_line < length (held p input)

pub held-long : (p : Progress) (input : List ℕ) → Stands p (length input) → length (held p input) ≡ p.got - p.next
held-long p input s = length-take-le (p.got - p.next) (drop p.next input) (let d = length-drop p.next input in omega (arith, s.next, s.got))

module _ (p : Progress) (input : List ℕ) (s : Stands p (length input)) (big : longest_line < length input) where
  not_dry : dry p (length input) (has_line (held p input)) ≡ false → Settled p input
  not_dry e more none = omega (arith, held-long p input s, big, full)
    where
      stays : not (eqb p.next 0 && leb (length input) p.got) ≡ false
      stays = sym (ap (λ (b : Bool). (b && not (has_line (held p input))) && not (eqb p.next 0 && leb (length input) p.got)) more ∙ ap (λ (b : Bool). not b && not (eqb p.next 0 && leb (length input) p.got)) none) ∙ e

      both : (eqb p.next 0 && leb (length input) p.got) ≡ true
      both = not-false _ stays

      full : length input ≤ p.got - p.next
      full = omega (arith, eqb-true p.next 0 (and_left (eqb p.next 0) (leb (length input) p.got) both), leb-true (length input) p.got (and_right (eqb p.next 0) (leb (length input) p.got) both))

-- the same progress but for what waits, or a call failed
module _ (p : Progress) (before after : List ℕ) (size : length after ≡ length before) (s : Stands p (length before)) (big : longest_line < length before) where
  abbrev is-dry : Bool
  is-dry = dry p (length before) (has_line (held p before))

  -- of a read that did not fail
  refilled-settled : (q : Progress) (kept : ℕ) (input : Option ℕ) → (refilled q kept (length before) input).going ≡ true → Settled (refilled q kept (length before) input) after
  refilled-settled q kept None g = absurd (false_not_true g)
  refilled-settled q kept (Some n) g = λ more none.
      let r = refilled q kept (length before) (Some n) in
      let full = leb-true (length before) (min (kept + n) (length before)) more in
      let long : length (held r after) ≡ r.got - r.next = held-long r after (record { next = omega arith; got = omega (arith, size) }) in
      omega (arith, long, full, big)

  module _ (q : Progress) (same : held q before ≡ held p before) (also : q.more ≡ p.more) where
    pub fills-settled : (r : Progress) → Fills q is-dry r before after → r.going ≡ true → Settled r after
    fills-settled r f g = by_due (q.going && is-dry) refl
      where
        by_due : (b : Bool) → (q.going && is-dry) ≡ b → Settled r after
        by_due true e =
            let so : r ≡ refilled q (q.got - q.next) (length before) f.input = f.so ∙ ap (λ (b : Bool). cond b (refilled q (q.got - q.next) (length before) f.input) q) e in
            subst (λ (x : Progress). Settled x after) (sym so) (refilled-settled q (q.got - q.next) f.input (ap (λ (x : Progress). x.going) (sym so) ∙ g))
        by_due false e =
            let so : r ≡ q = f.so ∙ ap (λ (b : Bool). cond b (refilled q (q.got - q.next) (length before) f.input) q) e in
            let stays : is-dry ≡ false = sym (ap (λ (b : Bool). b && is-dry) (ap (λ (x : Progress). x.going) (sym so) ∙ g)) ∙ e in
            let settled : Settled q before = λ more none. subst (λ (l : List ℕ). longest_line < length l) (sym same) (not_dry p before s big stays (sym also ∙ more) (ap has_line (sym same) ∙ none)) in
            subst (λ (x : Progress). Settled x after) (sym so) (subst (Settled q) (sym (f.same e)) settled)

-- what is held, and whether more can be read, is the same once what waits is written out
emptied-same : (p : Progress) (input : List ℕ) (w : Bool) → (held (emptied p w) input ≡ held p input) × ((emptied p w).more ≡ p.more)
emptied-same p input true = (refl, refl)
emptied-same p input false = (refl, refl)

pub empties-same : (p r : Progress) (input : List ℕ) (due : Bool) → Empties p due r → (held r input ≡ held p input) × (r.more ≡ p.more)
empties-same p r input due e = subst (λ (x : Progress). (held x input ≡ held p input) × (x.more ≡ p.more)) (sym e.so) (by_due due)
  where
    by_due : (b : Bool) → (held (cond b (emptied p e.written) p) input ≡ held p input) × ((cond b (emptied p e.written) p).more ≡ p.more)
    by_due true = emptied-same p input e.written
    by_due false = (refl, refl)

-- ---- there is room for a record

abbrev pub Room : Progress → List ℕ → Type 0
Room p out = p.going ≡ true → p.used + box_bytes ≤ length out

emptied-room : (p : Progress) (out : List ℕ) (w : Bool) → box_bytes ≤ length out → Room (emptied p w) out
emptied-room p out true h = λ _. omega (arith, h)
emptied-room p out false h = λ g. absurd (false_not_true g)

module _ (p : Progress) (out : List ℕ) (h : box_bytes ≤ length out) (u : p.used ≤ length out) where
  pub empties-room : (r : Progress) (d : Bool) → Empties p (crowded p.used (length out) || d) r → Room r out
  empties-room r d e = subst (λ (x : Progress). Room x out) (sym e.so) (by_due (crowded p.used (length out)) d refl)
    where
      by_due : (c b : Bool) → crowded p.used (length out) ≡ c → Room (cond (c || b) (emptied p e.written) p) out
      by_due true b f = emptied-room p out e.written h
      by_due false true f = emptied-room p out e.written h
      by_due false false f = λ _. omega (arith, ltb-false (length out - p.used) box_bytes f, u)

pub fills-room : (p r : Progress) (dry : Bool) (before after out : List ℕ) → Fills p dry r before after → Room p out → Room r out
fills-room p r dry before after out f room = subst (λ (x : Progress). Room x out) (sym f.so) (by_due (p.going && dry))
  where
    by_input : (input : Option ℕ) → Room (refilled p (p.got - p.next) (length before) input) out
    by_input (Some n) = room
    by_input None = λ g. absurd (false_not_true g)

    by_due : (b : Bool) → Room (cond b (refilled p (p.got - p.next) (length before) f.input) p) out
    by_due true = by_input f.input
    by_due false = room
