-- `printed`: what specs/Printed.antt states holds. Assumes nothing.
use mathlib.Core.Path.{◌≡◌, refl, sym, ap, subst, ◌∙◌}
use mathlib.Core.Bool.{Bool, true, false, not, cond, ◌&&◌, ◌||◌}
use mathlib.Core.List.{List, [], ◌++◌, append_assoc, append-nil}
use mathlib.Core.Logic.{◌⊎◌, inl, inr}
use Prim.Native.Nat.{ℕ, ◌+◌, ◌-◌, ◌≤◌, ◌<◌}
use lib.Dec.{eqb, leb, ltb}
use native.Mathlib.Omega.{arith}
use lib.ListN.{length}
use borrow.Author.Tests.{ltb-false}
use Rattle.laws.specs.Tests.{and_left, true_not_false}
use Rattle.records.specs.BoxRecord.{box_bytes}
use Rattle.mot_line.specs.Detection.{longest_line}
use Rattle.program_io.specs.Prefix.{Prefix}
use Rattle.program_io.proofs.Laws.{turns-left, goes_on}
use Rattle.motbox_io.specs.declared.progress.Progress.{Progress}
use Rattle.motbox_io.specs.Text.{Converted, has_line, lines_of, converted, converting, motbox}
use Rattle.motbox_io.specs.Turn.{input_bytes, output_bytes, start, emptied, Stands, held, is_dry, Empties, Turned}
use Rattle.motbox_io.specs.Run.{waiting, written_out, written_by, brought_by, Run, begun, turned, most_turns, Ran, all_written}
use Rattle.motbox_io.specs.Printed.{Onward, line_at, Printed}
use Rattle.motbox_io.proofs.Along.{Along}
use Rattle.motbox_io.proofs.TurnLaws.{stands-empties, stands-fills, stands-takes, used-empties, used-fills, used-takes}
use Rattle.motbox_io.proofs.Steps.{along_empties, along_fills, empties-same, fills-settled, empties-room, fills-room}
use Rattle.motbox_io.proofs.Taking.{along_takes}

-- ---- turn after turn

start_along : (input out : List ℕ) → Along [] [] start input out
start_along input out = record { rest = []; is_held = λ _. refl; sound = λ _. (refl, refl); goes = λ _ tail o. refl; done = λ h. absurd (true_not_false h) }

turn_along : (read written : List ℕ) (p r : Progress) (before after out out' : List ℕ) → length after ≡ length before → longest_line < length before → box_bytes ≤ length out → Stands p (length before) → p.used ≤ length out
    → p.going ≡ true → (t : Turned p r before after out out') → Along read written p before out → Along (read ++ brought_by t) (written ++ written_by t) r after out'
turn_along read written p r before after out out' size big room s u g t a =
    let same = empties-same p t.flushed before _ t.empties in
    let flushed = stands-empties (length before) p t.flushed _ s t.empties in
    let ready = stands-fills (length before) t.flushed t.ready _ before after refl flushed t.fills in
    let along = along_fills read (written ++ written_by t) t.flushed before after out flushed (along_empties read written p before out g a t.flushed _ t.empties) t.ready _ more t.fills in
    along_takes (read ++ brought_by t) (written ++ written_by t) t.ready r after out out' (subst (Stands t.ready) (sym size) ready)
    (fills-room t.flushed t.ready _ before after out t.fills (empties-room p out room u t.flushed _ t.empties))
    (fills-settled p before after size s big t.flushed same.0 same.1 t.ready t.fills) t.takes along
  where
    more : is_dry p before ≡ true → t.flushed.more ≡ true
    more e = (empties-same p t.flushed before _ t.empties).1 ∙ and_left p.more (not (has_line (held p before))) (and_left (p.more && not (has_line (held p before))) (not (eqb p.next 0 && leb (length before) p.got)) e)

-- what holds after any turns
pub record Running (read written : List ℕ) (p : Progress) (input out : List ℕ) : Type 0 where
  pub big : longest_line < length input
  pub room : box_bytes ≤ length out
  pub stands : Stands p (length input)
  pub used : p.used ≤ length out
  pub along : Along read written p input out

runs_on : (read written : List ℕ) (p r : Progress) (before after out out' : List ℕ) → length after ≡ length before → length out' ≡ length out → p.going ≡ true → Running read written p before out
    → (t : Turned p r before after out out') → Running (read ++ brought_by t) (written ++ written_by t) r after out'
runs_on read written p r before after out out' size long g run t =
    let flushed = stands-empties (length before) p t.flushed _ run.stands t.empties in
    let ready = stands-fills (length before) t.flushed t.ready _ before after refl flushed t.fills in
    let some = used-fills t.flushed t.ready (length out) _ before after (used-empties p t.flushed (length out) _ run.used t.empties) t.fills in
    record {
      big = subst (λ (n : ℕ). longest_line < n) (sym size) run.big;
      room = subst (λ (n : ℕ). box_bytes ≤ n) (sym long) run.room;
      stands = subst (Stands r) (sym size) (stands-takes (length before) t.ready r after out out' ready t.takes);
      used = subst (λ (n : ℕ). r.used ≤ n) (sym long) (used-takes t.ready r after out out' some t.takes);
      along = turn_along read written p r before after out out' size run.big run.room run.stands run.used g t run.along;
    }

pub running : {n : ℕ} {read written : List ℕ} {p : Progress} {input out : List ℕ} → Run n read written p input out → Running read written p input out
running (begun input out big room) = record { big = big; room = room; stands = record { next = omega arith; got = omega arith }; used = omega arith; along = start_along input out }
running (turned run g size long t) = runs_on _ _ _ _ _ _ _ _ size long g (running run) t

-- what holds between two turns of the loop, of which so many are made
pub record Looping (made : ℕ) (p : Progress) (input out : List ℕ) : Type 0 where
  pub input_size : length input ≡ input_bytes
  pub out_size : length out ≡ output_bytes
  pub read : List ℕ
  pub written : List ℕ
  pub run : Run made read written p input out

pub loops_on : (made : ℕ) (p r : Progress) (before after out out' : List ℕ) → length after ≡ length before → length out' ≡ length out → p.going ≡ true → Looping made p before out
    → Turned p r before after out out' → Looping (made + 1) r after out'
loops_on made p r before after out out' size long on l t = record {
  input_size = size ∙ l.input_size;
  out_size = long ∙ l.out_size;
  read = l.read ++ brought_by t;
  written = l.written ++ written_by t;
  run = turned l.run on size long t;
}

pub loop_ends : (made : ℕ) (p r : Progress) (input out : List ℕ) → (p.going ≡ false) ⊎ (made ≡ most_turns) → Looping made p input out → Empties p (not p.failed) r → Ran r
loop_ends made p r input out over l e = record {
  turns = made;
  read = l.read;
  written = l.written;
  last = p;
  input = input;
  out = out;
  input_size = l.input_size;
  out_size = l.out_size;
  run = l.run;
  ended = over;
  empties = e;
}

-- ---- what was written

module _ {read written : List ℕ} {p : Progress} {input out : List ℕ} (a : Along read written p input out) (tail : List ℕ) (o : Onward p tail) where
  along_prefix : Prefix (written ++ waiting p out) (motbox (read ++ tail)).records
  along_prefix = go (p.going || p.failed) refl
    where
      go : (b : Bool) → (p.going || p.failed) ≡ b → Prefix (written ++ waiting p out) (motbox (read ++ tail)).records
      go true h = record { rest = (converted p.previous p.lines (lines_of (a.rest ++ tail))).records; split = ap (λ (c : Converted). c.records) (a.goes h tail o) }
      go false h = record { rest = []; split = ap (λ (c : Converted). c.records) (a.done h tail o) ∙ sym (append-nil (written ++ waiting p out)) }

-- less of it is a prefix too
shorter : (xs ys : List ℕ) {all : List ℕ} → Prefix (xs ++ ys) all → Prefix (xs ++ []) all
shorter xs ys f = record { rest = ys ++ f.rest; split = f.split ∙ append_assoc xs ys f.rest ∙ ap (λ (x : List ℕ). x ++ (ys ++ f.rest)) (sym (append-nil xs)) }

prefix-is : (n : ℕ) (read written : List ℕ) (p : Progress) (input out : List ℕ) → Run n read written p input out → (tail : List ℕ) → Onward p tail → Prefix (written ++ waiting p out) (motbox (read ++ tail)).records
prefix-is n read written p input out run tail o = along_prefix (running run).along tail o

-- ---- a whole run: by whether a call failed before its end, and whether the last writes succeeded

module _ (r : Progress) (l : Ran r) where
  abbrev ending : Bool → Bool → Progress
  ending failed written = cond (not failed) (emptied l.last written) l.last

  more-is : (failed written : Bool) → (ending failed written).more ≡ l.last.more
  more-is true written = refl
  more-is false true = refl
  more-is false false = refl

  onward : (tail : List ℕ) → Onward r tail → Onward l.last tail
  onward tail o e = o (ap (λ (x : Progress). x.more) l.empties.so ∙ more-is l.last.failed l.empties.written ∙ e)

  part-is : (tail : List ℕ) → Onward r tail → Prefix (all_written l) (motbox (l.read ++ tail)).records
  part-is tail o = go l.last.failed l.empties.written
    where
      most : Prefix (l.written ++ waiting l.last l.out) (motbox (l.read ++ tail)).records
      most = along_prefix (running l.run).along tail (onward tail o)

      go : (failed written : Bool) → Prefix (l.written ++ written_out l.last l.out (not failed) written) (motbox (l.read ++ tail)).records
      go true written = shorter l.written (waiting l.last l.out) most
      go false true = most
      go false false = shorter l.written (waiting l.last l.out) most

  -- the loop was not cut short
  over : l.turns < most_turns → l.last.going ≡ false
  over few = by_ended l.ended
    where
      by_ended : (l.last.going ≡ false) ⊎ (l.turns ≡ most_turns) → l.last.going ≡ false
      by_ended (inl e) = e
      by_ended (inr e) = absurd (omega (arith, few, e))

  whole_is : r.failed ≡ false → l.turns < most_turns → (tail : List ℕ) → Onward r tail → motbox (l.read ++ tail) ≡ converting (all_written l) r.refusal (line_at r)
  whole_is sound few tail o =
      subst (λ (x : Progress). x.failed ≡ false → motbox (l.read ++ tail) ≡ converting (all_written l) x.refusal (line_at x)) (sym l.empties.so) (go l.last.failed refl l.empties.written) sound
    where
      go : (failed : Bool) → l.last.failed ≡ failed → (written : Bool) → (ending failed written).failed ≡ false
          → motbox (l.read ++ tail) ≡ converting (l.written ++ written_out l.last l.out (not failed) written) (ending failed written).refusal (line_at (ending failed written))
      go true f written h = absurd (true_not_false (sym f ∙ h))
      go false f true h = (running l.run).along.done (ap (λ (b : Bool). b || l.last.failed) (over few) ∙ f) tail (onward tail o)
      go false f false h = absurd (true_not_false h)

pub printed : Printed
printed = record { prefix = prefix-is; part = part-is; whole = whole_is }
