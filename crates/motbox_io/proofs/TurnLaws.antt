-- Each return of the steps of a turn is the contract's case, and what was read and what waits stay within their arrays. Assumes nothing.
use mathlib.Core.Path.{◌≡◌, refl, sym, ap, subst, ◌∙◌}
use mathlib.Core.Bool.{Bool, true, false, not, cond, ◌&&◌, ◌||◌}
use mathlib.Core.List.{List, ◌++◌}
use Prim.Native.Nat.{ℕ, ◌+◌, ◌-◌, ◌≤◌}
use native.Mathlib.Omega.{arith}
use lib.Dec.{eqb}
use lib.ListN.{length, take, drop, length-drop}
use lib.Seq.{take_at, length-take-le}
use borrow.Author.Tests.{ltb-true, eq-eqb, ne_eqb}
use borrow.Rule.Slice.PartMut.{mid_of, put_mid, take_put}
use Rattle.std.proofs.Common.{Option, Some, None, Result, Ok, Err}
use Rattle.mot_number.specs.Index.{index_of}
use Rattle.laws.specs.Tests.{true_not_false}
use Rattle.laws.specs.Over.{tail-part, tail-put}
use Rattle.mot_line.specs.declared.call.Refusal.{Refusal}
use Rattle.mot_line.specs.Call.{Outcome, outcome, mot_line}
use Rattle.program_io.specs.Input.{Within}
use Rattle.motbox_io.specs.declared.progress.Progress.{Progress}
use Rattle.motbox_io.specs.Text.{has_line, line_length}
use Rattle.motbox_io.specs.Turn.{crowded, dry, emptied, refilled, done, answered, Stands, held, Empties, Fills, After, leaving, line_taken, taken, Turned}

-- ---- what waits is written out

pub not_due : (p : Progress) (due : Bool) → due ≡ false → Empties p due p
not_due p due off = record { written = true; so = ap (λ (b : Bool). cond b (emptied p true) p) (sym off) }

pub was_due : (p : Progress) (due written : Bool) {r : Progress} → due ≡ true → r ≡ emptied p written → Empties p due r
was_due p due written on q = record { written = written; so = q ∙ ap (λ (b : Bool). cond b (emptied p written) p) (sym on) }

-- ---- the buffer is filled

pub not_filled : (p : Progress) (dry : Bool) (before : List ℕ) → (p.going && dry) ≡ false → Fills p dry p before before
not_filled p dry before off =
    record {
      input = None;
      within = λ _. tt;
      so = ap (λ (b : Bool). cond b (refilled p (p.got - p.next) (length before) None) p) (sym off);
      moved = λ on. absurd (true_not_false (sym on ∙ off));
      same = λ _. refl;
    }

module _ (p : Progress) (dry : Bool) (before : List ℕ) (s : Stands p (length before)) (on : (p.going && dry) ≡ true) where
  abbrev kept : ℕ
  kept = p.got - p.next

  -- shifted is the buffer with what is left at its front, and brought what the read left behind that
  pub was_filled : (shifted brought : List ℕ) (input : Option ℕ) {r : Progress} → length shifted ≡ length before → shifted ≡ held p before ++ drop kept before
      → Within (length (mid_of kept (length shifted - kept) shifted)) input → r ≡ refilled p kept (length shifted) input → Fills p dry r before (put_mid kept (length shifted - kept) shifted brought)
  was_filled shifted brought input size front within q =
      let room : length (mid_of kept (length shifted - kept) shifted) ≡ length before - kept = ap length (tail-part shifted kept) ∙ length-drop kept shifted ∙ ap (λ (n : ℕ). n - kept) size in
      let long : length (held p before) ≡ kept = length-take-le kept (drop p.next before) (let d = length-drop p.next before in omega (arith, s.next, s.got)) in
      record {
        input = input;
        within = λ _. subst (λ (n : ℕ). Within n input) room within;
        so = q ∙ ap (λ (n : ℕ). refilled p kept n input) size ∙ ap (λ (b : Bool). cond b (refilled p kept (length before) input) p) (sym on);
        moved = λ _. take_put kept (length shifted - kept) shifted brought (omega (arith, size, s.got)) ∙ ap (take kept) front ∙ take_at (held p before) (drop kept before) kept long;
        same = λ off. absurd (true_not_false (sym on ∙ off));
      }

-- ---- a line is taken

pub line-within : (t : List ℕ) → line_length t ≤ length t
line-within t = go (has_line t) refl
  where
    go : (b : Bool) → has_line t ≡ b → cond b (index_of 10 t + 1) (length t) ≤ length t
    go true e = let i = ltb-true (index_of 10 t) (length t) e in omega arith
    go false e = omega arith

pub line-front : {n : ℕ} (t : List ℕ) → n ≡ line_length t → n ≡ length (take n t)
line-front {n} t e = sym (length-take-le n t (let w = line-within t in omega (arith, e)))

module _ (p : Progress) (input out : List ℕ) where
  pub stays : not p.going ≡ true → leaving p out ≡ taken p input out
  unfolding taken
  stays h = rw h

  module _ (h : not p.going ≡ false) {n : ℕ} (is : n ≡ line_length (held p input)) where
    pub none_left : {r : Progress} → n ≡ 0 → r ≡ done p → leaving r out ≡ taken p input out
    unfolding taken
    none_left z q = let e : eqb (line_length (held p input)) 0 ≡ true = eq-eqb _ 0 (sym is ∙ z) in rw (h, e, q)

    pub one-taken : {r : Progress} (a : Result ℕ Refusal) (text : List ℕ) → (n ≡ 0 → ⊥) → outcome a text ≡ mot_line (take n (held p input)) p.previous (mid_of p.used (length out - p.used) out)
        → r ≡ answered p n (length out) a → leaving r (put_mid p.used (length out - p.used) out text) ≡ taken p input out
    unfolding taken
    one-taken {r} a text some call q =
        let e : eqb (line_length (held p input)) 0 ≡ false = ne_eqb _ 0 (λ z. some (is ∙ z)) in
        let c : outcome a text ≡ mot_line (take n (held p input)) p.previous (drop p.used out) = call ∙ ap (mot_line (take n (held p input)) p.previous) (tail-part out p.used) in
        let by : Outcome → After = λ x. leaving (answered p n (length out) x.answer) (take p.used out ++ x.out) in
        rw (h, e) (ap (λ (x : Progress). leaving x (put_mid p.used (length out - p.used) out text)) q
        ∙ ap (leaving (answered p n (length out) a)) (tail-put out text p.used) ∙ ap by c ∙ ap (λ (k : ℕ). line_taken p (held p input) k out) is)

-- ---- what is known stays within the arrays

module _ (size : ℕ) where
  stands-emptied : (p : Progress) (w : Bool) → Stands p size → Stands (emptied p w) size
  stands-emptied p true s = record { next = s.next; got = s.got }
  stands-emptied p false s = record { next = s.next; got = s.got }

  pub stands-empties : (p r : Progress) (due : Bool) → Stands p size → Empties p due r → Stands r size
  stands-empties p r due s e = subst (λ (x : Progress). Stands x size) (sym e.so) (by_due due)
    where
      by_due : (b : Bool) → Stands (cond b (emptied p e.written) p) size
      by_due true = stands-emptied p e.written s
      by_due false = s

  stands-refilled : (p : Progress) (kept n : ℕ) (i : Option ℕ) → n ≡ size → Stands p size → Stands (refilled p kept n i) size
  stands-refilled p kept n (Some k) e s = record { next = omega arith; got = omega (arith, e) }
  stands-refilled p kept n None e s = record { next = s.next; got = s.got }

  pub stands-fills : (p r : Progress) (dry : Bool) (before after : List ℕ) → length before ≡ size → Stands p size → Fills p dry r before after → Stands r size
  stands-fills p r dry before after z s e = subst (λ (x : Progress). Stands x size) (sym e.so) (by_due (p.going && dry))
    where
      by_due : (b : Bool) → Stands (cond b (refilled p (p.got - p.next) (length before) e.input) p) size
      by_due true = stands-refilled p (p.got - p.next) (length before) e.input z s
      by_due false = s

  stands-answered : (p : Progress) (n room : ℕ) (a : Result ℕ Refusal) → Stands p size → Stands (answered p n room a) size
  stands-answered p n room (Ok frame) s = record { next = omega arith; got = s.got }
  stands-answered p n room (Err why) s = record { next = s.next; got = s.got }

  stands-taken : (p : Progress) (input out : List ℕ) → Stands p size → Stands (taken p input out).progress size
  unfolding taken
  stands-taken p input out s = go (not p.going) (eqb (line_length (held p input)) 0)
    where
      go : (b c : Bool) → Stands (cond b (leaving p out) (cond c (leaving (done p) out) (line_taken p (held p input) (line_length (held p input)) out))).progress size
      go true c = s
      go false true = record { next = s.next; got = s.got }
      go false false = stands-answered p (line_length (held p input)) (length out) (mot_line (take (line_length (held p input)) (held p input)) p.previous (drop p.used out)).answer s

  pub stands-takes : (p r : Progress) (input out out' : List ℕ) → Stands p size → leaving r out' ≡ taken p input out → Stands r size
  stands-takes p r input out out' s e = subst (λ (x : Progress). Stands x size) (sym (ap (λ (x : After). x.progress) e)) (stands-taken p input out s)

-- ---- so does what waits

used-emptied : (p : Progress) (n : ℕ) (w : Bool) → p.used ≤ n → (emptied p w).used ≤ n
used-emptied p n true h = omega arith
used-emptied p n false h = h

pub used-empties : (p r : Progress) (n : ℕ) (due : Bool) → p.used ≤ n → Empties p due r → r.used ≤ n
used-empties p r n due h e = subst (λ (x : Progress). x.used ≤ n) (sym e.so) (by_due due)
  where
    by_due : (b : Bool) → (cond b (emptied p e.written) p).used ≤ n
    by_due true = used-emptied p n e.written h
    by_due false = h

used-refilled : (p : Progress) (kept n : ℕ) (i : Option ℕ) → (refilled p kept n i).used ≡ p.used
used-refilled p kept n (Some k) = refl
used-refilled p kept n None = refl

pub used-fills : (p r : Progress) (n : ℕ) (dry : Bool) (before after : List ℕ) → p.used ≤ n → Fills p dry r before after → r.used ≤ n
used-fills p r n dry before after h e = subst (λ (k : ℕ). k ≤ n) (sym (ap (λ (x : Progress). x.used) e.so ∙ by_due (p.going && dry))) h
  where
    by_due : (b : Bool) → (cond b (refilled p (p.got - p.next) (length before) e.input) p).used ≡ p.used
    by_due true = used-refilled p (p.got - p.next) (length before) e.input
    by_due false = refl

used-answered : (p : Progress) (n size : ℕ) (a : Result ℕ Refusal) → p.used ≤ size → (answered p n size a).used ≤ size
used-answered p n size (Ok frame) h = omega arith
used-answered p n size (Err why) h = h

used-taken : (p : Progress) (input out : List ℕ) → p.used ≤ length out → (taken p input out).progress.used ≤ length out
unfolding taken
used-taken p input out h = go (not p.going) (eqb (line_length (held p input)) 0)
  where
    go : (b c : Bool) → (cond b (leaving p out) (cond c (leaving (done p) out) (line_taken p (held p input) (line_length (held p input)) out))).progress.used ≤ length out
    go true c = h
    go false true = h
    go false false = used-answered p (line_length (held p input)) (length out) (mot_line (take (line_length (held p input)) (held p input)) p.previous (drop p.used out)).answer h

pub used-takes : (p r : Progress) (input out out' : List ℕ) → p.used ≤ length out → leaving r out' ≡ taken p input out → r.used ≤ length out
used-takes p r input out out' h e = subst (λ (x : Progress). x.used ≤ length out) (sym (ap (λ (x : After). x.progress) e)) (used-taken p input out h)

-- ---- a turn, by what its functions answered

module _ (p : Progress) (before out : List ℕ) {whole dry-is crowded-is : Bool} where
  pub turned : {flushed ready r : Progress} {after out' : List ℕ} → whole ≡ has_line (held p before) → dry-is ≡ dry p (length before) whole → crowded-is ≡ crowded p.used (length out)
      → Empties p (crowded-is || dry-is) flushed → Fills flushed dry-is ready before after → leaving r out' ≡ taken ready after out → Turned p r before after out out'
  turned {flushed} {ready} {after = after} w d c e f t =
      let is : dry-is ≡ dry p (length before) (has_line (held p before)) = d ∙ ap (dry p (length before)) w in
      record {
        flushed = flushed;
        ready = ready;
        empties = subst (λ (x : Bool). Empties p x flushed) (ap (λ (x : Bool). x || dry-is) c ∙ ap (λ (x : Bool). crowded p.used (length out) || x) is) e;
        fills = subst (λ (x : Bool). Fills flushed x ready before after) is f;
        takes = t;
      }
