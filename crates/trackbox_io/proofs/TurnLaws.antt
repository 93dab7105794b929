-- Each return of the steps of a turn is the contract's case, and what was read and what waits stay within their arrays. Assumes nothing.
use mathlib.Core.Path.{◌≡◌, refl, sym, ap, subst, ◌∙◌}
use mathlib.Core.Bool.{Bool, true, false, not, cond, ◌&&◌, ◌||◌, true≢false}
use mathlib.Core.List.{List}
use Prim.Native.Nat.{ℕ, ◌-◌, ◌*◌}
use native.Mathlib.Omega.{arith}
use lib.ListN.{length, take}
use lib.Ieee.{Float}
use borrow.Rule.Slice.PartMut.{mid_of, put_mid}
use borrow.Author.Tests.{not-true, not-false}
use Rattle.laws.specs.Over.{tail-part, tail-put}
use Rattle.trackbox_feed.specs.declared.feed.Item.{Item}
use Rattle.trackbox_feed.specs.declared.feed.Fed.{Fed}
use Rattle.trackbox_feed.specs.declared.feed.Fed.TheVariants.{Taken, Again, Ended, Short}
use Rattle.trackbox_feed.specs.Feed.{Lent, lent_with, call_with, fed}
use Rattle.std.proofs.Common.{Option, Some, None}
use Rattle.program_io.specs.Input.{Within}
use Rattle.trackbox_progress.specs.declared.progress.Progress.{Progress}
use Rattle.trackbox_io.specs.Printed.{Along}
use Rattle.trackbox_io.proofs.Theorem.{turn_along}
use Rattle.trackbox_progress.specs.Progress.{spent, emptied, item_at, Needed}
use Rattle.trackbox_io.specs.Turn.{text_bytes, input_bytes, Leaves, Ends, crowded, refilled, answered, Arrays, boxes_of, with_input, Sizes, Stands, Empties, Fills, Handed, Turned}

-- ---- what waits is written out

pub not_due : (p : Progress) (size : ℕ) (x y : Bool) → x ≡ crowded p.used size → y ≡ spent p → (x || y) ≡ false → Empties p p size
not_due p size x y e f h =
    let off : (crowded p.used size || spent p) ≡ false = ap (λ (b : Bool). b || spent p) (sym e) ∙ ap (λ (b : Bool). x || b) (sym f) ∙ h in
    record { written = true; so = ap (λ (b : Bool). cond b (emptied p true) p) (sym off) }

pub due : (p : Progress) (size : ℕ) (x y w : Bool) {r : Progress} → x ≡ crowded p.used size → y ≡ spent p → (x || y) ≡ true → r ≡ emptied p w → Empties p r size
due p size x y w e f h q =
    let on : (crowded p.used size || spent p) ≡ true = ap (λ (b : Bool). b || spent p) (sym e) ∙ ap (λ (b : Bool). x || b) (sym f) ∙ h in
    record { written = w; so = q ∙ ap (λ (b : Bool). cond b (emptied p w) p) (sym on) }

-- ---- the buffer is filled

pub not_filled : (p : Progress) (before : List ℕ) (x : Bool) → x ≡ spent p → (p.going && x) ≡ false → Fills p p before before
not_filled p before x e h =
    let off : (p.going && spent p) ≡ false = ap (λ (b : Bool). p.going && b) (sym e) ∙ h in
    record { input = None; within = tt; so = ap (λ (b : Bool). cond b (refilled p (length before) None) p) (sym off); same = λ _. refl }

pub filled : (p : Progress) (before after : List ℕ) (x : Bool) (i : Option ℕ) {r : Progress} → x ≡ spent p → (p.going && x) ≡ true → Within (length before) i → r ≡ refilled p (length before) i → Fills p r before after
filled p before after x i e h w q =
    let on : (p.going && spent p) ≡ true = ap (λ (b : Bool). p.going && b) (sym e) ∙ h in
    record { input = i; within = w; so = q ∙ ap (λ (b : Bool). cond b (refilled p (length before) i) p) (sym on); same = λ f. absurd (true≢false (sym on ∙ f)) }

-- ---- a record or the end is handed on

pub not_handed : (p : Progress) (a : Arrays) → not p.going ≡ true → Handed p p a a
not_handed p a h = record { goes = λ g. absurd (true≢false (sym g ∙ not-true p.going h)); stays = λ _. (refl, refl) }

-- by the arrays a, of which b is left
pub handed : (p : Progress) (a b : Arrays) (text : List ℕ) (doubles singles : List Float) (cells : ℕ) (i : Item) (x : Fed) {r : Progress}
    → not p.going ≡ false → Needed p.feed.table.count p.feed.opened.boxes cells → i ≡ item_at p.next p.got a.input
    → call_with x (lent_with b.floats b.counters b.labels b.output doubles singles text) (boxes_of b)
    ≡ fed p.feed i
    (lent_with a.floats a.counters a.labels a.output (take cells a.doubles) (take (4 * cells) a.singles) (mid_of p.used (length a.text - p.used) a.text)) (boxes_of a)
    → b.text ≡ put_mid p.used (length a.text - p.used) a.text text → r ≡ answered p (length a.text) x → Handed p r a b
handed p a b text doubles singles cells i x h n e call put q =
    let lent : List ℕ → Lent = λ t. lent_with a.floats a.counters a.labels a.output (take cells a.doubles) (take (4 * cells) a.singles) t in
    record {
      goes = λ _. record {
        cells = cells;
        needed = n;
        answer = x;
        doubles = doubles;
        singles = singles;
        text = text;
        call = call ∙ ap (λ (y : Item). fed p.feed y (lent (mid_of p.used (length a.text - p.used) a.text)) (boxes_of a)) e
            ∙ ap (λ (t : List ℕ). fed p.feed (item_at p.next p.got a.input) (lent t) (boxes_of a)) (tail-part a.text p.used);
        behind = put ∙ tail-put a.text text p.used;
        so = q;
      };
      stays = λ g. absurd (true≢false (sym (not-false p.going h) ∙ g));
    }

-- ---- what is known stays within the arrays

stands-emptied : (p : Progress) (w : Bool) → Stands p → Stands (emptied p w)
stands-emptied p true s = record { used = omega arith; got = s.got }
stands-emptied p false s = record { used = s.used; got = s.got }

pub stands-empties : (p r : Progress) (size : ℕ) → Stands p → Empties p r size → Stands r
stands-empties p r size s e = subst Stands (sym e.so) (by_due (crowded p.used size || spent p))
  where
    by_due : (b : Bool) → Stands (cond b (emptied p e.written) p)
    by_due true = stands-emptied p e.written s
    by_due false = s

stands-refilled : (p : Progress) (size : ℕ) (i : Option ℕ) → size ≡ input_bytes → Stands p → Within size i → Stands (refilled p size i)
stands-refilled p size (Some n) z s w = record { used = s.used; got = omega (arith, w, z) }
stands-refilled p size None z s w = record { used = s.used; got = s.got }

pub stands-fills : (p r : Progress) (before after : List ℕ) → length before ≡ input_bytes → Stands p → Fills p r before after → Stands r
stands-fills p r before after z s e = subst Stands (sym e.so) (by_due (p.going && spent p))
  where
    by_due : (b : Bool) → Stands (cond b (refilled p (length before) e.input) p)
    by_due true = stands-refilled p (length before) e.input z s e.within
    by_due false = s

stands-answered : (p : Progress) (size : ℕ) (a : Fed) → size ≡ text_bytes → Stands p → Stands (answered p size a)
stands-answered p size (Taken feed n) z s = record { used = omega (arith, z); got = s.got }
stands-answered p size (Again feed n) z s = record { used = omega (arith, z); got = s.got }
stands-answered p size (Ended n) z s = record { used = omega (arith, z); got = s.got }
stands-answered p size Short z s = record { used = s.used; got = s.got }

stands_handed : (p r : Progress) (a b : Arrays) → length a.text ≡ text_bytes → Stands p → Handed p r a b → Stands r
stands_handed p r a b z s h = by_going p.going refl
  where
    by_going : (g : Bool) → p.going ≡ g → Stands r
    by_going true e = subst Stands (sym (h.goes e).so) (stands-answered p (length a.text) (h.goes e).answer z s)
    by_going false e = subst Stands (sym (h.stays e).0) s

-- ---- a turn

-- what holds between two turns
pub record Running (p : Progress) (a : Arrays) : Type 0 where
  pub sizes : Sizes a
  pub stands : Stands p
  pub along : Along p a

pub runs_on : (p r : Progress) (a b : Arrays) → Sizes b → p.going ≡ true → Running p a → Turned p r a b → Running r b
runs_on p r a b zb g run t =
    let flushed = stands-empties p t.flushed (length a.text) run.stands t.empties in
    let ready = stands-fills t.flushed t.ready a.input b.input run.sizes.input flushed t.fills in
    record {
      sizes = zb;
      stands = stands_handed t.ready r (with_input b.input a) b run.sizes.text ready t.hands;
      along = turn_along p r a b run.sizes zb run.stands g t ready run.along;
    }

-- ---- the end

pub ends-leaves : (p : Progress) (bytes : ℕ) (r : Option ℕ) → Ends p bytes r → Leaves bytes r
ends-leaves p bytes (Some left) e = e.1
ends-leaves p bytes None e = tt
