-- The text of a list of events, from the front: what each event prints, and what is left to print behind it. Assumes nothing.
use mathlib.Core.Path.{◌≡◌, refl, sym, ap, ◌∙◌}
use mathlib.Core.Bool.{Bool, true, false, cond}
use mathlib.Core.List.{List, [], ◌∷◌, ◌++◌, foldl, foldl-append, append_assoc, append-nil}
use Prim.Native.Nat.{ℕ, zero, suc, ◌+◌}
use Rattle.laws.specs.Tab.{tab}
use Rattle.laws.specs.Laid.{rows}
use Rattle.records.specs.declared.box_record.BoxRecord.{BoxRecord}
use Rattle.records.specs.declared.track_record.TrackRecord.{TrackRecord}
use Rattle.records_line.specs.Line.{line, refused_line}
use Rattle.trackbox_stream.specs.Stream.{Event, work, refuse, Frame, refused, accepted, Printed, printed_with, framed, happens, prints}
use Rattle.trackbox_stream.specs.Feeding.{empty_work}
use Rattle.trackbox_stream.proofs.Theorem.{printing-stopped}
use Rattle.trackbox_feed.specs.Trackbox.{Tracker, updated}

abbrev fresh : Tracker → Printed Tracker
fresh t = printed_with [] true t

abbrev printed_all : Printed Tracker → List Event → Printed Tracker
printed_all p es = foldl (prints updated) p es

unfoldable pub text_of : Tracker → List Event → List ℕ
text_of t es = (printed_all (fresh t) es).text

-- ---- what was printed before stands before

abbrev behind : List ℕ → Printed Tracker → Printed Tracker
behind xs p = printed_with (xs ++ p.text) p.going p.state

framed-behind : (xs : List ℕ) (p : Printed Tracker) (nth : ℕ) (x : Frame Tracker) → framed (behind xs p) nth x ≡ behind xs (framed p nth x)
framed-behind xs p nth (refused n) = ap (λ (t : List ℕ). printed_with t false p.state) (append_assoc xs p.text (refused_line n nth))
framed-behind xs p nth (accepted s rs) = ap (λ (t : List ℕ). printed_with t true s) (append_assoc xs p.text (rows line rs))

happens-behind : (xs : List ℕ) (p : Printed Tracker) (e : Event) → happens updated (behind xs p) e ≡ behind xs (happens updated p e)
happens-behind xs p (work f bs nth) = framed-behind xs p nth (updated p.state bs)
happens-behind xs p (refuse n nth) = ap (λ (t : List ℕ). printed_with t false p.state) (append_assoc xs p.text (refused_line n nth))

prints-behind : (xs : List ℕ) (p : Printed Tracker) (e : Event) (b : Bool) → cond b (happens updated (behind xs p) e) (behind xs p) ≡ behind xs (cond b (happens updated p e) p)
prints-behind xs p e true = happens-behind xs p e
prints-behind xs p e false = refl

all-behind : (es : List Event) (xs : List ℕ) (p : Printed Tracker) → printed_all (behind xs p) es ≡ behind xs (printed_all p es)
unfolding prints
all-behind [] xs p = refl
all-behind (e ∷ es) xs p = ap (λ (q : Printed Tracker). printed_all q es) (prints-behind xs p e p.going) ∙ all-behind es xs (prints updated p e)

-- ---- one event

pub text-refuse : (t : Tracker) (n nth : ℕ) (es : List Event) → text_of t (refuse n nth ∷ es) ≡ refused_line n nth
unfolding text_of prints
text-refuse t n nth es = ap (λ (p : Printed Tracker). p.text) (printing-stopped updated es (printed_with (refused_line n nth) false t) refl)

pub text_stops : (t : Tracker) (f : ℕ) (bs : List BoxRecord) (nth : ℕ) (es : List Event) {n : ℕ} → updated t bs ≡ refused n → text_of t (work f bs nth ∷ es) ≡ refused_line n nth
unfolding text_of prints
text_stops t f bs nth es {n} e =
    ap (λ (x : Frame Tracker). (printed_all (framed (fresh t) nth x) es).text) e
    ∙ ap (λ (p : Printed Tracker). p.text) (printing-stopped updated es (printed_with (refused_line n nth) false t) refl)

pub text-goes : (t : Tracker) (f : ℕ) (bs : List BoxRecord) (nth : ℕ) (es : List Event) {t' : Tracker} {rs : List TrackRecord} → updated t bs ≡ accepted t' rs
    → text_of t (work f bs nth ∷ es) ≡ rows line rs ++ text_of t' es
unfolding text_of prints
text-goes t f bs nth es {t'} {rs} e =
    ap (λ (x : Frame Tracker). (printed_all (framed (fresh t) nth x) es).text) e
    ∙ ap (λ (xs : List ℕ). (printed_all (printed_with xs true t') es).text) (sym (append-nil (rows line rs)))
    ∙ ap (λ (p : Printed Tracker). p.text) (all-behind es (rows line rs) (fresh t'))

pub text-none : (t : Tracker) → text_of t [] ≡ []
unfolding text_of
text-none t = refl

-- ---- empty frames, by their count: what they print does not depend on their numbers

unfoldable pub empties : ℕ → ℕ → List Event
empties zero nth = []
empties (suc k) nth = work 0 [] nth ∷ empties k nth

one_more : (nth k : ℕ) (p : Printed Tracker) → printed_all p (empties (suc k) nth) ≡ prints updated (printed_all p (empties k nth)) (work 0 [] nth)
unfolding empties
one_more nth zero p = refl
one_more nth (suc k) p = one_more nth k (prints updated p (work 0 [] nth))

any_number : (p : Printed Tracker) (f nth : ℕ) → prints updated p (work f [] nth) ≡ prints updated p (work 0 [] nth)
unfolding prints
any_number p f nth = refl

all-empties : (f nth k : ℕ) (p : Printed Tracker) → printed_all p (empty_work k f nth) ≡ printed_all p (empties k nth)
unfolding empty_work tab empties
all-empties f nth zero p = refl
all-empties f nth (suc k) p =
    foldl-append (prints updated) p (tab (λ (i : ℕ). work (f + i) [] nth) k) (work (f + k) [] nth ∷ [])
    ∙ ap (λ (q : Printed Tracker). prints updated q (work (f + k) [] nth)) (all-empties f nth k p)
    ∙ any_number (printed_all p (empties k nth)) (f + k) nth
    ∙ sym (one_more nth k p)

pub text-empties : (t : Tracker) (k f nth : ℕ) (es : List Event) → text_of t (empty_work k f nth ++ es) ≡ text_of t (empties k nth ++ es)
unfolding text_of
text-empties t k f nth es =
    ap (λ (p : Printed Tracker). p.text)
    (foldl-append (prints updated) (fresh t) (empty_work k f nth) es
    ∙ ap (λ (p : Printed Tracker). printed_all p es) (all-empties f nth k (fresh t))
    ∙ sym (foldl-append (prints updated) (fresh t) (empties k nth) es))

pub text-one-empty : (t : Tracker) (k nth : ℕ) (es : List Event) → text_of t (empties (suc k) nth ++ es) ≡ text_of t (work 0 [] nth ∷ (empties k nth ++ es))
unfolding empties
text-one-empty t k nth es = refl

pub text-no-empty : (t : Tracker) (nth : ℕ) (es : List Event) → text_of t (empties 0 nth ++ es) ≡ text_of t es
unfolding empties
text-no-empty t nth es = refl
