-- A line at the front of a text, and how long it is. Assumes nothing.
use mathlib.Core.Path.{◌≡◌, refl, ap, subst, ◌∙◌}
use mathlib.Core.Bool.{Bool, true}
use mathlib.Core.List.{List}
use Prim.Native.Nat.{ℕ, ◌≤◌, ◌<◌}
use native.Mathlib.Omega.{arith}
use borrow.Author.Tests.{le-leb, lt-leb}
use lib.Dec.{leb}
use lib.ListN.{length}
use Rattle.std.proofs.Common.{Option, Some, None}
use Rattle.std.specs.Option.{unwrap_or}
use Rattle.records_line.specs.Line.{refused_line}
use Rattle.records.specs.Written.{Writes, WritesText}
use Rattle.records_line.proofs.Laws.{refused-most}
use Rattle.why_words.specs.Words.{line_most}
use Rattle.why_io.specs.Answer.{bytes_of, Says}

-- how many bytes a call wrote
pub many_bytes : (w : Option ℕ) {n : ℕ} → n ≡ unwrap_or w 0 → n ≡ bytes_of w
many_bytes (Some k) e = e
many_bytes None e = e

-- what a call wrote that had room
pub wrote : (fits : Bool) {xs text : List ℕ} {w : Option ℕ} {n : ℕ} {text' : List ℕ} → fits ≡ true → Writes fits 0 xs text w text' → n ≡ bytes_of w → Says true xs text n text'
wrote fits e h q = let t = rw e at h in record { many = q ∙ ap bytes_of t.answer; cells = t.cells }

pub said : {xs text : List ℕ} {n : ℕ} {text' : List ℕ} → line_most ≤ length text → Says true xs text n text' → Says (leb line_most (length text)) xs text n text'
said {text = text} h s = rw (le-leb line_most (length text) h) s

pub silent : (xs text : List ℕ) → length text < line_most → Says (leb line_most (length text)) xs text 0 text
silent xs text h = rw (lt-leb line_most (length text) h) (record { many = refl; cells = refl })

-- a refusal fits in every line
pub wrote_refused : (first : ℕ) {why k n : ℕ} {text text' : List ℕ} {w : Option ℕ} → line_most ≤ length text → k ≡ why → WritesText (refused_line k first) text w text' → n ≡ bytes_of w → Says true (refused_line why first) text n text'
wrote_refused first {why} {k} {n} {text} {text'} {w} h e t q =
    let most = refused-most k first in
    let s : Says true (refused_line k first) text n text' = wrote (leb (length (refused_line k first)) (length text)) (le-leb (length (refused_line k first)) (length text) (omega (arith, h, most))) t q in
    subst (λ (m : ℕ). Says true (refused_line m first) text n text') e s
