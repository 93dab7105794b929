-- How long a number and a line are. Assumes nothing.
use mathlib.Core.Path.{◌≡◌, refl, ◌∙◌}
use mathlib.Core.List.{List, [], ◌∷◌}
use Prim.Native.Nat.{ℕ, zero, suc, ◌+◌, ◌/◌, ◌%◌}
use native.Mathlib.Numerals.{add-one}
use native.Mathlib.Omega.{arith}
use lib.Ieee.{Float}
use lib.ListN.{length, length-append}
use Rattle.records.specs.declared.track_record.TrackRecord.{TrackRecord}
use Rattle.records.specs.Field.{bits}
use Rattle.records_line.specs.Text.{glyph, digits, places, decimal, hex, ended}
use Rattle.records_line.specs.Line.{line, refused_line}

pub length_digits : (b k n : ℕ) → length (digits b k n) ≡ k
unfolding digits
length_digits b zero n = refl
length_digits b (suc k) n = length-append (digits b k (n / b)) (glyph (n % b) ∷ []) ∙ rw (length_digits b k (n / b)) (add-one k)

pub length-decimal : (n : ℕ) → length (decimal n) ≡ places n
unfolding decimal
length-decimal n = length_digits 10 (places n) n

pub length-hex : (x : Float) → length (hex x) ≡ 8
unfolding hex
length-hex x = length_digits 16 8 (bits x)

pub length-ended : (xs : List ℕ) (then : ℕ) → length (ended xs then) ≡ length xs + 1
length-ended xs then = length-append xs (then ∷ [])

pub length-hex-ended : (x : Float) (then : ℕ) → length (ended (hex x) then) ≡ 9
length-hex-ended x then = length-ended (hex x) then ∙ rw (length-hex x)

pub length-decimal-ended : (n then : ℕ) → length (ended (decimal n) then) ≡ places n + 1
length-decimal-ended n then = length-ended (decimal n) then ∙ rw (length-decimal n)

pub length-line : (t : TrackRecord) → length (line t) ≡ places t.frame + places t.id + 47
unfolding line
length-line t = simp (length-append, length-decimal, length-hex) (omega arith)

pub length-refused : (number nth : ℕ) → length (refused_line number nth) ≡ places number + places nth + 17
unfolding refused_line
length-refused number nth = simp (length-append, length-decimal) (omega arith)
