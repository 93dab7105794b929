-- Writes one behind the other: where each ends the next starts, and together they are one. Assumes nothing.
use mathlib.Core.Path.{◌≡◌, refl, ap, ◌∙◌}
use mathlib.Core.Bool.{Bool, true, false}
use mathlib.Core.List.{List, [], ◌∷◌, ◌++◌, append-nil}
use Prim.Native.Nat.{ℕ, ◌+◌, ◌/◌, ◌%◌, ◌^◌, ◌≤◌, ◌<◌}
use native.Mathlib.Numerals.{add-one}
use native.Mathlib.Omega.{arith}
use lib.ListN.{length, take, drop, set, length-append}
use lib.Dec.{leb}
use lib.Seq.{set_split, take-length, drop-length}
use borrow.Author.Tests.{le-leb, lt-leb}
use Rattle.laws.specs.Splice.{splice, length-splice, splice-splice}
use Rattle.std.specs.Prelude.{Some, None}
use Rattle.records.specs.Written.{Writes, WritesText, Put}
use Rattle.std.specs.Int.{bytes_low_first}
use Rattle.records.specs.Field.{little_endian}
use Rattle.records.proofs.Values.{low_first}

-- one cell stored
put_one : (l : List ℕ) (at v : ℕ) → at < length l → Put at (v ∷ []) l (at + 1) (set l at v)
put_one l at v h = record { ends = refl; room = omega arith; cells = rw add-one (set_split l at v h) }

-- a number below 256 is one byte
pub put_small : {l out : List ℕ} {at next : ℕ} (v : ℕ) → v < 256 → Put at (v ∷ []) l next out → Put at (little_endian 1 v) l next out
unfolding little_endian
put_small v small p = let e : v % 256 ≡ v = omega arith in rw e p

-- std's bytes of a number
pub put-le : {l out : List ℕ} {at next : ℕ} {xs : List ℕ} (k n : ℕ) → xs ≡ bytes_low_first 0 k n → Put at xs l next out → Put at (little_endian k n) l next out
put-le k n e p =
    let one : n / 256 ^ 0 ≡ n = omega arith in
    let is : bytes_low_first 0 k n ≡ little_endian k n = rw one at (low_first k 0 n) in
    rw (e ∙ is) at p

module _ {at next : ℕ} {xs l out : List ℕ} (p : Put at xs l next out) where
  pub put-length : length out ≡ length l
  put-length = let e = p.ends in let r = p.room in ap length p.cells ∙ length-splice l at xs (omega arith)

  -- where the next starts, and the room that it has, for an xs of k bytes
  pub put_next : (k : ℕ) → length xs ≡ k → (next ≡ at + k) × (length out ≡ length l)
  put_next k n = (p.ends ∙ rw n, put-length)

  pub put-put : {ys out' : List ℕ} {end : ℕ} → Put next ys out end out' → Put at (xs ++ ys) l end out'
  put-put {ys} {out'} {end} q =
      let e = p.ends in
      let f = q.ends in
      let r = q.room in
      let s = put-length in
      let n = length-append xs ys in
      record {
        ends = omega arith;
        room = omega arith;
        cells = q.cells ∙ ap (λ (k : ℕ). splice out k ys) e ∙ ap (λ (o : List ℕ). splice o (at + length xs) ys) p.cells ∙ splice-splice l at (length xs) xs ys refl (omega arith);
      }

  -- one byte more
  pub put_byte : (v : ℕ) → next < length l → Put at (xs ++ (v ∷ [])) l (next + 1) (set out next v)
  put_byte v h = put-put (put_one out next v (rw put-length h))

-- what a call that writes answers
pub writes : {at next n : ℕ} {xs l out : List ℕ} (fits : Bool) → fits ≡ true → length xs ≡ n → Put at xs l next out → Writes fits at xs l (Some n) out
writes fits e n p = rw e (record { answer = rw n; cells = p.cells })

pub no_write : (at : ℕ) (xs l : List ℕ) (fits : Bool) → fits ≡ false → Writes fits at xs l None l
no_write at xs l fits e = rw e (record { answer = refl; cells = refl })

-- a copy over a part of the same length
pub copied : (word part vs : List ℕ) → length part ≡ length word → vs ≡ take (length word) word ++ drop (length word) part → vs ≡ word
copied word part vs n e = e ∙ rw (take-length word, ← n, drop-length part) (append-nil word)

-- the same of a text of n bytes, by the test that the code makes
pub writes_text : {next n : ℕ} {xs l out : List ℕ} → length xs ≡ n → n ≤ length l → Put 0 xs l next out → WritesText xs l (Some n) out
writes_text {next} {n} {xs} {l} {out} e h p = writes (leb (length xs) (length l)) (le-leb (length xs) (length l) (rw e h)) e p

pub no_text : {n : ℕ} (xs l : List ℕ) → length xs ≡ n → length l < n → WritesText xs l None l
no_text xs l e h = no_write 0 xs l (leb (length xs) (length l)) (lt-leb (length xs) (length l) (rw e h))
