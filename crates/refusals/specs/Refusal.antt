-- Why a pairing routine turns a call down. Document 01, "When a call is turned down", Pairs: 31 more than 255 boxes or tracks; 32 a matrix or confidence slice of another size than its sides say;
-- 33 a result or work slice too short. Document 02, N2: "34 such a label in associating, the one pairing routine that takes labels, after 33; label slices count under 32."
-- Such a label is one other than 1 to 3. The lowest number that applies is said.
use Rattle.std.specs.Prelude.{⊤, Bool, cond, ◌||◌, ℕ, ltb, Result, Ok, Err}
use Rattle.refusals.specs.declared.refusal.Refusal.{Refusal}
use Rattle.refusals.specs.declared.refusal.Refusal.TheVariants.{TooMany, OtherSize, TooShort, NotLabelled}

abbrev pub number : Refusal → ℕ
number TooMany = 31
number OtherSize = 32
number TooShort = 33
number NotLabelled = 34

-- 0 where the call is accepted
abbrev pub verdict_number : Result ⊤ Refusal → ℕ
verdict_number (Ok _) = 0
verdict_number (Err why) = number why

abbrev pub too_many : ℕ → ℕ → Bool
too_many boxes tracks = ltb 255 boxes || ltb 255 tracks

abbrev pub verdict : Bool → Bool → Bool → Result ⊤ Refusal
verdict many other_size short = cond many (Err TooMany) (cond other_size (Err OtherSize) (cond short (Err TooShort) (Ok tt)))

-- and a label other than 1 to 3, where nothing else is to be said
abbrev pub labelled_too : Result ⊤ Refusal → Bool → Result ⊤ Refusal
labelled_too (Ok _) bad = cond bad (Err NotLabelled) (Ok tt)
labelled_too (Err why) bad = Err why

-- what an accepted call gives, or what there is of a refused one
abbrev pub where_accepted : {A : Type 0} → Result ⊤ Refusal → A → A → A
where_accepted (Ok _) done before = done
where_accepted (Err why) done before = before
