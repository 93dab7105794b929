-- What a call of `lapjv` answers, and what it leaves in the two lent slices. The numbers are document 01's, "When a call is turned down", Assignment.
use Rattle.std.specs.Prelude.{◌≡◌, cond, List, ℕ, ◌*◌, ◌-◌, ◌/◌, ◌≤◌, ltb, eqb, length, Float, Result, Ok, Err, ⊤}
use Rattle.lapjv_definition.specs.Bounds.{Paired}
use Rattle.lapjv_definition.specs.Lapjv.{lapjv}
pub use Rattle.lapjv_definition.specs.declared.Counts.{Counts}
use Rattle.lapjv.specs.declared.Refusal.TheVariants.{NoSide, SideAbove255, WrongSize}
use Rattle.lapjv.specs.declared.Refusal.{Refusal}

-- 21 side 0; 22 side above 255; 23 the cost slice not n × n, or the row or column slice not n long
unfoldable pub refusal_number : Refusal → ℕ
refusal_number NoSide = 21
refusal_number SideAbove255 = 22
refusal_number WrongSize = 23

-- side n, with slices of so many costs, rows and columns: the first of the three that applies
unfoldable pub verdict_of : ℕ → ℕ → ℕ → ℕ → Result ⊤ Refusal
verdict_of n costs xs ys =
    cond (eqb n 0) (Err NoSide)
    (cond (ltb 255 n) (Err SideAbove255)
    (cond (eqb costs (n * n)) (cond (eqb xs n) (cond (eqb ys n) (Ok tt) (Err WrongSize)) (Err WrongSize)) (Err WrongSize)))

-- what an answer says: document 01's number, 0 where the call is accepted, and the counts, both 0 where it is refused
unfoldable pub number_of : Result Counts Refusal → ℕ
number_of (Ok c) = 0
number_of (Err why) = refusal_number why

unfoldable pub turns_of : Result Counts Refusal → ℕ
turns_of (Ok c) = c.turns
turns_of (Err why) = 0

unfoldable pub scans_of : Result Counts Refusal → ℕ
scans_of (Ok c) = c.scans
scans_of (Err why) = 0

-- the answer
unfoldable pub answer_for : ℕ → List Float → Result ⊤ Refusal → Result Counts Refusal
answer_for n cost (Ok _) = Ok (record { turns = (lapjv n cost).turns; scans = (lapjv n cost).scans })
answer_for n cost (Err why) = Err why

-- a lent slice at exit: what the definition gives, or what it was where the call is refused
unfoldable pub lent_after : Result ⊤ Refusal → List ℕ → List ℕ → List ℕ
lent_after (Ok _) new old = new
lent_after (Err why) new old = old

pub record Answered (n : ℕ) (cost : List Float) (x y : List ℕ) (r : Result Counts Refusal) (x' y' : List ℕ) : Type 0 where
  -- the answer and both slices are the definition's; a refused call changes nothing
  pub answer : r ≡ answer_for n cost (verdict_of n (length cost) (length x) (length y))
  pub xs : x' ≡ lent_after (verdict_of n (length cost) (length x) (length y)) (lapjv n cost).x x
  pub ys : y' ≡ lent_after (verdict_of n (length cost) (length x) (length y)) (lapjv n cost).y y
  -- for callers: what follows of an accepted call's slices, and of the counts of any call
  pub paired : number_of r ≡ 0 → Paired n x' y'
  pub turns : turns_of r ≤ 2 * n * (n - 1)
  pub scans : scans_of r ≤ n * (n - 1) / 2
