-- The two halves of `lapjv`, lines 340 to 347 and 348 to 350 of lapjv.rs, on slices of any size: where the sizes do not fit, nothing is done and nothing
-- counted. Not from the Rust, whose lists have their sizes.
use Rattle.std.specs.Prelude.{Bool, true, false, cond, List, ℕ, ◌*◌, ltb, eqb, length, Float}
use Rattle.lapjv_definition.specs.Ccrt.{ccrt_dense}
use Rattle.lapjv_definition.specs.Lapjv.{Rounds, rounds_at, rounds_from, Assignment, assignment, lapjv}

-- the side is 1 to 255, the costs are n × n, and the two lists n long
unfoldable pub sized : ℕ → ℕ → ℕ → ℕ → Bool
sized n costs a b =
    cond (eqb n 0) false
    (cond (ltb 255 n) false
    (cond (eqb costs (n * n)) (cond (eqb a n) (cond (eqb b n) true false) false) false))

-- ccrt_dense and two rounds, over any first free rows: `rounds` has n zeros there
abbrev pub rounds_over : ℕ → List Float → List ℕ → Rounds
rounds_over n cost free_rows =
    let a = ccrt_dense n cost free_rows in
    rounds_from n cost 2 (rounds_at a.n_free_rows 0 a.free_rows a.x a.y a.v)

-- the first half
unfoldable pub reduction : ℕ → List Float → List ℕ → List ℕ → List ℕ → List Float → Rounds
reduction n cost free_rows x y v =
    cond (sized n (length cost) (length x) (length y))
    (cond (sized n (length cost) (length free_rows) (length v)) (rounds_over n cost free_rows) (rounds_at 0 0 free_rows x y v))
    (rounds_at 0 0 free_rows x y v)

-- both halves
unfoldable pub assigning : ℕ → List Float → List ℕ → List ℕ → Assignment
assigning n cost x y = cond (sized n (length cost) (length x) (length y)) (lapjv n cost) (assignment 0 x y 0 0)
