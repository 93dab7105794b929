-- `pairs::put_pairs` meets its contract. The loop's invariant: the pairs of the rows before `i` are written, `k` of them. Assumes nothing.
use Rattle.std.proofs.Common.{◌≡◌, ℕ, ◌<◌, length}
use Rattle.assoc_direct.specs.Rows.{pairs_of, PairRoom, Wrote}
use Rattle.assoc_direct.proofs.pairs.put_pairs.Given as goal

abbrev pub invariant-loop-i : goal.invariant-loop-i
invariant-loop-i g l =
    (f : ℕ → ℕ) → ((i j : ℕ) → i < l.nrows → goal.F-post g l.column i j → j ≡ f i) → PairRoom (pairs_of l.ncols f l.nrows) (length l.initial.boxes) (length l.initial.tracks)
    → Wrote (pairs_of l.ncols f l.i) l.initial.boxes l.initial.tracks l.k l.boxes l.tracks
