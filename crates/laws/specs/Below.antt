-- Lists whose entries are all indices below a bound. Assumes nothing.
use Rattle.std.specs.Prelude.{List, ◌≡◌, ℕ, ◌<◌, length, get_or, set}
use Rattle.std.proofs.Math.Decide.{ℕ_discrete}
use Rattle.std.proofs.Common.{length-set, get_or-set_same, get_or-set_other}

-- each entry of l is below n
abbrev pub Below : ℕ → List ℕ → Type 0
Below n l = (k : ℕ) → k < length l → get_or l k 0 < n

-- a store of an index below n keeps it so
pub below_set : (n : ℕ) (l : List ℕ) (i a : ℕ) → Below n l → a < n → Below n (set l i a)
below_set n l i a b h k kl = go (ℕ_discrete k i)
  where
    kl' : k < length l
    kl' = rw length-set at kl

    go : Dec (k ≡ i) → get_or (set l i a) k 0 < n
    go (yes e) = rw (e, get_or-set_same l i a 0 (rw e at kl')) h
    go (no e) = rw (get_or-set_other l i k a 0 e) (b k kl')
