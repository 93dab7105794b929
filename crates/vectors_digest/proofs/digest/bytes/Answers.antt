-- `digest::bytes` meets its contract: std's `fold` joins a word after the other. Assumes nothing.
use mathlib.Core.Path.{◌∙◌}
use Prim.Native.Nat.{ℕ}
use Rattle.std.proofs.Common.{rules}
use Rattle.std.proofs.lemmas.Iterator.{YieldsList-from_slice}
use Rattle.std.proofs.lemmas.Iterator.Consumers.{fold_from_yields_List}
use Rattle.vectors_digest.specs.Digest.{joined}
use Rattle.vectors_digest.proofs.Digesting.{digested}
use Rattle.vectors_digest.proofs.digest.bytes.Goals as goal

pub returns : goal.returns
returns c =
    let s = c.args.s.now in
    fold_from_yields_List _ (λ d x. joined d (x)) c.args.start c.fold.result c.fold.ensures.ran (YieldsList-from_slice s cc) (λ d x b q k. search rules)
    ∙ digested (λ (n : ℕ). n) c.args.start s
