-- `mh_rows` meets its contract: exponentials, sums and shares one after the other are the definition. Assumes nothing.
use mathlib.Core.Path.{◌≡◌, ap, ◌∙◌}
use Rattle.std.proofs.Common.{rules}
use Rattle.std.proofs.iter.Serving.{serving}
use lib.ListN.{length}
use lib.Ieee.{nan}
use Rattle.laws.specs.Tab.{length-tab}
use Rattle.laws.specs.Grid.{cell_at}
use Rattle.cells.proofs.RowLaws.{filled_grid}
use Rattle.assoc_mahalanobis.specs.Private.{exp_of, shares}
use Rattle.assoc_mahalanobis.proofs.Softmax.{softmax}
use Rattle.assoc_mahalanobis.proofs.mh_rows.Goals as goal

pub column_sums-requires : goal.column_sums-requires
column_sums-requires c =
    let long : length c.args.sums.now ≡ c.args.tracks = ap length c.requires.1 ∙ length-tab _ _ in
    rw (long, c.fill_rows.ensures.same) c.requires

pub returns : goal.returns
returns c =
    let a = c.args in
    let long : length a.sums.now ≡ a.tracks = ap length c.requires.1 ∙ length-tab _ _ in
    let exps = filled_grid nan (λ i j. exp_of (cell_at nan a.tracks a.cells.now i j) a.softmax_temp) c.fill_rows.ensures c.requires.0 (λ i j hi hj k. search rules) in
    let shared = filled_grid nan (shares (cell_at nan a.tracks c.fill_rows.new.cells) c.column_sums.new.sums) c.fill_rows-2.ensures (rw c.fill_rows.ensures.same c.requires.0) (λ i j hi hj k. search rules) in
    shared ∙ softmax a.softmax_temp a.boxes a.tracks a.cells.now _ _ _ exps c.exp.ensures (rw long at c.column_sums.ensures)

pub fill_rows-requires-2-clause-callable : goal.fill_rows-requires-2-clause-callable
fill_rows-requires-2-clause-callable c =
    let long : length c.column_sums.new.sums ≡ c.args.tracks = ap length c.column_sums.ensures ∙ length-tab _ _ ∙ ap length c.requires.1 ∙ length-tab _ _ in
    grind (serving, long)
