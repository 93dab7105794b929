-- `mh_dist_similarity` meets its contract: an accepted call has room for the distances, and works on a copy of them. Assumes nothing.
use mathlib.Core.Path.{◌≡◌, sym, ap, refl, ◌∙◌}
use mathlib.Core.List.{List, ◌++◌}
use Prim.Native.Nat.{ℕ}
use Rattle.std.proofs.Common.{rules}
use lib.ListN.{length, take, drop, get_or}
use lib.Seq.{length-take-le}
use native.Mathlib.Omega.{arith}
use lib.Ieee.{Float, nan}
use Rattle.laws.specs.Tab.{tab, tab_of}
use Rattle.cells.proofs.FillLaws.{filled_tab}
use Rattle.assoc_sizes.proofs.Verdicts.{distances_fit}
use Rattle.assoc_mahalanobis.proofs.Softmax.{of_copied}
use Rattle.assoc_mahalanobis.proofs.mh_dist_similarity.Goals as goal

pub returns-clause-cells : goal.returns-clause-cells
returns-clause-cells c =
    let a = c.args in
    let n : ℕ = length a.distance.now in
    let fit = distances_fit a.boxes a.tracks n (length a.out.now) (sym c.of_distances.ensures ∙ c.in_ok-of_distances.was) in
    let at : ℕ → Float = λ j. get_or a.distance.now j nan in
    let copied = filled_tab nan at c.fill.ensures (λ j h k. search rules) in
    let many : length (take n a.out.now) ≡ n = length-take-le n a.out.now (let room = fit.1.room in omega (arith, fit.0)) in
    let whole : a.distance.now ≡ tab at n = tab_of at a.distance.now n nan refl (λ j h. refl) in
    c.mh_matrix.ensures ∙ of_copied a.distance.now a.out.now _ a.softmax_temp a.boxes a.tracks fit.0 (ap (λ (l : List Float). l ++ drop n a.out.now) (copied ∙ ap (tab at) many ∙ sym whole))
