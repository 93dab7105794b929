-- `assignment::find_partners` meets its contract. Where the direct path is not open there is a square to solve, and lapjv_partners is asked what it accepts. Assumes nothing.
use mathlib.Core.Path.{refl, ◌∙◌}
use Rattle.laws.specs.Tab.{replicate_tab}
use Rattle.assoc_matching.specs.Answers.{partner_lent_with}
use Rattle.assoc_direct.proofs.DirectLaws.{direct_open, direct_closed}
use Rattle.assoc_matching.proofs.PartnerLaws.{partnered_direct}
use Rattle.assoc_matching.proofs.EndLaws.{partner-says, partners_are, partners_clear}
use Rattle.assoc_assignment.proofs.AnswerLaws.{partners_asked}
use Rattle.assoc_assignment.proofs.assignment.find_partners.Goals as goal

pub returns-then-is_direct : goal.returns-then-is_direct
returns-then-is_direct c =
    let taken = direct_open _ _ _ _ c.args.cost.sized c.is_direct.ensures c.if-is_direct.true in
    record {
      accepted = refl;
      pairs = partnered_direct _ _ _ _ c.args.partner.now c.args.cost.sized c.requires.rows taken c.direct_columns.ensures;
      cleared = c.fill.ensures.after (λ y e. e) ∙ replicate_tab _ _;
    }

pub returns : goal.returns
returns c =
    let a = c.args in
    let lent = partner_lent_with a.partner.now a.work.now in
    let solved = c.lapjv_partners in
    let closed = direct_closed _ _ _ _ c.args.cost.sized c.is_direct.ensures c.if-is_direct.false in
    let asked = partners_asked a.cost.cells.now _ _ _ c.args.cost.sized closed c.requires.square c.requires.rows in
    record {
      accepted = partner-says _ _ _ lent asked solved.result solved.ensures;
      pairs = partners_are _ _ _ lent asked solved.result solved.ensures a.threshold closed;
      cleared = partners_clear _ _ _ lent asked solved.result solved.ensures;
    }
