-- `sound::sound` meets its contract: one pass decides what the definition says in three. Assumes nothing.
use Rattle.std.proofs.Common.{sym, ◌∙◌, arith, leb-true}
use Rattle.boost_tracker_verdict.proofs.Soundness.{passed}
use Rattle.boost_tracker_verdict.proofs.sound.sound.Goals as goal
use Rattle.boost_tracker_verdict.proofs.sound.sound.Goals.{then-state-places_in, else-state-places_in}

pub returns-then-ids_few : goal.returns-then-ids_few
returns-then-ids_few c =
    elim c.if-state-places_in.branch [
      | then-state-places_in w ↦
          let few = sym w.ids_few.ensures ∙ sym w.value-is ∙ c.if-ids_few.true in
          c.all_orderly.ensures ∙ passed c.args.state _ _ (omega (arith, w.if-state-places_in.true, c.places_in.ensures)) few
      | else-state-places_in w ↦ let within = leb-true _ _ (sym w.value-is ∙ c.if-ids_few.true) in absurd (omega (arith, within, w.if-state-places_in.false))
    ]
