-- `drops::drop_set` meets its contract: the labels and the tracks that the list does not name are kept, and the places behind them cleared. Assumes nothing.
use Rattle.boost_tracker_forget.proofs.ForgetLaws.{drop-is}
use Rattle.boost_tracker_forget.proofs.drops.drop_set.Goals as goal

pub returns : goal.returns
returns c =
    let a = c.args in
    drop-is a.state a.floats.now a.counters.now a.labels.now a.ids.now c.requires c.places_in-places.ensures c.drop_labels.ensures c.drop_tracks-count.ensures
    c.clear_beyond.ensures c.clear_labels.ensures
