-- What is still to be done, from an open frame and the records that follow: the rules of Feeding, without what was done before. Assumes nothing.
use mathlib.Core.Path.{◌≡◌, refl, sym, ap, ◌∙◌}
use mathlib.Core.Bool.{Bool, true, false, cond}
use mathlib.Core.List.{List, [], ◌∷◌, ◌++◌, foldl, append_assoc, append-nil}
use Prim.Native.Nat.{ℕ}
use Rattle.records.specs.declared.box_record.BoxRecord.{BoxRecord}
use Rattle.trackbox_stream.specs.declared.rules.OpenFrame.{OpenFrame}
use Rattle.std.proofs.Common.{Result}
use Rattle.trackbox_stream.specs.declared.rules.Fault.{Fault}
use Rattle.trackbox_stream.specs.declared.rules.Next.{Next}
use Rattle.trackbox_stream.specs.Rules.{nth_after, judged, closed, start}
use Rattle.trackbox_stream.specs.Stream.{Event}
use Rattle.trackbox_stream.specs.Feeding.{Run, run_with, told, told_at_end, boxes_then, state_then, goes_on, feed, finish, fed}

unfoldable pub ahead : OpenFrame → List BoxRecord → List BoxRecord → ℕ → List Event
ahead st bs [] rest = told_at_end st bs (closed (nth_after st.records) rest)
ahead st bs (r ∷ rs) rest =
    let n : Result Next Fault = judged st (nth_after st.records) r.frame in
    told st bs n ++ cond (goes_on n) (ahead (state_then st n) (boxes_then bs r n) rs rest) []

stays : (rs : List BoxRecord) (log : List Event) (st : OpenFrame) (bs : List BoxRecord) → foldl feed (run_with log false st bs) rs ≡ run_with log false st bs
unfolding feed
stays [] log st bs = refl
stays (r ∷ rs) log st bs = stays rs log st bs

from-here : (rs : List BoxRecord) (rest : ℕ) (log : List Event) (st : OpenFrame) (bs : List BoxRecord) → finish (foldl feed (run_with log true st bs) rs) rest ≡ log ++ ahead st bs rs rest
unfolding finish feed ahead
from-here [] rest log st bs = refl
from-here (r ∷ rs) rest log st bs =
    by_going (goes_on n) (from-here rs rest (log ++ told st bs n) (state_then st n) (boxes_then bs r n))
    ∙ append_assoc log (told st bs n) (cond (goes_on n) (ahead (state_then st n) (boxes_then bs r n) rs rest) [])
  where
    n : Result Next Fault
    n = judged st (nth_after st.records) r.frame

    by_going : (b : Bool) → finish (foldl feed (run_with (log ++ told st bs n) true (state_then st n) (boxes_then bs r n)) rs) rest ≡ (log ++ told st bs n) ++ ahead (state_then st n) (boxes_then bs r n) rs rest
        → finish (foldl feed (run_with (log ++ told st bs n) b (state_then st n) (boxes_then bs r n)) rs) rest ≡ (log ++ told st bs n) ++ cond b (ahead (state_then st n) (boxes_then bs r n) rs rest) []
    by_going true ih = ih
    by_going false ih =
        ap (λ (x : Run). finish x rest) (stays rs (log ++ told st bs n) (state_then st n) (boxes_then bs r n)) ∙ sym (append-nil (log ++ told st bs n))

pub all-ahead : (rs : List BoxRecord) (rest : ℕ) → fed rs rest ≡ ahead start [] rs rest
unfolding fed
all-ahead rs rest = from-here rs rest [] start []
