-- The rules fed with one record after another: what the code comes to. Laws has the theorem that this is `events` of Stream.
use Rattle.std.specs.Prelude.{Bool, true, false, cond, ℕ, ◌+◌, eqb, ⊤, Result, Ok, Err}
use mathlib.Core.List.{List, [], ◌∷◌, ◌++◌, foldl}
use Rattle.laws.specs.Tab.{tab}
use Rattle.records.specs.declared.box_record.BoxRecord.{BoxRecord}
use Rattle.trackbox_stream.specs.declared.rules.OpenFrame.{OpenFrame}
use Rattle.trackbox_stream.specs.declared.rules.Next.{Next}
use Rattle.trackbox_stream.specs.declared.rules.Next.TheVariants as next
use Rattle.trackbox_stream.specs.declared.rules.Fault.{Fault}
use Rattle.trackbox_stream.specs.Rules.{number, start, nth_after, judged, closed}
use Rattle.trackbox_stream.specs.Stream.{Event, work, refuse}

pub record Run : Type 0 where
  -- what was done
  pub log : List Event
  -- false once a record was turned down
  pub going : Bool
  pub state : OpenFrame
  -- the open frame's
  pub boxes : List BoxRecord

abbrev pub run_with : List Event → Bool → OpenFrame → List BoxRecord → Run
run_with log going state boxes = record { log = log; going = going; state = state; boxes = boxes }

abbrev pub begin : Run
begin = run_with [] true start []

-- the open frame, if there is one
unfoldable pub open_work : OpenFrame → List BoxRecord → List Event
open_work state boxes = cond (eqb state.frame 0) [] (work state.frame boxes state.first ∷ [])

-- m empty frames from f on; record nth comes after them
unfoldable pub empty_work : ℕ → ℕ → ℕ → List Event
empty_work m f nth = tab (λ (i : ℕ). work (f + i) [] nth) m

-- what is done where a record is judged so, and what at the end
abbrev pub told : OpenFrame → List BoxRecord → Result Next Fault → List Event
told state boxes (Ok (next.Same then)) = []
told state boxes (Ok (next.Later m then)) = open_work state boxes ++ empty_work m (state.frame + 1) then.first
told state boxes (Err fault) = refuse (number fault.why) fault.nth ∷ []

abbrev pub told_at_end : OpenFrame → List BoxRecord → Result ⊤ Fault → List Event
told_at_end state boxes (Ok _) = open_work state boxes
told_at_end state boxes (Err fault) = refuse (number fault.why) fault.nth ∷ []

-- the boxes of the open frame behind the record
abbrev pub boxes_then : List BoxRecord → BoxRecord → Result Next Fault → List BoxRecord
boxes_then boxes r (Ok (next.Same then)) = boxes ++ (r ∷ [])
boxes_then boxes r (Ok (next.Later m then)) = r ∷ []
boxes_then boxes r (Err fault) = boxes

abbrev pub state_then : OpenFrame → Result Next Fault → OpenFrame
state_then state (Ok (next.Same then)) = then
state_then state (Ok (next.Later m then)) = then
state_then state (Err fault) = state

abbrev pub goes_on : Result Next Fault → Bool
goes_on (Ok next) = true
goes_on (Err fault) = false

abbrev pub follow : Run → BoxRecord → Result Next Fault → Run
follow run r n = run_with (run.log ++ told run.state run.boxes n) (goes_on n) (state_then run.state n) (boxes_then run.boxes r n)

unfoldable pub feed : Run → BoxRecord → Run
feed run r = cond run.going (follow run r (judged run.state (nth_after run.state.records) r.frame)) run

unfoldable pub finish : Run → ℕ → List Event
finish run rest = cond run.going (run.log ++ told_at_end run.state run.boxes (closed (nth_after run.state.records) rest)) run.log

unfoldable pub fed : List BoxRecord → ℕ → List Event
fed rs rest = finish (foldl feed begin rs) rest
