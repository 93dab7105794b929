-- The frames that trackbox works of a stream, one after the other, are a history: each that is accepted is an event, and the first refusal ends it.
-- `events` of trackbox_stream is what is done with an input, and `printing` what comes of it by the definition of trackbox, whose text is what the code prints (PrintedIs of trackbox_feed).
use Rattle.std.specs.Prelude.{◌≡◌, refl, Bool, true, false, cond, ⊤, Result, Ok, Err}
use mathlib.Core.List.{List, foldl}
use Rattle.records.specs.declared.box_record.BoxRecord.{BoxRecord}
use Rattle.boost_tracker_verdict.specs.declared.refusal.Refusal.{Refusal}
use Rattle.trackbox_stream.specs.Stream.{work, refuse, printing}
use Rattle.trackbox_stream.specs.Stream as stream
use Rattle.trackbox_feed.specs.Trackbox.{settings, lent_output, lent_doubles, lent_singles, Tracker, begin, frame_boxes, updated}
use Rattle.boost_tracker_history.specs.History.{Frame, answered, frame, after, History, empty, then, given, retired}
use Rattle.boost_tracker_history.specs.Balance.{Balanced}

pub record Night : Type 0 where
  pub tracker : Tracker
  pub history : History tracker
  -- false once something was refused
  pub going : Bool

abbrev pub evening : Night
evening = record { tracker = begin; history = empty begin.table; going = true }

abbrev pub ended : Night → Night
ended n = record { tracker = n.tracker; history = n.history; going = false }

-- the frame of these records, as trackbox lends for it
abbrev pub frame_of : List BoxRecord → Frame
frame_of bs = record { settings = settings; boxes = frame_boxes bs; output = lent_output; work64 = lent_doubles; work32 = lent_singles }

abbrev pub frame_then : (n : Night) (bs : List BoxRecord) (v : Result ⊤ Refusal) → answered n.tracker (frame_of bs) ≡ v → Night
frame_then n bs (Ok tt) e = record { tracker = after {t = n.tracker} (frame (frame_of bs) e); history = then n.history (frame (frame_of bs) e); going = true }
frame_then n bs (Err why) e = ended n

abbrev pub night_then : Night → stream.Event → Night
night_then n (work f bs nth) = frame_then n bs (answered n.tracker (frame_of bs)) refl
night_then n (refuse number nth) = ended n

unfoldable pub night_on : Night → stream.Event → Night
night_on n e = cond n.going (night_then n e) n

unfoldable pub night : List stream.Event → Night
night es = foldl night_on evening es

-- THE THEOREM, after any events of a stream: that history has led to trackbox's own tracker, and what holds of histories holds of it. `every-night` of proofs/Theorem.antt
pub record NightOf (es : List stream.Event) : Type 0 where
  pub tracker-is : (night es).tracker ≡ (printing updated begin es).state
  pub going-is : (night es).going ≡ (printing updated begin es).going
  pub balance : Balanced (printing updated begin es).state (given (night es).history) (retired (night es).history)

abbrev pub EveryNight : Type 0
EveryNight = (es : List stream.Event) → NightOf es
