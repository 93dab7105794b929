-- What a turn does, said of the definitions of Turn: what waits grows by exactly the call's text, nothing waits while the input is read on, and after a write or a read that failed
-- nothing is handed on and nothing is written. `laws` of proofs/Waiting.antt proves it.
use Rattle.std.specs.Prelude.{◌≡◌, true, false, ◌&&◌, ◌||◌, List, [], ◌++◌, ℕ, ◌≤◌, length, take, Option, None}
use Rattle.trackbox_feed.specs.declared.feed.Fed.{Fed}
use Rattle.trackbox_feed.specs.declared.feed.Fed.TheVariants.{Taken, Again, Ended, Short}
use Rattle.trackbox_progress.specs.declared.progress.Progress.{Progress}
use Rattle.trackbox_progress.specs.Progress.{spent, stopped}
use Rattle.trackbox_io.specs.Turn.{crowded, Arrays, Empties, Hands, Turned}

-- ---- what waits

abbrev pub waiting : Progress → Arrays → List ℕ
waiting p a = take p.used a.text

-- what a call says, of the text that it left
abbrev pub said : Fed → List ℕ → List ℕ
said (Taken feed n) text = take n text
said (Again feed n) text = take n text
said (Ended n) text = take n text
said Short text = []

-- ---- a turn from p to r, of the arrays a to b

pub record Laws (p r : Progress) (a b : Arrays) : Type 0 where
  -- what waits grows by exactly the call's text
  pub waiting_grows : (h : Hands p r a b) → p.used ≤ length a.text → length a.text ≡ length b.text → waiting r b ≡ waiting p a ++ said h.answer h.text
  -- nothing waits while the input is read on
  pub none_waits : (size : ℕ) → Empties p r size → (r.going && spent r) ≡ true → r.used ≡ 0
  -- where a write failed, nothing is read and nothing handed on, and the run has stopped
  pub write_fails : (t : Turned p r a b) → (crowded p.used (length a.text) || spent p) ≡ true → t.empties.written ≡ false → r ≡ stopped p
  -- where a read failed, nothing is handed on, the end least of all, and the run has stopped
  pub read_fails : (t : Turned p r a b) → (t.flushed.going && spent t.flushed) ≡ true → t.fills.input ≡ None → r ≡ stopped t.flushed
