-- What a call of lapjv_partners or of match_detections says and leaves in lent memory: document 01, "When a call is turned down", Pairs.
use Rattle.std.specs.Prelude.{⊤, ℕ, ◌*◌, min, max, not, ◌||◌, List, length, ◌==◌, from_bits, nat_lt, Float, Result, Ok, Err}
use Rattle.std.specs.Float.{binary64}
use Rattle.laws.specs.Tab.{tab}
use Rattle.laws.specs.Over.{over}
use Rattle.lapjv.specs.declared.Counts.{Counts}
use Rattle.refusals.specs.declared.refusal.Refusal.{Refusal}
use Rattle.refusals.specs.Refusal.{number, verdict_number, too_many, verdict, where_accepted}
use Rattle.assoc_matching.specs.declared.matching.MatchCounts.{MatchCounts}
use Rattle.assoc_matching.specs.Matching.{boxes_of, tracks_of, Matched, match_detections}
use Rattle.assoc_matching.specs.Partners.{counts_of, solution, solved_column}

-- ---- a call

-- what a call says, document 01's number, 0 where it is accepted, and its counts; and what it leaves of what it was lent
pub record Call (Counts Lent : Type 0) : Type 0 where
  pub number : ℕ
  pub counts : Counts
  pub lent : Lent

-- by its verdict: these counts and this memory where it is accepted; a refused call has no counts and changes nothing
abbrev pub call_by : {C L : Type 0} → Result ⊤ Refusal → C → L → C → L → Call C L
call_by v counts after none before = record { number = verdict_number v; counts = where_accepted v counts none; lent = where_accepted v after before }

abbrev pub zeroed : List Float → List Float
zeroed l = tab (λ i. from_bits binary64 0) (length l)

-- ---- lapjv_partners

pub record PartnerLent : Type 0 where
  -- for each box its track, or the number of tracks where it has none
  pub partner : List ℕ
  pub work : List Float

abbrev pub partner_lent_with : List ℕ → List Float → PartnerLent
partner_lent_with partner work = record { partner = partner; work = work }

abbrev pub no_partner_counts : Counts
no_partner_counts = record { turns = 0; scans = 0 }

-- what an answer says
abbrev pub partner_number : Result Counts Refusal → ℕ
partner_number (Ok c) = 0
partner_number (Err why) = number why

abbrev pub partner_values : Result Counts Refusal → Counts
partner_values (Ok c) = c
partner_values (Err why) = no_partner_counts

abbrev pub partner_call_with : Result Counts Refusal → PartnerLent → Call Counts PartnerLent
partner_call_with r l = record { number = partner_number r; counts = partner_values r; lent = l }

-- from the lengths of the cost matrix, of the partners and of the work slice: lapjv solves no square without a cell
unfoldable pub partner_verdict : ℕ → ℕ → ℕ → ℕ → ℕ → Result ⊤ Refusal
partner_verdict boxes tracks costs partners work =
    let n = max boxes tracks in
    verdict
    (too_many boxes tracks)
    ((not (costs == boxes * tracks) || not (partners == boxes)) || n == 0)
    (nat_lt work (n * n))

-- the partners of the solved square stored, and the work slice zero
unfoldable pub partner_call : ℕ → ℕ → List Float → PartnerLent → Call Counts PartnerLent
partner_call boxes tracks cost l =
    let v = partner_verdict boxes tracks (length cost) (length l.partner) (length l.work) in
    call_by v (counts_of (solution cost boxes tracks)) (partner_lent_with (tab (solved_column cost boxes tracks) boxes) (zeroed l.work)) no_partner_counts l

-- ---- match_detections

pub record MatchLent : Type 0 where
  -- the pairs: a box, and its track at the same place
  pub pair_boxes : List ℕ
  pub pair_tracks : List ℕ
  pub work : List Float

abbrev pub match_lent_with : List ℕ → List ℕ → List Float → MatchLent
match_lent_with pair_boxes pair_tracks work = record { pair_boxes = pair_boxes; pair_tracks = pair_tracks; work = work }

-- the pairs over the fronts, and the work slice zero
abbrev pub match_lent_after : Matched → MatchLent → MatchLent
match_lent_after a l = match_lent_with (over (boxes_of a.matches) l.pair_boxes) (over (tracks_of a.matches) l.pair_tracks) (zeroed l.work)

abbrev pub match_counts : Matched → MatchCounts
match_counts a = record { pairs = length a.matches; turns = a.turns; scans = a.scans }

abbrev pub no_match_counts : MatchCounts
no_match_counts = record { pairs = 0; turns = 0; scans = 0 }

-- what an answer says
abbrev pub match_number : Result MatchCounts Refusal → ℕ
match_number (Ok c) = 0
match_number (Err why) = number why

abbrev pub match_values : Result MatchCounts Refusal → MatchCounts
match_values (Ok c) = c
match_values (Err why) = no_match_counts

abbrev pub match_call_with : Result MatchCounts Refusal → MatchLent → Call MatchCounts MatchLent
match_call_with r l = record { number = match_number r; counts = match_values r; lent = l }

-- from the lengths of the cost matrix, of the two halves of the pairs and of the work slice
unfoldable pub match_verdict : ℕ → ℕ → ℕ → ℕ → ℕ → ℕ → Result ⊤ Refusal
match_verdict boxes tracks costs pair_boxes pair_tracks work =
    let few = min boxes tracks in
    let n = max boxes tracks in
    verdict
    (too_many boxes tracks)
    (not (costs == boxes * tracks))
    ((nat_lt pair_boxes few || nat_lt pair_tracks few) || nat_lt work (n * n))

unfoldable pub match_call : ℕ → ℕ → List Float → Float → MatchLent → Call MatchCounts MatchLent
match_call boxes tracks cost threshold l =
    let v = match_verdict boxes tracks (length cost) (length l.pair_boxes) (length l.pair_tracks) (length l.work) in
    let a = match_detections cost boxes tracks threshold in
    call_by v (match_counts a) (match_lent_after a l) no_match_counts l
