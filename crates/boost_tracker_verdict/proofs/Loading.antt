-- Loops that load each of the held tracks: what they load, and how many there are. Assumes nothing.
use mathlib.Core.Path.{◌≡◌, ap, ◌∙◌}
use mathlib.Core.List.{List}
use Prim.Native.Nat.{ℕ, ◌<◌}
use lib.ListN.{length, get_or}
use lib.Ieee.{Float}
use Rattle.laws.specs.Tab.{tab}
use Rattle.boost_tracker_table.specs.Table.{Track, track_at, blank, placed, tracks}
use Rattle.boost_tracker_table.proofs.Laws.{tracks-at}

-- n is the number of tracks that have a place
module _ (f : List Float) (c : List ℕ) (held : ℕ) {n : ℕ} (e : n ≡ placed (length f) (length c) held) where
  -- a track that is loaded is the one in its place
  pub loaded : {i : ℕ} {t : Track} → i < n → t ≡ get_or (tracks f c held) i blank → t ≡ track_at f c i
  loaded {i} h l = l ∙ tracks-at f c held i blank (rw e at h)

  pub all_loaded : tab (track_at f c) n ≡ tracks f c held
  unfolding tracks
  all_loaded = ap (tab (track_at f c)) e
