-- What the steps of a search leave, from the definition's equation and the option beside it. Assumes nothing.
use mathlib.Core.Path.{◌≡◌, refl, subst}
use mathlib.Core.List.{List}
use Prim.Native.Nat.{ℕ}
use lib.Ieee.{Float}
use Rattle.std.specs.Prelude.{Option}
use Rattle.lapjv_definition.specs.Entry.{owner_of}
use Rattle.lapjv_definition.specs.Path.{Search, search_at}
use Rattle.lapjv_definition.specs.Private.{Scanned, AllScanned, Searched}
use Rattle.lapjv_definition.specs.Scan.{Scanning, scanning, Scans, scans_at}

module _ {n : ℕ} {d : List Float} {cols pred : List ℕ} {hi f : ℕ} {found : Option ℕ} (e : found ≡ owner_of n f) where
  pub scanned_at : {t : Scanning} → scanning d cols pred hi f ≡ t → Scanned n t d cols pred hi found
  scanned_at q = subst (λ (t : Scanning). Scanned n t d cols pred hi found) q (record { left = refl; column = e })

  pub all_scanned_at : {a : Scans} {lo scans : ℕ} → scans_at (scanning d cols pred hi f) lo scans ≡ a → AllScanned n a (λ (k : ℕ). scans_at (scanning d cols pred hi k) lo scans) found
  all_scanned_at {lo = lo} {scans = scans} q = subst (λ (a : Scans). AllScanned n a (λ (k : ℕ). scans_at (scanning d cols pred hi k) lo scans) found) q (record { left = refl; column = e })

  pub searched_at : {s : Search} {lo n_ready scans : ℕ} → search_at (scanning d cols pred hi f) lo n_ready scans ≡ s → Searched n s (λ (k : ℕ). search_at (scanning d cols pred hi k) lo n_ready scans) found
  searched_at {lo = lo} {n_ready = n_ready} {scans = scans} q = subst (λ (s : Search). Searched n s (λ (k : ℕ). search_at (scanning d cols pred hi k) lo n_ready scans) found) q (record { left = refl; column = e })
