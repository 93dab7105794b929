-- The returns of the functions that read a field. Assumes nothing.
use mathlib.Core.Path.{◌≡◌, refl, sym, ap, ◌∙◌}
use mathlib.Core.Bool.{Bool, true, false, not, cond, ◌&&◌}
use mathlib.Core.List.{List}
use Prim.Native.Nat.{ℕ}
use lib.Dec.{ltb}
use lib.ListN.{length}
use Rattle.std.proofs.Common.{Option, Some, None}
use Rattle.std.specs.Bool.{then_some}
use Rattle.mot_number.specs.Index.{index_of}
use Rattle.mot_fields.specs.Fields.{Form, is_minus_one}
use Rattle.mot_fields.specs.Reading.{first, next, goes_on, is_last, IsFirst}

-- no other field follows: the text has none of any form
pub none-follows : (form : Form) (t : List ℕ) → is_last t ≡ true → goes_on form t ≡ false
none-follows form t h = go (ltb (index_of 44 t) (length t)) h
  where
    go : (b : Bool) → not b ≡ true → (b && form (first t)) ≡ false
    go true e = cc
    go false e = refl

module _ {t text : List ℕ} {start : ℕ} (f : IsFirst t text start) where
  -- the form of its text decides
  pub decides : (form : Form) → goes_on form t ≡ form text
  decides form = go (ltb (index_of 44 t) (length t)) f.goes_on
    where
      go : (b : Bool) → not b ≡ false → (b && form (first t)) ≡ form text
      go true e = ap form (sym f.text_is)
      go false e = cc

  -- what a reader of a whole text answers of a field's
  module _ {A : Type 0} (form : Form) (value : List ℕ → A) (r : Option A) (e : r ≡ cond (form text) (Some (value text)) None) where
    pub no-field : r ≡ None → ◌≡◌ {A = Option (A × ℕ)} None (cond (goes_on form t) (Some (value (first t), next t)) None)
    no-field m = go (form text) (decides form) (sym e ∙ m)
      where
        go : (b : Bool) → goes_on form t ≡ b → cond b (Some (value text)) None ≡ None → ◌≡◌ {A = Option (A × ℕ)} None (cond (goes_on form t) (Some (value (first t), next t)) None)
        go true g h = cc
        go false g h = rw g

    pub a-field : (v : A) → r ≡ Some v → ◌≡◌ {A = Option (A × ℕ)} (Some (v, start)) (cond (goes_on form t) (Some (value (first t), next t)) None)
    a-field v m = go (form text) (decides form) (sym e ∙ m)
      where
        go : (b : Bool) → goes_on form t ≡ b → cond b (Some (value text)) None ≡ Some v → ◌≡◌ {A = Option (A × ℕ)} (Some (v, start)) (cond (goes_on form t) (Some (value (first t), next t)) None)
        go true g h = let w : value text ≡ v = cc in let s = f.start_is in let x = f.text_is in rw (g, ← x, ← s, w)
        go false g h = cc

  pub at_minus_one : (b : Bool) → b ≡ is_minus_one text → then_some b start ≡ cond (goes_on is_minus_one t) (Some (next t)) None
  at_minus_one b e = let s = f.start_is in rw (decides is_minus_one, ← e, ← s) (go b)
    where
      go : (b : Bool) → then_some b start ≡ cond b (Some start) None
      go true = refl
      go false = refl
