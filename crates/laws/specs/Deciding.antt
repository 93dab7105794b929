-- What is to come of a list decides: what a loop that goes through a list, and leaves at the first element that decides, knows at place i. Assumes nothing.
use Rattle.std.specs.Prelude.{◌≡◌, Bool, List, [], ◌∷◌, ℕ, suc, ◌+◌, ◌≤◌, ◌<◌, length, get_or, drop}
use Rattle.std.proofs.Common.{sym, ap, ◌∙◌, add-one, drop_of_length-le, drop-cons}

module _ (d : List ℕ → Bool) (xs : List ℕ) (from i : ℕ) (w : d (drop i xs) ≡ d (drop from xs)) where
  -- the element at i decides
  pub decided : {b : Bool} → i < length xs → d (get_or xs i 0 ∷ drop (suc i) xs) ≡ b → b ≡ d (drop from xs)
  decided h e = sym e ∙ ap d (sym (drop-cons xs i 0 h)) ∙ w

  -- it does not
  pub undecided : i < length xs → d (get_or xs i 0 ∷ drop (suc i) xs) ≡ d (drop (suc i) xs) → d (drop (i + 1) xs) ≡ d (drop from xs)
  undecided h e = rw add-one (sym e ∙ ap d (sym (drop-cons xs i 0 h)) ∙ w)

  pub exhausted : {b : Bool} → length xs ≤ i → d [] ≡ b → b ≡ d (drop from xs)
  exhausted h e = sym e ∙ ap d (sym (drop_of_length-le xs {i = i} h)) ∙ w
