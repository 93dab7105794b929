-- `ids::listed` meets its contract. Assumes nothing.
use Rattle.std.proofs.Common.{◌≡◌, ◌∙◌, refl, ℕ, List, [], ◌∷◌, eqb}
use Rattle.std.specs.List.{list_any}
use Rattle.laws.specs.Stored.{eqb_flip}
use Rattle.laws.specs.Elem.{elem}
use Rattle.boost_tracker_table.proofs.ids.listed.Goals as goal

any-elem : (id : ℕ) (l : List ℕ) → list_any (λ y. eqb y id) l ≡ elem id l
unfolding elem
any-elem id [] = refl
any-elem id (x ∷ xs) = rw (eqb_flip x id, any-elem id xs)

pub returns : goal.returns
returns c = c.contains.ensures.value ∙ any-elem c.args.id c.args.ids.now
