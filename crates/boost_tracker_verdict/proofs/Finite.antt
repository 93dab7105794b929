-- Tests joined by `&` from the left are those of a list. Assumes nothing.
use mathlib.Core.Path.{◌≡◌, refl, ◌∙◌}
use mathlib.Core.Bool.{Bool, true, false, ◌&&◌}
use mathlib.Core.List.{List, [], ◌∷◌, ◌++◌}
use Rattle.laws.specs.Every.{every, every_append}

-- ---- tests of two to six values

and_true : (a : Bool) → a ≡ (a && true)
and_true true = refl
and_true false = refl

and_two : (a b : Bool) → (a && b) ≡ (a && (b && true))
and_two true b = and_true b
and_two false b = refl

and_three : (a b c : Bool) → ((a && b) && c) ≡ (a && (b && (c && true)))
and_three true b c = and_two b c
and_three false b c = refl

and_four : (a b c d : Bool) → (((a && b) && c) && d) ≡ (a && (b && (c && (d && true))))
and_four true b c d = and_three b c d
and_four false b c d = refl

and_five : (a b c d e : Bool) → ((((a && b) && c) && d) && e) ≡ (a && (b && (c && (d && (e && true)))))
and_five true b c d e = and_four b c d e
and_five false b c d e = refl

and_six : (a b c d e f : Bool) → (((((a && b) && c) && d) && e) && f) ≡ (a && (b && (c && (d && (e && (f && true))))))
and_six true b c d e f = and_five b c d e f
and_six false b c d e f = refl

module _ {X : Type 0} (p : X → Bool) where
  -- the outcomes are given as the code has them
  pub every_six : {a b c d e f : X} {ra rb rc rd re rf : Bool} → ra ≡ p a → rb ≡ p b → rc ≡ p c → rd ≡ p d → re ≡ p e → rf ≡ p f
      → (((((ra && rb) && rc) && rd) && re) && rf) ≡ every p (a ∷ b ∷ c ∷ d ∷ e ∷ f ∷ [])
  unfolding every
  every_six {a} {b} {c} {d} {e} {f} ha hb hc hd he hf = rw (ha, hb, hc, hd, he, hf) (and_six (p a) (p b) (p c) (p d) (p e) (p f))

  and_join : (a b c d : Bool) → (((a && b) && c) && d) ≡ (a && (b && (c && d)))
  and_join true true c d = refl
  and_join true false c d = refl
  and_join false b c d = refl

  -- four lists, one after the other
  pub every-lists : (a b c d : List X) → (((every p a && every p b) && every p c) && every p d) ≡ every p (a ++ (b ++ (c ++ d)))
  every-lists a b c d = and_join (every p a) (every p b) (every p c) (every p d) ∙ rw (every_append p a (b ++ (c ++ d)), every_append p b (c ++ d), every_append p c d)
