-- A list over the front of another: what a loop that pushes onto lent memory leaves. Assumes nothing.
use Rattle.std.specs.Prelude.{◌≡◌, Bool, true, false, cond, List, [], ◌∷◌, ◌++◌, ℕ, suc, ◌+◌, ◌-◌, ◌≤◌, ◌<◌, get_or, set, take, drop}
use Rattle.std.proofs.Math.Path.{refl, sym}
use Rattle.std.proofs.Common.{ap, ◌∙◌, append-nil, append_assoc, le_of_eq, add-one, length-drop, take-append-drop, drop_of_length-le, drop-cons, drop-drop, take_all, get_or-append-add}
use native.Mathlib.Omega.{arith}
use Rattle.std.proofs.Math.ListN.{length, length-append}
use Rattle.std.proofs.lemmas.List.{set_at}
use Rattle.std.proofs.Math.Seq.{append_snoc, drop_at, take_at, get_or-drop}
use borrow.Rule.Slice.PartMut.{put_mid}
use Rattle.laws.specs.Sieve.{maybe}

module _ {A : Type 0} where
  -- l, with its front replaced by xs
  unfoldable pub over : List A → List A → List A
  over xs l = xs ++ drop (length xs) l

  pub over_none : (l : List A) → l ≡ over [] l
  unfolding over
  over_none l = refl

  pub length_over : (xs l : List A) → length xs ≤ length l → length (over xs l) ≡ length l
  unfolding over
  length_over xs l h = simp (length-append, length-drop) (omega arith)

  -- one more is pushed
  over-more : (xs l : List A) (x : A) → length xs < length l → set (over xs l) (length xs) x ≡ over (xs ++ (x ∷ [])) l
  unfolding over
  over-more xs l x h =
      rw (drop-cons l (length xs) x, length-append xs (x ∷ []), add-one)
      (set_at xs (get_or l (length xs) x) (drop (suc (length xs)) l) x (length xs) refl ∙ sym (append_snoc xs x (drop (suc (length xs)) l)))

  -- a second run, behind the first
  over-over : (xs ys l : List A) → xs ++ over ys (drop (length xs) l) ≡ over (xs ++ ys) l
  unfolding over
  over-over xs ys l = rw (length-append xs ys, drop-drop) (sym (append_assoc xs ys (drop (length xs + length ys) l)))

  -- what was pushed, read back
  pub over-front : (xs l : List A) (n : ℕ) → n ≡ length xs → take n (over xs l) ≡ xs
  unfolding over
  over-front xs l n e = take_at xs (drop (length xs) l) n (sym e)

  -- what lies behind the pushed is as it was
  pub over_past : (xs l : List A) (i : ℕ) (d : A) → length xs ≤ i → get_or (over xs l) i d ≡ get_or l i d
  unfolding over
  over_past xs l i d h =
      let e : length xs + (i - length xs) ≡ i = omega arith in
      rw e at (get_or-append-add xs (drop (length xs) l) (i - length xs) d ∙ get_or-drop (length xs) l (i - length xs) d)

  over-drop : (xs l : List A) → drop (length xs) (over xs l) ≡ drop (length xs) l
  unfolding over
  over-drop xs l = drop_at xs (drop (length xs) l) (length xs) refl

-- what a loop that pushes onto l knows when xs are pushed, k of them, and the list is out
pub record Pushed {A : Type 0} (l xs : List A) (k : ℕ) (out : List A) : Type 0 where
  pub many : k ≡ length xs
  pub cells : out ≡ over xs l
  pub same : length out ≡ length l

module _ {A : Type 0} (l : List A) where
  pub push_start : Pushed l [] 0 l
  push_start = record { many = refl; cells = over_none l; same = refl }

  push_on : {xs : List A} {k : ℕ} {out : List A} (x : A) → Pushed l xs k out → k < length l → Pushed l (xs ++ (x ∷ [])) (k + 1) (set out k x)
  push_on {xs} {k} {out} x w h =
      let m = w.many in
      let e : set out k x ≡ over (xs ++ (x ∷ [])) l = rw (w.cells, w.many) (over-more xs l x (omega arith)) in
      let n : length (xs ++ (x ∷ [])) ≡ k + 1 = length-append xs (x ∷ []) ∙ rw w.many in
      record { many = sym n; cells = e; same = ap length e ∙ length_over (xs ++ (x ∷ [])) l (rw n (omega arith)) }

  -- one more where b holds, as a step's contract says it
  pub push_maybe : {xs : List A} {k k' : ℕ} {out out' : List A} (b : Bool) (x : A) → Pushed l xs k out → (b ≡ true → k < length l)
      → k' ≡ cond b (k + 1) k → out' ≡ cond b (set out k x) out → Pushed l (xs ++ maybe b x) k' out'
  push_maybe {xs} {k} {k'} {out} {out'} true x w h e f = rw (e, f) (push_on x w (h refl))
  push_maybe {xs} {k} {k'} {out} {out'} false x w h e f = rw (e, f, append-nil xs) w

module _ {A : Type 0} where
  -- the part of a list from a on, as it is lent
  pub tail-part : (l : List A) (a : ℕ) → take (length l - a) (drop a l) ≡ drop a l
  tail-part l a = take_all (length l - a) (drop a l) (le_of_eq (length-drop a l))

  -- and the list when that part has come back as ys
  pub tail-put : (l ys : List A) (a : ℕ) → put_mid a (length l - a) l ys ≡ take a l ++ ys
  tail-put l ys a = ap (λ (r : List A). take a l ++ (ys ++ r)) (drop_of_length-le (drop a l) (le_of_eq (length-drop a l))) ∙ ap (λ (r : List A). take a l ++ r) (append-nil ys)

  -- a second run is pushed behind the first, onto the part that is lent for it
  pub push_tail : {l xs ys out part : List A} {k r : ℕ} → Pushed l xs k out → Pushed (take (length out - k) (drop k out)) ys r part
      → Pushed l (xs ++ ys) (k + r) (put_mid k (length out - k) out part)
  push_tail {l} {xs} {ys} {out} {part} {k} {r} w v' =
      let v = rw (tail-part out k) at v' in
      let m = w.many in
      let a : take k out ≡ xs = rw w.cells (over-front xs l k m) in
      let b : drop k out ≡ drop (length xs) l = rw (w.cells, m) (over-drop xs l) in
      let e : take k out ++ part ≡ over (xs ++ ys) l = rw a (ap (λ (p : List A). xs ++ p) (v.cells ∙ ap (over ys) b) ∙ over-over xs ys l) in
      let n : k + r ≡ length (xs ++ ys) = rw (m, v.many) (sym (length-append xs ys)) in
      let s : length (take k out ++ part) ≡ length l = length-append (take k out) part ∙ rw v.same (sym (length-append (take k out) (drop k out)) ∙ ap length (take-append-drop k out) ∙ w.same) in
      rw (tail-put out part k) (record { many = n; cells = e; same = s })
