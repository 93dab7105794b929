-- A list with some elements in a row stored over: what a part that was lent leaves in the whole. Assumes nothing.
use Rattle.std.specs.Prelude.{◌≡◌, List, ◌++◌, ℕ, ◌+◌, ◌-◌, ◌*◌, ◌≤◌, length, take, drop}
use Rattle.std.proofs.Common.{sym, ap, ◌∙◌, append_assoc, append-nil, le_refl, zero-add, add_assoc, arith, length-append, length-drop, length-take, length-take-le, take_at, drop_at, drop-drop}
use Rattle.std.proofs.Math.Nat.{add-sub_cancel_left}
use Rattle.std.proofs.lemmas.List.Edits.{sets, sets-eq}
use Rattle.std.proofs.Math.Seq.{drop-length}
use borrow.Rule.Slice.PartMut.{put_mid}

module _ {A : Type 0} where
  -- l, with vs in the place of its elements from at on
  abbrev pub splice : List A → ℕ → List A → List A
  splice l at vs = take at l ++ (vs ++ drop (at + length vs) l)

  pub length-splice : (l : List A) (at : ℕ) (vs : List A) → at + length vs ≤ length l → length (splice l at vs) ≡ length l
  length-splice l at vs h = simp (length-append, length-take, length-drop) (omega arith)

  -- a list that is stored over whole
  pub sets_all : (vs l : List A) → length l ≡ length vs → sets l 0 vs ≡ vs
  sets_all vs l e = sets-eq vs l 0 (rw (zero-add, e) (le_refl (length vs))) ∙ rw (zero-add, ← e, drop-length l) (append-nil vs)

  -- what k elements that were lent from at on leave in the whole when they come back as vs
  pub mid_is : (l : List A) (at k : ℕ) (vs : List A) → length vs ≡ k → put_mid at k l vs ≡ splice l at vs
  mid_is l at k vs e = rw (drop-drop, e)

  -- the same of a part that was written `l[at .. at + k]`
  pub mid_splice : (l : List A) (at k : ℕ) (vs : List A) → length vs ≡ k → put_mid at (at + k - at) l vs ≡ splice l at vs
  mid_splice l at k vs e = rw add-sub_cancel_left (mid_is l at k vs e)

  -- two stores, one behind the other
  pub splice-splice : (l : List A) (at k : ℕ) (u v : List A) → length u ≡ k → at + k + length v ≤ length l → splice (splice l at u) (at + k) v ≡ splice l at (u ++ v)
  splice-splice l at k u v e h =
      let p : List A = take at l ++ u in
      let d : List A = drop (at + length u) l in
      let n : length p ≡ at + k = length-append (take at l) u ∙ rw (length-take-le at l (omega arith), e) in
      let whole : take at l ++ (u ++ d) ≡ p ++ d = sym (append_assoc (take at l) u d) in
      let rest : drop (at + k + length v) (p ++ d) ≡ drop (at + length (u ++ v)) l =
      sym (drop-drop (length v) (at + k) (p ++ d)) ∙ ap (drop (length v)) (drop_at p d (at + k) n) ∙ drop-drop (length v) (at + length u) l
      ∙ rw (length-append, add_assoc) in
      rw (whole, take_at p d (at + k) n, rest) (simp append_assoc)

  -- four stores of k elements each, one behind the other
  pub run_of_four : (l l₁ l₂ l₃ l₄ : List A) (at : ℕ) (a b c d : List A) (k : ℕ) → length a ≡ k → length b ≡ k → length c ≡ k → length d ≡ k
      → at + 4 * k ≤ length l → l₁ ≡ splice l at a → l₂ ≡ splice l₁ (at + k) b → l₃ ≡ splice l₂ (at + 2 * k) c → l₄ ≡ splice l₃ (at + 3 * k) d
      → l₄ ≡ splice l at (a ++ (b ++ (c ++ d)))
  run_of_four l l₁ l₂ l₃ l₄ at a b c d k ea eb ec ed h e₁ e₂ e₃ e₄ =
      let n₂ : length (a ++ b) ≡ 2 * k = simp length-append (omega arith) in
      let n₃ : length ((a ++ b) ++ c) ≡ 3 * k = simp length-append (omega arith) in
      let two : l₂ ≡ splice l at (a ++ b) = e₂ ∙ ap (λ (m : List A). splice m (at + k) b) e₁ ∙ splice-splice l at k a b ea (omega arith) in
      let three : l₃ ≡ splice l at ((a ++ b) ++ c) = e₃ ∙ ap (λ (m : List A). splice m (at + 2 * k) c) two ∙ splice-splice l at (2 * k) (a ++ b) c n₂ (omega arith) in
      e₄ ∙ ap (λ (m : List A). splice m (at + 3 * k) d) three ∙ splice-splice l at (3 * k) ((a ++ b) ++ c) d n₃ (omega arith)
      ∙ ap (splice l at) (append_assoc (a ++ b) c d ∙ append_assoc a b (c ++ d))
