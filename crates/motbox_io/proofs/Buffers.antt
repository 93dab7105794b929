-- The first line of what is held, and the bytes that go to the front of the buffer. Assumes nothing.
use mathlib.Core.Path.{◌≡◌, refl, sym, ap, subst, ◌∙◌}
use mathlib.Core.Bool.{Bool, cond}
use mathlib.Core.List.{List, [], ◌∷◌, ◌++◌}
use Prim.Native.Nat.{ℕ, suc, ◌+◌, ◌≤◌, ◌<◌}
use native.Mathlib.Nat.{add_comm}
use native.Mathlib.Numerals.{add-one}
use native.Mathlib.Omega.{arith}
use lib.ListN.{length, take, drop, get_or, set, length-set, length-drop, take-append-drop}
use lib.Seq.{take-suc, take-suc-set, drop-set-lt, drop-drop, get_or-drop}
use borrow.Author.Tests.{lt-ltb, le-ltb}
use Rattle.mot_number.specs.Index.{index_of}
use Rattle.motbox_io.specs.Text.{line_length}

-- ---- the first line; e is where the search of all bytes found the line feed

module _ (t : List ℕ) (e : ℕ) (is : e ≡ index_of 10 t) where
  pub with_feed : e < length t → e + 1 ≡ line_length t
  with_feed h =
      ap (λ (k : ℕ). k + 1) is
      ∙ sym (ap (λ (b : Bool). cond b (index_of 10 t + 1) (length t)) (lt-ltb (index_of 10 t) (length t) (subst (λ (k : ℕ). k < length t) is h)))

  pub without-feed : length t ≤ e → length t ≡ line_length t
  without-feed h = sym (ap (λ (b : Bool). cond b (index_of 10 t + 1) (length t)) (le-ltb (index_of 10 t) (length t) (subst (λ (k : ℕ). length t ≤ k) is h)))

-- ---- the first i of n bytes have come to the front, from place `next` on; l is the buffer as it was

pub record Moved (l : List ℕ) (next n : ℕ) (input : List ℕ) (i : ℕ) : Type 0 where
  pub upto : i ≤ n
  pub size : length input ≡ length l
  pub front : take i input ≡ take i (drop next l)
  pub back : drop i input ≡ drop i l

pub none-moved : (l : List ℕ) (next n : ℕ) → Moved l next n l 0
none-moved l next n = record { upto = omega arith; size = refl; front = refl; back = refl }

module _ {l : List ℕ} {next n : ℕ} {input : List ℕ} {i : ℕ} (m : Moved l next n input i) where
  pub one_more : i < n → next + n ≤ length l → Moved l next n (set input i (get_or input (next + i) 0)) (i + 1)
  one_more h room =
      let byte = get_or input (next + i) 0 in
      let s = m.size in
      let d = length-drop next l in
      let same : byte ≡ get_or (drop next l) i 0 =
      ap (λ (k : ℕ). get_or input k 0) (add_comm next i) ∙ sym (get_or-drop i input next 0) ∙ ap (λ (x : List ℕ). get_or x next 0) m.back ∙ get_or-drop i l next 0
      ∙ ap (λ (k : ℕ). get_or l k 0) (add_comm i next) ∙ sym (get_or-drop next l i 0) in
      let front : take (suc i) (set input i byte) ≡ take (suc i) (drop next l) =
      take-suc-set input i byte (omega arith) ∙ ap (λ (x : List ℕ). x ++ (byte ∷ [])) m.front ∙ ap (λ (b : ℕ). take i (drop next l) ++ (b ∷ [])) same ∙ sym (take-suc (drop next l) i 0 (omega arith)) in
      let back : drop (suc i) (set input i byte) ≡ drop (suc i) l =
      drop-set-lt (suc i) input i byte (omega arith) ∙ ap (λ (k : ℕ). drop k input) (sym (add-one i)) ∙ sym (drop-drop 1 i input) ∙ ap (drop 1) m.back ∙ drop-drop 1 i l ∙ ap (λ (k : ℕ). drop k l) (add-one i) in
      record {
        upto = omega arith;
        size = length-set input i byte ∙ s;
        front = ap (λ (k : ℕ). take k (set input i byte)) (add-one i) ∙ front ∙ sym (ap (λ (k : ℕ). take k (drop next l)) (add-one i));
        back = ap (λ (k : ℕ). drop k (set input i byte)) (add-one i) ∙ back ∙ sym (ap (λ (k : ℕ). drop k l) (add-one i));
      }

  pub all_moved : n ≤ i → input ≡ take n (drop next l) ++ drop n l
  all_moved h =
      let u = m.upto in
      let e : i ≡ n = omega arith in
      sym (take-append-drop i input) ∙ ap (λ (x : List ℕ). x ++ drop i input) m.front ∙ ap (λ (x : List ℕ). take i (drop next l) ++ x) m.back ∙ ap (λ (k : ℕ). take k (drop next l) ++ drop k l) e
