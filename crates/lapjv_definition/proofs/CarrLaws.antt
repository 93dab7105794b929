-- carr_dence, turn by turn: the definition's turn in the code's four steps, what each turn keeps, and the loop of the code. Assumes nothing.
use mathlib.Core.Path.{◌≡◌, refl, sym, ◌∙◌}
use mathlib.Core.Bool.{Bool, true, false, cond, ◌&&◌, not}
use mathlib.Core.List.{List}
use Prim.Native.Nat.{ℕ, zero, suc, ◌+◌, ◌-◌, ◌*◌, ◌<◌, ◌≤◌}
use native.Mathlib.Omega.{arith}
use native.Mathlib.Decide.{ℕ_discrete, dec_lt}
use native.Mathlib.Nat.{mul-le-mul_right, add-mul}
use borrow.Author.Tests.{lt-ltb, le-ltb, ltb-true}
use lib.Dec.{ltb}
use lib.ListN.{length, get_or, set, length-set}
use lib.Seq.{get_or-set_same, get_or-set_other}
use lib.Ieee.{Float, nan, lt, le}
use Rattle.laws.specs.Fuel.{fuel_suc, fuel_zero}
use Rattle.lapjv_definition.specs.Carr.{two, two_step, two_from, carr_two, Carrying, carr_row, carr_turn, carr_from}
use Rattle.lapjv_definition.specs.Cost.{at, ◌⊖◌, large}
use Rattle.lapjv_definition.specs.Entry.{owner_of, is_free}
use Rattle.lapjv_definition.specs.Private.{carr_pick, carr_by, carr_take, carr_step}
use Rattle.lapjv_definition.specs.declared.Pick.{Pick}
use Rattle.lapjv_definition.specs.declared.Two.{Two}
use Rattle.lapjv_definition.proofs.EntryLaws.{free_yes, free_no, row_is}

pub record TwoInv (n : ℕ) (cost : List Float) (i : ℕ) (v : List Float) (R : Two) (j : ℕ) (t : Two) : Type 0 where
  pub to : j ≤ n
  pub rest : two_from n cost i v (n - j) j t ≡ R

two_step_lem : (n : ℕ) (cost : List Float) (i : ℕ) (v : List Float) (j : ℕ) (t : Two) → j < n
    → two_from n cost i v (n - j) j t ≡ two_from n cost i v (n - (j + 1)) (j + 1) (two_step (at cost n i j ⊖ get_or v j nan) j t)
unfolding two_from
two_step_lem n cost i v j t h = rw (fuel_suc n j h)

pub two_again : {n : ℕ} {cost : List Float} {i : ℕ} {v : List Float} {R : Two} {j : ℕ} {t t' : Two} → TwoInv n cost i v R j t → j < n
    → t' ≡ two_step (at cost n i j ⊖ get_or v j nan) j t
    → TwoInv n cost i v R (j + 1) t'
two_again {n} {cost} {i} {v} {R} {j} {t} inv h e = record { to = omega arith; rest = rw e (sym (two_step_lem n cost i v j t h) ∙ inv.rest) }

pub two-done : {n : ℕ} {cost : List Float} {i : ℕ} {v : List Float} {R : Two} {j : ℕ} {t : Two} → TwoInv n cost i v R j t → n ≤ j → t ≡ R
unfolding two_from
two-done {n} {j = j} inv h = rw (fuel_zero n j h) at inv.rest

-- ---- the column that a turn takes

two_step_j1 : (n : ℕ) (c : Float) (j : ℕ) (t : Two) → t.j1 < n → j < n → (two_step c j t).j1 < n
two_step_j1 n c j t h hj = go (lt c t.v2) (le t.v1 c)
  where
    go : (p q : Bool) → (cond p (cond q (two t.j1 j t.v1 c) (two j t.j1 c t.v1)) t).j1 < n
    go true true = h
    go true false = hj
    go false q = h

two_from_j1 : (n : ℕ) (cost : List Float) (i : ℕ) (v : List Float) (m j : ℕ) (t : Two) → t.j1 < n → j + m ≤ n → (two_from n cost i v m j t).j1 < n
unfolding two_from
two_from_j1 n cost i v zero j t h e = h
two_from_j1 n cost i v (suc m) j t h e =
    two_from_j1 n cost i v m (j + 1) (two_step (at cost n i j ⊖ get_or v j nan) j t) (two_step_j1 n (at cost n i j ⊖ get_or v j nan) j t h (omega arith)) (omega arith)

pub carr_two_j1 : (n : ℕ) (cost : List Float) (i : ℕ) (v : List Float) → 1 ≤ n → (carr_two n cost i v).j1 < n
unfolding carr_two
carr_two_j1 n cost i v h = two_from_j1 n cost i v (n - 1) 1 (two 0 n (at cost n i 0 ⊖ get_or v 0 nan) large) h (omega arith)

pub pick-j : (n : ℕ) (e l h s : Bool) (j1 j2 : ℕ) → j1 < n → (s ≡ true → j2 < n) → (carr_pick e l h s j1 j2).j < n
unfolding carr_pick
pick-j n true true h s j1 j2 a b = a
pick-j n true false true true j1 j2 a b = b refl
pick-j n true false true false j1 j2 a b = a
pick-j n true false false s j1 j2 a b = a
pick-j n false l h s j1 j2 a b = a

pub pick-early : (e l h s : Bool) (j1 j2 : ℕ) → (carr_pick e l h s j1 j2).retry ≡ true → e ≡ true
unfolding carr_pick
pick-early true l h s j1 j2 r = refl
pick-early false l h s j1 j2 r = r

-- ---- what holds before each turn, of the definition alone

-- at the loop's head rr_cnt is below (current + 1) × n, for a turn that steps back needs that it is so after both have grown
abbrev pub Room : ℕ → Carrying → Type 0
Room n s = s.rr_cnt + 1 ≤ (s.current + 1) * n

pub record CarrOk (n n_free_rows : ℕ) (s : Carrying) : Type 0 where
  pub cur : s.current ≤ n_free_rows
  pub new : s.new_free_rows ≤ s.current
  pub room : Room n s
  pub bound : s.rr_cnt ≤ n_free_rows * n
  pub len_free : length s.free_rows ≡ n
  pub len_x : length s.x ≡ n
  pub len_y : length s.y ≡ n
  pub len_v : length s.v ≡ n
  pub below : (k : ℕ) → k < n_free_rows → get_or s.free_rows k 0 < n

-- a store of a row among the first m free rows keeps them rows
rows-set : (n m : ℕ) (l : List ℕ) (i r : ℕ) → ((k : ℕ) → k < m → get_or l k 0 < n) → i < length l → r < n → (k : ℕ) → k < m → get_or (set l i r) k 0 < n
rows-set n m l i r b il h k km = go (ℕ_discrete k i)
  where
    go : Dec (k ≡ i) → get_or (set l i r) k 0 < n
    go (yes e) = rw (e, get_or-set_same l i r 0 il) h
    go (no e) = rw (get_or-set_other l i k r 0 e) (b k km)

module _ (n n_free_rows : ℕ) (some : 1 ≤ n) (nf : n_free_rows ≤ n) (s : Carrying) (ok : CarrOk n n_free_rows s) (more : s.current < n_free_rows) where
  take-ok : (retry : Bool) (i j : ℕ) (v : List Float) → i < n → j < n → length v ≡ n → (retry ≡ true → s.rr_cnt + 1 < (s.current + 1) * n)
      → CarrOk n n_free_rows (carr_take n retry i j v s)
  unfolding carr_take
  take-ok retry i j v hi hj hv early = go (ltb r n) refl retry early
    where
      r : ℕ
      r = get_or s.y j 0

      go : (b : Bool) → ltb r n ≡ b → (t : Bool) → (t ≡ true → s.rr_cnt + 1 < (s.current + 1) * n) → CarrOk n n_free_rows (carr_by b t i j r v s)
      go true e true h = record {
        cur = ok.cur;
        new = ok.new;
        room = omega (arith, h refl);
        bound = omega (arith, mul-le-mul_right {m = s.current + 1} {n = n_free_rows} n (omega arith), ok.room);
        len_free = length-set s.free_rows s.current r ∙ ok.len_free;
        len_x = length-set s.x i j ∙ ok.len_x;
        len_y = length-set s.y j i ∙ ok.len_y;
        len_v = hv;
        below = rows-set n n_free_rows s.free_rows s.current r ok.below (omega (arith, ok.len_free)) (ltb-true r n e);
      }
      go true e false h = record {
        cur = omega arith;
        new = omega (arith, ok.new);
        room = omega (arith, add-mul (s.current + 1) 1 n, ok.room);
        bound = omega (arith, mul-le-mul_right {m = s.current + 1} {n = n_free_rows} n (omega arith), ok.room);
        len_free = length-set s.free_rows s.new_free_rows r ∙ ok.len_free;
        len_x = length-set s.x i j ∙ ok.len_x;
        len_y = length-set s.y j i ∙ ok.len_y;
        len_v = hv;
        below = rows-set n n_free_rows s.free_rows s.new_free_rows r ok.below (omega (arith, ok.len_free, ok.new)) (ltb-true r n e);
      }
      go false e t h = record {
        cur = omega arith;
        new = omega (arith, ok.new);
        room = omega (arith, add-mul (s.current + 1) 1 n, ok.room);
        bound = omega (arith, mul-le-mul_right {m = s.current + 1} {n = n_free_rows} n (omega arith), ok.room);
        len_free = ok.len_free;
        len_x = length-set s.x i j ∙ ok.len_x;
        len_y = length-set s.y j i ∙ ok.len_y;
        len_v = hv;
        below = ok.below;
      }

pub turn_j1 : (n : ℕ) (cost : List Float) (i : ℕ) (v : List Float) (t : Two) → t ≡ carr_two n cost i v → 1 ≤ n → t.j1 < n
turn_j1 n cost i v t e h = rw e (carr_two_j1 n cost i v h)

pub turn_j : (n : ℕ) (e l h : Bool) (j1 j2 : ℕ) (p : Pick) → p ≡ carr_pick e l h (ltb j2 n) j1 j2 → j1 < n → p.j < n
turn_j n e l h j1 j2 p q a = rw q (pick-j n e l h (ltb j2 n) j1 j2 a (λ b. ltb-true j2 n b))

-- the end of a turn, the owner taken for the entry
row_plain : (n : ℕ) (retry : Bool) (i j r : ℕ) (v : List Float) (s : Carrying) → carr_row n retry i j (owner_of n r) v s ≡ carr_by (ltb r n) retry i j r v s
row_plain n retry i j r v s = go (dec_lt r n)
  where
    go : Dec (r < n) → carr_row n retry i j (owner_of n r) v s ≡ carr_by (ltb r n) retry i j r v s
    go (yes h) = rw (free_no n r h, row_is n r h, lt-ltb r n h)
    go (no h) = let q : n ≤ r = omega arith in rw (free_yes n r q, le-ltb r n q)

not_free : (n r : ℕ) → not (is_free (owner_of n r)) ≡ ltb r n
not_free n r = go (dec_lt r n)
  where
    go : Dec (r < n) → not (is_free (owner_of n r)) ≡ ltb r n
    go (yes h) = rw (free_no n r h, lt-ltb r n h)
    go (no h) = let q : n ≤ r = omega arith in rw (free_yes n r q, le-ltb r n q)

-- a turn of the definition reads i0 twice; read once, at the column that is taken, it is the same
pub turn_is : (n : ℕ) (cost : List Float) (s : Carrying) → carr_turn n cost s ≡ carr_step n cost s
unfolding carr_turn carr_step carr_pick carr_take
turn_is n cost s = rw (row_plain n true i t.j1 i0 (set s.v t.j1 low) s, row_plain n false i t.j1 i0 s.v s, row_plain n false i t.j2 (get_or s.y t.j2 0) s.v s, not_free n i0)
    (go (ltb (s.rr_cnt + 1) ((s.current + 1) * n)) (lt low v1) (ltb i0 n) (ltb t.j2 n))
  where
    i : ℕ
    i = get_or s.free_rows s.current 0

    t : Two
    t = carr_two n cost i s.v

    i0 : ℕ
    i0 = get_or s.y t.j1 0

    v1 : Float
    v1 = get_or s.v t.j1 nan

    low : Float
    low = v1 ⊖ (t.v2 ⊖ t.v1)

    at_j : Bool → ℕ → List Float → Carrying
    at_j retry j v = carr_by (ltb (get_or s.y j 0) n) retry i j (get_or s.y j 0) v s

    go : (e l h w : Bool) → cond e
        (cond l (at_j true t.j1 (set s.v t.j1 low)) (cond (h && w) (at_j false t.j2 s.v) (at_j false t.j1 s.v)))
        (at_j false t.j1 s.v)
        ≡ carr_take n (carr_pick e l h w t.j1 t.j2).retry i (carr_pick e l h w t.j1 t.j2).j
        (cond (carr_pick e l h w t.j1 t.j2).retry (set s.v (carr_pick e l h w t.j1 t.j2).j low) s.v) s
    go true true h w = refl
    go true false true true = refl
    go true false true false = refl
    go true false false w = refl
    go false l h w = refl

-- what the code's four steps make is the definition's turn
pub turn_law : (n : ℕ) (cost : List Float) (s : Carrying) (t : Two) (p : Pick) (v' : List Float) → t ≡ carr_two n cost (get_or s.free_rows s.current 0) s.v
    → p ≡ carr_pick (ltb (s.rr_cnt + 1) ((s.current + 1) * n)) (lt (get_or s.v t.j1 nan ⊖ (t.v2 ⊖ t.v1)) (get_or s.v t.j1 nan))
    (ltb (get_or s.y t.j1 0) n) (ltb t.j2 n) t.j1 t.j2
    → v' ≡ cond p.retry (set s.v p.j (get_or s.v t.j1 nan ⊖ (t.v2 ⊖ t.v1))) s.v
    → carr_take n p.retry (get_or s.free_rows s.current 0) p.j v' s ≡ carr_turn n cost s
unfolding carr_step
turn_law n cost s t p v' e1 e2 e3 = rw (e3, e2, e1, turn_is n cost s)

-- what a turn comes to: the next free row takes a column
pub record Take (n : ℕ) (cost : List Float) (s : Carrying) : Type 0 where
  pub retry : Bool
  pub j : ℕ
  pub v : List Float
  pub turn : carr_turn n cost s ≡ carr_take n retry (get_or s.free_rows s.current 0) j v s
  pub col : j < n
  pub len : length v ≡ length s.v
  pub early : retry ≡ true → s.rr_cnt + 1 < (s.current + 1) * n

pub turn_take : (n : ℕ) (cost : List Float) (s : Carrying) → 1 ≤ n → Take n cost s
unfolding carr_step
turn_take n cost s some = record {
  retry = p.retry;
  j = p.j;
  v = cond p.retry (set s.v p.j low) s.v;
  turn = turn_is n cost s;
  col = turn_j n (ltb (s.rr_cnt + 1) ((s.current + 1) * n)) (lt low v1) (ltb (get_or s.y t.j1 0) n) t.j1 t.j2 p refl (carr_two_j1 n cost (get_or s.free_rows s.current 0) s.v some);
  len = lens p.retry;
  early = λ e. ltb-true (s.rr_cnt + 1) ((s.current + 1) * n) (pick-early (ltb (s.rr_cnt + 1) ((s.current + 1) * n)) (lt low v1) (ltb (get_or s.y t.j1 0) n) (ltb t.j2 n) t.j1 t.j2 e);
}
  where
    t : Two
    t = carr_two n cost (get_or s.free_rows s.current 0) s.v

    v1 : Float
    v1 = get_or s.v t.j1 nan

    low : Float
    low = v1 ⊖ (t.v2 ⊖ t.v1)

    p : Pick
    p = carr_pick (ltb (s.rr_cnt + 1) ((s.current + 1) * n)) (lt low v1) (ltb (get_or s.y t.j1 0) n) (ltb t.j2 n) t.j1 t.j2

    lens : (b : Bool) → length (cond b (set s.v p.j low) s.v) ≡ length s.v
    lens true = length-set s.v p.j low
    lens false = refl

pub turn_ok : (n n_free_rows : ℕ) (cost : List Float) (s : Carrying) → 1 ≤ n → n_free_rows ≤ n → CarrOk n n_free_rows s → s.current < n_free_rows → CarrOk n n_free_rows (carr_turn n cost s)
turn_ok n n_free_rows cost s some nf ok more =
    let k = turn_take n cost s some in
    rw k.turn (take-ok n n_free_rows some nf s ok more k.retry _ k.j k.v (ok.below s.current more) k.col (k.len ∙ ok.len_v) k.early)

take-room : (n : ℕ) (s : Carrying) → 1 ≤ n → Room n s → (retry : Bool) (i j : ℕ) (v : List Float) → (retry ≡ true → s.rr_cnt + 1 < (s.current + 1) * n) → Room n (carr_take n retry i j v s)
unfolding carr_take
take-room n s some room retry i j v early = go (ltb (get_or s.y j 0) n) retry early
  where
    go : (b t : Bool) → (t ≡ true → s.rr_cnt + 1 < (s.current + 1) * n) → Room n (carr_by b t i j (get_or s.y j 0) v s)
    go true true h = omega (arith, h refl)
    go true false h = omega (arith, add-mul (s.current + 1) 1 n)
    go false t h = omega (arith, add-mul (s.current + 1) 1 n)

pub turn_room : (n : ℕ) (cost : List Float) (s : Carrying) → 1 ≤ n → Room n s → Room n (carr_turn n cost s)
turn_room n cost s some room = let k = turn_take n cost s some in rw k.turn (take-room n s some room k.retry _ k.j k.v k.early)

-- ---- the loop

pub from_turn : (n : ℕ) (cost : List Float) (n_free_rows m m' : ℕ) (s : Carrying) → m ≡ suc m' → s.current < n_free_rows → carr_from n cost n_free_rows m s ≡ carr_from n cost n_free_rows m' (carr_turn n cost s)
unfolding carr_from
from_turn n cost n_free_rows m m' s e h = rw (e, lt-ltb s.current n_free_rows h)

pub from-stop : (n : ℕ) (cost : List Float) (n_free_rows m : ℕ) (s : Carrying) → n_free_rows ≤ s.current → carr_from n cost n_free_rows m s ≡ s
unfolding carr_from
from-stop n cost n_free_rows zero s h = refl
from-stop n cost n_free_rows (suc m) s h = rw (le-ltb s.current n_free_rows h)

pub record CarrInv (n : ℕ) (cost : List Float) (n_free_rows : ℕ) (R : Carrying) (s : Carrying) : Type 0 where
  pub ok : CarrOk n n_free_rows s
  pub rest : carr_from n cost n_free_rows (n_free_rows * n - s.rr_cnt) s ≡ R

take-turns : (n : ℕ) (retry : Bool) (i j : ℕ) (v : List Float) (s : Carrying) → (carr_take n retry i j v s).rr_cnt ≡ s.rr_cnt + 1
unfolding carr_take
take-turns n retry i j v s = go (ltb (get_or s.y j 0) n) retry
  where
    go : (b t : Bool) → (carr_by b t i j (get_or s.y j 0) v s).rr_cnt ≡ s.rr_cnt + 1
    go true true = refl
    go true false = refl
    go false t = refl

pub turns-one : (n : ℕ) (cost : List Float) (s : Carrying) → (carr_turn n cost s).rr_cnt ≡ s.rr_cnt + 1
unfolding carr_step
turns-one n cost s = rw (turn_is n cost s) (take-turns n _ _ _ _ s)

pub carr_again : {n : ℕ} {cost : List Float} {n_free_rows : ℕ} {R s s' : Carrying} → CarrInv n cost n_free_rows R s → 1 ≤ n → n_free_rows ≤ n → s.current < n_free_rows
    → s' ≡ carr_turn n cost s
    → CarrInv n cost n_free_rows R s'
carr_again {n} {cost} {n_free_rows} {R} {s} {s'} inv some nf more e = rw e (record {
  ok = turn_ok n n_free_rows cost s some nf inv.ok more;
  rest = sym (from_turn n cost n_free_rows (n_free_rows * n - s.rr_cnt) (n_free_rows * n - (carr_turn n cost s).rr_cnt) s fuel more) ∙ inv.rest;
})
  where
    fuel : n_free_rows * n - s.rr_cnt ≡ suc (n_free_rows * n - (carr_turn n cost s).rr_cnt)
    fuel = omega (arith, turns-one n cost s, mul-le-mul_right {m = s.current + 1} {n = n_free_rows} n (omega arith), inv.ok.room)

pub carr-done : {n : ℕ} {cost : List Float} {n_free_rows : ℕ} {R s : Carrying} → CarrInv n cost n_free_rows R s → n_free_rows ≤ s.current → s ≡ R
carr-done {n} {cost} {n_free_rows} {R} {s} inv h = sym (from-stop n cost n_free_rows (n_free_rows * n - s.rr_cnt) s h) ∙ inv.rest

pub carr-less : {n : ℕ} {cost : List Float} {n_free_rows : ℕ} {R s s' : Carrying} → CarrInv n cost n_free_rows R s → 1 ≤ n → s.current < n_free_rows
    → s' ≡ carr_turn n cost s
    → n_free_rows * n - s'.rr_cnt < n_free_rows * n - s.rr_cnt
carr-less {n} {cost} {n_free_rows} {R} {s} {s'} inv some more e =
    rw e (omega (arith, turns-one n cost s, mul-le-mul_right {m = s.current + 1} {n = n_free_rows} n (omega arith), inv.ok.room))
