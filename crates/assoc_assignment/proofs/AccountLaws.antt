-- The theorem of specs/Account, of the definition alone. Assumes nothing.
use mathlib.Core.Path.{◌≡◌, refl, sym, ap, ◌∙◌}
use mathlib.Core.List.{List, [], ◌++◌, map, append-nil}
use mathlib.Core.Bool.{Bool, true, false, cond, not, ◌||◌}
use Prim.Native.Nat.{ℕ, ◌+◌, ◌-◌, ◌≤◌, ◌<◌}
use native.Mathlib.Omega.{arith}
use lib.Dec.{ltb, eqb}
use lib.Ieee.{Float}
use lib.ListN.{length, length-append, length-map, get_or, drop, get_or-map}
use lib.Seq.{drop_at}
use borrow.Author.Tests.{ltb-true, ltb-false, eqb-true, not-true}
use Rattle.laws.specs.Tab.{tab, indices}
use Rattle.laws.specs.Sieve.{sieve, sieve-all, sieve-at, sieve_agree}
use Rattle.laws.specs.Elem.{elem, elem-occurs}
use Rattle.laws.specs.Count.{bit, bit_le}
use Rattle.laws.specs.Occurs.{occurs, occurs-append, occurs-indices, occurs-sieve, occurs_both, occurs-all}
use Rattle.assoc_matching.specs.Matching.{Pair, pair, boxes_of, tracks_of, matched, match_detections}
use Rattle.assoc_matching.specs.Account.{Distinct}
use Rattle.assoc_matching.proofs.AccountLaws.{distinct, boxes-in, tracks-in, one_to_one}
use Rattle.assoc_assignment.specs.Assignment.{assignment, unmatched, validated, assigned_by}
use Rattle.assoc_assignment.specs.Account.{Accounted}

-- the early returns are what the stages give of no pairs
unmatched-all : (n : ℕ) → unmatched [] n ≡ indices n
unfolding unmatched elem
unmatched-all n = sieve-all (λ d. not (elem d [])) (λ (d : ℕ). refl) (indices n)

pub no-indices : {n : ℕ} → n ≡ 0 → indices n ≡ []
unfolding tab
no-indices e = rw e

module _ (ok : Pair → Bool) (cost : List Float) (n m : ℕ) (t : Float) where
  none-matched : (eqb n 0 || eqb m 0) ≡ true → match_detections cost n m t ≡ matched [] 0 0
  unfolding match_detections
  none-matched e = rw e

  validated-none : validated ok n m (matched [] 0 0) ≡ assignment [] (indices n) (indices m) [] 0 0
  unfolding sieve
  validated-none = rw (unmatched-all n, unmatched-all m, append-nil (indices n), append-nil (indices m))

  pub assigned-is : assigned_by ok cost n m t ≡ validated ok n m (match_detections cost n m t)
  unfolding assigned_by
  assigned-is = by_cases (eqb n 0) refl (eqb m 0) refl
    where
      by_cases : (a : Bool) → eqb n 0 ≡ a → (b : Bool) → eqb m 0 ≡ b
          → cond a (assignment [] [] (indices m) [] 0 0) (cond b (assignment [] (indices n) [] [] 0 0) (validated ok n m (match_detections cost n m t))) ≡ validated ok n m (match_detections cost n m t)
      by_cases true e b f = sym (ap (validated ok n m) (none-matched (rw e)) ∙ validated-none ∙ rw (no-indices (eqb-true n 0 e)))
      by_cases false e true f = sym (ap (validated ok n m) (none-matched (rw (e, f))) ∙ validated-none ∙ rw (no-indices (eqb-true m 0 f)))
      by_cases false e false f = refl

-- what is unmatched stands where it is not among xs
left : (xs : List ℕ) (n b : ℕ) → occurs b (unmatched xs n) ≡ cond (not (elem b xs)) (bit (ltb b n)) 0
unfolding unmatched
left xs n b = occurs-sieve b (λ k. not (elem k xs)) (indices n) ∙ ap (λ (o : ℕ). cond (not (elem b xs)) o 0) (occurs-indices b n)

-- kept pairs, the unmatched and rejected pairs hold each number once
pub each-once : (g : Pair → ℕ) (ok : Pair → Bool) (ps : List Pair) (n b : ℕ) → occurs b (map g ps) ≤ bit (ltb b n)
    → occurs b (map g (sieve ok ps) ++ (unmatched (map g ps) n ++ map g (sieve (λ p. not (ok p)) ps))) ≡ bit (ltb b n)
each-once g ok ps n b h =
    occurs-append b (map g (sieve ok ps)) (unmatched (map g ps) n ++ map g (sieve (λ p. not (ok p)) ps))
    ∙ ap (λ (o : ℕ). occurs b (map g (sieve ok ps)) + o) (occurs-append b (unmatched (map g ps) n) (map g (sieve (λ p. not (ok p)) ps)))
    ∙ by_cases (elem b (map g ps)) (elem-occurs b (map g ps)) (occurs_both g ok ps b) (left (map g ps) n b)
  where
    by_cases : (v : Bool) → v ≡ ltb 0 (occurs b (map g ps)) → occurs b (map g (sieve ok ps)) + occurs b (map g (sieve (λ p. not (ok p)) ps)) ≡ occurs b (map g ps)
        → occurs b (unmatched (map g ps) n) ≡ cond (not v) (bit (ltb b n)) 0
        → occurs b (map g (sieve ok ps)) + (occurs b (unmatched (map g ps) n) + occurs b (map g (sieve (λ p. not (ok p)) ps))) ≡ bit (ltb b n)
    by_cases true e s l = let some = ltb-true 0 (occurs b (map g ps)) (sym e) in let one = bit_le (ltb b n) in omega arith
    by_cases false e s l = let none = ltb-false 0 (occurs b (map g ps)) (sym e) in omega arith

-- of a list whose elements stand once, each part has them once
part-front : (n : ℕ) (xs ys : List ℕ) → ((b : ℕ) → occurs b (xs ++ ys) ≡ bit (ltb b n)) → Distinct n xs
part-front n xs ys h = distinct n xs (λ (b : ℕ). omega (arith, occurs-append b xs ys, h b))

part-back : (n : ℕ) (xs ys : List ℕ) → ((b : ℕ) → occurs b (xs ++ ys) ≡ bit (ltb b n)) → Distinct n ys
part-back n xs ys h = distinct n ys (λ (b : ℕ). omega (arith, occurs-append b xs ys, h b))

parts-many : (g : Pair → ℕ) (n : ℕ) (ps : List Pair) (ys : List ℕ) → ((b : ℕ) → occurs b (map g ps ++ ys) ≡ bit (ltb b n)) → length ps + length ys ≡ n
parts-many g n ps ys h = ap (λ (k : ℕ). k + length ys) (sym (length-map ps g)) ∙ sym (length-append (map g ps) ys) ∙ occurs-all (map g ps ++ ys) n h

-- what is pushed behind a list is its last
last_are : (g : Pair → ℕ) (us : List ℕ) (ps : List Pair) → drop (length (us ++ map g ps) - length ps) (us ++ map g ps) ≡ map g ps
last_are g us ps =
    let front : length us ≡ length (us ++ map g ps) - length ps = omega (arith, length-append us (map g ps), length-map ps g) in
    drop_at us (map g ps) (length (us ++ map g ps) - length ps) front

module _ (ok : Pair → Bool) (cost : List Float) (n m : ℕ) (t : Float) (few-rows : n ≤ 255) (few-cols : m ≤ 255) where
  validated_accounted : Accounted ok n m (validated ok n m (match_detections cost n m t))
  validated_accounted =
      let ps : List Pair = (match_detections cost n m t).matches in
      let b : (k : ℕ) → occurs k (boxes_of (sieve ok ps) ++ (unmatched (boxes_of ps) n ++ boxes_of (sieve (λ p. not (ok p)) ps))) ≡ bit (ltb k n) =
      λ (k : ℕ). each-once (λ (p : Pair). p.box) ok ps n k (boxes-in cost n m t few-rows few-cols k) in
      let c : (k : ℕ) → occurs k (tracks_of (sieve ok ps) ++ (unmatched (tracks_of ps) m ++ tracks_of (sieve (λ p. not (ok p)) ps))) ≡ bit (ltb k m) =
      λ (k : ℕ). each-once (λ (p : Pair). p.track) ok ps m k (tracks-in cost n m t few-rows few-cols k) in
      let o = one_to_one cost n m t few-rows few-cols in
      record {
        boxes-whole = b;
        tracks-whole = c;
        boxes-many = parts-many (λ (p : Pair). p.box) n (sieve ok ps) (unmatched (boxes_of ps) n ++ boxes_of (sieve (λ p. not (ok p)) ps)) b;
        tracks-many = parts-many (λ (p : Pair). p.track) m (sieve ok ps) (unmatched (tracks_of ps) m ++ tracks_of (sieve (λ p. not (ok p)) ps)) c;
        boxes-once = part-front n (boxes_of (sieve ok ps)) (unmatched (boxes_of ps) n ++ boxes_of (sieve (λ p. not (ok p)) ps)) b;
        tracks-once = part-front m (tracks_of (sieve ok ps)) (unmatched (tracks_of ps) m ++ tracks_of (sieve (λ p. not (ok p)) ps)) c;
        unmatched-boxes-once = part-back n (boxes_of (sieve ok ps)) (unmatched (boxes_of ps) n ++ boxes_of (sieve (λ p. not (ok p)) ps)) b;
        unmatched-tracks-once = part-back m (tracks_of (sieve ok ps)) (unmatched (tracks_of ps) m ++ tracks_of (sieve (λ p. not (ok p)) ps)) c;
        stands = λ (k : ℕ) (h : k < length (sieve ok ps)). sieve-at ok ps k (pair 0 0) h;
        falls = λ (k : ℕ) (h : k < length (sieve (λ p. not (ok p)) ps)). not-true (ok (get_or (sieve (λ p. not (ok p)) ps) k (pair 0 0))) (sieve-at (λ p. not (ok p)) ps k (pair 0 0) h);
        rejected-boxes = last_are (λ (p : Pair). p.box) (unmatched (boxes_of ps) n) (sieve (λ p. not (ok p)) ps);
        rejected-tracks = last_are (λ (p : Pair). p.track) (unmatched (tracks_of ps) m) (sieve (λ p. not (ok p)) ps);
        turns = o.turns;
        scans = o.scans;
      }

  pub accounted : Accounted ok n m (assigned_by ok cost n m t)
  accounted = rw (assigned-is ok cost n m t) validated_accounted

-- tests that agree on every box and track
module _ (ok ok' : Pair → Bool) (cost : List Float) (n m : ℕ) (t : Float) (few-rows : n ≤ 255) (few-cols : m ≤ 255) (agree : (p : Pair) → p.box < n → p.track < m → ok p ≡ ok' p) where
  abbrev ps : List Pair
  ps = (match_detections cost n m t).matches

  agree_at : (k : ℕ) → k < length ps → ok (get_or ps k (pair 0 0)) ≡ ok' (get_or ps k (pair 0 0))
  agree_at k h =
      let once = one_to_one cost n m t few-rows few-cols in
      let box-low : get_or (boxes_of ps) k 0 < n = once.boxes-once.below k (rw (length-map ps (λ (p : Pair). p.box)) h) in
      let track-low : get_or (tracks_of ps) k 0 < m = once.tracks-once.below k (rw (length-map ps (λ (p : Pair). p.track)) h) in
      let box-is : get_or (boxes_of ps) k 0 ≡ (get_or ps k (pair 0 0)).box = get_or-map (λ (p : Pair). p.box) ps k (pair 0 0) in
      let track-is : get_or (tracks_of ps) k 0 ≡ (get_or ps k (pair 0 0)).track = get_or-map (λ (p : Pair). p.track) ps k (pair 0 0) in
      agree (get_or ps k (pair 0 0)) (rw box-is at box-low) (rw track-is at track-low)

  pub assigned_agree : assigned_by ok cost n m t ≡ assigned_by ok' cost n m t
  assigned_agree =
      let kept : sieve ok ps ≡ sieve ok' ps = sieve_agree ok ok' ps (pair 0 0) agree_at in
      let rejected : sieve (λ p. not (ok p)) ps ≡ sieve (λ p. not (ok' p)) ps = sieve_agree (λ p. not (ok p)) (λ p. not (ok' p)) ps (pair 0 0) (λ k h. ap not (agree_at k h)) in
      assigned-is ok cost n m t ∙ rw (kept, rejected) (sym (assigned-is ok' cost n m t))
