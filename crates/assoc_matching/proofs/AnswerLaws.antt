-- What a verdict tells: the sides and the room of an accepted call. Assumes nothing.
use Rattle.std.proofs.Common.{◌≡◌, ℕ, ◌*◌, ◌≤◌, min, max, false, not, ◌||◌, eqb, ltb, arith, ltb-false, le-ltb, eq-eqb, ne_eqb, Ok}
use borrow.Author.Tests.{eqb-false}
use Rattle.laws.specs.Tests.{or_none}
use Rattle.refusals.specs.Refusal.{too_many}
use Rattle.refusals.proofs.Laws.{passed, few-sides, same_size}
use Rattle.assoc_matching.specs.Partners.{PartnerReady}
use Rattle.assoc_matching.specs.Answers.{partner_verdict, match_verdict}
use Rattle.assoc_matching.specs.Private.{MatchReady}

-- how large the square is
pub side-low : (a b : ℕ) {n : ℕ} → too_many a b ≡ false → n ≡ max a b → n ≤ 255
side-low a b {n} e f = let h = few-sides a b e in omega (arith, h.0, h.1, f)

-- ---- lapjv_partners

not_none : (n : ℕ) → (n ≡ 0 → ⊥) → 1 ≤ n
not_none n z = omega arith

some_not : (n : ℕ) → 1 ≤ n → n ≡ 0 → ⊥
some_not n h e = omega arith

pub partner-ready : (boxes tracks costs partners work : ℕ) → partner_verdict boxes tracks costs partners work ≡ Ok tt → PartnerReady boxes tracks costs partners work
unfolding partner_verdict
partner-ready boxes tracks costs partners work e =
    let n : ℕ = max boxes tracks in
    let p = passed _ _ _ e in
    let low = few-sides boxes tracks p.few in
    let sized = or_none (not (eqb costs (boxes * tracks)) || not (eqb partners boxes)) (eqb n 0) p.sized in
    let sizes = or_none (not (eqb costs (boxes * tracks))) (not (eqb partners boxes)) sized.0 in
    record {
      sides = record { few-rows = low.0; few-cols = low.1; long = same_size costs (boxes * tracks) sizes.0 };
      rows = same_size partners boxes sizes.1;
      some = not_none n (eqb-false n 0 sized.1);
      room-work = ltb-false work (n * n) p.enough;
    }

-- and no other call is accepted
pub partner-accepted : {boxes tracks costs partners work : ℕ} → PartnerReady boxes tracks costs partners work → partner_verdict boxes tracks costs partners work ≡ Ok tt
unfolding partner_verdict
partner-accepted {boxes} {tracks} {costs} {partners} {work} h =
    let n : ℕ = max boxes tracks in
    rw (
      le-ltb 255 boxes h.sides.few-rows,
      le-ltb 255 tracks h.sides.few-cols,
      eq-eqb costs (boxes * tracks) h.sides.long,
      eq-eqb partners boxes h.rows,
      ne_eqb n 0 (some_not n h.some),
      le-ltb work (n * n) h.room-work,
    )

-- ---- match_detections

pub match_ready : (boxes tracks costs pairs partners work : ℕ) → match_verdict boxes tracks costs pairs partners work ≡ Ok tt → MatchReady boxes tracks costs pairs partners work
unfolding match_verdict
match_ready boxes tracks costs pairs partners work e =
    let few : ℕ = min boxes tracks in
    let n : ℕ = max boxes tracks in
    let p = passed _ _ _ e in
    let low = few-sides boxes tracks p.few in
    let r = or_none (ltb pairs few || ltb partners few) (ltb work (n * n)) p.enough in
    let r₂ = or_none (ltb pairs few) (ltb partners few) r.0 in
    record {
      sides = record { few-rows = low.0; few-cols = low.1; long = same_size costs (boxes * tracks) p.sized };
      room-boxes = ltb-false pairs few r₂.0;
      room-tracks = ltb-false partners few r₂.1;
      room-work = ltb-false work (n * n) r.1;
    }
