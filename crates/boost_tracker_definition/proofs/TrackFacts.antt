-- Tracks that were held, corrected at most once, and tracks started behind them: their table is sound, and their ids are those held before and the next ones. Assumes nothing.
use mathlib.Core.Path.{◌≡◌, refl, sym, ap, ◌∙◌}
use mathlib.Core.Bool.{Bool, true, false, ◌&&◌}
use mathlib.Core.List.{List, [], ◌∷◌, ◌++◌, map}
use Prim.Native.Nat.{ℕ, zero, suc, ◌+◌, ◌-◌, ◌*◌, ◌^◌, ◌≤◌, ◌<◌, zero-le}
use native.Mathlib.Nat.{le_refl, lt_of_not-le}
use native.Mathlib.Decide.{dec_le}
use native.Mathlib.Omega.{arith}
use lib.Dec.{ltb, leb, eqb}
use lib.ListN.{length, length-map, get_or, get_or-map, get_or-append}
use lib.Seq.{get_or-set_same, get_or-set_other, get_or-append-add, map-set_same}
use lib.Ieee.{Float}
use borrow.Author.Tests.{lt-ltb, leb-true, le-leb, eqb-true, eqb-false}
use Rattle.laws.specs.Tests.{and_left, and_right}
use Rattle.laws.specs.Tab.{tab, length-tab, tab-at, get_d_any}
use Rattle.laws.specs.Fold.{fold}
use Rattle.laws.specs.Sieve.{sieve}
use Rattle.laws.specs.Every.{every, every_append, every_of}
use Rattle.strack.specs.declared.rect.Xyxy.{Xyxy}
use Rattle.strack_filter.specs.KalmanFilter.{updatable}
use Rattle.strack.specs.Strack.{predict, update}
use Rattle.strack.proofs.Laws.{new_id, new_since, new_streak, new_age, predict_id, predict_since, predict_age, predict_streak_le, hit_id, hit_since, hit_streak, hit_age, update-accepted, update-refused}
use Rattle.boost_tracker_mh_dist.specs.MhDist.{det}
use Rattle.boost_tracker_verdict.specs.declared.sound.State.{State}
use Rattle.boost_tracker_table.specs.Table.{Track, ids_of, blank, corrected}
use Rattle.boost_tracker_verdict.specs.Sound.{rising, counters_in, sound}
use Rattle.boost_tracker_verdict.specs.Ready.{HeldTrack}
use Rattle.boost_tracker_verdict.proofs.SoundLaws.{rising_lower, sound-sieve}
use Rattle.boost_tracker_definition.specs.Update.{tracker_at}
use Rattle.boost_tracker_definition.specs.Plain.{corrected_by, correct_one, started_by, start_at}
use Rattle.boost_tracker_definition.proofs.PlainLaws.{correct_many, corrected-many}

-- ---- ids that rise

rising-append : (low last : ℕ) (xs ys : List Track) → rising low xs ≡ true → every (λ t. leb t.id last) xs ≡ true → low ≤ last → rising last ys ≡ true → rising low (xs ++ ys) ≡ true
unfolding rising every
rising-append low last [] ys e k h r = rising_lower low last ys h r
rising-append low last (x ∷ xs) ys e k h r =
    rw (and_left (ltb low x.id) _ e)
    (rising-append x.id last xs ys (and_right (ltb low x.id) _ e) (and_right (leb x.id last) _ k) (leb-true x.id last (and_left (leb x.id last) _ k)) r)

rising_ids : ℕ → List ℕ → Bool
rising_ids low [] = true
rising_ids low (i ∷ is) = ltb low i && rising_ids i is

rising-is : (low : ℕ) (ts : List Track) → rising low ts ≡ rising_ids low (ids_of ts)
unfolding rising rising_ids
rising-is low [] = refl
rising-is low (t ∷ ts) = ap (λ (b : Bool). ltb low t.id && b) (rising-is t.id ts)

ids-predicted : (ts : List Track) → ids_of (map predict ts) ≡ ids_of ts
ids-predicted [] = refl
ids-predicted (t ∷ ts) = ap (λ (i : ℕ). i ∷ ids_of (map predict ts)) (predict_id t) ∙ ap (λ (is : List ℕ). t.id ∷ is) (ids-predicted ts)

-- ---- a corrected track

pub data Became (t u : Track) : Type 0 where
  same : u ≡ t → Became t u
  hit : (b : Xyxy) → u ≡ (update t b).1 → Became t u

record Hit (t u : Track) : Type 0 where
  pub id_same : u.id ≡ t.id
  pub since_low : u.since ≤ t.since
  pub streak_low : u.streak ≤ t.streak + 1
  pub age_same : u.age ≡ t.age

corrected-hit : (t : Track) (b : Xyxy) → t.streak < 2 ^ 64 - 1 → Hit t (update t b).1
corrected-hit t b h = by_cases (updatable t.kf) refl
  where
    by_cases : (v : Bool) → updatable t.kf ≡ v → Hit t (update t b).1
    by_cases true e =
        rw (update-accepted t b e)
        (record { id_same = hit_id t _; since_low = rw (hit_since t _) zero-le; streak_low = rw (hit_streak t _ h) (le_refl _); age_same = hit_age t _ })
    by_cases false e = rw (update-refused t b e) (record { id_same = refl; since_low = le_refl _; streak_low = omega arith; age_same = refl })

corrected_id : (t : Track) (b : Xyxy) → (update t b).1.id ≡ t.id
corrected_id t b = by_cases (updatable t.kf) refl
  where
    by_cases : (v : Bool) → updatable t.kf ≡ v → (update t b).1.id ≡ t.id
    by_cases true e = rw (update-accepted t b e) (hit_id t _)
    by_cases false e = rw (update-refused t b e)

module _ (corners : List Float) (pair_boxes pair_tracks : List ℕ) (ts : List Track) where
  ids-upto : (k : ℕ) → ids_of (fold (correct_one corners pair_boxes pair_tracks) ts k) ≡ ids_of ts
  unfolding fold
  ids-upto zero = refl
  ids-upto (suc k) = map-set_same (λ (t : Track). t.id) (fold (correct_one corners pair_boxes pair_tracks) ts k) (get_or pair_tracks k 0) _ blank (corrected_id _ _) ∙ ids-upto k

  ids-corrected : ids_of (corrected_by corners pair_boxes pair_tracks ts) ≡ ids_of ts
  unfolding corrected_by
  ids-corrected = ids-upto (length pair_boxes)

became_hit : (t u : Track) → t.streak < 2 ^ 64 - 1 → Became t u → Hit t u
became_hit t u h (same e) = rw e (record { id_same = refl; since_low = le_refl _; streak_low = omega arith; age_same = refl })
became_hit t u h (hit b e) = rw e (corrected-hit t b h)

became_on : (t : Track) (xs : List Track) (p i : ℕ) (bbox : Xyxy) → i < length xs → (p ≡ i → get_or xs i blank ≡ t) → Became t (get_or xs i blank) → Became t (get_or (corrected xs p bbox) i blank)
became_on t xs p i bbox h fresh b = by_cases (eqb p i) refl
  where
    by_cases : (v : Bool) → eqb p i ≡ v → Became t (get_or (corrected xs p bbox) i blank)
    by_cases true e =
        let q : p ≡ i = eqb-true p i e in
        rw q (hit bbox (get_or-set_same xs i (update (get_or xs i blank) bbox).1 blank h ∙ ap (λ (u : Track). (update u bbox).1) (fresh q)))
    by_cases false e = rw (get_or-set_other xs p i (update (get_or xs p blank) bbox).1 blank (λ q. eqb-false p i e (sym q))) b

hit-on : (xs : List Track) (p i : ℕ) (bbox : Xyxy) (goal : Track) → i < length xs → (p ≡ i → (update (get_or xs i blank) bbox).1 ≡ goal) → ((p ≡ i → ⊥) → get_or xs i blank ≡ goal)
    → get_or (corrected xs p bbox) i blank ≡ goal
hit-on xs p i bbox goal h now before = by_cases (eqb p i) refl
  where
    by_cases : (v : Bool) → eqb p i ≡ v → get_or (corrected xs p bbox) i blank ≡ goal
    by_cases true e = let q : p ≡ i = eqb-true p i e in rw q (get_or-set_same xs i (update (get_or xs i blank) bbox).1 blank h ∙ now q)
    by_cases false e = get_or-set_other xs p i (update (get_or xs p blank) bbox).1 blank (λ q. eqb-false p i e (sym q)) ∙ before (eqb-false p i e)

less : (k m : ℕ) → k < suc m → (k ≡ m → ⊥) → k < m
less k m h ne = by_order (dec_le m k)
  where
    by_order : Dec (m ≤ k) → k < m
    by_order (yes q) = absurd (ne (omega arith))
    by_order (no q) = lt_of_not-le q

-- no track is paired twice, so each is as it was or corrected once
module _ (corners : List Float) (pair_boxes pair_tracks : List ℕ) (ts : List Track) (apart : (i j : ℕ) → i < length pair_tracks → j < length pair_tracks → get_or pair_tracks i 0 ≡ get_or pair_tracks j 0 → i ≡ j) where
  untouched : (k i : ℕ) → ((j : ℕ) → j < k → get_or pair_tracks j 0 ≡ i → ⊥) → get_or (fold (correct_one corners pair_boxes pair_tracks) ts k) i blank ≡ get_or ts i blank
  unfolding fold
  untouched zero i h = refl
  untouched (suc k) i h =
      get_or-set_other (fold (correct_one corners pair_boxes pair_tracks) ts k) (get_or pair_tracks k 0) i _ blank (λ e. h k (le_refl (suc k)) (sym e))
      ∙ untouched k i (λ j b. h j (omega arith))

  became_upto : (k : ℕ) → k ≤ length pair_tracks → (i : ℕ) → i < length ts → Became (get_or ts i blank) (get_or (fold (correct_one corners pair_boxes pair_tracks) ts k) i blank)
  unfolding fold
  became_upto zero h i b = same refl
  became_upto (suc k) h i b =
      became_on (get_or ts i blank) (fold (correct_one corners pair_boxes pair_tracks) ts k) (get_or pair_tracks k 0) i (det corners (get_or pair_boxes k 0)) (rw (correct_many corners pair_boxes pair_tracks ts k) b)
      (λ e. untouched k i (λ j l q. let z : j ≡ k = apart j k (omega arith) h (q ∙ sym e) in omega arith)) (became_upto k (omega arith) i b)

  -- and the track of pair k is the one that its box corrects
  hit-upto : (k n : ℕ) → k < n → n ≤ length pair_tracks → get_or pair_tracks k 0 < length ts
      → get_or (fold (correct_one corners pair_boxes pair_tracks) ts n) (get_or pair_tracks k 0) blank ≡ (update (get_or ts (get_or pair_tracks k 0) blank) (det corners (get_or pair_boxes k 0))).1
  unfolding fold
  hit-upto k zero h l b = absurd (omega arith)
  hit-upto k (suc m) h l b =
      hit-on (fold (correct_one corners pair_boxes pair_tracks) ts m) (get_or pair_tracks m 0) (get_or pair_tracks k 0) (det corners (get_or pair_boxes m 0)) _ (rw (correct_many corners pair_boxes pair_tracks ts m) b)
      (λ q. let z : m ≡ k = apart m k (omega arith) (omega arith) q in
      rw z (ap (λ (u : Track). (update u (det corners (get_or pair_boxes k 0))).1)
      (untouched k (get_or pair_tracks k 0) (λ j low e. let y : j ≡ k = apart j k (omega arith) (omega arith) e in omega arith))))
      (λ ne. hit-upto k m (less k m h (λ z. ne (ap (λ (j : ℕ). get_or pair_tracks j 0) (sym z)))) (omega arith) b)

  pub hit-is : length pair_boxes ≡ length pair_tracks → (k : ℕ) → k < length pair_tracks → get_or pair_tracks k 0 < length ts
      → get_or (corrected_by corners pair_boxes pair_tracks ts) (get_or pair_tracks k 0) blank ≡ (update (get_or ts (get_or pair_tracks k 0) blank) (det corners (get_or pair_boxes k 0))).1
  unfolding corrected_by
  hit-is e k h b = hit-upto k (length pair_boxes) (rw e h) (omega arith) b

  pub became : length pair_boxes ≡ length pair_tracks → (i : ℕ) → i < length ts → Became (get_or ts i blank) (get_or (corrected_by corners pair_boxes pair_tracks ts) i blank)
  unfolding corrected_by
  became e i h = became_upto (length pair_boxes) (omega arith) i h

-- ---- started tracks

rising-tab : (g : ℕ → Track) (last n : ℕ) → ((k : ℕ) → k < n → (g k).id ≡ last + k + 1) → rising last (tab g n) ≡ true
unfolding rising tab
rising-tab g last zero h = refl
rising-tab g last (suc n) h =
    let next = h n (le_refl (suc n)) in
    rising-append last (last + n) (tab g n) (g n ∷ []) (rising-tab g last n (λ k b. h k (omega arith)))
    (every_of (λ t. leb t.id (last + n)) (tab g n) blank
    (λ k b. let c : k < n = rw (length-tab g n) at b in rw (tab-at g n k blank c, h k (omega arith)) (le-leb (last + k + 1) (last + n) (omega arith))))
    (omega arith) (rw (lt-ltb (last + n) (g n).id (omega arith)))

-- ---- a frame: ts were held, and pairs and unmatched boxes are given

module _ (state : State) (ts : List Track) (each : (i : ℕ) → i < length ts → HeldTrack state (tracker_at ts i)) (rises : rising 0 ts ≡ true) (frames-low : state.frames < 2147483647)
    (corners : List Float) (pair_boxes pair_tracks unmatched : List ℕ) (halves : length pair_boxes ≡ length pair_tracks)
    (apart : (i j : ℕ) → i < length pair_tracks → j < length pair_tracks → get_or pair_tracks i 0 ≡ get_or pair_tracks j 0 → i ≡ j) where
  abbrev hits : List Track
  hits = corrected_by corners pair_boxes pair_tracks (map predict ts)

  abbrev news : List Track
  news = started_by state.last corners unmatched

  pub hits_many : length hits ≡ length ts
  hits_many = corrected-many corners pair_boxes pair_tracks (map predict ts) ∙ length-map ts predict

  pub news_many : length news ≡ length unmatched
  unfolding started_by
  news_many = length-tab _ (length unmatched)

  predicted-at : (i : ℕ) → i < length ts → tracker_at (map predict ts) i ≡ predict (tracker_at ts i)
  predicted-at i h = get_d_any (map predict ts) i blank (predict blank) (rw (length-map ts predict) h) ∙ get_or-map predict ts i blank

  fate : (i : ℕ) → i < length ts → ((tracker_at hits i).id ≡ (tracker_at ts i).id) × (counters_in (state.frames + 1) (tracker_at hits i) ≡ true)
  fate i h =
      let t : Track = tracker_at ts i in
      let u : Track = tracker_at hits i in
      let p : Track = predict t in
      let held = each i h in
      let low-since = held.since_low in
      let low-streak = held.streak_low in
      let low-age = held.age_low in
      let since : p.since ≡ t.since + 1 = predict_since t (omega arith) in
      let age : p.age ≡ t.age + 1 = predict_age t (omega arith) in
      let streak = predict_streak_le t in
      let b : Became p u = rw (predicted-at i h) at (became corners pair_boxes pair_tracks (map predict ts) apart halves i (rw (length-map ts predict) h)) in
      let w = became_hit p u (omega arith) b in
      let since-w = w.since_low in
      let streak-w = w.streak_low in
      let age-w = w.age_same in (
        w.id_same ∙ predict_id t,
        rw (le-leb u.since (state.frames + 1) (omega arith), le-leb u.streak (state.frames + 1) (omega arith), le-leb u.age (state.frames + 1) (omega arith)),
      )

  new-at : (k : ℕ) → k < length unmatched → tracker_at news k ≡ start_at state.last corners unmatched k
  unfolding started_by
  new-at k h = tab-at (start_at state.last corners unmatched) (length unmatched) k blank h

  -- ids

  pub old_id : (i : ℕ) → i < length ts → (tracker_at (hits ++ news) i).id ≡ (tracker_at ts i).id
  old_id i h = ap (λ (t : Track). t.id) (get_or-append hits news blank i (rw hits_many h)) ∙ (fate i h).0

  pub new_id_is : (k : ℕ) → k < length unmatched → (tracker_at (hits ++ news) (length ts + k)).id ≡ state.last + k + 1
  new_id_is k h =
      let e : tracker_at (hits ++ news) (length ts + k) ≡ tracker_at news k = rw hits_many at (get_or-append-add hits news k blank) in
      ap (λ (t : Track). t.id) (e ∙ new-at k h) ∙ new_id (det corners (get_or unmatched k 0)) (state.last + k + 1)

  hit-ids : (last : ℕ) → state.last ≤ last → every (λ t. leb t.id last) hits ≡ true
  hit-ids last h =
      every_of (λ t. leb t.id last) hits blank
      (λ i b. let c : i < length ts = rw hits_many at b in let low = (each i c).id_low in rw (fate i c).0 (le-leb (tracker_at ts i).id last (omega arith)))

  new-ids : every (λ t. leb t.id (state.last + length unmatched)) news ≡ true
  new-ids =
      every_of (λ t. leb t.id (state.last + length unmatched)) news blank
      (λ k b. let c : k < length unmatched = rw news_many at b in
      rw (new-at k c, new_id (det corners (get_or unmatched k 0)) (state.last + k + 1)) (le-leb (state.last + k + 1) (state.last + length unmatched) (omega arith)))

  hits_rise : rising 0 hits ≡ true
  hits_rise = rising-is 0 hits ∙ ap (rising_ids 0) hit-ids-same ∙ sym (rising-is 0 ts) ∙ rises
    where
      hit-ids-same : ids_of hits ≡ ids_of ts
      hit-ids-same = ids-corrected corners pair_boxes pair_tracks (map predict ts) ∙ ids-predicted ts

  news_rise : rising state.last news ≡ true
  unfolding started_by
  news_rise = rising-tab (start_at state.last corners unmatched) state.last (length unmatched) (λ k h. new_id (det corners (get_or unmatched k 0)) (state.last + k + 1))

  -- counters

  hit-counters : every (counters_in (state.frames + 1)) hits ≡ true
  hit-counters = every_of (counters_in (state.frames + 1)) hits blank (λ i b. (fate i (rw hits_many at b)).1)

  new-counters : every (counters_in (state.frames + 1)) news ≡ true
  new-counters =
      every_of (counters_in (state.frames + 1)) news blank
      (λ k b. let c : k < length unmatched = rw news_many at b in
      let bbox : Xyxy = det corners (get_or unmatched k 0) in
      let id : ℕ = state.last + k + 1 in
      rw (new-at k c, new_since bbox id, new_streak bbox id, new_age bbox id, le-leb 0 (state.frames + 1) zero-le))

  -- whatever is retained
  pub sound-after : (q : Track → Bool) (places : ℕ) → state.last ≤ 255 * state.frames → length unmatched ≤ 255 → length (hits ++ news) ≤ places
      → sound places (record { count = length (sieve q (hits ++ news)); last = state.last + length unmatched; frames = state.frames + 1 }) (sieve q (hits ++ news)) ≡ true
  unfolding sound
  sound-after q places low few room =
      let all : List Track = hits ++ news in
      let last : ℕ = state.last + length unmatched in
      let now : State = record { count = length all; last = last; frames = state.frames + 1 } in
      let rise : rising 0 all ≡ true = rising-append 0 state.last hits news hits_rise (hit-ids state.last (le_refl state.last)) zero-le news_rise in
      let known : every (λ t. leb t.id last) all ≡ true = every_append (λ t. leb t.id last) hits news ∙ rw (hit-ids last (omega arith), new-ids) in
      let counted : every (counters_in (state.frames + 1)) all ≡ true = every_append (counters_in (state.frames + 1)) hits news ∙ rw (hit-counters, new-counters) in
      let all_sound : sound places now all ≡ true = rw (le-leb (length all) places room, rise, known, le-leb last (255 * (state.frames + 1)) (omega arith), counted) in
      sound-sieve q places now all room all_sound
