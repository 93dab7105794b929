-- A line as it is written: its fields are those that were written, and a line of these forms was written so. Assumes nothing.
use mathlib.Core.Path.{◌≡◌, refl, sym, ap, ◌∙◌}
use mathlib.Core.Bool.{Bool, true, false}
use mathlib.Core.List.{List, [], ◌∷◌, ◌++◌}
use Prim.Native.Nat.{ℕ, zero, suc, ◌+◌, ◌-◌, ◌≤◌}
use native.Mathlib.Omega.{arith}
use lib.ListN.{length, take, drop, get_or, length-append, length-map, take-append-drop, get_or-eq_default, drop_of_length-le}
use lib.Seq.{take-append_seam, get_or-append_seam, drop-cons}
use borrow.Author.Tests.{eqb-true, eq-eqb}
use Rattle.mot_number.specs.Index.{index_of, index_after}
use Rattle.laws.specs.Tests.{and_left, and_right, false_not_true}
use Rattle.mot_number.specs.Number.{is_frame, is_number, decimal_of, f32_of}
use Rattle.mot_number.specs.Numeral.{Numeral, in_bytes, pointed, signed, text_of}
use Rattle.mot_number.proofs.Index.{Lacks, index-none}
use Rattle.mot_number.proofs.Reading.{digits_lack, six_of, six_says, digits_in, bytes_make, text-is-number, text_has_value, number-only}
use Rattle.mot_fields.specs.Fields.{Form, fields, is_minus_one, of_forms, body, is_ended, is_line}
use Rattle.mot_fields.specs.Reading.{next}
use Rattle.mot_fields.specs.Laws.{Plain}
use Rattle.mot_fields.proofs.Theorem.{laws, minus-one-only}
use Rattle.mot_fields.proofs.Joining.{last-is, first-is}
use Rattle.mot_line.specs.Line.{detection, is_detection, box_in, box_read}
use Rattle.mot_line.specs.Detection.{Detection, then, minus_one, line_text, longest_line, nearest_to, box_written}

-- ---- no comma stands in what is written of a field

lacks_append : (a b : List ℕ) → Lacks 44 a → Lacks 44 b → Lacks 44 (a ++ b)
lacks_append [] b x y = y
lacks_append (c ∷ cs) b x y = (x.0, lacks_append cs b x.1 y)

lacks_pointed : (ds : List ℕ) → Lacks 44 (pointed ds)
lacks_pointed [] = tt
lacks_pointed (d ∷ ds) = ((λ e. omega arith), digits_lack 44 (omega arith) (d ∷ ds))

lacks_signed : (s : Bool) (u : List ℕ) → Lacks 44 u → Lacks 44 (signed s u)
lacks_signed true u l = ((λ e. omega arith), l)
lacks_signed false u l = l

frame_plain : (ds : List ℕ) → Plain (in_bytes ds)
frame_plain ds = index-none 44 (in_bytes ds) (digits_lack 44 (omega arith) ds)

number_plain : (n : Numeral) → Plain (text_of n)
number_plain n = index-none 44 (text_of n) (lacks_signed n.negative (in_bytes n.whole ++ pointed n.behind) (lacks_append (in_bytes n.whole) (pointed n.behind) (digits_lack 44 (omega arith) n.whole) (lacks_pointed n.behind)))

minus-one_plain : Plain minus_one
unfolding index_of index_after
minus-one_plain = refl

-- ---- a line that is written

module _ (d : Detection) where
  abbrev written : List (List ℕ)
  written =
      in_bytes d.frame ∷ minus_one
      ∷ text_of d.left ∷ text_of d.top ∷ text_of d.width ∷ text_of d.height ∷ text_of d.score
      ∷ minus_one ∷ minus_one ∷ minus_one ∷ []

  -- without the line feed
  abbrev pub text : List ℕ
  text =
      then (in_bytes d.frame) (then minus_one (then (text_of d.left) (then (text_of d.top) (then (text_of d.width) (then (text_of d.height) (then (text_of d.score)
      (then minus_one (then minus_one minus_one))))))))

  last-three : fields (then minus_one (then minus_one minus_one)) ≡ minus_one ∷ minus_one ∷ minus_one ∷ []
  last-three =
      laws.fields-more minus_one (then minus_one minus_one) minus-one_plain
      ∙ ap (λ (fs : List (List ℕ)). minus_one ∷ fs) (laws.fields-more minus_one minus_one minus-one_plain ∙ ap (λ (fs : List (List ℕ)). minus_one ∷ fs) (laws.fields-one minus_one minus-one_plain))

  -- a number, and the fields behind it
  number-then : (n : Numeral) (rest : List ℕ) (fs : List (List ℕ)) → fields rest ≡ fs → fields (then (text_of n) rest) ≡ text_of n ∷ fs
  number-then n rest fs e = laws.fields-more (text_of n) rest (number_plain n) ∙ ap (λ (gs : List (List ℕ)). text_of n ∷ gs) e

  text-fields : fields text ≡ written
  text-fields =
      laws.fields-more (in_bytes d.frame) _ (frame_plain d.frame)
      ∙ ap (λ (fs : List (List ℕ)). in_bytes d.frame ∷ fs)
      (laws.fields-more minus_one _ minus-one_plain
      ∙ ap (λ (fs : List (List ℕ)). minus_one ∷ fs)
      (number-then d.left _ _ (number-then d.top _ _ (number-then d.width _ _ (number-then d.height _ _ (number-then d.score _ _ last-three))))))

  -- the line feed is cut off
  pub text-body : body (line_text d) ≡ text
  text-body =
      let n = length-append text (10 ∷ []) in
      let e : length (text ++ (10 ∷ [])) - 1 ≡ length text = omega arith in
      ap (λ (k : ℕ). take k (text ++ (10 ∷ []))) e ∙ take-append_seam text (10 ∷ [])

  text-ended : is_ended (line_text d) ≡ true
  text-ended =
      let n = length-append text (10 ∷ []) in
      let e : length (text ++ (10 ∷ [])) - 1 ≡ length text = omega arith in
      eq-eqb _ 10 (ap (λ (k : ℕ). get_or (text ++ (10 ∷ [])) k 0) e ∙ get_or-append_seam text 10 [] 0)

  pub line-fields : fields (body (line_text d)) ≡ written
  line-fields = ap fields text-body ∙ text-fields

  forms_hold : of_forms detection written ≡ true
  unfolding of_forms
  forms_hold =
      rw (six_of d.frame d.frame-digits d.frame-some d.frame-most, text-is-number d.left, text-is-number d.top, text-is-number d.width, text-is-number d.height, text-is-number d.score)

  pub line_reads : is_detection (line_text d) ≡ true
  line_reads = unfold is_line in rw (text-ended, line-fields, forms_hold)

  number-value : (n : Numeral) → f32_of (decimal_of (text_of n)) ≡ nearest_to n
  number-value n = ap f32_of (text_has_value n)

  pub line_means : box_read (line_text d) ≡ box_written d
  line_means =
      ap box_in line-fields ∙ rw (bytes_make 0 d.frame, number-value d.left, number-value d.top, number-value d.width, number-value d.height, number-value d.score)

-- ---- and no other line is of the form

-- the first field, of the first form, and the rest of the rest
record Split (p : Form) (ps : List Form) (fs : List (List ℕ)) : Type 0 where
  first : List ℕ
  rest : List (List ℕ)
  is : fs ≡ first ∷ rest
  passes : p first ≡ true
  others : of_forms ps rest ≡ true

split : (p : Form) (ps : List Form) (fs : List (List ℕ)) → of_forms (p ∷ ps) fs ≡ true → Split p ps fs
unfolding of_forms
split p ps [] e = absurd (false_not_true e)
split p ps (f ∷ fs) e = record { first = f; rest = fs; is = refl; passes = and_left (p f) (of_forms ps fs) e; others = and_right (p f) (of_forms ps fs) e }

none_left : (fs : List (List ℕ)) → of_forms [] fs ≡ true → fs ≡ []
unfolding of_forms
none_left [] e = refl
none_left (f ∷ fs) e = absurd (false_not_true e)

-- a text whose fields have these forms: the first field, a comma, and a text whose fields have the others
record Begins (p : Form) (ps : List Form) (t : List ℕ) : Type 0 where
  field : List ℕ
  passes : p field ≡ true
  rest : List ℕ
  text : t ≡ then field rest
  others : of_forms ps (fields rest) ≡ true

begins : (p q : Form) (ps : List Form) (t : List ℕ) → of_forms (p ∷ q ∷ ps) (fields t) ≡ true → Begins p (q ∷ ps) t
begins p q ps t e =
    let a = split p (q ∷ ps) (fields t) e in
    let b = split q ps a.rest a.others in
    let f : fields t ≡ a.first ∷ b.first ∷ b.rest = a.is ∙ ap (λ (fs : List (List ℕ)). a.first ∷ fs) b.is in
    let s = first-is t a.first b.first b.rest f in
    record { field = a.first; passes = a.passes; rest = drop (next t) t; text = s.0; others = ap (of_forms (q ∷ ps)) (s.1 ∙ sym b.is) ∙ a.others }

ends : (p : Form) (t : List ℕ) → of_forms (p ∷ []) (fields t) ≡ true → p t ≡ true
ends p t e =
    let a = split p [] (fields t) e in
    let i : t ≡ a.first = last-is t a.first (a.is ∙ ap (λ (fs : List (List ℕ)). a.first ∷ fs) (none_left a.rest a.others)) in
    ap p i ∙ a.passes

-- the line feed behind it
ended-text : (l : List ℕ) → is_ended l ≡ true → l ≡ body l ++ (10 ∷ [])
ended-text l e = go (length l) refl
  where
    last : get_or l (length l - 1) 0 ≡ 10
    last = eqb-true _ _ e

    go : (n : ℕ) → length l ≡ n → l ≡ body l ++ (10 ∷ [])
    go zero h = let z : get_or l (length l - 1) 0 ≡ 0 = get_or-eq_default l 0 (omega arith) in let f = last in absurd (omega arith)
    go (suc n) h =
        let r : drop (suc (length l - 1)) l ≡ [] = drop_of_length-le l {i = suc (length l - 1)} (omega arith) in
        let c : drop (length l - 1) l ≡ get_or l (length l - 1) 0 ∷ drop (suc (length l - 1)) l = drop-cons l (length l - 1) 0 (omega arith) in
        sym (take-append-drop (length l - 1) l) ∙ ap (λ (x : List ℕ). body l ++ x) (c ∙ ap (λ (x : ℕ). x ∷ drop (suc (length l - 1)) l) last ∙ ap (λ (x : List ℕ). 10 ∷ x) r)

joined : {f g r s : List ℕ} → f ≡ g → r ≡ s → then f r ≡ then g s
joined e h = rw (e, h)

-- the five numbers
record Numbers (t rest : List ℕ) : Type 0 where
  left : Numeral
  top : Numeral
  width : Numeral
  height : Numeral
  score : Numeral
  text : t ≡ then (text_of left) (then (text_of top) (then (text_of width) (then (text_of height) (then (text_of score) rest))))

numbers-only : (t : List ℕ) → of_forms (is_number ∷ is_number ∷ is_number ∷ is_number ∷ is_number ∷ is_minus_one ∷ is_minus_one ∷ is_minus_one ∷ []) (fields t) ≡ true
    → (rest : List ℕ) × Numbers t rest × (of_forms (is_minus_one ∷ is_minus_one ∷ is_minus_one ∷ []) (fields rest) ≡ true)
numbers-only t e =
    let l = begins is_number is_number _ t e in
    let p = begins is_number is_number _ l.rest l.others in
    let w = begins is_number is_number _ p.rest p.others in
    let h = begins is_number is_number _ w.rest w.others in
    let s = begins is_number is_minus_one _ h.rest h.others in
    let nl = number-only l.field l.passes in
    let np = number-only p.field p.passes in
    let nw = number-only w.field w.passes in
    let nh = number-only h.field h.passes in
    let ns = number-only s.field s.passes in (
      s.rest,
      record {
        left = nl.0;
        top = np.0;
        width = nw.0;
        height = nh.0;
        score = ns.0;
        text = l.text ∙ joined nl.1 (p.text ∙ joined np.1 (w.text ∙ joined nw.1 (h.text ∙ joined nh.1 (s.text ∙ joined ns.1 refl))));
      },
      s.others,
    )

-- what stands behind them
behind-numbers : (d : Detection) {r s : List ℕ} → r ≡ s
    → then (text_of d.left) (then (text_of d.top) (then (text_of d.width) (then (text_of d.height) (then (text_of d.score) r))))
    ≡ then (text_of d.left) (then (text_of d.top) (then (text_of d.width) (then (text_of d.height) (then (text_of d.score) s))))
behind-numbers d e = rw e

three-only : (t : List ℕ) → of_forms (is_minus_one ∷ is_minus_one ∷ is_minus_one ∷ []) (fields t) ≡ true → t ≡ then minus_one (then minus_one minus_one)
three-only t e =
    let x = begins is_minus_one is_minus_one _ t e in
    let y = begins is_minus_one is_minus_one _ x.rest x.others in
    x.text ∙ joined (minus-one-only x.field x.passes) (y.text ∙ joined (minus-one-only y.field y.passes) (minus-one-only y.rest (ends is_minus_one y.rest y.others)))

pub line-only : (l : List ℕ) → is_detection l ≡ true → (d : Detection) × (l ≡ line_text d)
unfolding is_line
line-only l e =
    let f = begins is_frame is_minus_one _ (body l) (and_right (is_ended l) (of_forms detection (fields (body l))) e) in
    let i = begins is_minus_one is_number _ f.rest f.others in
    let n = numbers-only i.rest i.others in
    let six = six_says f.field f.passes in
    let d : Detection = record {
      frame = digits_in f.field;
      frame-digits = six.digits;
      frame-some = six.some;
      frame-most = six.most;
      left = n.1.left;
      top = n.1.top;
      width = n.1.width;
      height = n.1.height;
      score = n.1.score;
    } in
    let rest : n.0 ≡ then minus_one (then minus_one minus_one) = three-only n.0 n.2 in (
      d,
      ended-text l (and_left (is_ended l) (of_forms detection (fields (body l))) e)
          ∙ ap (λ (x : List ℕ). x ++ (10 ∷ []))
          (f.text ∙ joined (sym six.spell) (i.text ∙ joined (minus-one-only i.field i.passes) (n.1.text ∙ behind-numbers d rest))),
    )

-- ---- how long a line is

digits_long : (ds : List ℕ) → length (in_bytes ds) ≡ length ds
digits_long ds = length-map ds (λ (d : ℕ). 48 + d)

pointed-long : (ds : List ℕ) → length (pointed ds) ≤ suc (length ds)
pointed-long [] = omega arith
pointed-long (d ∷ ds) = let e = digits_long (d ∷ ds) in omega arith

signed-long : (s : Bool) (u : List ℕ) → length (signed s u) ≤ suc (length u)
signed-long true u = omega arith
signed-long false u = omega arith

numeral_long : (n : Numeral) → length (text_of n) ≤ 14
numeral_long n =
    let a = signed-long n.negative (in_bytes n.whole ++ pointed n.behind) in
    let b = length-append (in_bytes n.whole) (pointed n.behind) in
    let c = digits_long n.whole in
    let d = pointed-long n.behind in
    omega (arith, n.whole-most, n.behind-most)

line-long : (d : Detection) → length (line_text d) ≤ longest_line
line-long d =
    let f = digits_long d.frame in
    let l = numeral_long d.left in
    let t = numeral_long d.top in
    let w = numeral_long d.width in
    let h = numeral_long d.height in
    let s = numeral_long d.score in
    simp length-append (omega (arith, d.frame-most))

pub line-short : (l : List ℕ) → is_detection l ≡ true → length l ≤ longest_line
line-short l e = let d = line-only l e in omega (arith, ap length d.1, line-long d.0)
