-- `puts::put_fraction` meets its contract: the digits that are not zeros at the end. Assumes nothing.
use Rattle.std.proofs.Common.{◌≡◌, ℕ, ◌≤◌, ◌∷◌, [], sym, arith, length-take-le}
use Rattle.why_words.specs.Words.{fraction_bytes}
use Rattle.why_words.proofs.PutLaws.{puts_length, few_bytes, fraction_puts}
use Rattle.why_words.proofs.puts.put_fraction.Goals as goal

-- no more bytes than there are
bytes_fit : (n f : ℕ) → n ≡ fraction_bytes f → n ≤ 4
bytes_fit n f e = omega (arith, e, few_bytes f)

pub slice_bounds-put_word-end : goal.slice_bounds-put_word-end
slice_bounds-put_word-end c = sym (length-take-le _ _ (bytes_fit c.fraction_bytes-n.result c.args.f c.fraction_bytes-n.ensures))

pub put_word-requires : goal.put_word-requires
put_word-requires c = omega (arith, c.requires.fact_1, bytes_fit c.fraction_bytes-n.result c.args.f c.fraction_bytes-n.ensures, length-take-le {A = ℕ} c.fraction_bytes-n.result (46 ∷ c.digit.result ∷ c.digit-2.result ∷ c.digit-3.result ∷ []) (bytes_fit c.fraction_bytes-n.result c.args.f c.fraction_bytes-n.ensures))

pub returns : goal.returns
returns c = fraction_puts _ c.fraction_bytes-n.ensures c.digit.ensures c.digit-2.ensures c.digit-3.ensures c.put_word.ensures

pub digit-requires : goal.digit-requires
digit-requires c = omega (arith, c.requires.fact_2)

pub slice_bounds-cells-end : goal.slice_bounds-cells-end
slice_bounds-cells-end c = bytes_fit c.fraction_bytes-n.result c.args.f c.fraction_bytes-n.ensures

pub shape_of-text : goal.shape_of-text
shape_of-text c = puts_length (returns c)
