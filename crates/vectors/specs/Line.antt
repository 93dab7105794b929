-- A printed line: docs/ORACLE.md, "Records". It has room for 256 bytes, and what is beyond is left out.
use Rattle.std.specs.Prelude.{cond, ℕ, ◌+◌, ◌-◌, ◌^◌, ltb, Float, set, replicate}
use mathlib.Core.List.{List, [], ◌∷◌, foldl}
use Rattle.io.specs.Digits.{last_digits}
use Rattle.laws.specs.Scan.{lowest}
use Rattle.vectors.specs.declared.line.Line.{Line}
use Rattle.vectors_digest.specs.Floats.{word}

abbrev pub empty : Line
empty = record { bytes = replicate 256 32; used = 0 }

unfoldable pub pushed : Line → ℕ → Line
pushed l b = cond (ltb l.used 256) (record { bytes = set l.bytes l.used b; used = l.used + 1 }) l

unfoldable pub text : Line → List ℕ → Line
text l s = foldl pushed l s

-- the fewest digits in base b, and no fewer than least, that hold n, of a number with 20 or fewer
abbrev pub places : ℕ → ℕ → ℕ → ℕ
places b least n = least + lowest (λ k. ltb n (b ^ (least + k))) (21 - least)

-- a space, and a number in base b with at least so many digits
abbrev pub spelt : ℕ → ℕ → Line → ℕ → Line
spelt b least l n = text (text l (32 ∷ [])) (last_digits b (places b least n) n)

abbrev pub number : Line → ℕ → Line
number l n = spelt 10 1 l n

abbrev pub digest : Line → ℕ → Line
digest l sum = spelt 16 16 l sum

-- the bits of a float's word
abbrev pub float : Line → Float → Line
float l x = spelt 16 8 l (word x)

unfoldable pub floats : Line → List Float → Line
floats l s = foldl float l s

-- what stands between two parts
abbrev pub bar : Line → Line
bar l = text l (32 ∷ 124 ∷ [])
