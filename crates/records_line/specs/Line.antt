-- The printed lines, each with the line feed at its end. Document 01, "Records and limits": "One line per emitted track: frame, id (decimal), left, top, width, height, confidence
-- (8 lower-case hexadecimal digits of the bits), separated by one space." And "When a call is turned down", trackbox: "It prints `refused 42 record 5`".
use Rattle.std.specs.Prelude.{List, [], ◌∷◌, ◌++◌, ℕ, Float}
use Rattle.records.specs.declared.track_record.TrackRecord.{TrackRecord}
use Rattle.records_line.specs.Text.{decimal, hex, ended}

abbrev pub spaced : List ℕ → List ℕ
spaced xs = ended xs 32

abbrev pub line_fed : List ℕ → List ℕ
line_fed xs = ended xs 10

abbrev pub five_hex : Float → Float → Float → Float → Float → List ℕ
five_hex a b c d e = spaced (hex a) ++ (spaced (hex b) ++ (spaced (hex c) ++ (spaced (hex d) ++ line_fed (hex e))))

unfoldable pub line : TrackRecord → List ℕ
line t = spaced (decimal t.frame) ++ (spaced (decimal t.id) ++ five_hex t.left t.top t.width t.height t.confidence)

-- the most bytes that a line of a track has: two numbers of 20 digits, five of 8, and seven separators
abbrev pub line_bytes : ℕ
line_bytes = 87

-- `refused ` and `record `
abbrev pub refused : List ℕ
refused = 114 ∷ 101 ∷ 102 ∷ 117 ∷ 115 ∷ 101 ∷ 100 ∷ 32 ∷ []

abbrev pub of_record : List ℕ
of_record = 114 ∷ 101 ∷ 99 ∷ 111 ∷ 114 ∷ 100 ∷ 32 ∷ []

unfoldable pub refused_line : ℕ → ℕ → List ℕ
refused_line number nth = refused ++ (spaced (decimal number) ++ (of_record ++ line_fed (decimal nth)))
