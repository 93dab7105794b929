-- Document 01, "Known examples": the box record, and its one track as a record, with label 1 (02, N2). The definitions yield their bytes by computation.
use Rattle.std.specs.Prelude.{◌≡◌, refl, [], ◌∷◌}
use Rattle.std.specs.Float.{nan}
use Rattle.std.specs.Float.Ieee.{of_bits, to_bits}
use Rattle.records.specs.declared.box_record.BoxRecord.{BoxRecord}
use Rattle.records.specs.declared.track_record.TrackRecord.{TrackRecord}
use Rattle.records.specs.Field.{little_endian, bits, float}
use Rattle.records.specs.BoxRecord.{bytes_of_box}
use Rattle.records.specs.TrackRecord.{bytes_of_track}

-- 1, 10, 20, 32, 64, score 0.75
abbrev lone : BoxRecord
lone = record { frame = 1; left = float 0x4120_0000; top = float 0x41a0_0000; width = float 0x4200_0000; height = float 0x4280_0000; score = float 0x3f40_0000; label = 1 }

-- its track
abbrev pub lone_track : TrackRecord
lone_track = record { frame = 1; id = 1; left = float 0x4120_0000; top = float 0x41a0_0000; width = float 0x4200_0000; height = float 0x4280_0000; confidence = float 0x3ef4_e351; label = 1 }

pub box-known : bytes_of_box lone ≡ 1 ∷ 0 ∷ 0 ∷ 0 ∷ 0 ∷ 0 ∷ 0x20 ∷ 0x41 ∷ 0 ∷ 0 ∷ 0xa0 ∷ 0x41 ∷ 0 ∷ 0 ∷ 0 ∷ 0x42 ∷ 0 ∷ 0 ∷ 0x80 ∷ 0x42 ∷ 0 ∷ 0 ∷ 0x40 ∷ 0x3f ∷ 1 ∷ []
unfolding little_endian of_bits to_bits
box-known = refl

pub track-known : bytes_of_track lone_track
    ≡ 1 ∷ 0 ∷ 0 ∷ 0 ∷ 1 ∷ 0 ∷ 0 ∷ 0 ∷ 0 ∷ 0 ∷ 0 ∷ 0 ∷ 0 ∷ 0 ∷ 0x20 ∷ 0x41 ∷ 0 ∷ 0 ∷ 0xa0 ∷ 0x41 ∷ 0 ∷ 0 ∷ 0 ∷ 0x42 ∷ 0 ∷ 0 ∷ 0x80 ∷ 0x42 ∷ 0x51 ∷ 0xe3 ∷ 0xf4 ∷ 0x3e ∷ 1 ∷ []
unfolding little_endian of_bits to_bits
track-known = refl

-- the one NaN
pub nan_known : little_endian 4 (bits nan) ≡ 0 ∷ 0 ∷ 0xc0 ∷ 0x7f ∷ []
unfolding little_endian to_bits
nan_known = refl
