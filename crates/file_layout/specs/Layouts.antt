-- The layout of a recording, from its first four letters. Definitions only.
use Rattle.std.specs.Prelude.{ℕ, Bool, true, false, cond, List, eqb}
use Rattle.wav_format.specs.Format.{number}
use Rattle.true_sizes.specs.Sizes.{rf64_id, bw64_id}
use Rattle.aiff.specs.Aiff.{form_id}
use Rattle.file_layout.specs.declared.Layout.{Layout}
use Rattle.file_layout.specs.declared.Layout.TheVariants.{Riff, Rf64, Bw64, Aiff}

-- `FORM`, `RF64` and `BW64` are known here. Every other file is read as RIFF, where 9 refuses what is none.
abbrev pub layout_by : ℕ → Layout
layout_by id = cond (eqb id form_id) Aiff (cond (eqb id rf64_id) Rf64 (cond (eqb id bw64_id) Bw64 Riff))

abbrev pub layout_of : List ℕ → Layout
layout_of b = layout_by (number 4 b 0)

abbrev pub is_aiff : Layout → Bool
is_aiff Riff = false
is_aiff Rf64 = false
is_aiff Bw64 = false
is_aiff Aiff = true

-- How many bytes are read of the chunk that describes the samples, and of the one that holds them.
abbrev pub format_bytes : Layout → ℕ
format_bytes layout = cond (is_aiff layout) 18 40

abbrev pub samples_bytes : Layout → ℕ
samples_bytes layout = cond (is_aiff layout) 8 0
