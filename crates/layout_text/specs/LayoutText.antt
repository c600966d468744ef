-- The layout of a recording in words. Definitions only.
use Rattle.std.specs.Prelude.{ℕ, List, []}
use Rattle.text.specs.Text.{ascii}
use Rattle.file_layout.specs.declared.Layout.{Layout}
use Rattle.file_layout.specs.declared.Layout.TheVariants.{Riff, Rf64, Bw64, Aiff}

-- RIFF is the usual layout, so no word is written for it.
abbrev pub layout_text : Layout → List ℕ
layout_text Riff = []
layout_text Rf64 = ascii "RF64, "
layout_text Bw64 = ascii "BW64, "
layout_text Aiff = ascii "AIFF, "
