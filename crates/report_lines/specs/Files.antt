-- A kind of samples and a file in words. Definitions only.
use Rattle.std.specs.Prelude.{ℕ, cond, List, [], ◌++◌, eqb}
use Rattle.text.specs.Text.{ascii, decimal}
use Rattle.sample_kind.specs.declared.SampleKind.{SampleKind}
use Rattle.sample_kind.specs.declared.SampleKind.TheVariants.{Pcm16, Pcm24, Float32}

abbrev pub kind_text : SampleKind → List ℕ
kind_text Pcm16 = ascii "PCM of 16 bits"
kind_text Pcm24 = ascii "PCM of 24 bits"
kind_text Float32 = ascii "float of 32 bits"

-- The plural ends in an s unless there is exactly one.
unfoldable pub plural_text : ℕ → List ℕ
plural_text n = cond (eqb n 1) [] (ascii "s")

-- A number of things.
unfoldable pub count_text : ℕ → List ℕ → List ℕ
count_text n thing = decimal n ++ (ascii " " ++ (thing ++ plural_text n))

-- A file: the kind of its samples, its channels, its rate and its frames.
unfoldable pub file_text : SampleKind → ℕ → ℕ → ℕ → List ℕ
file_text kind channels rate frames =
    kind_text kind ++ (ascii ", " ++ (count_text channels (ascii "channel") ++
    (ascii ", " ++ (decimal rate ++ (ascii " Hz, " ++ count_text frames (ascii "frame"))))))
