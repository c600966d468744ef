-- Refusal 13 in words: what a file says of its samples, and how to get a kind that is read. Definitions only.
use Rattle.std.specs.Prelude.{ℕ, cond, List, [], ◌++◌, eqb, ltb}
use Rattle.text.specs.Text.{ascii, decimal}
use Rattle.report_lines.specs.Files.{count_text}

-- The kind by its tag. Tag 65534 wraps another kind; AIFF has no tags, and is given as 0.
unfoldable pub tag_text : ℕ → List ℕ
tag_text tag =
    cond (eqb tag 0) (ascii "a kind without a tag")
    (cond (eqb tag 65534) (ascii "a wrapped kind (tag 65534)") (ascii "tag " ++ decimal tag))

-- The number of bytes in a frame; nothing if the file does not say it.
unfoldable pub frame_text : ℕ → List ℕ
frame_text block = cond (eqb block 0) [] (ascii ", " ++ (count_text block (ascii "byte") ++ ascii " a frame"))

-- What a file says of its samples.
unfoldable pub kind_text : ℕ → ℕ → ℕ → ℕ → List ℕ
kind_text tag channels block bits =
    tag_text tag ++ (ascii ", " ++ (count_text bits (ascii "bit") ++ (ascii ", " ++
    (count_text channels (ascii "channel") ++ frame_text block))))

-- Of more than two channels the first two are kept as they are.
unfoldable pub remix_text : ℕ → List ℕ
remix_text channels = cond (ltb 2 channels) (ascii " remix 1 2\n") (ascii "\n")

-- The command that writes the file as plain PCM of 24 bits, without dither.
unfoldable pub advice_text : List ℕ → ℕ → List ℕ
advice_text name channels =
    ascii "; write it as such, for instance: sox -D " ++
    (name ++ (ascii " -t wavpcm -b 24 OUT.wav" ++ remix_text channels))

-- The words of refusal 13, with the file's name in the command.
unfoldable pub kind_refusal : List ℕ → ℕ → ℕ → ℕ → ℕ → List ℕ
kind_refusal name tag channels block bits =
    ascii " is refused by 13: " ++ (kind_text tag channels block bits ++
    (ascii ": whole frames of one or two channels, PCM of 16 or 24 bits or float of 32, are read" ++
    advice_text name channels))
