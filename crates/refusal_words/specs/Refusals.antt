-- Why a file is refused, by the number that reading it gives (9 to 13, 18 to 22), in words that say what to do.
-- Definitions only.
use Rattle.std.specs.Prelude.{ℕ, cond, List, ◌++◌, eqb}
use Rattle.text.specs.Text.{ascii, decimal}
use Rattle.refusal_words.specs.Kinds.{kind_refusal}

-- The words for a number that no reading gives.
unfoldable pub other_refusal : ℕ → List ℕ
other_refusal number = ascii " is refused by " ++ (decimal number ++ ascii ": README.md says what that number means\n")

-- The words for the numbers of RF64 and BW64 files (18, 19), of AIFF files (20, 21, 22), and for any other.
unfoldable pub later_refusal : ℕ → List ℕ
later_refusal number =
    cond (eqb number 18)
    (ascii " is refused by 18: its `ds64` is missing or not first, so nobody can tell its sizes: save it anew\n")
    (cond (eqb number 19)
    (ascii " is refused by 19: a size in it is above 1099511627776 bytes: cut the recording in two\n")
    (cond (eqb number 20)
    (ascii " is refused by 20: no AIFF file (AIFC is not read): save it as WAV, for instance by an audio editor\n")
    (cond (eqb number 21)
    (ascii " is refused by 21: `COMM` or `SSND` is missing or too short, or frames are missing: ask for it anew\n")
    (cond (eqb number 22)
    (ascii " is refused by 22: its rate is no whole number from 8000 to 768000: save it anew at such a rate\n")
    (other_refusal number)))))

-- The numbers of any file (10) and of RIFF files (9, 11, 12, 13) come first.
unfoldable pub refusal_text : List ℕ → ℕ → ℕ → ℕ → ℕ → ℕ → List ℕ
refusal_text name number tag channels block bits =
    cond (eqb number 9)
    (ascii " is refused by 9: no RIFF WAVE file: save it as WAV first, for instance by an audio editor\n")
    (cond (eqb number 10)
    (ascii " is refused by 10: a chunk runs past its end, so it was cut short: copy it again from where it came\n")
    (cond (eqb number 11)
    (ascii " is refused by 11: no `fmt ` before `data`, so nobody can tell what its samples are: save it anew\n")
    (cond (eqb number 12)
    (ascii " is refused by 12: there is no `data`, so it holds no samples: save it anew where it came from\n")
    (cond (eqb number 13) (kind_refusal name tag channels block bits) (later_refusal number)))))
