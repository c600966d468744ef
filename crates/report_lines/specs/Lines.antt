-- The lines of a residual's report (W13). Definitions only.
use Rattle.std.specs.Prelude.{ℕ, cond, List, [], ◌++◌, eqb}
use Rattle.text.specs.Text.{ascii, decimal}
use Rattle.decimals.specs.Writing.{decimal_of}
use Rattle.residual.specs.declared.Report.{Report}
use Rattle.std.specs.Prelude.{Option, Some, None}
use Rattle.level_text.specs.LevelText.{level_text}
use Rattle.report_lines.specs.Files.{count_text}

-- Where the largest difference stands first; a report in which something was compared has such a place.
abbrev pub place_text : Option ℕ → List ℕ
place_text None = ascii "none"
place_text (Some k) = decimal k

-- The sum of the squared differences, and the halves in which a report carries it.
unfoldable pub sum_text : ℕ → ℕ → List ℕ
sum_text high low =
    decimal_of high low ++ (ascii ", high " ++ (decimal high ++ (ascii ", low " ++ decimal low)))

-- The largest difference and its place.
unfoldable pub largest_text : ℕ → Option ℕ → List ℕ
largest_text largest place =
    ascii ", largest " ++ (decimal largest ++ (ascii ", place " ++ place_text place))

-- What follows the number of samples; nothing if nothing was compared.
unfoldable pub figures_text : Report → Option ℕ → List ℕ
figures_text r level =
    cond (eqb r.number 0) []
    (largest_text r.largest r.place ++ (ascii ", sum " ++ (sum_text r.high r.low ++
    (ascii ", level " ++ level_text level))))

-- The line of a channel.
unfoldable pub channel_text : ℕ → Report → Option ℕ → List ℕ
channel_text channel r level =
    ascii "channel " ++ (decimal channel ++ (ascii ": number " ++ (decimal r.number ++
    (figures_text r level ++ ascii "\n"))))

-- The first frames of two files that are compared.
unfoldable pub compared_text : ℕ → ℕ → List ℕ
compared_text first second =
    ascii "compared: first from frame " ++ (decimal first ++
    (ascii ", second from frame " ++ (decimal second ++ ascii "\n")))

-- How many frames each file has behind the last one compared.
unfoldable pub left_over_text : ℕ → ℕ → List ℕ
left_over_text first second =
    ascii "left over: first " ++ (count_text first (ascii "frame") ++
    (ascii ", second " ++ (count_text second (ascii "frame") ++ ascii "\n")))
