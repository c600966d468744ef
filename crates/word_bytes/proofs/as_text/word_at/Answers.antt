-- `word_bytes::word_at` meets its contract, by those of the part and of the loop. Assumes nothing.
use mathlib.Core.Path.{◌∙◌, ap}
use Rattle.word_bytes.specs.Hex.{hex_value}
use Rattle.word_bytes.proofs.as_text.word_at.Goals as goal

pub returns : goal.returns
returns c = c.read_hex.ensures ∙ ap (hex_value 0) c.part.ensures.result_value
