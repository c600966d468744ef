-- `word_bytes::low_first` meets its contract, by those of the part and of the loop. Assumes nothing.
use mathlib.Core.Path.{◌∙◌, ap}
use native.Mathlib.Omega.{arith}
use Rattle.word_bytes.specs.Bytes.{bytes_value}
use Rattle.word_bytes.proofs.as_bytes.low_first.Goals as goal

pub read_bytes-requires : goal.read_bytes-requires
read_bytes-requires c = omega arith

pub returns : goal.returns
returns c = c.read_bytes.ensures.value ∙ ap bytes_value c.part.ensures.result_value
