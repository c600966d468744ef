-- `xorshift::flutter_seed` meets its contract: the machine's exclusive or is the definition's. Assumes nothing.
use mathlib.Core.Path.{◌∙◌, ap}
use lib.Dec.{lit<}
use Rattle.wrapping_u64.proofs.Digitwise.{xor_is}
use Rattle.xorshift.specs.Seeds.{seed_of}
use Rattle.xorshift.proofs.flutter_seed.Goals as goal

pub returns : goal.returns
returns c = c.normalized_seed.ensures ∙ ap seed_of (xor_is 64 _ _ c.ranges.seed.fits (lit< tt))
