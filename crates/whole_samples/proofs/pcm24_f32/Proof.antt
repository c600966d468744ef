-- `whole_samples::pcm24_f32` meets its contract, by the law over the format and the width. Assumes nothing.
use borrow.Author.Rules.{rules}
use mathlib.Core.Path.{◌≡◌, refl}
use lib.Dec.{lit≤}
use lib.Ieee.{binary32, of_bits}
use mir.Syntax.{w32}
use mir.Val.{to_z, of_z}
use Rattle.whole_samples.specs.Whole.{signed}
use Rattle.whole_samples.proofs.Signs.{signed-few, kept}
use Rattle.whole_samples.proofs.Scaled.{product, held}
use Rattle.whole_samples.proofs.pcm24_f32.Statement.{statement}
use Rattle.whole_samples.proofs.pcm24_f32.Tie as tie

-- The result of the call, read back from the word that holds it.
again : (c : tie.After-signed24) → to_z w32 (of_z w32 c.signed24.result) ≡ signed 24 c.before.args.n
again c = kept c.signed24.ensures (signed-few 24 c.before.args.n (lit≤ tt) (lit≤ tt))

returns : tie.Need-returns
unfolding of_bits
returns c = product binary32 24 22 c.before.before.args.n (lit≤ tt) refl (again c.before) refl

pub pcm24_f32_spec : {M : Type 1} → statement M
pcm24_f32_spec =
    tie.close (tie.spec (λ c κs. search rules)
    (λ c. rw (again c.before) (held binary32 _ (signed-few 24 c.before.before.args.n (lit≤ tt) (lit≤ tt)))) returns)
