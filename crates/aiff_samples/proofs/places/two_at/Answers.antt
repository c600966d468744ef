-- `aiff_samples::places::two_at` meets its contract: two bytes read low byte first are exchanged. Assumes nothing.
use mathlib.Core.Path.{◌≡◌, ap, ◌∙◌}
use Prim.Native.Nat.{ℕ, ◌+◌, ◌*◌, ◌/◌, ◌%◌, ◌<◌}
use native.Mathlib.Omega.{arith}
use Rattle.word_bytes.specs.Bytes.{bytes_value}
use Rattle.high_first.specs.High.{big_value}
use Rattle.aiff_samples.proofs.Bytes.{two_bytes}
use Rattle.aiff_samples.proofs.places.two_at.Goals as goal

-- The exchanged number, from its two bytes.
joined : (a b v w : ℕ) → a < 256 → w ≡ b * 256 + a → v ≡ w % 256 * 256 + w / 256 → v ≡ a * 256 + b
joined a b v w h e k =
    let p : w % 256 ≡ a = omega arith in
    let q : w / 256 ≡ b = omega arith in
    omega arith

pub returns : goal.returns
unfolding bytes_value
returns c =
    let s = c.args in
    joined _ _ c.exchanged.result c.low_two_at.result
    (omega (arith, c.shared_slice_known-1.given s.at)) c.low_two_at.ensures.value c.exchanged.ensures
    ∙ omega (arith, ap big_value (two_bytes s.part.now s.at c.requires))
