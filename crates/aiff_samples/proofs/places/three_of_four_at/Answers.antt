-- `aiff_samples::places::three_of_four_at` meets its contract: of four bytes read low byte first, the first three are
-- reversed. Assumes nothing.
use mathlib.Core.Path.{◌≡◌, ap, ◌∙◌}
use Prim.Native.Nat.{ℕ, ◌+◌, ◌*◌, ◌/◌, ◌%◌, ◌<◌}
use native.Mathlib.Omega.{arith}
use Rattle.word_bytes.specs.Bytes.{bytes_value}
use Rattle.high_first.specs.High.{big_value}
use Rattle.aiff_samples.proofs.Bytes.{three-bytes}
use Rattle.aiff_samples.proofs.places.three_of_four_at.Goals as goal

-- Dividing by 256 or by 65536 removes the lowest byte or the lowest two.
but-one : (x a w : ℕ) → a < 256 → w ≡ x * 256 + a → w / 256 ≡ x
but-one x a w h e = omega arith

but-two : (x r w : ℕ) → r < 65536 → w ≡ x * 65536 + r → w / 65536 ≡ x
but-two x r w h e = omega arith

-- The reversed number, from its bytes.
turned : (a b c d v w : ℕ) → a < 256 → b < 256 → c < 256 → w ≡ ((d * 256 + c) * 256 + b) * 256 + a
    → v ≡ (w % 256 * 256 + w / 256 % 256) * 256 + w / 65536 % 256 → v ≡ (a * 256 + b) * 256 + c
turned a b c d v w h i j e k =
    let p : w % 256 ≡ a = omega arith in
    let q : w / 256 % 256 ≡ b = rw (but-one ((d * 256 + c) * 256 + b) a w h e) (omega arith) in
    let r : w / 65536 % 256 ≡ c =
    rw (but-two (d * 256 + c) (b * 256 + a) w (omega arith) (omega arith)) (omega arith) in
    omega arith

pub returns : goal.returns
unfolding bytes_value
returns c =
    let s = c.args in
    let byte = c.shared_slice_known-1.given in
    turned _ _ _ _ c.first_three.result c.low_four_at.result
    (omega (arith, byte s.at)) (omega (arith, byte (s.at + 1))) (omega (arith, byte (s.at + 2)))
    c.low_four_at.ensures c.first_three.ensures
    ∙ omega (arith, ap big_value (three-bytes s.part.now s.at (omega (arith, c.requires))))
