-- `wav_samples::places::three_at` meets its contract: byte by byte. Assumes nothing.
use native.Mathlib.Omega.{arith}
use Rattle.word_bytes.specs.Bytes.{bytes_value}
use Rattle.little_endian.proofs.BytesAtPlace.{first_byte, later-byte}
use Rattle.wav_samples.proofs.places.three_at.Goals as goal

pub returns : goal.returns
unfolding bytes_value
returns c =
    let b = c.args.part.now in
    let at = c.args.at in
    omega (arith, c.of_three.ensures.value, first_byte 2 b at, later-byte 1 b at 1, later-byte 0 b at 2)
