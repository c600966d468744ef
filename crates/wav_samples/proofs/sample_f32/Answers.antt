-- `wav_samples::sample_f32` meets its contract, by the three kinds. Assumes nothing.
use mathlib.Core.Path.{◌∙◌, ap}
use lib.Ieee.{binary32, of_bits}
use Rattle.whole_samples.specs.Whole.{whole_of}
use Rattle.wav_samples.proofs.sample_f32.Goals as goal

pub returns-in-Pcm16 : goal.returns-in-Pcm16
returns-in-Pcm16 c =
    rw c.in-Pcm16.is
    (c.pcm16_f32.ensures ∙ ap (whole_of binary32 16) c.two.ensures.value)

pub returns-in-Pcm24 : goal.returns-in-Pcm24
returns-in-Pcm24 c =
    rw c.in-Pcm24.is
    (c.pcm24_f32.ensures ∙ ap (whole_of binary32 24) c.three.ensures.value)

pub returns-in-Float32 : goal.returns-in-Float32
returns-in-Float32 c =
    rw c.in-Float32.is
    (c.float_of_f32.ensures ∙ ap (of_bits binary32) c.low_first_u32.ensures)
