-- `wav_store::looking_f32::all_fit_f32` meets its contract, by the cases of the three kinds. Assumes nothing.
use mathlib.Core.Path.{◌∙◌}
use Rattle.std.proofs.Common.{rules}
use Rattle.sample_kind.specs.declared.SampleKind.TheVariants.{Pcm16, Pcm24, Float32}
use Rattle.stored_samples.specs.Stored.{fits_in}
use Rattle.wav_store.proofs.Looked.{fits-each}
use Rattle.wav_store.proofs.looking_f32.all_fit_f32.Goals as goal

pub returns-in-Pcm16 : goal.returns-in-Pcm16
returns-in-Pcm16 c =
    rw c.in-Pcm16.is (c.all_pass.ensures (fits_in Pcm16) (λ x r h. search rules) ∙ fits-each Pcm16 _)

pub returns-in-Pcm24 : goal.returns-in-Pcm24
returns-in-Pcm24 c =
    rw c.in-Pcm24.is (c.all_pass-in-Pcm24.ensures (fits_in Pcm24) (λ x r h. search rules) ∙ fits-each Pcm24 _)

pub returns-in-Float32 : goal.returns-in-Float32
returns-in-Float32 c =
    rw c.in-Float32.is
    (c.all_pass-in-Float32.ensures (fits_in Float32) (λ x r h. search rules) ∙ fits-each Float32 _)
