-- `wav_store::placing_f32::place_f32` meets its contract, by the cases of the three kinds. Assumes nothing.
use mathlib.Core.Path.{◌∙◌}
use Rattle.std.proofs.Common.{rules}
use Rattle.sample_kind.specs.declared.SampleKind.TheVariants.{Pcm16, Pcm24, Float32}
use Rattle.stored_samples.specs.Stored.{word_of}
use Rattle.wav_store.proofs.Words.{words-bytes}
use Rattle.wav_store.proofs.placing_f32.place_f32.Goals as goal

pub place_words-requires-clause-long : goal.place_words-requires-clause-long
place_words-requires-clause-long c = rw c.in-Pcm16.is at c.requires

pub returns-in-Pcm16 : goal.returns-in-Pcm16
returns-in-Pcm16 c =
    rw c.in-Pcm16.is (c.place_words.ensures (word_of Pcm16) (λ x r h. search rules) ∙ words-bytes Pcm16 _)

pub place_words-requires-in-Pcm24-clause-long : goal.place_words-requires-in-Pcm24-clause-long
place_words-requires-in-Pcm24-clause-long c = rw c.in-Pcm24.is at c.requires

pub returns-in-Pcm24 : goal.returns-in-Pcm24
returns-in-Pcm24 c =
    rw c.in-Pcm24.is (c.place_words-in-Pcm24.ensures (word_of Pcm24) (λ x r h. search rules) ∙ words-bytes Pcm24 _)

pub place_words-requires-in-Float32-clause-long : goal.place_words-requires-in-Float32-clause-long
place_words-requires-in-Float32-clause-long c = rw c.in-Float32.is at c.requires

pub returns-in-Float32 : goal.returns-in-Float32
returns-in-Float32 c =
    rw c.in-Float32.is
    (c.place_words-in-Float32.ensures (word_of Float32) (λ x r h. search rules) ∙ words-bytes Float32 _)
