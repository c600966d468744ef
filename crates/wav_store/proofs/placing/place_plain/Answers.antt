-- `wav_store::placing::place_plain` meets its contract, by the bytes of the nearest f32s. Assumes nothing.
use mathlib.Core.Path.{◌∙◌}
use Rattle.std.proofs.Common.{rules}
use Rattle.sample_kind.specs.declared.SampleKind.TheVariants.{Float32}
use Rattle.stored_samples.specs.Stored.{word_of}
use Rattle.wav_store.proofs.Words.{words-bytes}
use Rattle.wav_store.proofs.placing.place_plain.Goals as goal

pub returns : goal.returns
returns c = c.place_words.ensures (word_of Float32) (λ x r h. search rules) ∙ words-bytes Float32 _
