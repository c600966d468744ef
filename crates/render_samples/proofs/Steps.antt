-- One sample, from what the engine and the reader returned: state, ring and answer are the definition's. The law is
-- over variables, so that the proof of the function cites it once. Assumes nothing.
use mathlib.Core.Path.{◌≡◌, refl}
use mathlib.Core.Bool.{◌&&◌}
use mathlib.Core.List.{List}
use Prim.Native.Nat.{ℕ}
use lib.Dec.{eqb}
use lib.ListN.{length}
use lib.Ieee.{Float, binary32, to_bits}
use Rattle.answer.specs.Answers.{value_f32_of}
use Rattle.sinc_settings.specs.Ranges.{taps_ok, phases_ok}
use Rattle.sinc_settings.specs.Refusals.{table_length}
use Rattle.modulation_params.specs.Settings.{default_params}
use Rattle.modulation.specs.Step.{next_of}
use Rattle.modulation_sample.specs.declared.Next.{Next}
use Rattle.modulation_params.specs.declared.ModulationParams.{ModulationParams}
use Rattle.variable_delay.specs.Reader.{verdict, ring_after}
use Rattle.variable_delay.specs.declared.VariableDelay.{VariableDelay}
use Rattle.variable_delay_f32.specs.Call.{processed_f32_by}
use Rattle.variable_delay_f32.specs.declared.ProcessedF32.{ProcessedF32}
use Rattle.sinc_read_f32.specs.Reading.{sinc_f32_at}
use Rattle.render_samples.specs.declared.Rendering.{Rendering}
use Rattle.render_samples.specs.Samples.{Held, delay_of, after_sample, sample_for}

-- The reader's refusal, with the tests of the settings 32 and 64 as it makes them.
abbrev pub due : List Float → VariableDelay → List Float → Float → Float → ℕ
due table d ring x y =
    verdict (taps_ok 32 && phases_ok 64) (eqb (length table) (table_length 32 64)) d (length ring) x y

pub stepped : (table : List Float) (h : Held) (z : Float) {p : ModulationParams} {n : Next} {x y v : Float}
    {q : ProcessedF32} {ring : List Float} {w : ℕ}
    → p ≡ default_params → n ≡ next_of h.state.engine p → x ≡ z → y ≡ delay_of n.offset
    → q ≡ processed_f32_by (sinc_f32_at table 32 64) (due table h.state.reader h.ring x y) h.state.reader
    h.ring x y
    → ring ≡ ring_after (due table h.state.reader h.ring x y) h.state.reader h.ring x
    → v ≡ value_f32_of q.answer → w ≡ to_bits binary32 v
    → (◌≡◌ {A = Rendering} (record { reader = q.state; engine = n.engine }) (after_sample table h z).state)
    × ((w ≡ to_bits binary32 (sample_for table h z)) × (ring ≡ (after_sample table h z).ring))
stepped table h z e1 e2 e3 e4 e5 e6 e7 e8 = rw (e8, e7, e6, e5, e4, e3, e2, e1) (refl, (refl, refl))
