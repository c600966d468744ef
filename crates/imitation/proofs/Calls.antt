-- A single call, from what the reader returned, over variables. Assumes nothing.
use mathlib.Core.Path.{◌≡◌, refl}
use mathlib.Core.Bool.{◌&&◌}
use mathlib.Core.List.{List}
use Prim.Native.Nat.{ℕ}
use lib.Dec.{eqb}
use lib.ListN.{length}
use lib.Ieee.{Float}
use Rattle.answer.specs.Answers.{number_f32_of, value_f32_of}
use Rattle.sinc_settings.specs.Ranges.{taps_ok, phases_ok}
use Rattle.sinc_settings.specs.Refusals.{table_length}
use Rattle.sinc_read_f32.specs.Reading.{sinc_f32_at}
use Rattle.variable_delay.specs.Reader.{verdict, ring_after}
use Rattle.variable_delay.specs.declared.VariableDelay.{VariableDelay}
use Rattle.variable_delay_f32.specs.Call.{processed_f32_by}
use Rattle.variable_delay_f32.specs.declared.ProcessedF32.{ProcessedF32}
use Rattle.imitation.specs.Reading.{call_of}

-- The reader's refusal, with the tests of the settings 32 and 64 as it makes them.
abbrev pub due : List Float → VariableDelay → List Float → Float → Float → ℕ
due table d ring x y =
    verdict (taps_ok 32 && phases_ok 64) (eqb (length table) (table_length 32 64)) d (length ring) x y

pub calls : (table : List Float) (d : VariableDelay) (ring : List Float) (x y : Float) {q : ProcessedF32}
    {left : List Float} {n : ℕ} {v : Float}
    → q ≡ processed_f32_by (sinc_f32_at table 32 64) (due table d ring x y) d ring x y
    → left ≡ ring_after (due table d ring x y) d ring x → n ≡ number_f32_of q.answer → v ≡ value_f32_of q.answer
    → (q.state ≡ (call_of table d ring x y).state)
    × ((n ≡ (call_of table d ring x y).number) × ((v ≡ (call_of table d ring x y).sample)
    × (left ≡ (call_of table d ring x y).ring)))
unfolding call_of
calls table d ring x y e1 e2 e3 e4 = rw (e4, e3, e2, e1) (refl, (refl, (refl, refl)))
