-- K8. The call that a reader's arguments make, with the settings and the table or bank that it is handed, and what it
-- means that a reader's contract follows runs of such calls. A kernel without settings and table makes a `bare_call`.
-- Definitions only.
use Rattle.std.specs.Prelude.{ℕ, ◌*◌, ◌≡◌, true, ◌&&◌, List, eqb, length, Float}
use Rattle.lagrange.specs.Kernel as lagrange
use Rattle.sinc_settings.specs.Ranges.{taps_ok, phases_ok}
use Rattle.sinc_settings.specs.Refusals.{table_length}
use Rattle.bank_choice.specs.Rates.{bank_ok, steps_of}
use Rattle.sinc_bank_f32.specs.Sets.{set_length}
use Rattle.quality_mode.specs.declared.QualityMode.{QualityMode}
use Rattle.runs.specs.Runs.{Call}
use Rattle.quality_runs.specs.Runs as quality
use Rattle.determined.specs.Determined.{Meets}

abbrev pub lagrange_call : ℕ → Float → Float → Call
lagrange_call taps input delay = record { own = lagrange.taps_ok taps; lent = true; input = input; delay = delay }

abbrev pub sinc_call : List Float → ℕ → ℕ → Float → Float → Call
sinc_call table taps phases input delay = record {
  own = taps_ok taps && phases_ok phases;
  lent = eqb (length table) (table_length taps phases);
  input = input;
  delay = delay;
}

-- A call with a bank for the maximum rate `max-rate`.
abbrev pub quality_call : List Float → Float → Float → Float → QualityMode → Float → quality.Call
quality_call sets max-rate input delay q playback-rate = record {
  bank = bank_ok max-rate;
  lent = eqb (length sets) (steps_of max-rate * set_length);
  input = input;
  delay = delay;
  quality = q;
  playback-rate = playback-rate;
}

-- Any function that meets the contract leaves the reader as a run has it after the call, whether accepted or refused.
abbrev pub Follows : {A R E S C : Type 0} → (S → C → S) → (A → R → E → Type 0) → (A → S) → (A → C) → (R → E → S)
    → Type 0
Follows {A} {R} {E} after contract before call left =
    (f : A → R × E) → Meets contract f → (a : A) → left (f a).0 (f a).1 ≡ after (before a) (call a)
