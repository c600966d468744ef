-- A quality reader's call, opening and reset on plain numbers: quality_variable_delay's if every number names what it
-- stands for, otherwise refused with nothing changed. Definitions only.
use Rattle.std.specs.Prelude.{ℕ, Bool, true, false, ◌&&◌, List, length, Float}
use Rattle.answer.specs.Answers.{number_f32_of, value_f32_of, zero-f}
use Rattle.returning_fade.specs.declared.Rule.{Rule}
use Rattle.returning_fade.specs.declared.Direction.TheVariants.{Onwards}
use Rattle.returning_fade.specs.Rules.{rule_code, direction_code}
use Rattle.quality_variable_delay.specs.declared.ProcessedQ.{ProcessedQ}
use Rattle.quality_variable_delay.specs.declared.Opened.{Opened}
use Rattle.quality_variable_delay.specs.declared.Opened.TheVariants.{Reader, Refused}
use Rattle.quality_variable_delay.specs.Bank.{due_of, processed, ring_left}
use Rattle.quality_variable_delay.specs.Opening.{reset_verdict, reset_of, ring_reset}
use Rattle.quality_codes.specs.declared.Coded.{Coded}
use Rattle.quality_codes.specs.declared.Called.{Called}
use Rattle.quality_codes.specs.Codes.{mode_of, code_ok, decoded, coded, fields_ok, odd_number}

abbrev pub pick_called : Bool → Called → Called → Called
pick_called true a b = a
pick_called false a b = b

abbrev pub pick_ring : Bool → List Float → List Float → List Float
pick_ring true a b = a
pick_ring false a b = b

abbrev pub refused_by : ℕ → Coded → Called
refused_by number s = record { state = s; number = number; sample = zero-f }

abbrev pub taken_apart : ProcessedQ → Called
taken_apart p = record { state = coded p.state; number = number_f32_of p.answer; sample = value_f32_of p.answer }

-- The call of process_sample_rate_aware.
abbrev pub called_of : List Float → Float → Coded → List Float → Float → Float → ℕ → Float → Called
called_of sets max-rate s xs x y q playback-rate =
    pick_called (code_ok q && fields_ok s)
    (taken_apart (processed sets max-rate (decoded s) xs x y (mode_of q) playback-rate))
    (refused_by (odd_number (code_ok q) (due_of (length sets) max-rate (decoded s) (length xs) x y playback-rate)) s)

abbrev pub ring_called : List Float → Float → Coded → List Float → Float → Float → ℕ → Float → List Float
ring_called sets max-rate s xs x y q playback-rate =
    pick_ring (code_ok q && fields_ok s) (ring_left sets max-rate (decoded s) xs x y playback-rate) xs

-- A reset has no quality as an argument. Opening resets a state that has accepted nothing and holds one quality, whose
-- number is an argument.
abbrev pub opened_apart : Coded → Opened → Called
opened_apart s (Reader d) = record { state = coded d; number = 0; sample = zero-f }
opened_apart s (Refused k) = record { state = s; number = k; sample = zero-f }

abbrev pub renewed_of : Bool → Coded → ℕ → Called
renewed_of asked s len =
    pick_called (asked && fields_ok s) (opened_apart s (reset_of (decoded s) len))
    (refused_by (odd_number asked (reset_verdict (decoded s) len)) s)

abbrev pub ring_renewed : Bool → Coded → List Float → List Float
ring_renewed asked s xs = pick_ring (asked && fields_ok s) (ring_reset (decoded s) xs) xs

-- Opening starts from a state that has accepted nothing and holds its one quality. It chooses the rule itself, so that
-- no caller passes a rule's number (W9h).
abbrev pub fresh_of : Rule → ℕ → ℕ → ℕ → ℕ → Coded
fresh_of rule maximum margin quality crossfade-samples =
    record {
      maximum = maximum;
      margin = margin;
      accepted = 0;
      current = quality;
      target = quality;
      crossfade_position = crossfade-samples;
      crossfade_samples = crossfade-samples;
      rule = rule_code rule;
      direction = direction_code Onwards;
    }
