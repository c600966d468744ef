-- Q1 to Q3, W9, K8. A run of a quality reader's calls, by either rule: each call takes the state and the ring that the
-- last call left, whatever each quality reads. Each call brings its own bank. Definitions only.
use Rattle.std.specs.Prelude.{ℕ, Bool, ◌&&◌, List, [], ◌∷◌, map, length, Float}
use Rattle.quality_mode.specs.declared.QualityMode.{QualityMode}
use Rattle.quality_fade.specs.declared.Turn.{Turn}
use Rattle.returning_fade.specs.Step.{step_of}
use Rattle.runs.specs.Calls.{keep, run_of, accepted_of}
use Rattle.runs.specs.Runs as plain
use Rattle.quality_variable_delay.specs.State.{delay_part, fade_part}
use Rattle.quality_variable_delay.specs.Reader.{verdict, state_after, ring_after}
use Rattle.quality_variable_delay.specs.declared.QualityVariableDelayF32.{QualityVariableDelayF32}

-- `bank` says that the rate of the bank that the call lends is in range, `lent` that its sets have their length.
pub record Call : Type 0 where
  pub bank : Bool
  pub lent : Bool
  pub input : Float
  pub delay : Float
  pub quality : QualityMode
  pub playback-rate : Float

-- The rate of the call's bank is in range, and its sets have their length.
abbrev pub fit : Call → Bool
fit c = c.bank && c.lent

-- A reader between two calls.
pub record Reader : Type 0 where
  pub state : QualityVariableDelayF32
  pub ring : List Float

-- What a call leaves, for each number by which it may be refused, 0 for none.
abbrev pub after_by : ℕ → Reader → Call → Reader
after_by v r c =
    record { state = state_after v r.state c.quality; ring = ring_after v r.state r.ring c.input }

abbrev pub due : Reader → Call → ℕ
due r c = verdict c.bank c.lent r.state (length r.ring) c.input c.delay c.playback-rate

abbrev pub after : Reader → Call → Reader
after r c = after_by (due r c) r c

-- What a run leaves, the calls of it that are accepted, and the mixing steps that these take.
abbrev pub run : Reader → List Call → Reader
run = run_of due after_by

abbrev pub accepted : Reader → List Call → List Call
accepted = accepted_of due after_by

unfoldable pub turns : Reader → List Call → List Turn
turns r [] = []
turns r (c ∷ cs) = keep (due r c) (step_of (fade_part r.state) c.quality).turn (turns (after r c) cs)

-- The qualities that the calls ask for.
abbrev pub asked : List Call → List QualityMode
asked cs = map (λ c. c.quality) cs

-- The same reader and the same call without their qualities, as the plain reader has them.
abbrev pub delayed : Reader → plain.Reader
delayed r = record { state = delay_part r.state; ring = r.ring }

abbrev pub plain_call : Call → plain.Call
plain_call c = plain.bare_call c.input c.delay
