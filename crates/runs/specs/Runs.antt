-- K8. A run of a reader's calls: each call finds state and ring as the last one left them, whatever the kernel reads.
-- Each call brings its own settings and its own table, so that a refused call with bad taps may stand between accepted
-- ones. Definitions only.
use Rattle.std.specs.Prelude.{ℕ, Bool, true, ◌&&◌, List, map, length, Float}
use Rattle.ring.specs.Length.{zeros}
use Rattle.variable_delay.specs.Reader.{verdict, state_after, ring_after}
use Rattle.variable_delay.specs.Opening.{fresh}
use Rattle.variable_delay.specs.declared.VariableDelay.{VariableDelay}
use Rattle.runs.specs.Calls.{run_of, accepted_of}

-- `own` says that the settings which the call hands to its kernel are in range, `lent` that the table which it lends
-- has its length, as in `verdict`.
pub record Call : Type 0 where
  pub own : Bool
  pub lent : Bool
  pub input : Float
  pub delay : Float

-- A call of a kernel that has no settings of its own and needs no table.
abbrev pub bare_call : Float → Float → Call
bare_call input delay = record { own = true; lent = true; input = input; delay = delay }

-- The call's settings are in range, and its table has its length.
abbrev pub fit : Call → Bool
fit c = c.own && c.lent

-- A reader between two calls.
pub record Reader : Type 0 where
  pub state : VariableDelay
  pub ring : List Float

-- A reader as opening and reset leave it.
abbrev pub opened : ℕ → ℕ → ℕ → Reader
opened maximum margin len = record { state = fresh maximum margin; ring = zeros len }

-- What a call leaves, for each number by which it may be refused, 0 for none.
abbrev pub after_by : ℕ → Reader → Call → Reader
after_by v r c = record { state = state_after v r.state; ring = ring_after v r.state r.ring c.input }

abbrev pub due : Reader → Call → ℕ
due r c = verdict c.own c.lent r.state (length r.ring) c.input c.delay

abbrev pub after : Reader → Call → Reader
after r c = after_by (due r c) r c

-- What a run of calls leaves, and which of its calls are accepted.
abbrev pub run : Reader → List Call → Reader
run = run_of due after_by

abbrev pub accepted : Reader → List Call → List Call
accepted = accepted_of due after_by

abbrev pub samples : List Call → List Float
samples cs = map (λ c. c.input) cs

abbrev pub with_count : VariableDelay → ℕ → VariableDelay
with_count d n = record { maximum = d.maximum; margin = d.margin; accepted = n }
