-- W11i. A run of an oversampled reader's calls: each call finds state, histories and ring as the last one left them,
-- and brings its kernel, its table and its coefficients. Definitions only.
use Rattle.std.specs.Prelude.{ℕ, List, Float}
use Rattle.kernels.specs.declared.Kernel.{Kernel}
use Rattle.runs.specs.Calls.{run_of, accepted_of}
use Rattle.oversampled_delay.specs.Reader.{Lent, lent_of, lengths_of, due_of, Left, left_by}
use Rattle.oversampled_delay.specs.declared.OversampledVariableDelay.{OversampledVariableDelay}

pub record Call : Type 0 where
  pub kernel : Kernel
  pub table : List Float
  pub coefficients : List Float
  pub input : Float
  pub delay : Float

-- A reader between two calls.
pub record Reader : Type 0 where
  pub state : OversampledVariableDelay
  pub up : List Float
  pub down : List Float
  pub ring : List Float

abbrev pub lent_to : Reader → Call → Lent
lent_to r c = lent_of c.table c.coefficients r.up r.down r.ring

abbrev pub due : Reader → Call → ℕ
due r c = due_of c.kernel r.state (lengths_of (lent_to r c)) c.input c.delay

abbrev pub reader_of : Left → Reader
reader_of l = record { state = l.state; up = l.up; down = l.down; ring = l.ring }

-- What a call leaves, for each number by which it may be refused, 0 for none.
abbrev pub after_by : ℕ → Reader → Call → Reader
after_by v r c = reader_of (left_by v c.kernel r.state (lent_to r c) c.input c.delay)

-- What a run of calls leaves, and which of its calls are accepted.
abbrev pub run : Reader → List Call → Reader
run = run_of due after_by

abbrev pub accepted : Reader → List Call → List Call
accepted = accepted_of due after_by
