-- D3. Demand 3 for a delay reader and runs of its calls: its premises and its promise. Definitions only.
use Rattle.std.specs.Prelude.{ℕ, ◌^◌, ◌≤◌, ◌<◌, ◌≡◌, List, ℤ, length, Float}
use Rattle.answer.specs.declared.Answer.{Answer}
use Rattle.answer.specs.declared.Answer.TheVariants.{Sample}
use Rattle.rounding_error.specs.Fraction.{Frac}
use Rattle.rounding_error.specs.Value.{Rounds}
use Rattle.ring.specs.Length.{need, length_for}
use Rattle.variable_delay.specs.Reader.{Reading, processed}
use Rattle.runs.specs.Runs.{Call, Reader, opened, run, accepted, samples}
use Rattle.cubic_bound.specs.Desk.{WholeSample, WholeSamples, WholeDelay, exact_at}

-- A reader opened, or reset, on a ring of the length that its settings need.
abbrev pub start : ℕ → ℕ → Reader
start maximum margin = opened maximum margin (length_for maximum margin)

-- The premises: the settings are in range; the samples accepted before are the whole numbers ss, fewer than 2^36; the
-- input is s and the delay is d.
pub record Desk (maximum margin : ℕ) (before : List Call) (c : Call) (ss : List ℤ) (s : ℤ) (d : ℕ) : Type 0 where
  pub settings : need maximum margin ≤ 2 ^ 24
  pub earlier : WholeSamples (samples (accepted (start maximum margin) before)) ss
  pub fewer : length ss < 2 ^ 36
  pub input : WholeSample c.input s
  pub delay : WholeDelay c.delay d

-- The promise: the answer is a sample, a finite number within 2^-50 of q.
pub record Close (a : Answer) (q : Frac) : Type 0 where
  pub value : Float
  pub given : a ≡ Sample value
  pub near : Rounds (2 ^ 50) 1 value q

-- Demand 3 for the answer a to a call. It holds for a reader that any run of calls, from opening or the last reset on,
-- has led to.
pub record Demand3 (r : Reader) (c : Call) (a : Answer) : Type 0 where
  pub close : (maximum margin : ℕ) (before : List Call) (ss : List ℤ) (s : ℤ) (d : ℕ)
      → Desk maximum margin before c ss s d
      → r ≡ run (start maximum margin) before
      → Close a (exact_at (length_for maximum margin) ss s d)

-- Every answer of a reader over this reading meets Demand 3.
abbrev pub Meets : Reading → Type 0
Meets read = (r : Reader) (c : Call) → Demand3 r c (processed read r.state r.ring c.input c.delay).answer
