-- M3. A draw hands back the generator one step on, and the number that 001 makes of it. Definitions only.
use Rattle.std.specs.Prelude.{ℕ, cond}
use Rattle.xorshift.specs.Xorshift.{step_of}
use Rattle.xorshift.specs.Draws.{zero, bipolar_of, scale_of}
use Rattle.smooth_random.specs.Ranges.{valid_of}
use Rattle.smooth_random.specs.declared.SmoothRandom.{SmoothRandom}
use Rattle.smooth_random.specs.declared.Drawn.{Drawn}

-- The same state with the generator at x.
abbrev pub at : SmoothRandom → ℕ → SmoothRandom
at r x = record {
  initial_seed = r.initial_seed;
  state = x;
  current = r.current;
  next = r.next;
  position = r.position;
  segment_rate_scale = r.segment_rate_scale;
}

abbrev pub bipolar_drawn : SmoothRandom → Drawn
bipolar_drawn r = let x = step_of r.state in record { random = at r x; value = bipolar_of x; refusal = 0 }

abbrev pub scale_drawn : SmoothRandom → Drawn
scale_drawn r = let x = step_of r.state in record { random = at r x; value = scale_of x; refusal = 0 }

-- N3. A state out of range is refused by 3 and handed back as it was.
abbrev pub drawn : SmoothRandom → Drawn → Drawn
drawn r d = cond (valid_of r) d (record { random = r; value = zero; refusal = 3 })
