-- M2, M3, M5. 001's SmoothRandom: a new state from a seed, a new seed, the start again, and one step of the drift.
-- Definitions only.
use Rattle.std.specs.Prelude.{ℕ, zero, suc, cond, eqb, Float}
use Rattle.std.specs.Float.{binary64}
use Rattle.std.specs.Float.Ieee.{of_bits, add, sub, mul, div, le}
use Rattle.min_max.specs.Choice.{clamped}
use Rattle.xorshift.specs.Xorshift.{step_of}
use Rattle.xorshift.specs.Seeds.{seed_of}
use Rattle.xorshift.specs.Draws as draws
use Rattle.xorshift.specs.Draws.{one, bipolar_of, scale_of}
use Rattle.smooth_random.specs.Ranges.{valid_of, verdict}
use Rattle.smooth_random.specs.declared.SmoothRandom.{SmoothRandom}
use Rattle.smooth_random.specs.declared.Renewed.{Renewed}
use Rattle.smooth_random.specs.declared.Next.{Next}

-- Three draws from the initial seed: the two targets, then the scale of the segment between them.
unfoldable pub started : ℕ → SmoothRandom
started seed =
    let first = step_of seed in
    let second = step_of first in
    let third = step_of second in
    record {
      initial_seed = seed;
      state = third;
      current = bipolar_of first;
      next = bipolar_of second;
      position = draws.zero;
      segment_rate_scale = scale_of third;
    }

abbrev pub reset_of : SmoothRandom → SmoothRandom
reset_of r = started r.initial_seed

abbrev pub new_of : ℕ → SmoothRandom
new_of seed = started (seed_of seed)

-- M2. Setting the seed that is already held does nothing, even in the middle of a sequence. The seeds are compared
-- after a 0 has been replaced.
abbrev pub set_seed_of : SmoothRandom → ℕ → SmoothRandom
set_seed_of r seed = cond (eqb (seed_of seed) r.initial_seed) r (new_of seed)

-- N3. A state out of range is refused by 3 and handed back as it was; otherwise the new one is handed back.
abbrev pub renewed : SmoothRandom → SmoothRandom → Renewed
renewed r after = cond (valid_of r) (record { random = after; refusal = 0 }) (record { random = r; refusal = 3 })

-- 001's quintic: 0 at 0, 1 at 1, and with slope zero at both ends, so that the segments join smoothly.
unfoldable pub quintic_of : Float → Float
quintic_of t =
    let six = of_bits binary64 0x4018_0000_0000_0000 in
    let fifteen = of_bits binary64 0x402e_0000_0000_0000 in
    let ten = of_bits binary64 0x4024_0000_0000_0000 in
    mul binary64 (mul binary64 (mul binary64 t t) t)
    (add binary64 (mul binary64 t (sub binary64 (mul binary64 t six) fifteen)) ten)

-- The value at the position, on the quintic from one target to the next.
unfoldable pub value_at : SmoothRandom → Float
unfolding quintic_of
value_at r =
    add binary64 r.current
    (mul binary64 (quintic_of (clamped r.position draws.zero one)) (sub binary64 r.next r.current))

-- The position moved on by one sample.
unfoldable pub advanced : SmoothRandom → Float → Float → SmoothRandom
advanced r rate-hz sample-rate = record {
  initial_seed = r.initial_seed;
  state = r.state;
  current = r.current;
  next = r.next;
  position = add binary64 r.position (div binary64 (mul binary64 rate-hz r.segment_rate_scale) sample-rate);
  segment_rate_scale = r.segment_rate_scale;
}

-- One round of 001's loop: the next target becomes the current one, and a new target and scale are drawn.
unfoldable pub turned : SmoothRandom → SmoothRandom
turned r =
    let first = step_of r.state in
    let second = step_of first in
    record {
      initial_seed = r.initial_seed;
      state = second;
      current = r.next;
      next = bipolar_of first;
      position = sub binary64 r.position one;
      segment_rate_scale = scale_of second;
    }

-- 001's `while self.position >= 1.0`, at most n rounds of it. In range the position is below 1 after one round (the law
-- `settles`), so the loop has ended, and any larger n gives the same (`more-turns`).
unfoldable pub settled : ℕ → SmoothRandom → SmoothRandom
unfolding turned
settled zero r = r
settled (suc n) r = cond (le one r.position) (settled n (turned r)) r

abbrev pub answer : ℕ → SmoothRandom → Float → Float → Next
answer zero r rate-hz sample-rate =
    record { random = settled 1 (advanced r rate-hz sample-rate); value = value_at r; refusal = 0 }
answer (suc k) r rate-hz sample-rate = record { random = r; value = draws.zero; refusal = suc k }

-- One step: the value before it, and the state after it. A refusal leaves the state as it was.
abbrev pub next_of : SmoothRandom → Float → Float → Next
next_of r rate-hz sample-rate = answer (verdict r rate-hz sample-rate) r rate-hz sample-rate
