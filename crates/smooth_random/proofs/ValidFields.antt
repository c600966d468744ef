-- G8. A state is valid exactly if each of its fields is in its range. Assumes nothing.
use mathlib.Core.Path.{◌≡◌}
use mathlib.Core.Bool.{not, ◌&&◌}
use Prim.Native.Nat.{ℕ}
use lib.Dec.{T, eqb, eqb→eq, T_not, not_T}
use lib.Count.{count_trailing_zeros}
use lib.Ieee.{Float, odd, neg, lt, le, of_fields, of_bits}
use lib.Ieee.Fits.{and_i, and_l, and_r, eq→eqb}
use lib.Ieee.Scale.{finite}
use Rattle.interval.proofs.Between.{Between, between}
use Rattle.xorshift.specs.Draws.{zero, one}
use Rattle.smooth_random.specs.Ranges.{within, slowest, fastest, position_of, targets_of, pace_of, seeds_of, valid_of}
use Rattle.smooth_random.specs.declared.SmoothRandom.{SmoothRandom}

pub record Held (r : SmoothRandom) : Type 0 where
  pub from_zero : T (le zero r.position)
  pub below_one : T (lt r.position one)
  pub current-in : Between (neg one) one r.current
  pub next-in : Between (neg one) one r.next
  pub pace-in : Between slowest fastest r.segment_rate_scale
  pub state-some : r.state ≡ 0 → ⊥
  pub seed-some : r.initial_seed ≡ 0 → ⊥

pub in-range : (low high x : Float) → T (finite low) → T (finite high) → T (within low high x) → Between low high x
in-range low high x p q h = between p q (and_l (le low x) (le x high) h) (and_r (le low x) (le x high) h)

tested : (low high x : Float) → Between low high x → T (within low high x)
tested low high x b = and_i (le low x) (le x high) b.above.order b.below.order

some : (n : ℕ) → T (not (eqb n 0)) → n ≡ 0 → ⊥
some n h e = T_not (eqb n 0) h (eq→eqb e)

pub held : (r : SmoothRandom) → T (valid_of r) → Held r
unfolding valid_of count_trailing_zeros odd neg of_fields of_bits
held r h =
    let position = and_l (position_of r) (targets_of r && (pace_of r && seeds_of r)) h in
    let rest = and_r (position_of r) (targets_of r && (pace_of r && seeds_of r)) h in
    let targets = and_l (targets_of r) (pace_of r && seeds_of r) rest in
    let last = and_r (targets_of r) (pace_of r && seeds_of r) rest in
    let seeds = and_r (pace_of r) (seeds_of r) last in
    record {
      from_zero = and_l (le zero r.position) (lt r.position one) position;
      below_one = and_r (le zero r.position) (lt r.position one) position;
      current-in =
          in-range (neg one) one r.current tt tt
          (and_l (within (neg one) one r.current) (within (neg one) one r.next) targets);
      next-in =
          in-range (neg one) one r.next tt tt
          (and_r (within (neg one) one r.current) (within (neg one) one r.next) targets);
      pace-in = in-range slowest fastest r.segment_rate_scale tt tt (and_l (pace_of r) (seeds_of r) last);
      state-some = some r.state (and_l (not (eqb r.state 0)) (not (eqb r.initial_seed 0)) seeds);
      seed-some = some r.initial_seed (and_r (not (eqb r.state 0)) (not (eqb r.initial_seed 0)) seeds);
    }

pub valid : (r : SmoothRandom) → Held r → T (valid_of r)
unfolding valid_of
valid r h =
    and_i (position_of r) (targets_of r && (pace_of r && seeds_of r))
    (and_i (le zero r.position) (lt r.position one) h.from_zero h.below_one)
    (and_i (targets_of r) (pace_of r && seeds_of r)
    (and_i (within (neg one) one r.current) (within (neg one) one r.next)
    (tested (neg one) one r.current h.current-in) (tested (neg one) one r.next h.next-in))
    (and_i (pace_of r) (seeds_of r) (tested slowest fastest r.segment_rate_scale h.pace-in)
    (and_i (not (eqb r.state 0)) (not (eqb r.initial_seed 0))
    (not_T (eqb r.state 0) (λ t. h.state-some (eqb→eq r.state 0 t)))
    (not_T (eqb r.initial_seed 0) (λ t. h.seed-some (eqb→eq r.initial_seed 0 t))))))
