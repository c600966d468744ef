-- G8, M5. In range a step of the drift takes the position to at most 1 + 1000 * 1.35 / 8000, so that one round of 001's
-- loop brings it below 1. The loop ends after it, more rounds would change nothing, and the state stays valid. Assumes
-- nothing.
use mathlib.Core.Path.{◌≡◌, refl}
use mathlib.Core.Bool.{Bool, true, false, not, cond}
use Prim.Native.Nat.{ℕ, zero, suc, ◌^◌, ◌<◌}
use lib.Dec.{T}
use lib.Count.{count_trailing_zeros}
use lib.Ieee.{Float, binary64, size, span, climb, odd, units, round, neg, sum, add, sub, mul, div, lt, eq, le}
use lib.Ieee.{of_fields}
use lib.Ieee.{of_bits}
use lib.Ieee.Fits.{and_l, and_r}
use lib.Ieee.Bits.{is_false}
use Rattle.magnitude.proofs.Comparisons.{lt→le}
use Rattle.interval.proofs.Signed.{nle→lt, lt→nle, le-lt}
use Rattle.interval.proofs.Between.{Between, between, point, sum-between, difference-between}
use Rattle.interval.proofs.Products.{product-between, quotient-between}
use Rattle.xorshift.specs.Xorshift.{step_of}
use Rattle.xorshift.specs.Draws as draws
use Rattle.xorshift.specs.Draws.{one}
use Rattle.smooth_random.specs.Ranges.{within, fastest, most_targets, least_samples, most_samples, arguments_of}
use Rattle.smooth_random.specs.Ranges.{valid_of, verdict}
use Rattle.smooth_random.specs.Drift.{advanced, turned, settled, answer, next_of}
use Rattle.smooth_random.specs.declared.SmoothRandom.{SmoothRandom}
use Rattle.xorshift.proofs.Generator.{step-word, step-zero}
use Rattle.smooth_random.proofs.TargetBounds.{bipolar-between, scale-between}
use Rattle.smooth_random.proofs.ValidFields.{Held, held, valid, in-range}

-- The largest position, 1 + 1000 * 1.35 / 8000.
abbrev reach : Float
reach = add binary64 one (div binary64 (mul binary64 most_targets fastest) least_samples)

-- ---- a loop that has ended
pub position_in : (r : SmoothRandom) → Held r → Between draws.zero one r.position
unfolding count_trailing_zeros odd of_fields of_bits
position_in r h = between tt tt h.from_zero (lt→le r.position one h.below_one)

ended : (r : SmoothRandom) → Held r → le one r.position ≡ false
ended r h =
    let b = (position_in r h).below in
    is_false (le one r.position) (lt→nle r.position one b.first b.second h.below_one)

stays : (n : ℕ) (r : SmoothRandom) → Held r → settled n r ≡ r
unfolding settled
stays zero r h = refl
stays (suc n) r h = rw (ended r h)

-- ---- which state a step leaves
settled-has : (P : SmoothRandom → Type 0) (r : SmoothRandom) → (T (le one r.position) → P (turned r))
    → (T (not (le one r.position)) → P r) → P (settled 1 r)
unfolding settled
settled-has P r = go (le one r.position)
  where
    go : (b : Bool) → (T b → P (turned r)) → (T (not b) → P r) → P (cond b (turned r) r)
    go true j k = j tt
    go false j k = k tt

next-has : (P : SmoothRandom → Type 0) (r : SmoothRandom) (rate-hz sample-rate : Float) → P r
    → (T (arguments_of rate-hz sample-rate) → P (settled 1 (advanced r rate-hz sample-rate)))
    → P (next_of r rate-hz sample-rate).random
unfolding verdict
next-has P r rate-hz sample-rate p = go (arguments_of rate-hz sample-rate) (valid_of r)
  where
    go : (a b : Bool) → (T a → P (settled 1 (advanced r rate-hz sample-rate)))
        → P (answer (cond a (cond b 0 3) 1) r rate-hz sample-rate).random
    go true true j = j tt
    go true false j = p
    go false b j = p

module _ (r : SmoothRandom) (rate-hz sample-rate : Float) (ok : T (arguments_of rate-hz sample-rate))
    (w : r.state < 2 ^ 64) (h : Held r) where
  abbrev on : SmoothRandom
  on = advanced r rate-hz sample-rate

  moved : Between draws.zero reach on.position
  unfolding advanced count_trailing_zeros size span climb odd units round sum add mul div lt eq le of_fields of_bits
  moved =
      let targets =
      in-range draws.zero most_targets rate-hz tt tt
      (and_l (within draws.zero most_targets rate-hz) (within least_samples most_samples sample-rate) ok) in
      let samples =
      in-range least_samples most_samples sample-rate tt tt
      (and_r (within draws.zero most_targets rate-hz) (within least_samples most_samples sample-rate) ok) in
      sum-between binary64 (position_in r h) (quotient-between binary64 tt
      (product-between binary64 tt targets h.pace-in refl refl tt tt) samples tt refl refl tt tt) refl refl tt tt

  once : T (le one on.position) → Held (turned on)
  unfolding advanced turned count_trailing_zeros size span climb odd units round neg sum add sub mul div lt eq le
      of_fields
      of_bits
  once t =
      let past : Between one reach on.position = between tt tt t moved.below.order in
      let back : Between draws.zero (sub binary64 reach one) (sub binary64 on.position one) =
      difference-between binary64 past (point one tt) refl refl tt tt in
      record {
        from_zero = back.above.order;
        below_one =
            le-lt (sub binary64 on.position one) (sub binary64 reach one) one back.below.first
            back.below.second tt back.below.order tt;
        current-in = h.next-in;
        next-in = bipolar-between (step_of r.state);
        pace-in = scale-between (step_of (step_of r.state));
        state-some =
            λ e. h.state-some (step-zero r.state w (step-zero (step_of r.state) (step-word r.state) e));
        seed-some = h.seed-some;
      }

  none : T (not (le one on.position)) → Held on
  unfolding advanced count_trailing_zeros odd of_fields of_bits
  none t = record {
    from_zero = moved.above.order;
    below_one = nle→lt on.position one moved.below.first tt t;
    current-in = h.current-in;
    next-in = h.next-in;
    pace-in = h.pace-in;
    state-some = h.state-some;
    seed-some = h.seed-some;
  }

  pub settles : Held (settled 1 on)
  settles = settled-has Held on once none

  pub more-turns : (n : ℕ) → settled (suc n) on ≡ settled 1 on
  unfolding settled
  more-turns n = go (le one on.position) once
    where
      go : (b : Bool) → (T b → Held (turned on)) → cond b (settled n (turned on)) on ≡ cond b (turned on) on
      go true j = stays n (turned on) (j tt)
      go false j = refl

pub next-valid : (r : SmoothRandom) (rate-hz sample-rate : Float) → r.state < 2 ^ 64 → T (valid_of r)
    → T (valid_of (next_of r rate-hz sample-rate).random)
next-valid r rate-hz sample-rate w v =
    next-has (λ q. T (valid_of q)) r rate-hz sample-rate v
    (λ ok. valid _ (settles r rate-hz sample-rate ok w (held r v)))

-- The generator stays a word, and the seed is kept.
pub next-kept : (r : SmoothRandom) (rate-hz sample-rate : Float) → r.state < 2 ^ 64
    → ((next_of r rate-hz sample-rate).random.state < 2 ^ 64)
    × ((next_of r rate-hz sample-rate).random.initial_seed ≡ r.initial_seed)
unfolding advanced turned
next-kept r rate-hz sample-rate w =
    let Kept : SmoothRandom → Type 0 = λ q. (q.state < 2 ^ 64) × (q.initial_seed ≡ r.initial_seed) in
    next-has Kept r rate-hz sample-rate (w, refl)
    (λ ok. settled-has Kept (advanced r rate-hz sample-rate) (λ t. (step-word (step_of r.state), refl))
    (λ t. (w, refl)))
