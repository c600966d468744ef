-- One inner reading, from whether its sample was accepted; and how large the sums can be. Assumes nothing.
use Rattle.std.proofs.Common.{◌≡◌, ℕ, zero, suc, ◌+◌, ◌*◌, ◌^◌, ◌<◌, ◌≤◌, Bool, true, false, cond, List, length, refl}
use Rattle.std.proofs.Common.{ap, ◌∙◌, add-one, arith, ne_eqb}
use lib.Ieee.{Float}
use Rattle.ring.specs.Length.{zeros}
use Rattle.variable_delay.specs.Reader.{position_of, state_after}
use Rattle.variable_delay.specs.declared.VariableDelay.{VariableDelay}
use Rattle.absent_taps.specs.declared.Absent.{Absent}
use Rattle.absent_taps.specs.Absent.{none, plus, first_tap}
use Rattle.absent_taps.proofs.AtOnce.{same}
use Rattle.absent_taps.proofs.Laws.{all_told}
use Rattle.told_call.specs.Told.{unless_refused, absent_of_call, counted_of}
use Rattle.told_call.proofs.ByCounts.{by-counts}
use Rattle.told_oversampled.specs.Reckoned.{accepted_of, which_of, sums_of, with_reading, reckoned, Room}
use Rattle.told_oversampled.specs.declared.readings.Sums.{Sums}

-- A refused inner sample adds nothing.
plus_none : (s : Absent) → s ≡ plus s none
plus_none s = same (omega arith) (omega arith) (omega arith)

-- Only 4 can be due inside, if b is false.
pub one-reading : (n : ℕ) (d : VariableDelay) (xs : List Float) (x y : Float) (b : Bool) (v : ℕ)
    → v ≡ cond b 0 4 → (s : Absent)
    → with_reading b (length xs) y n (sums_of d.accepted s)
    ≡ sums_of (state_after v d).accepted (plus s (unless_refused v (absent_of_call d.accepted xs x y n)))
one-reading n d xs x y true v e s =
    rw e (ap (λ (a : Absent). sums_of (d.accepted + 1) (plus s a)) (by-counts 0 d xs x y n))
one-reading n d xs x y false v e s = rw e (ap (sums_of d.accepted) (plus_none s))

-- Of n taps at most n are absent in each way.
pub few-counted : (len i : ℕ) (y : Float) (n : ℕ) → n ≤ 128 → let s = counted_of len i (i + 1) y n in
    (s.unwritten ≤ 128) × (s.ahead ≤ 128) × (s.overwritten ≤ 128)
few-counted len i y n h =
    let all = all_told (zeros len) (i + 1) (first_tap (position_of i y) n) n in
    rw (ne_eqb i (i + 1) (λ e. omega arith)) (omega (arith, all), omega (arith, all), omega (arith, all))

-- After k readings.
record Bounded (i k : ℕ) (s : Sums) : Type 0 where
  inner : s.inner ≤ i + k
  unwritten : s.absent.unwritten ≤ 128 * k
  ahead : s.absent.ahead ≤ 128 * k
  overwritten : s.absent.overwritten ≤ 128 * k

module _ (ok : ℕ → Bool) (ys : ℕ → Float) (len n i : ℕ) (few : n ≤ 128) where
  one_more : (b : Bool) (y : Float) (k : ℕ) (s : Sums) → Bounded i k s → Bounded i (suc k) (with_reading b len y n s)
  one_more true y k s h =
      let f = few-counted len s.inner y n few in
      record {
        inner = omega (arith, h.inner);
        unwritten = omega (arith, h.unwritten, f.0);
        ahead = omega (arith, h.ahead, f.1);
        overwritten = omega (arith, h.overwritten, f.2);
      }
  one_more false y k s h =
      record {
        inner = omega (arith, h.inner);
        unwritten = omega (arith, h.unwritten);
        ahead = omega (arith, h.ahead);
        overwritten = omega (arith, h.overwritten);
      }

  bounded : (k : ℕ) → Bounded i k (reckoned ok ys len n i k)
  unfolding reckoned
  bounded zero = record { inner = omega arith; unwritten = omega arith; ahead = omega arith; overwritten = omega arith }
  bounded (suc k) = one_more (ok k) (ys k) k (reckoned ok ys len n i k) (bounded k)

  pub room_for : (k : ℕ) → i ≤ 2 ^ 36 → k < 4 → Room (reckoned ok ys len n i k)
  room_for k h l =
      let b = bounded k in
      record {
        inner = omega (arith, b.inner);
        unwritten = omega (arith, b.unwritten);
        ahead = omega (arith, b.ahead);
        overwritten = omega (arith, b.overwritten);
      }

-- One turn more.
pub summed-more : (ok : ℕ → Bool) (ys : ℕ → Float) (len n i k : ℕ) {s r : Sums} {b : Bool} {y : Float}
    → s ≡ reckoned ok ys len n i k → b ≡ ok k → y ≡ ys k → r ≡ with_reading b len y n s
    → r ≡ reckoned ok ys len n i (k + 1)
unfolding reckoned
summed-more ok ys len n i k e f g h = h ∙ rw (f, g, e, add-one k)

-- A number that grew by as much as it can was raised by an accepted sample, and was as large as it can be before it.
pub advanced : (b : Bool) (d : VariableDelay) (v : ℕ) → v ≡ cond b 0 4 → (top : ℕ) → d.accepted ≤ top
    → (state_after v d).accepted ≡ top + 1 → (b ≡ true) × (d.accepted ≡ top)
advanced true d v e top h w = (refl, let a : d.accepted + 1 ≡ top + 1 = rw e at w in omega arith)
advanced false d v e top h w = let a : d.accepted ≡ top + 1 = rw e at w in absurd (omega arith)

pub every_one : (j : ℕ) → which_of (accepted_of true true true true) j ≡ true
every_one zero = refl
every_one (suc zero) = refl
every_one (suc (suc zero)) = refl
every_one (suc (suc (suc j))) = refl
