-- G8, M1, M2. A generator is valid, whatever seed it starts from, and stays valid through a draw and a new seed.
-- Setting the seed that is already held does nothing, and neither does resetting a new state. Assumes nothing.
use mathlib.Core.Path.{◌≡◌, refl, sym}
use mathlib.Core.Bool.{Bool, true, false, cond}
use Prim.Native.Nat.{ℕ, ◌^◌, ◌<◌}
use native.Mathlib.Omega.{arith}
use lib.Dec.{T, eqb, lit<}
use lib.Count.{count_trailing_zeros}
use lib.Ieee.{odd, lt, eq, le, of_fields, of_bits}
use borrow.Author.Tests.{eq-eqb, ne_eqb, eqb-false}
use Rattle.wrapping_u64.specs.Xor.{xor_to}
use Rattle.xorshift.specs.Xorshift.{step_of}
use Rattle.xorshift.specs.Seeds.{seed_of, flutter_seed_of}
use Rattle.smooth_random.specs.Drawing.{at}
use Rattle.smooth_random.specs.Ranges.{valid_of}
use Rattle.smooth_random.specs.Drift.{started, new_of, reset_of, set_seed_of}
use Rattle.smooth_random.specs.declared.SmoothRandom.{SmoothRandom}
use Rattle.xorshift.proofs.Generator.{step-word, step-zero}
use Rattle.smooth_random.proofs.TargetBounds.{bipolar-between, scale-between}
use Rattle.smooth_random.proofs.ValidFields.{held, valid}

pub seed-some : (s : ℕ) → seed_of s ≡ 0 → ⊥
seed-some s = go (eqb s 0) refl
  where
    go : (b : Bool) → eqb s 0 ≡ b → cond b 0xA076_1D64_78BD_642F s ≡ 0 → ⊥
    go true e h = omega arith
    go false e h = eqb-false s 0 e h

pub seed-word : (s : ℕ) → s < 2 ^ 64 → seed_of s < 2 ^ 64
seed-word s h = go (eqb s 0)
  where
    go : (b : Bool) → cond b 0xA076_1D64_78BD_642F s < 2 ^ 64
    go true = lit< tt
    go false = h

-- ---- validity
pub started-valid : (seed : ℕ) → seed < 2 ^ 64 → (seed ≡ 0 → ⊥) → T (valid_of (started seed))
unfolding started count_trailing_zeros odd lt eq le of_fields of_bits
started-valid seed w some =
    let first = step_of seed in
    let second = step_of first in
    valid (started seed) (record {
      from_zero = tt;
      below_one = tt;
      current-in = bipolar-between first;
      next-in = bipolar-between second;
      pace-in = scale-between (step_of second);
      state-some =
          λ e. some (step-zero seed w (step-zero first (step-word seed) (step-zero second (step-word first) e)));
      seed-some = some;
    })

pub new-valid : (seed : ℕ) → seed < 2 ^ 64 → T (valid_of (new_of seed))
new-valid seed w = started-valid (seed_of seed) (seed-word seed w) (seed-some seed)

pub reset-valid : (r : SmoothRandom) → r.initial_seed < 2 ^ 64 → T (valid_of r) → T (valid_of (reset_of r))
reset-valid r w h = started-valid r.initial_seed w (held r h).seed-some

pub set-seed-valid : (r : SmoothRandom) (seed : ℕ) → seed < 2 ^ 64 → T (valid_of r) → T (valid_of (set_seed_of r seed))
set-seed-valid r seed w h = go (eqb (seed_of seed) r.initial_seed)
  where
    go : (b : Bool) → T (valid_of (cond b r (new_of seed)))
    go true = h
    go false = new-valid seed w

pub drawn-valid : (r : SmoothRandom) → r.state < 2 ^ 64 → T (valid_of r) → T (valid_of (at r (step_of r.state)))
drawn-valid r w h =
    let k = held r h in
    valid (at r (step_of r.state)) (record {
      from_zero = k.from_zero;
      below_one = k.below_one;
      current-in = k.current-in;
      next-in = k.next-in;
      pace-in = k.pace-in;
      state-some = λ e. k.state-some (step-zero r.state w e);
      seed-some = k.seed-some;
    })

-- ---- calls that change nothing
pub set-held : (r : SmoothRandom) (seed : ℕ) → seed_of seed ≡ r.initial_seed → set_seed_of r seed ≡ r
set-held r seed e = rw (eq-eqb (seed_of seed) r.initial_seed e)

-- If A0761D6478BD642F is held, setting 0 changes nothing here, although the flutter seeds of the two differ.
pub set-zero : (r : SmoothRandom) → r.initial_seed ≡ 0xA076_1D64_78BD_642F → set_seed_of r 0 ≡ r
set-zero r e = set-held r 0 (sym e)

pub flutter-differs : eqb (flutter_seed_of 0) (flutter_seed_of 0xA076_1D64_78BD_642F) ≡ false
unfolding xor_to
flutter-differs = refl

pub reset-new : (seed : ℕ) → reset_of (new_of seed) ≡ new_of seed
unfolding started
reset-new seed = refl

pub seed-twice : (s : ℕ) → seed_of (seed_of s) ≡ seed_of s
seed-twice s = rw (ne_eqb (seed_of s) 0 (seed-some s))
