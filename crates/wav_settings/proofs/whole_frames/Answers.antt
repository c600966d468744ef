-- `wav_settings::whole_frames` meets its contract: for two channels the count must be even, and for one channel any
-- count is a multiple of 1. Assumes nothing.
use mathlib.Core.Path.{◌≡◌, refl}
use mathlib.Core.Bool.{Bool, true, false, cond, ◌||◌}
use Prim.Native.Nat.{ℕ, ◌%◌}
use native.Mathlib.Nat.{mod-one}
use borrow.Author.Tests.{ne_eqb, eqb-true}
use lib.Dec.{eqb}
use Rattle.wav_settings.specs.Settings.{whole_frames}
use Rattle.wav_settings.proofs.whole_frames.Goals as goal

two : (channels count : ℕ) → channels ≡ 2 → eqb (count % 2) 0 ≡ whole_frames channels count
two channels count e = rw e

other : (channels count : ℕ) → (channels ≡ 2 → ⊥) → true ≡ whole_frames channels count
other channels count h = rw (ne_eqb channels 2 h) (by (eqb channels 1) refl)
  where
    by : (t : Bool) → eqb channels 1 ≡ t → true ≡ cond (t || false) (eqb (count % channels) 0) true
    by true e = rw (eqb-true channels 1 e, mod-one)
    by false e = refl

pub returns-then-channels-eq2 : goal.returns-then-channels-eq2
returns-then-channels-eq2 c = two c.args.channels c.args.count c.if-channels-eq2.true

pub returns-else-channels-eq2 : goal.returns-else-channels-eq2
returns-else-channels-eq2 c = other c.args.channels c.args.count c.if-channels-eq2.false
