-- G2, N3, Q3, W9g. A call leaves a state in its ranges if it was in them before, over whole runs too. So do opening and
-- reset, which leave nothing to fade. Assumes nothing.
use mathlib.Core.Path.{◌≡◌, refl}
use mathlib.Core.Bool.{Bool, true, ◌&&◌}
use mathlib.Core.List.{List, [], ◌∷◌}
use Prim.Native.Nat.{ℕ, zero, suc, ◌+◌, ◌%◌, ◌^◌, ◌<◌}
use native.Mathlib.Omega.{arith}
use borrow.Author.Tests.{le-leb}
use lib.Dec.{eqb, leb}
use lib.ListN.{length, length-set}
use lib.Ieee.{Float}
use lib.Ieee.Bits.{is_true}
use lib.Ieee.Fits.{and_l, and_r}
use Rattle.answer.specs.Refusals.{lowest_of}
use Rattle.answer.proofs.Passed.{passed}
use Rattle.ring.specs.Length.{settings_ok, length_for}
use Rattle.quality_mode.specs.declared.QualityMode.{QualityMode}
use Rattle.quality_fade.specs.Fade.{length_ok}
use Rattle.quality_fade.proofs.StaysInRange.{both}
use Rattle.returning_fade.specs.declared.Rule.{Rule}
use Rattle.returning_fade.specs.Rules.{place_ok, valid_of}
use Rattle.returning_fade.specs.Step.{step_of, left_by}
use Rattle.returning_fade.proofs.StaysInRange as fade
use Rattle.quality_variable_delay.specs.State.{fade_part}
use Rattle.quality_variable_delay.specs.Reader.{state_after, ring_after}
use Rattle.quality_variable_delay.specs.Opening.{reset_verdict, renewed, fresh}
use Rattle.quality_variable_delay.proofs.AcceptedCall.{taken, room}
use Rattle.quality_variable_delay.specs.declared.QualityVariableDelayF32.{QualityVariableDelayF32}
use Rattle.runs.specs.Calls.{run_of}
use Rattle.quality_runs.specs.Runs.{Call, Reader, after_by, due, after, run}

-- The tests for 1 to 3.
module _ (s n e a p : Bool) where
  record Valid : Type 0 where
    settings : s ≡ true
    fits : n ≡ true
    long : e ≡ true
    counts : a ≡ true
    placed : p ≡ true

  valid : lowest_of (s && n) e (a && p) true true true true true ≡ 0 → Valid
  valid h =
      let q = passed (s && n) e (a && p) true true true true true h in
      record {
        settings = is_true s (and_l s n q.p1);
        fits = is_true n (and_r s n q.p1);
        long = is_true e q.p2;
        counts = is_true a (and_l a p q.p3);
        placed = is_true p (and_r a p q.p3);
      }

  sound : Valid → lowest_of (s && n) e (a && p) true true true true true ≡ 0
  sound v = rw (v.settings, v.fits, v.long, v.counts, v.placed)

-- What the five tests of a state and its ring's length show.
abbrev in_range : QualityVariableDelayF32 → ℕ → Type 0
in_range d len =
    Valid (settings_ok d.maximum d.margin) (length_ok d.crossfade_samples)
    (eqb len (length_for d.maximum d.margin)) (leb d.accepted (2 ^ 36)) (place_ok (fade_part d))

in-range : (d : QualityVariableDelayF32) (len : ℕ) → reset_verdict d len ≡ 0 → in_range d len
in-range d len h =
    valid (settings_ok d.maximum d.margin) (length_ok d.crossfade_samples)
    (eqb len (length_for d.maximum d.margin)) (leb d.accepted (2 ^ 36)) (place_ok (fade_part d)) h

not-due : (d : QualityVariableDelayF32) (len : ℕ) → in_range d len → reset_verdict d len ≡ 0
not-due d len v =
    sound (settings_ok d.maximum d.margin) (length_ok d.crossfade_samples)
    (eqb len (length_for d.maximum d.margin)) (leb d.accepted (2 ^ 36)) (place_ok (fade_part d)) v

-- ---- a call

taken-kept : (d : QualityVariableDelayF32) (xs : List Float) (x : Float) (q : QualityMode) → in_range d (length xs)
    → d.accepted < 2 ^ 36
    → in_range (state_after 0 d q) (length (ring_after 0 d xs x))
taken-kept d xs x q v l =
    let s = fade_part d in
    let left = left_by s (step_of s q) in
    let faded : valid_of left ≡ true = fade.step-valid s q (rw v.fits v.placed) in record {
      settings = v.settings;
      fits = rw (fade.step-length s q) v.fits;
      long = rw (length-set xs (d.accepted % length xs) x) v.long;
      counts = le-leb (d.accepted + 1) (2 ^ 36) (omega arith);
      placed = (both (length_ok left.fade.crossfade_samples) (place_ok left) faded).1;
    }

-- If there was no refusal 1 to 3 before a call, there is none for the state and the ring that it leaves.
pub kept : (r : Reader) (c : Call) → reset_verdict r.state (length r.ring) ≡ 0
    → reset_verdict (after r c).state (length (after r c).ring) ≡ 0
kept r c h = go (due r c) refl
  where
    go : (v : ℕ) → due r c ≡ v → reset_verdict (after_by v r c).state (length (after_by v r c).ring) ≡ 0
    go zero e =
        let t = taken c.bank c.lent r.state (length r.ring) c.input c.delay c.playback-rate e in
        not-due (after_by 0 r c).state (length (after_by 0 r c).ring)
        (taken-kept r.state r.ring c.input c.quality (in-range r.state (length r.ring) h)
        (room t))
    go (suc k) e = h

pub run-kept : (r : Reader) (cs : List Call) → reset_verdict r.state (length r.ring) ≡ 0
    → reset_verdict (run r cs).state (length (run r cs).ring) ≡ 0
unfolding run_of
run-kept r [] h = h
run-kept r (c ∷ cs) h = run-kept (after r c) cs (kept r c h)

-- ---- opening and reset

-- Q3. What a reset leaves is in range.
pub reset-kept : (d : QualityVariableDelayF32) (len : ℕ) → reset_verdict d len ≡ 0 → reset_verdict (renewed d) len ≡ 0
reset-kept d len h =
    let v = in-range d len h in
    not-due (renewed d) len record {
      settings = v.settings;
      fits = v.fits;
      long = v.long;
      counts = refl;
      placed =
          fade.rest-placed d.rule d.target_quality d.crossfade_samples d.crossfade_samples
          (omega arith);
    }

-- Resetting what a reset has left changes nothing.
pub reset-again : (d : QualityVariableDelayF32) → renewed (renewed d) ≡ renewed d
reset-again d = refl

-- Q3. Opening leaves its one quality, and only 1 and 2 are possible.
pub opens : (rule : Rule) (maximum margin crossfade : ℕ) (q : QualityMode)
    → renewed (fresh rule maximum margin q crossfade) ≡ fresh rule maximum margin q crossfade
opens rule maximum margin crossfade q = refl

pub open-due : (rule : Rule) (maximum margin crossfade len : ℕ) (q : QualityMode)
    → reset_verdict (fresh rule maximum margin q crossfade) len
    ≡ lowest_of (settings_ok maximum margin && length_ok crossfade)
    (eqb len (length_for maximum margin)) true true true true true true
open-due rule maximum margin crossfade len q = rw (fade.rest-placed rule q crossfade crossfade (omega arith))
