-- W3. A sample that is stored at a place that a reading does not reach leaves the reading as it was: each of the
-- reading's taps is read at another place, or is still ahead by the reading's count. Assumes nothing.
use mathlib.Core.Path.{◌≡◌, refl, sym, ◌∙◌, ap}
use mathlib.Core.Bool.{Bool, true, false, ◌&&◌, cond}
use mathlib.Core.List.{List}
use mathlib.Core.Logic.{◌≢◌, ⊎_elim}
use Prim.Native.Nat.{ℕ, ◌+◌, ◌/◌, ◌%◌, ◌<◌, ◌≤◌}
use native.Mathlib.Nat.{div-add-mod', mul-le-mul_right, lt_of_not-le, eq-or-lt_of_le}
use native.Mathlib.Omega.{arith}
use borrow.Author.Tests.{eqb-true, le-ltb}
use lib.Dec.{eqb}
use lib.IntN.{ℤ, pos, ◌+ℤ◌}
use lib.ListN.{length, set, length-set}
use lib.Seq.{get_or-set_other}
use lib.Ieee.{Float, nan}
use Rattle.answer.specs.Answers.{zero-f}
use Rattle.loop_laws.proofs.Folds.{same}
use Rattle.ring.specs.Taps.{tap_of}
use Rattle.ring.specs.Places.{position_ok}
use Rattle.ring.specs.Quick.{start_of}
use Rattle.ring.proofs.HeldRuns.{run_of}
use Rattle.sinc_settings.specs.Refusals.{table_verdict}
use Rattle.sinc_phases.specs.Phases.{first_tap}
use Rattle.sinc_read.proofs.AcceptedReading.{Readable, readable, same_test}
use Rattle.sinc_read.proofs.BothWays.{first-is}
use Rattle.sinc_read_f32.specs.Reading.{sinc_f32_at, read_of}
use Rattle.sinc_neighbours.specs.Apart.{apart_of}

-- Two numbers less than a length apart stand at different places.
other_place : (j n len : ℕ) → j < n → n < j + len → j % len ≢ n % len
other_place j n len h l e =
    let a = div-add-mod' j len in
    let b = div-add-mod' n len in
    let q : j / len < n / len = lt_of_not-le (λ q. omega (arith, mul-le-mul_right len q)) in
    omega (arith, mul-le-mul_right len q)

module _ (xs : List Float) (count : ℕ) (x : Float) where
  abbrev ys : List Float
  ys = set xs (count % length xs) x

  tap : (i : ℕ) → i ≤ count → count + 1 ≤ i + length xs → tap_of ys count (pos i) ≡ tap_of xs count (pos i)
  tap i h l =
      ⊎_elim
      (λ (e : i ≡ count). rw (le-ltb i count (omega (arith, e))))
      (λ (q : i < count).
      rw (
        length-set xs (count % length xs) x,
        get_or-set_other xs (count % length xs) (i % length xs) x nan (other_place i count (length xs) q (omega arith)),
      ))
      (eq-or-lt_of_le {n = i} {m = count} h)

  each : (taps : ℕ) (z : ℤ) → (start_of (length xs) (count + 1) z taps).held ≡ true → (k : ℕ) → k < taps
      → tap_of ys count (z +ℤ pos k) ≡ tap_of xs count (z +ℤ pos k)
  each taps z h k l =
      let r = run_of (length xs) (count + 1) taps z h in
      rw r.from (tap (r.first + k) (omega (arith, r.written)) (omega (arith, r.not-gone)))

  module _ (table : List Float) (taps phases : ℕ) (p : Float) where
    sums : Readable taps phases (length table) p → apart_of (length xs) (count + 1) p taps ≡ true
        → sinc_f32_at table taps phases ys count p ≡ sinc_f32_at table taps phases xs count p
    unfolding sinc_f32_at
    sums ok h =
        let f = first-is ok refl in
        same _ _ zero-f taps
        (λ k l v. rw (each taps (first_tap p taps)
        (ap (λ (z : ℤ). (start_of (length xs) (count + 1) z taps).held) (sym f) ∙ h) k l))

    pub unreached : apart_of (length xs) (count + 1) p taps ≡ true
        → read_of table taps phases ys count p ≡ read_of table taps phases xs count p
    unreached h = by (eqb (table_verdict taps phases (length table)) 0 && position_ok p) refl
      where
        by : (b : Bool) → eqb (table_verdict taps phases (length table)) 0 && position_ok p ≡ b
            → cond b (sinc_f32_at table taps phases ys count p) zero-f
            ≡ cond b (sinc_f32_at table taps phases xs count p) zero-f
        by true e =
            sums
            (readable taps phases (length table) p
            (eqb-true _ _ (sym (same_test taps phases (length table) p) ∙ e))) h
        by false e = refl
