-- Finite sums over all coefficients are the outputs of two or of four phases. Assumes nothing.
use mathlib.Core.Path.{◌≡◌, ap, ◌∙◌}
use mathlib.Core.Bool.{true}
use mathlib.Core.List.{List}
use Prim.Native.Nat.{ℕ, ◌+◌, ◌%◌, ◌≤◌}
use native.Mathlib.Omega.{arith}
use lib.ListN.{length}
use lib.Ieee.{Float}
use lib.Ieee.Scale.{finite}
use Rattle.fir_filter.specs.declared.Two.{Two}
use Rattle.fir_filter.specs.declared.Four.{Four}
use Rattle.fir_filter.specs.Filters.{output_of}
use Rattle.fir_filter.specs.Runs.{plain_to, lags_sum, Lags}
use Rattle.fir_filter.specs.Pairs.{two_of, four_of, last_of}
use Rattle.fir_filter.proofs.OverLags.{step_of, plain-sum}
use Rattle.fir_filter.proofs.PairSums.{with-last}

-- A phase that is not the last: its sum s, and x with its last lag.
with-last-output : (cs history : List Float) (pushes factor phase more at by n : ℕ) → at ≡ pushes % length history
    → by ≡ step_of factor (length cs) → more ≤ by → Lags (length cs) (length history) by (phase + more) n
    → (s x : Float) → s ≡ lags_sum plain_to cs history at by phase n → x ≡ last_of cs history at by phase n s
    → finite x ≡ true → x ≡ output_of cs history pushes factor phase
with-last-output cs history pushes factor phase more at by n h b P r s x e q f =
    let w = with-last cs history at by phase more n P r in
    plain-sum cs history pushes factor phase at by w.0 h b w.1 x
    (q ∙ ap (last_of cs history at by phase n) e ∙ w.2) f

module _ (cs history : List Float) (pushes factor phase at by n : ℕ) (h : at ≡ pushes % length history)
    (b : by ≡ step_of factor (length cs)) (P : 1 ≤ by) (r : Lags (length cs) (length history) by (phase + 1) n)
    (both : Two)
    (e : both
    ≡ two_of (lags_sum plain_to cs history at by phase n) (lags_sum plain_to cs history at by (phase + 1) n)) where
  second-output : finite both.second ≡ true → both.second ≡ output_of cs history pushes factor (phase + 1)
  second-output f =
      plain-sum cs history pushes factor (phase + 1) at by n h b r both.second (ap (λ (z : Two). z.second) e) f

  pub two-outputs : (x : Float) → x ≡ last_of cs history at by phase n both.first → finite x ≡ true
      → finite both.second ≡ true
      → two_of x both.second
      ≡ two_of (output_of cs history pushes factor phase) (output_of cs history pushes factor (phase + 1))
  two-outputs x q f g =
      ap (λ (z : Float). two_of z both.second)
      (with-last-output cs history pushes factor phase 1 at by n h b P r both.first x (ap (λ (z : Two). z.first) e)
      q f)
      ∙ ap (two_of (output_of cs history pushes factor phase)) (second-output g)

module _ (cs history : List Float) (pushes factor at by n : ℕ) (h : at ≡ pushes % length history)
    (b : by ≡ step_of factor (length cs)) (P : 3 ≤ by) (r : Lags (length cs) (length history) by 3 n)
    (all : Four)
    (e : all
    ≡ four_of (lags_sum plain_to cs history at by 0 n) (lags_sum plain_to cs history at by 1 n)
    (lags_sum plain_to cs history at by 2 n) (lags_sum plain_to cs history at by 3 n)) where
  abbrev out : ℕ → Float
  out phase = output_of cs history pushes factor phase

  pub four-outputs : (x y z : Float) → x ≡ last_of cs history at by 0 n all.first
      → y ≡ last_of cs history at by 1 n all.second → z ≡ last_of cs history at by 2 n all.third
      → finite x ≡ true → finite y ≡ true → finite z ≡ true → finite all.fourth ≡ true
      → four_of x y z all.fourth ≡ four_of (out 0) (out 1) (out 2) (out 3)
  four-outputs x y z p q s f g i j =
      let first =
      with-last-output cs history pushes factor 0 3 at by n h b P r all.first x (ap (λ (a : Four). a.first) e) p f
      in
      let second =
      with-last-output cs history pushes factor 1 2 at by n h b (omega arith) r all.second y
      (ap (λ (a : Four). a.second) e) q g in
      let third =
      with-last-output cs history pushes factor 2 1 at by n h b (omega arith) r all.third z
      (ap (λ (a : Four). a.third) e) s i in
      let fourth =
      plain-sum cs history pushes factor 3 at by n h b r all.fourth (ap (λ (a : Four). a.fourth) e) j in
      rw (first, second, third, fourth)
