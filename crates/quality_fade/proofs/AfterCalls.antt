-- Q1. What a run of accepted calls leaves: within a fade the current quality is still the old one and the place is the
-- number of mixed calls; after it the state is as opening with the new quality leaves it. Assumes nothing.
use mathlib.Core.Path.{◌≡◌, refl, ◌∙◌, ap}
use mathlib.Core.Bool.{true, false}
use mathlib.Core.List.{List, [], ◌∷◌, ◌++◌}
use Prim.Native.Nat.{ℕ, zero, suc, ◌+◌, ◌<◌}
use native.Mathlib.Nat.{zero-add}
use native.Mathlib.Omega.{arith}
use borrow.Author.Tests.{le-leb, lt-leb}
use lib.Dec.{leb}
use lib.ListN.{replicate}
use Rattle.quality_mode.specs.declared.QualityMode.{QualityMode}
use Rattle.quality_mode.specs.Quality.{same_q}
use Rattle.quality_mode.proofs.Equal.{same_not}
use Rattle.quality_fade.specs.declared.Fade.{Fade}
use Rattle.quality_fade.specs.declared.Turn.{Turn}
use Rattle.quality_fade.specs.Fade.{fade_of, length_ok, valid_of, open_of}
use Rattle.quality_fade.specs.Step.{mix_turn, step_of}
use Rattle.quality_fade.specs.Runs.{turns_of, left_of}
use Rattle.quality_fade.proofs.StaysInRange.{both, step-valid}
use Rattle.quality_fade.proofs.OneCall.{third}
use Rattle.quality_fade.proofs.FadeToEnd.{fades-on}

-- A run can be split into two parts.
pub turns-append : (s : Fade) (ps qs : List QualityMode)
    → turns_of s (ps ++ qs) ≡ turns_of s ps ++ turns_of (left_of s ps) qs
unfolding turns_of left_of
turns-append s [] qs = refl
turns-append s (p ∷ ps) qs = ap (λ (l : List Turn). step_of s p ∷ l) (turns-append (step_of s p).state ps qs)

-- G2. The state is in its ranges after a run exactly if it was before.
pub run-valid : (s : Fade) (qs : List QualityMode) → valid_of (left_of s qs) ≡ valid_of s
unfolding left_of
run-valid s [] = refl
run-valid s (q ∷ qs) = run-valid (step_of s q).state qs ∙ step-valid s q

next : (s : Fade) (q : QualityMode) (qs : List QualityMode) {t : Turn} → step_of s q ≡ t
    → left_of s (q ∷ qs) ≡ left_of t.state qs
unfolding left_of
next s q qs e = ap (λ (u : Turn). left_of u.state qs) e

-- After the mixed call at place i of the fade from c to q: n more calls within it, and n more to its end.
module _ (c q : QualityMode) (len : ℕ) (fits : length_ok len ≡ true) (h : same_q c q ≡ false) where
  within : (n i : ℕ) → i + suc n < len
      → left_of (mix_turn (fade_of c q i len)).state (replicate n q) ≡ fade_of c q (i + suc n) len
  unfolding left_of
  within zero i l =
      let f : leb len (i + 1) ≡ false = lt-leb len (i + 1) (omega arith) in
      rw f
  within (suc n) i l =
      let f : leb len (i + 1) ≡ false = lt-leb len (i + 1) (omega arith) in
      let g : i + 1 + suc n ≡ i + suc (suc n) = omega arith in
      rw f (next (fade_of c q (i + 1) len) q (replicate n q) (fades-on c q len fits (i + 1) h (omega arith))
      ∙ within n (i + 1) (omega arith)
      ∙ ap (λ (z : ℕ). fade_of c q z len) g)

  to_end : (n i : ℕ) → i + suc n ≡ len → left_of (mix_turn (fade_of c q i len)).state (replicate n q) ≡ open_of q len
  unfolding left_of
  to_end zero i e =
      let f : leb len (i + 1) ≡ true = le-leb len (i + 1) (omega arith) in
      let g : i + 1 ≡ len = omega arith in
      rw (f, g)
  to_end (suc n) i e =
      let f : leb len (i + 1) ≡ false = lt-leb len (i + 1) (omega arith) in
      rw f (next (fade_of c q (i + 1) len) q (replicate n q) (fades-on c q len fits (i + 1) h (omega arith))
      ∙ to_end n (i + 1) (omega arith))

module _ (s : Fade) (q : QualityMode) (v : valid_of s ≡ true) (ht : same_q q s.target ≡ false)
    (hc : same_q q s.current ≡ false) where
  other : same_q s.current q ≡ false
  other = same_not q s.current hc

  fits : length_ok s.crossfade_samples ≡ true
  fits = (both (length_ok s.crossfade_samples) _ v).0

  pub midway : (n : ℕ) → suc n < s.crossfade_samples
      → left_of s (replicate (suc n) q) ≡ fade_of s.current q (suc n) s.crossfade_samples
  midway n l =
      next s q (replicate n q) (third s q v ht other (omega arith))
      ∙ within s.current q s.crossfade_samples fits other n 0 (omega arith)
      ∙ ap (λ (z : ℕ). fade_of s.current q z s.crossfade_samples) (zero-add (suc n))

  pub ended : 0 < s.crossfade_samples
      → left_of s (replicate s.crossfade_samples q) ≡ open_of q s.crossfade_samples
  ended l = go s.crossfade_samples refl l
    where
      go : (n : ℕ) → n ≡ s.crossfade_samples → 0 < n → left_of s (replicate n q) ≡ open_of q s.crossfade_samples
      go zero e p = absurd (omega arith)
      go (suc n) e p =
          next s q (replicate n q) (third s q v ht other l)
          ∙ to_end s.current q s.crossfade_samples fits other n 0 (omega arith)
