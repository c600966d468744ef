-- E1, E2. Sine and cosine are as near as `Close` says: up to 1 by the polynomials, beyond 1 by the polynomial that k
-- modulo 4 picks, at a rest that is exact. Assumes nothing.
use mathlib.Core.Path.{◌≡◌, ap, ◌∙◌, subst}
use mathlib.Core.Bool.{Bool, true, false, not}
use Prim.Native.Nat.{ℕ, zero, suc, ◌+◌, ◌-◌, ◌%◌, ◌^◌}
use native.Mathlib.Nat.{mul-pos}
use native.Mathlib.Omega.{arith}
use lib.Dec.{T, ltb, lit<}
use lib.Ieee.{Float, binary64, round, fits}
use lib.Ieee.Bits.{is_true, is_false}
use lib.Ieee.Fits.{round-fits, cond-fits}
use Rattle.rounding_error.specs.Fraction.{Frac, Same}
use Rattle.rounding_error.specs.Value.{val, Rounds, nearest_to}
use Rattle.rounding_error.proofs.Same.{opp-same}
use Rattle.rounding_error.proofs.Within.{to, rescale}
use Rattle.rounding_error.proofs.Value.{val_pos, neg-near}
use Rattle.polynomials.specs.Taylor.{sine_fraction}
use Rattle.polynomials.specs.Horner.{sine_near, cosine_near}
use Rattle.elementary.specs.Reduction.{pick, fourth, turns, remainder, reduced}
use Rattle.polynomials.specs.Range.{at_most}
use Rattle.elementary.specs.Answers.{sine_at, cosine_at}
use Rattle.elementary.specs.Close.{pick_fraction, Far, SineClose, CosineClose}
use Rattle.elementary.specs.Steps.{Settled}
use Rattle.polynomials.proofs.Nested.{alternating-same}
use Rattle.polynomials.proofs.Squares.{at_most_size}
use Rattle.polynomials.proofs.SineNear.{sine-close}
use Rattle.polynomials.proofs.CosineNear.{cosine-close}

pub clash : (a : Bool) → T a → T (not a) → ⊥
clash true h k = k
clash false h k = h

-- ---- the polynomials that k modulo 4 picks
sine-flat : (r : Float) → T (fits binary64 r) → T (at_most 1 r)
    → Rounds (2 ^ 45) 1 (sine_near r) (sine_fraction (val r))
sine-flat r f h =
    let w = sine-close r f h in
    record {
      real = w.real;
      near = rescale (mul-pos (val_pos r) (lit< tt)) (omega (arith, at_most_size 1 r h)) w.near;
    }

pick-close : (q : ℕ) (r : Float) → T (fits binary64 r) → T (at_most 1 r)
    → Rounds (2 ^ 45) 1 (pick q r) (pick_fraction q (val r))
unfolding pick
pick-close zero r f h = sine-flat r f h
pick-close (suc zero) r f h = cosine-close r h
pick-close (suc (suc zero)) r f h = neg-near (sine-flat r f h)
pick-close (suc (suc (suc q))) r f h = neg-near (cosine-close r h)

pick_same : (q : ℕ) {x y : Frac} → Same x y → Same (pick_fraction q x) (pick_fraction q y)
pick_same zero e = alternating-same 1 10 e
pick_same (suc zero) e = alternating-same 0 10 e
pick_same (suc (suc zero)) e = opp-same (alternating-same 1 10 e)
pick_same (suc (suc (suc q))) e = opp-same (alternating-same 0 10 e)

reduced-fits : (x : Float) → T (fits binary64 (reduced x))
unfolding reduced nearest_to
reduced-fits x =
    let q = remainder x in
    cond-fits binary64 (ltb q.p q.n) (round binary64 true (q.n - q.p) q.d)
    (round binary64 false (q.p - q.n) q.d) (round-fits binary64 true (q.n - q.p) q.d)
    (round-fits binary64 false (q.p - q.n) q.d)

far : {x v : Float} {q : ℕ} {r : Float} (p : ℕ) → Settled x q r → v ≡ pick p r → Far x p v
far {x} p w e =
    let c = pick-close p (reduced x) (reduced-fits x) w.small in
    record {
      exact = w.exact;
      small = w.small;
      close =
          rw (e
          ∙ ap (pick p) w.rest) (record { real = c.real; near = to (pick_same p w.exact.same) c.near });
    }

-- ---- |x| ≤ 1
pub sine-short : {v : Float} (x : Float) → T (fits binary64 x) → T (at_most 1 x) → v ≡ sine_near x
    → (v ≡ sine_at x) × SineClose x v
unfolding sine_at
sine-short x f h e = (
  rw (is_true (at_most 1 x) h) e,
  record { near = λ t. rw e (sine-close x f h); far = λ t. absurd (clash (at_most 1 x) h t) },
)

pub cosine-short : {v : Float} (x : Float) → T (at_most 1 x) → v ≡ cosine_near x → (v ≡ cosine_at x) × CosineClose x v
unfolding cosine_at
cosine-short x h e = (
  rw (is_true (at_most 1 x) h) e,
  record { near = λ t. rw e (cosine-close x h); far = λ t. absurd (clash (at_most 1 x) h t) },
)

-- ---- |x| > 1
pub sine-long : {x v : Float} {q : ℕ} {r : Float} → T (not (at_most 1 x)) → Settled x q r → v ≡ pick q r
    → (v ≡ sine_at x) × SineClose x v
unfolding sine_at
sine-long {x} {v} {q} h w e = (
  rw (is_false (at_most 1 x) h) (e ∙ ap (pick q) w.rest ∙ ap (λ (p : ℕ). pick p (reduced x)) w.quarter),
  record {
    near = λ t. absurd (clash (at_most 1 x) t h);
    far = λ t. subst (λ (p : ℕ). Far x p v) w.quarter (far q w e);
  },
)

pub cosine-long : {x v : Float} {q p : ℕ} {r : Float} → T (not (at_most 1 x)) → Settled x q r → p ≡ (q + 1) % 4
    → v ≡ pick p r → (v ≡ cosine_at x) × CosineClose x v
unfolding cosine_at
cosine-long {x} {v} {q} {p} h w n e =
    let m : p ≡ (fourth (turns x) + 1) % 4 = n ∙ ap (λ (i : ℕ). (i + 1) % 4) w.quarter in (
      rw (is_false (at_most 1 x) h) (e ∙ ap (pick p) w.rest ∙ ap (λ (i : ℕ). pick i (reduced x)) m),
      record { near = λ t. absurd (clash (at_most 1 x) t h); far = λ t. subst (λ (i : ℕ). Far x i v) m (far p w e) },
    )
