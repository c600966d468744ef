-- W2e. Exactly what is not stored. As PCM of w digits: a NaN, an infinity, and a number whose rounded value lies
-- outside -2^(w-1) to 2^(w-1) - 1. As a float: a NaN, an infinity, and a number of size 2^128 - 2^103 or more, whose
-- nearest f32 is an infinity. Assumes nothing.
use mathlib.Core.Path.{◌≡◌, sym, ◌∙◌}
use mathlib.Core.Logic.{◌↔◌}
use mathlib.Core.Bool.{true, ◌&&◌, true≢false}
use Prim.Native.Nat.{ℕ, suc, ◌-◌, ◌*◌, ◌^◌, ◌≤◌, ◌<◌}
use borrow.Author.Tests.{ltb-true, lt-ltb}
use denote.Floats.{passes}
use lib.Dec.{T}
use lib.IntN.{ℤ, pos, negsuc}
use lib.Ieee.{Float, nan, inf, fin, binary32, up, down}
use lib.Ieee.Bits.{is_true}
use lib.Ieee.Fits.{and_l, and_r, down_pos}
use lib.Ieee.Scale.{finite}
use Rattle.rounding.specs.Nearest.{limit}
use Rattle.rounding.specs.Operations.{narrowed}
use Rattle.sample_kind.specs.declared.SampleKind.TheVariants.{Float32}
use Rattle.stored_samples.specs.Stored.{nearest_whole, in_digits, fits_whole, fits_in}
use Rattle.stored_samples.proofs.Floats.{finite-round}

-- z lies from -2^(w-1) to 2^(w-1) - 1.
abbrev pub InRange : ℕ → ℤ → Type 0
InRange w (pos n) = n < 2 ^ (w - 1)
InRange w (negsuc n) = suc n ≤ 2 ^ (w - 1)

in-range : (w : ℕ) (z : ℤ) → (in_digits w z ≡ true → InRange w z) × (InRange w z → in_digits w z ≡ true)
in-range w (pos n) = (ltb-true n (2 ^ (w - 1)), lt-ltb n (2 ^ (w - 1)))
in-range w (negsuc n) = (ltb-true n (2 ^ (w - 1)), lt-ltb n (2 ^ (w - 1)))

pub fits-whole : (w : ℕ) (x : Float) → fits_whole w x ≡ true ↔ (T (finite x) × InRange w (nearest_whole w x))
unfolding fits_whole
fits-whole w x = (
  (λ t.
      let b = passes (finite x && in_digits w (nearest_whole w x)) t in
      (and_l (finite x) _ b, (in-range w (nearest_whole w x)).0 (is_true _ (and_r (finite x) _ b)))),
  (λ h. rw (is_true (finite x) h.0) ((in-range w (nearest_whole w x)).1 h.1)),
)

-- x is a number of size below 2^128 - 2^103.
abbrev pub BelowMidpoint : Float → Type 0
BelowMidpoint nan = ⊥
BelowMidpoint (inf s) = ⊥
BelowMidpoint (fin s m e) = m * up e < limit binary32 * down e

pub fits-float : (x : Float) → fits_in Float32 x ≡ true ↔ BelowMidpoint x
unfolding narrowed
fits-float nan = ((λ t. absurd (true≢false (sym t))), (λ h. absurd h))
fits-float (inf s) = ((λ t. absurd (true≢false (sym t))), (λ h. absurd h))
fits-float (fin s m e) =
    let r = finite-round binary32 s (m * up e) (down e) (down_pos e) in (
      (λ t. ltb-true (m * up e) (limit binary32 * down e) (sym r ∙ t)),
      (λ h. r ∙ lt-ltb (m * up e) (limit binary32 * down e) h),
    )
