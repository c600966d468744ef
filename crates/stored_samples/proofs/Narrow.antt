-- W2e. No f32 lies between -1 - 2^-24 and -1: a number of 24 digits over D that is more than 1 exceeds it by at least 1
-- / D, and D has fewer than 24 digits. So an f32 is compared with -1. And a sample that fits is not a NaN. Assumes
-- nothing.
use mathlib.Core.Path.{◌≡◌, refl, sym, ap, ◌∙◌}
use mathlib.Core.Bool.{Bool, true, false, not, ◌&&◌, true≢false}
use Prim.Native.Nat.{ℕ, ◌+◌, ◌*◌, ◌^◌, ◌≤◌, ◌<◌}
use native.Mathlib.Omega.{arith}
use borrow.Author.Tests.{lt-ltb}
use lib.Dec.{T}
use lib.Arith.{le→nltb}
use lib.IntN.{ℤ, pos, negsuc}
use lib.Ieee.{Float, nan, inf, fin, binary32, up, down, lt, le, eq, fits, is_nan}
use lib.Ieee.Fits.{down_pos}
use Rattle.magnitude.proofs.Comparisons.{nlt→le, le-negative}
use Rattle.rounding.proofs.NumberOrders.{same_test}
use Rattle.rounding.proofs.Values.{fits-parts}
use Rattle.stored_samples.specs.Stored.{fits_whole}
use Rattle.stored_samples.proofs.Ranges.{least, past, in-range}

-- The end -1 for an f32.
abbrev pub one : Float
one = fin true 1 (pos 0)

closer : (m : ℕ) (e : ℤ) → m < 2 ^ 24 → m * up e * 2 ^ 24 ≤ (2 ^ 24 + 1) * 1 * down e → m * up e * 1 ≤ 1 * 1 * down e
closer m (pos k) l h = omega arith
closer m (negsuc k) l h = omega arith

further : (m : ℕ) (e : ℤ) → m * up e * 1 ≤ 1 * 1 * down e → m * up e * 2 ^ 24 ≤ (2 ^ 24 + 1) * 1 * down e
further m e h = omega arith

same_end : (x : Float) → T (fits binary32 x) → le one x ≡ le (least 22) x
unfolding le lt eq is_nan
same_end nan h = refl
same_end (inf true) h = refl
same_end (inf false) h = refl
same_end (fin false m e) h =
    rw (
      lt-ltb 0 (1 * 1 * down e + m * up e * 1) (omega (arith, down_pos e)),
      lt-ltb 0 ((2 ^ 24 + 1) * 1 * down e + m * up e * 2 ^ 24) (omega (arith, down_pos e)),
    )
same_end (fin true m e) h =
    let x = fin true m e in
    same_test (le one x) (le (least 22) x)
    (λ t. nlt→le (least 22) x tt tt (le→nltb _ _ (further m e (le-negative true 1 (pos 0) m e t))))
    (λ t.
    let few = (fits-parts binary32 true m e h).0 in
    nlt→le one x tt tt (le→nltb _ _ (closer m e few (le-negative true (2 ^ 24 + 1) (negsuc 23) m e t))))

pub in-narrow : (x : Float) → T (fits binary32 x) → (le one x && lt x (past 22)) ≡ fits_whole 24 x
in-narrow x h = ap (λ (b : Bool). b && lt x (past 22)) (same_end x h) ∙ in-range 22 x

-- ---- not a NaN
pub fits-number : (w : ℕ) (x : Float) → fits_whole w x ≡ true → T (not (is_nan x))
unfolding fits_whole is_nan
fits-number w nan h = absurd (true≢false (sym h))
fits-number w (inf s) h = tt
fits-number w (fin s m e) h = tt
