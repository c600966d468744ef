-- W7d. Each kernel's reading depends only on its taps, which are those counted at the position. Assumes nothing.
use mathlib.Core.Path.{◌≡◌, sym, ◌∙◌, ap}
use mathlib.Core.List.{List}
use Prim.Native.Nat.{ℕ, ◌<◌}
use lib.Dec.{lit<}
use lib.IntN.{ℤ, pos, negsuc, ◌+ℤ◌, ◌-ℤ◌, +ℤ_idr, +ℤ_assoc, -ℤ-+ℤ_cancel}
use lib.Ieee.{Float, Format}
use Rattle.loop_laws.proofs.Folds.{same}
use Rattle.ring.specs.Taps.{tap_of}
use Rattle.integer_part.specs.Parts.{floor_of, fraction_of}
use Rattle.cubic_farrow.specs.Cubic.{weighed, cubic_at}
use Rattle.cubic_farrow_f32.specs.Draft.{draft_at}
use Rattle.lagrange.specs.Kernel.{lagrange_at}
use Rattle.farrow8.specs.Kernel.{taps_at, polynomial_of, farrow_at}
use Rattle.sinc_read.specs.Reading.{sinc_at}
use Rattle.sinc_read_f32.specs.Reading.{sinc_f32_at}
use Rattle.kernels.specs.declared.Kernel.{Kernel}
use Rattle.kernels.specs.declared.Kernel.TheVariants.{Cubic, Lagrange, Farrow8, Sinc}
use Rattle.kernels.specs.Kernels.{kernel_at, taps_of}
use Rattle.reads.specs.Local.{Alike, Local}

-- One tap by its own number j.
module _ (xs ys : List Float) (a b n : ℕ) (z : ℤ) (h : Alike xs a ys b z n) where
  tap : (k : ℕ) → k < n → {j : ℤ} → z +ℤ pos k ≡ j → tap_of xs a j ≡ tap_of ys b j
  tap k l e = sym (ap (tap_of xs a) e) ∙ h k l ∙ ap (tap_of ys b) e

-- The four taps around i, in either width.
four : (f : Format) (mu : Float) (xs ys : List Float) (a b : ℕ) (i : ℤ) → Alike xs a ys b (i -ℤ pos 1) 4
    → weighed f mu (tap_of xs a (i -ℤ pos 1)) (tap_of xs a i) (tap_of xs a (i +ℤ pos 1)) (tap_of xs a (i +ℤ pos 2))
    ≡ weighed f mu (tap_of ys b (i -ℤ pos 1)) (tap_of ys b i) (tap_of ys b (i +ℤ pos 1)) (tap_of ys b (i +ℤ pos 2))
four f mu xs ys a b i h =
    rw (
      at 0 (lit< tt) (+ℤ_idr (i -ℤ pos 1)),
      at 1 (lit< tt) (-ℤ-+ℤ_cancel i (pos 1)),
      at 2 (lit< tt) (+ℤ_assoc i (negsuc 0) (pos 2)),
      at 3 (lit< tt) (+ℤ_assoc i (negsuc 0) (pos 3)),
    )
  where
    at : (k : ℕ) → k < 4 → {j : ℤ} → i -ℤ pos 1 +ℤ pos k ≡ j → tap_of xs a j ≡ tap_of ys b j
    at = tap xs ys a b 4 (i -ℤ pos 1) h

pub cubic : Local 4 cubic_at
unfolding cubic_at
cubic xs ys a b p h = four _ _ xs ys a b (floor_of p) h

pub draft : Local 4 draft_at
unfolding draft_at
draft xs ys a b p h = four _ _ xs ys a b (floor_of p) h

-- The eight taps around i.
eight : (xs ys : List Float) (a b : ℕ) (i : ℤ) → Alike xs a ys b (i -ℤ pos 3) 8 → taps_at xs a i ≡ taps_at ys b i
eight xs ys a b i h =
    rw (
      at 0 (lit< tt) (+ℤ_idr (i -ℤ pos 3)),
      at 1 (lit< tt) (+ℤ_assoc i (negsuc 2) (pos 1)),
      at 2 (lit< tt) (+ℤ_assoc i (negsuc 2) (pos 2)),
      at 3 (lit< tt) (-ℤ-+ℤ_cancel i (pos 3)),
      at 4 (lit< tt) (+ℤ_assoc i (negsuc 2) (pos 4)),
      at 5 (lit< tt) (+ℤ_assoc i (negsuc 2) (pos 5)),
      at 6 (lit< tt) (+ℤ_assoc i (negsuc 2) (pos 6)),
      at 7 (lit< tt) (+ℤ_assoc i (negsuc 2) (pos 7)),
    )
  where
    at : (k : ℕ) → k < 8 → {j : ℤ} → i -ℤ pos 3 +ℤ pos k ≡ j → tap_of xs a j ≡ tap_of ys b j
    at = tap xs ys a b 8 (i -ℤ pos 3) h

pub farrow8 : Local 8 farrow_at
unfolding farrow_at
farrow8 xs ys a b p h =
    ap (λ (x : List Float). polynomial_of x (fraction_of p)) (eight xs ys a b (floor_of p) h)

-- The other kernels are sums over the taps, from the first on.
pub lagrange : (taps : ℕ) → Local taps (lagrange_at taps)
unfolding lagrange_at
lagrange taps xs ys a b p h = same _ _ _ taps (λ k l v. rw (h k l))

pub sinc : (table : List Float) (taps phases : ℕ) → Local taps (sinc_at table taps phases)
unfolding sinc_at
sinc table taps phases xs ys a b p h = same _ _ _ taps (λ k l v. rw (h k l))

pub sinc-f32 : (table : List Float) (taps phases : ℕ) → Local taps (sinc_f32_at table taps phases)
unfolding sinc_f32_at
sinc-f32 table taps phases xs ys a b p h = same _ _ _ taps (λ k l v. rw (h k l))

-- 000's kernels of f64 as one, with the table that is lent beside them.
pub each : (k : Kernel) (table : List Float) → Local (taps_of k) (kernel_at k table)
each Cubic table = cubic
each (Lagrange taps) table = lagrange taps
each Farrow8 table = farrow8
each (Sinc taps phases) table = sinc table taps phases
