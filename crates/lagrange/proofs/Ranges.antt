-- What follows if the taps and the position are in range. Assumes nothing.
use mathlib.Core.Path.{◌≡◌, refl}
use mathlib.Core.Bool.{Bool, true, false, ◌&&◌}
use Prim.Native.Nat.{ℕ, ◌%◌, ◌^◌, ◌≤◌}
use native.Mathlib.Omega.{arith}
use borrow.Author.Tests.{leb-true, eqb-true}
use lib.Dec.{leb, eqb}
use lib.Ieee.{Float}
use Rattle.magnitude.specs.Bounds.{AtMost}
use Rattle.ring.specs.Places.{position_ok}
use Rattle.ring.proofs.Positions.{position-at-most}
use Rattle.lagrange.specs.Kernel.{taps_ok}

pub record Within (taps : ℕ) (p : Float) : Type 0 where
  pub least : 2 ≤ taps
  pub most : taps ≤ 16
  pub even : taps % 2 ≡ 0
  pub near : AtMost (2 ^ 36) p

pub within : (taps : ℕ) (p : Float) → (taps_ok taps && position_ok p) ≡ true → Within taps p
within taps p h = go (leb taps 16) (leb 2 taps) (eqb (taps % 2) 0) (position_ok p) refl refl refl refl h
  where
    go : (a b c d : Bool) → leb taps 16 ≡ a → leb 2 taps ≡ b → eqb (taps % 2) 0 ≡ c → position_ok p ≡ d
        → ((a && b && c) && d) ≡ true → Within taps p
    go true true true true A B C D t =
        record { least = leb-true _ _ B; most = leb-true _ _ A; even = eqb-true _ _ C; near = position-at-most p D }
    go true true true false A B C D t = let e : ◌≡◌ {A = ℕ} 0 1 = cc in absurd (omega arith)
    go true true false d A B C D t = let e : ◌≡◌ {A = ℕ} 0 1 = cc in absurd (omega arith)
    go true false c d A B C D t = let e : ◌≡◌ {A = ℕ} 0 1 = cc in absurd (omega arith)
    go false b c d A B C D t = let e : ◌≡◌ {A = ℕ} 0 1 = cc in absurd (omega arith)
