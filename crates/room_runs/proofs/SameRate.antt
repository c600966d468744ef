-- W4b. Two f64 rates that compare equal are the same float, if one of them is from 1 to 2: there is no zero among
-- these, and a number has one spelling. Assumes nothing.
use mathlib.Core.Path.{◌≡◌, refl, sym, ◌∙◌}
use mathlib.Core.Bool.{Bool, true, false, true≢false, ◌&&◌, ◌||◌, beq}
use Prim.Native.Nat.{ℕ, ◌*◌}
use native.Mathlib.Nat.{mul-pos}
use native.Mathlib.Omega.{arith}
use borrow.Author.Tests.{eqb-true, eqb-false, eq-eqb, ne_eqb}
use lib.Dec.{T, eqb, ltb→lt}
use lib.Ieee.{Float, nan, inf, fin, binary64, up, down, fits, eq, le, level}
use lib.Ieee.Fits.{up_pos, down_pos}
use lib.Ieee.Scale.{round_same}
use lib.Ieee.Positive.{positive, between}
use Rattle.rounding.proofs.RoundsToItself.{round-own}
use Rattle.sinc_settings.specs.Ranges.{rate_ok, one-f, two-f}

pub is_true : {b : Bool} → b ≡ true → T b
is_true e = rw e tt

pub both : (a b : Bool) → a && b ≡ true → (a ≡ true) × (b ≡ true)
both true b h = (refl, h)
both false b h = absurd (true≢false (sym h))

pub rate-positive : (x : Float) → rate_ok x ≡ true → T (positive x)
rate-positive x h =
    let g = both (le one-f x) (le x two-f) h in between one-f x two-f tt tt (is_true g.0) (is_true g.1)

pub same_float : (x y : Float) → T (fits binary64 x) → T (fits binary64 y) → T (positive x) → eq x y ≡ true → x ≡ y
unfolding eq
same_float nan y p q o e = absurd o
same_float (inf s) y p q o e = absurd o
same_float (fin true m e) y p q o h = absurd o
same_float (fin false m e) nan p q o h = absurd (true≢false (sym h))
same_float (fin false m e) (inf t) p q o h = absurd (true≢false (sym h))
same_float (fin false m e) (fin true n d) p q o h =
    let g = both (eqb (m * up e * down d) (n * up d * down e)) _ h in
    let z = eqb-true (m * up e * down d) 0 g.1 in
    let l = mul-pos (mul-pos (ltb→lt 0 m o) (up_pos e)) (down_pos d) in
    absurd (omega arith)
same_float (fin false m e) (fin false n d) p q o h =
    let a = m * up e in
    let b = n * up d in
    let g : a * down d
    ≡ b * down e = eqb-true (a * down d) (b * down e) (both (eqb (a * down d) (b * down e)) _ h).0 in
    sym (round-own binary64 (fin false m e) false a (down e) p (down_pos e) (refl, refl))
    ∙ round_same binary64 false a (down e) b (down d) (down_pos e) (down_pos d) g
    ∙ round-own binary64 (fin false n d) false b (down d) q (down_pos d) (refl, refl)

pub same-rate : (x y : Float) → fits binary64 x ≡ true → fits binary64 y ≡ true → rate_ok x ≡ true → eq x y ≡ true
    → x ≡ y
same-rate x y p q o e = same_float x y (is_true p) (is_true q) (rate-positive x o) e

pub equal-itself : (x : Float) → T (positive x) → eq x x ≡ true
unfolding eq
equal-itself nan o = absurd o
equal-itself (inf s) o = absurd o
equal-itself (fin true m e) o = absurd o
equal-itself (fin false m e) o = rw (eq-eqb (m * up e * down e) (m * up e * down e) refl)

-- Equality is symmetric.
level-sym : (s t : Bool) (a b : ℕ) (c : Bool) → eqb a b ≡ c → level s a t b ≡ level t b s a
level-sym s t a b true e =
    let q = eqb-true a b e in rw (q, eq-eqb b b refl) (signs s t (eqb b 0))
  where
    signs : (s t z : Bool) → beq s t || z ≡ beq t s || z
    signs true true z = refl
    signs true false z = refl
    signs false true z = refl
    signs false false z = refl
level-sym s t a b false e = rw (e, ne_eqb b a (λ q. eqb-false a b e (sym q)))

pub eq-sym : (x y : Float) → eq x y ≡ eq y x
unfolding eq
eq-sym nan nan = refl
eq-sym nan (inf t) = refl
eq-sym nan (fin t n d) = refl
eq-sym (inf s) nan = refl
eq-sym (inf true) (inf true) = refl
eq-sym (inf true) (inf false) = refl
eq-sym (inf false) (inf true) = refl
eq-sym (inf false) (inf false) = refl
eq-sym (inf s) (fin t n d) = refl
eq-sym (fin s m e) nan = refl
eq-sym (fin s m e) (inf t) = refl
eq-sym (fin s m e) (fin t n d) = level-sym s t (m * up e * down d) (n * up d * down e) _ refl
