-- A finite sum over all coefficients is the sum without those of 0.0. Each product in it was finite, so a coefficient
-- of 0.0 gave a zero; and a sum that starts at +0.0 is never -0.0, so a zero leaves it as it is. Assumes nothing.
use mathlib.Core.Path.{◌≡◌, refl, ap, ◌∙◌}
use mathlib.Core.Bool.{Bool, true, false, cond, ◌||◌, beq}
use Prim.Native.Nat.{ℕ, zero, suc, ◌*◌}
use native.Mathlib.Nat.{mul-pos, zero-mul, zero-lt-suc}
use native.Mathlib.Omega.{arith}
use lib.Dec.{T, eqb, eqb→eq}
use lib.IntN.{ℤ, pos}
use lib.Ieee.{Float, nan, inf, fin, binary64, up, down, round, add, mul, eq, fits, level}
use lib.Ieee.{unlike}
use lib.Ieee.Fits.{up_pos, down_pos, add-fits, mul-fits, and_l}
use lib.Ieee.Scale.{finite}
use denote.Floats.{passes}
use Rattle.constants.specs.Numbers.{zero-f}
use Rattle.loop_laws.specs.Loops.{fold}
use Rattle.rounding.proofs.Sums.{round-zero}
use Rattle.fir_filter.specs.Filters.{add_to}
use Rattle.fir_filter.specs.Runs.{plain_to}
use Rattle.fir_filter.proofs.ZeroAdded.{Unsigned, no, nothing-times, unsigned-sum, zero-added}

-- ---- what a finite result tells
finite-left : (x y : Float) → T (finite (add binary64 x y)) → T (finite x)
unfolding add
finite-left nan y h = h
finite-left (inf s) nan h = h
finite-left (inf false) (inf false) h = h
finite-left (inf false) (inf true) h = h
finite-left (inf true) (inf false) h = h
finite-left (inf true) (inf true) h = h
finite-left (inf s) (fin t n d) h = h
finite-left (fin s m e) y h = tt

finite-right : (x y : Float) → T (finite (add binary64 x y)) → T (finite y)
unfolding add
finite-right nan y h = absurd h
finite-right (inf s) nan h = h
finite-right (inf false) (inf false) h = h
finite-right (inf false) (inf true) h = h
finite-right (inf true) (inf false) h = h
finite-right (inf true) (inf true) h = h
finite-right (inf s) (fin t n d) h = tt
finite-right (fin s m e) nan h = h
finite-right (fin s m e) (inf t) h = h
finite-right (fin s m e) (fin t n d) h = tt

-- A product by zero that is finite is a zero.
not-zero : (m : ℕ) (e : ℤ) (s : Bool) → {A : Type 0} → eq (fin s (suc m) e) zero-f ≡ true → A
unfolding eq
not-zero m e s h =
    let a = suc m * up e * 1 in
    let b = 0 * 1 * down e in
    let q = eqb→eq a b (and_l (eqb a b) (beq s false || eqb a 0) (passes (level s a false b) h)) in
    absurd (omega (arith, q, mul-pos (zero-lt-suc m) (up_pos e), zero-mul (down e)))

zero-product : (c x : Float) → eq c zero-f ≡ true → T (finite (mul binary64 c x))
    → (t : Bool) × (mul binary64 c x ≡ fin t 0 (pos 0))
unfolding eq mul
zero-product nan x h f = no h
zero-product (inf s) x h f = no h
zero-product (fin s (suc m) e) x h f = not-zero m e s h
zero-product (fin s zero e) nan h f = absurd f
zero-product (fin s zero e) (inf t) h f = absurd f
zero-product (fin s zero e) (fin t n d) h f = (
  unlike s t,
  ap (λ (z : ℕ). round binary64 (unlike s t) z (down e * down d)) (nothing-times (up e) (n * up d))
      ∙ round-zero binary64 (unlike s t) (down e * down d) (mul-pos (down_pos e) (down_pos d)),
)

-- ---- the sums
one_more : (c x s l : Float) → s ≡ l → T (fits binary64 s) → Unsigned s → T (finite s) → T (finite (mul binary64 c x))
    → plain_to c x s ≡ add_to c x l
one_more c x s l e p u f g = go (eq c zero-f) refl
  where
    go : (b : Bool) → eq c zero-f ≡ b → add binary64 s (mul binary64 c x) ≡ cond b l (add binary64 l (mul binary64 c x))
    go true h =
        let z = zero-product c x h g in ap (add binary64 s) z.1 ∙ zero-added s z.0 p u f ∙ e
    go false h = ap (λ (v : Float). add binary64 v (mul binary64 c x)) e

module _ (c x : ℕ → Float) where
  abbrev plainly : ℕ → Float
  plainly n = fold (λ (k : ℕ) (sum : Float). plain_to (c k) (x k) sum) zero-f n

  abbrev without : ℕ → Float
  without n = fold (λ (k : ℕ) (sum : Float). add_to (c k) (x k) sum) zero-f n

  pub record Same (n : ℕ) : Type 0 where
    pub equal : plainly n ≡ without n
    pub format : T (fits binary64 (plainly n))
    pub sign : Unsigned (plainly n)

  pub left_out : (n : ℕ) → T (finite (plainly n)) → Same n
  unfolding fold fits
  left_out zero f = record { equal = refl; format = tt; sign = tt }
  left_out (suc n) f =
      let s = plainly n in
      let p = mul binary64 (c n) (x n) in
      let fs = finite-left s p f in
      let fp = finite-right s p f in
      let r = left_out n fs in
      record {
        equal = one_more (c n) (x n) s (without n) r.equal r.format r.sign fs fp;
        format = add-fits binary64 s p;
        sign = unsigned-sum s p r.format (mul-fits binary64 (c n) (x n)) r.sign fs fp;
      }
