-- A value whose difference from itself is zero is finite, and so are the parts of a finite sum; a sum of two finite
-- values is a number. Assumes nothing.
use Rattle.std.proofs.Common.{◌≡◌, ℕ, zero, suc, ◌+◌, ◌*◌, ◌^◌, Bool, true, false, cond, not, T, ltb, sym, subst}
use mathlib.Core.Bool.{false≢true}
use lib.Ieee.{Float, nan, inf, fin, Format, binary64, prec, emax, low, up, down, units, odd, round, add, sub, neg, eq}
use lib.Ieee.{is_nan, of_bits}
use lib.Ieee.Fits.{round_is}
use lib.Ieee.Scale.{finite}
use Rattle.rounding.proofs.Sums.{sum_is}
use Rattle.fused32.proofs.SumCases.{both}
use Rattle.fused_chain.specs.Blocks.{FiniteFour}

units_number : (f : Format) (s : Bool) (q k : ℕ) → T (not (is_nan (units f s q k)))
unfolding units odd is_nan
units_number f s q k = go (ltb (q * 2 ^ k) (2 ^ (low f + suc (emax f)))) q
  where
    go : (b : Bool) (q : ℕ) → T (not (is_nan (cond b (odd (suc (prec f)) s q k (low f)) (inf s))))
    go true zero = tt
    go true (suc q) = tt
    go false q = tt

round_number : (f : Format) (s : Bool) (a c : ℕ) → T (not (is_nan (round f s a c)))
round_number f s a c = subst (λ (z : Float). T (not (is_nan z))) (sym (round_is f s a c)) (units_number f s _ _)

pub add-number : (f : Format) (x y : Float) → T (finite x) → T (finite y) → T (not (is_nan (add f x y)))
unfolding add
add-number f nan y h k = absurd h
add-number f (inf s) y h k = absurd h
add-number f (fin s m e) nan h k = absurd k
add-number f (fin s m e) (inf t) h k = absurd k
add-number f (fin s m e) (fin t n d) h k =
    subst (λ (z : Float). T (not (is_nan z)))
    (sym (sum_is f s (m * up e * down d) t (n * up d * down e) (down e * down d))) (round_number f _ _ _)

pub self-finite : (x : Float) → eq (sub binary64 x x) (of_bits binary64 0) ≡ true → T (finite x)
unfolding sub add neg eq of_bits
self-finite nan h = absurd (false≢true h)
self-finite (inf true) h = absurd (false≢true h)
self-finite (inf false) h = absurd (false≢true h)
self-finite (fin s m e) h = tt

pub four-finite : (a b c d : Float) → T (finite (add binary64 (add binary64 a c) (add binary64 b d)))
    → FiniteFour a b c d
four-finite a b c d h =
    let (x, y) = both (add binary64 a c) (add binary64 b d) h in
    let (p, r) = both a c x in
    let (q, s) = both b d y in
    record { first = p; second = q; third = r; fourth = s }
