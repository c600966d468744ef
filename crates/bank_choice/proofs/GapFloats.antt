-- Facts about floats for the rates and the gaps between them: 1 times a number, a number divided by itself, the order
-- of three, and the sign of a difference. Assumes nothing.
use Rattle.std.proofs.Common.{
  ◌≡◌,
  ℕ,
  ◌+◌,
  ◌*◌,
  ◌<◌,
  true,
  false,
  T,
  pos,
  refl,
  ap,
  true≢false,
  mul_comm,
  mul-pos,
  zero-mul,
  arith,
  lit<,
  ltb→lt,
  ne_eqb,
}
use lib.Ieee.{Float, nan, inf, fin, binary64, up, down, round, neg, sub, div, lt, le, Format, mul, of_int}
use lib.Ieee.Positive.{den, den_pos}
use lib.Ieee.Fits.{down_pos}
use lib.Ieee.Scale.{finite, round_same}
use lib.Ieee.Exact.{HasValue}
use Rattle.interval.proofs.Signed.{ring, gain, loss, under, le-lt}
use Rattle.interval.proofs.Operations.{Rounds, in_order, added}
use Rattle.sinc_settings.specs.Ranges.{zero-f, one-f}

-- ---- 1 times a whole number is that number
pub one-times : (f : Format) (x : Float) (n : ℕ) → HasValue x false n 1 → mul f one-f x ≡ of_int f (pos n)
unfolding mul of_int
one-times f nan n v = absurd v
one-times f (inf s) n v = absurd v
one-times f (fin true m e) n v = absurd (true≢false v.0)
one-times f (fin false m e) n v = round_same f false _ _ n 1 (omega (arith, down_pos e)) (lit< tt) (omega (arith, v.1))

-- ---- as `le-lt`, whatever z is
pub le-lt-any : (x y z : Float) → T (finite x) → T (finite y) → T (le x y) → T (lt y z) → T (lt x z)
unfolding lt
le-lt-any nan y z p q h k = absurd p
le-lt-any (inf s) y z p q h k = absurd p
le-lt-any (fin s m e) nan z p q h k = absurd q
le-lt-any (fin s m e) (inf t) z p q h k = absurd q
le-lt-any (fin s m e) (fin t n d) nan p q h k = absurd k
le-lt-any (fin s m e) (fin t n d) (inf true) p q h k = absurd k
le-lt-any (fin s m e) (fin t n d) (inf false) p q h k = tt
le-lt-any (fin s m e) (fin t n d) (fin u o g) p q h k = le-lt (fin s m e) (fin t n d) (fin u o g) tt tt tt h k

-- ---- x / x is 1
pub over-itself : (x : Float) → T (finite x) → T (lt zero-f x) → div binary64 x x ≡ one-f
unfolding div lt
over-itself nan p h = absurd p
over-itself (inf s) p h = absurd p
over-itself (fin true m e) p h = absurd h
over-itself (fin false m e) p h =
    let a : 0 < m * up e = omega (arith, ltb→lt (0 * 1 * down e) (m * up e * 1) h) in
    rw (ne_eqb m 0 (λ z. omega (arith, ap (λ (k : ℕ). k * up e) z, zero-mul (up e))))
    (round_same binary64 false (m * up e * down e) (m * up e * down e) 1 1 (mul-pos a (down_pos e)) (lit< tt)
    (mul_comm _ 1))

-- ---- the sign of a difference
module _ (x y : Float) (p : T (finite x)) (q : T (finite y)) where
  nothing : Rounds binary64 zero-f 0 0 1
  unfolding round
  nothing = record { sign = false; size = 0; is = refl; same = refl }

  pub subtracted : Rounds binary64 (sub binary64 x y) (gain x * den y + loss y * den x)
      (loss x * den y + gain y * den x) (den x * den y)
  unfolding sub neg
  subtracted = go x y p q
    where
      go : (x y : Float) → T (finite x) → T (finite y)
          → Rounds binary64 (sub binary64 x y) (gain x * den y + loss y * den x) (loss x * den y + gain y * den x)
          (den x * den y)
      go nan y p q = absurd p
      go (inf s) y p q = absurd p
      go (fin s m e) nan p q = absurd q
      go (fin s m e) (inf t) p q = absurd q
      go (fin s m e) (fin true n d) p q = added binary64 (fin s m e) (fin false n d) tt tt
      go (fin s m e) (fin false n d) p q = added binary64 (fin s m e) (fin true n d) tt tt

  pub difference-ge : T (le y x) → T (le zero-f (sub binary64 x y))
  difference-ge h =
      in_order binary64 0 0 1 _ _ _ (lit< tt) (mul-pos (den_pos x) (den_pos y)) nothing subtracted
      (simp ring (omega (arith, simp ring at (under y x q p h))))

  pub difference-le : T (le x y) → T (le (sub binary64 x y) zero-f)
  difference-le h =
      in_order binary64 _ _ _ 0 0 1 (mul-pos (den_pos x) (den_pos y)) (lit< tt) subtracted nothing
      (simp ring (omega (arith, simp ring at (under x y p q h))))
