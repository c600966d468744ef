-- Rounding keeps the order, whatever the signs: the larger of two signed fractions rounds to a value that is no
-- smaller. `lib.Ieee.Order.round_mono` says it for fractions that are not negative; a negative fraction rounds to the
-- negated value. Assumes nothing.
use mathlib.Core.Path.{◌≡◌, refl, sym, ap, ◌∙◌}
use mathlib.Core.Bool.{Bool, true, false, not, cond}
use Prim.Native.Nat.{ℕ, zero, suc, ◌+◌, ◌*◌, ◌^◌, ◌≤◌, ◌<◌, zero-le}
use native.Mathlib.Nat.{zero-mul, le_trans, le_of_mul-le-mul_right}
use native.Mathlib.Omega.{arith}
use lib.Dec.{T, ltb, lit<}
use lib.IntN.{pos}
use lib.Ieee.{Float, nan, inf, fin, Format, binary32, binary64, prec, emax, low, size, odd, units, round, neg, le}
use lib.Ieee.Fits.{round_is}
use lib.Ieee.Order.{round_mono, drop, kept}
use lib.Ieee.Scale.{round_same}
use Rattle.interval.proofs.Signed.{plus, less, under, of-under}

-- ---- the sign of what is rounded
units-neg : (f : Format) (q k : ℕ) → neg (units f false q k) ≡ units f true q k
unfolding neg units odd
units-neg f q k = go (ltb (q * 2 ^ k) (2 ^ (low f + suc (emax f)))) q
  where
    go : (b : Bool) (q : ℕ)
        → neg (cond b (odd (suc (prec f)) false q k (low f)) (inf false))
        ≡ cond b (odd (suc (prec f)) true q k (low f)) (inf true)
    go true zero = refl
    go true (suc q) = refl
    go false q = refl

round-neg : (f : Format) (a c : ℕ) → neg (round f false a c) ≡ round f true a c
round-neg f a c =
    ap neg (round_is f false a c)
    ∙ units-neg f (kept (prec f) (a * 2 ^ low f) c) (drop (prec f) (a * 2 ^ low f) c)
    ∙ sym (round_is f true a c)

abbrev NotNegative : Float → Type 0
NotNegative nan = ⊥
NotNegative (inf s) = T (not s)
NotNegative (fin s m e) = T (not s)

units-not-negative : (f : Format) (q k : ℕ) → NotNegative (units f false q k)
unfolding units odd
units-not-negative f q k = go (ltb (q * 2 ^ k) (2 ^ (low f + suc (emax f)))) q
  where
    go : (b : Bool) (q : ℕ) → NotNegative (cond b (odd (suc (prec f)) false q k (low f)) (inf false))
    go true zero = tt
    go true (suc q) = tt
    go false q = tt

round-not-negative : (f : Format) (a c : ℕ) → NotNegative (round f false a c)
round-not-negative f a c =
    rw (round_is f false a c) (units-not-negative f (kept (prec f) (a * 2 ^ low f) c) (drop (prec f) (a * 2 ^ low f) c))

opposite : (x y : Float) → NotNegative x → NotNegative y → T (le (neg x) y)
unfolding le neg
opposite nan y p q = absurd p
opposite (inf true) y p q = absurd p
opposite (inf false) nan p q = absurd q
opposite (inf false) (inf true) p q = absurd q
opposite (inf false) (inf false) p q = tt
opposite (inf false) (fin t n d) p q = tt
opposite (fin true m e) y p q = absurd p
opposite (fin false m e) nan p q = absurd q
opposite (fin false m e) (inf true) p q = absurd q
opposite (fin false m e) (inf false) p q = tt
opposite (fin false m e) (fin true n d) p q = absurd q
opposite (fin false m e) (fin false n d) p q = of-under (fin true m e) (fin false n d) tt tt (omega arith)

pub le-neg : (x y : Float) → T (le x y) → T (le (neg y) (neg x))
unfolding le neg
le-neg nan y h = absurd h
le-neg (inf s) nan h = absurd h
le-neg (inf true) (inf true) h = tt
le-neg (inf true) (inf false) h = tt
le-neg (inf false) (inf true) h = h
le-neg (inf false) (inf false) h = tt
le-neg (inf true) (fin t n d) h = tt
le-neg (inf false) (fin t n d) h = h
le-neg (fin s m e) nan h = absurd h
le-neg (fin s m e) (inf t) h = h
le-neg (fin true m e) (fin true n d) h =
    of-under (fin false n d) (fin false m e) tt tt (omega (arith, under (fin true m e) (fin true n d) tt tt h))
le-neg (fin true m e) (fin false n d) h = of-under (fin true n d) (fin false m e) tt tt (omega arith)
le-neg (fin false m e) (fin true n d) h =
    of-under (fin false n d) (fin true m e) tt tt (omega (arith, under (fin false m e) (fin true n d) tt tt h))
le-neg (fin false m e) (fin false n d) h =
    of-under (fin true n d) (fin true m e) tt tt (omega (arith, under (fin false m e) (fin false n d) tt tt h))

-- ---- zero rounds to zero
nothing : (f : Format) (s : Bool) (a c : ℕ) → 0 < c → a ≡ 0 → round f s a c ≡ fin s 0 (pos 0)
unfolding round size units odd
nothing f s a c C e = round_same f s a c 0 1 C (lit< tt) (simp (e, zero-mul)) ∙ at_one f
  where
    at_one : (f : Format) → round f s 0 1 ≡ fin s 0 (pos 0)
    at_one binary32 = refl
    at_one binary64 = refl

pub none : (a d : ℕ) → 0 < d → a * d ≤ 0 → a ≡ 0
none a d D h = omega (arith, le_of_mul-le-mul_right (le_trans h (zero-le {n = 0 * d})) D)

pub round-order : (f : Format) (s t : Bool) (a c b d : ℕ) → 0 < c → 0 < d
    → plus s a * d + less t b * c ≤ plus t b * c + less s a * d → T (le (round f s a c) (round f t b d))
unfolding le neg
round-order f false false a c b d C D h = round_mono f a c b d C D (omega arith)
round-order f true false a c b d C D h =
    rw (← round-neg f a c) (opposite (round f false a c) (round f false b d) (round-not-negative f a c)
    (round-not-negative f b d))
round-order f true true a c b d C D h =
    rw (← round-neg f a c, ← round-neg f b d)
    (le-neg (round f false b d) (round f false a c) (round_mono f b d a c D C (omega arith)))
round-order f false true a c b d C D h =
    rw (nothing f false a c C (none a d D (omega arith)), nothing f true b d D (none b c C (omega arith))) tt
