-- One rounding keeps `AtMost b`, for a whole number b up to which the format has every whole number. The fraction lies
-- between 0 and b, rounding keeps the order, and 0 and b round to themselves. Assumes nothing.
use mathlib.Core.Path.{sym, subst}
use mathlib.Core.Bool.{Bool, true, false, cond}
use Prim.Native.Nat.{ℕ, zero, suc, ◌+◌, ◌*◌, ◌^◌, ◌≤◌, ◌<◌, zero-le}
use native.Mathlib.Nat.{le_trans, le_of_eq, mul-one, zero-mul}
use lib.Dec.{ltb, lit<}
use lib.IntN.{ℤ, pos, negsuc, nat_abs}
use lib.Ieee.{inf, Format, prec, emax, low, odd, units, round, of_int}
use lib.Ieee.Fits.{round_is}
use lib.Ieee.Back.{round_whole}
use lib.Ieee.Order.{round_mono}
use Rattle.magnitude.specs.Bounds.{AtMost}
use Rattle.magnitude.proofs.OrderAndBounds.{value-at-most, between-at-most}

-- ---- the sign does not matter
odd_sign : (b d : ℕ) (s : Bool) (q k l : ℕ) → AtMost b (odd d false q k l) → AtMost b (odd d s q k l)
unfolding odd
odd_sign b d s zero k l h = h
odd_sign b d s (suc q) k l h = h

units-sign : (f : Format) (b : ℕ) (s : Bool) (q k : ℕ) → AtMost b (units f false q k) → AtMost b (units f s q k)
unfolding units
units-sign f b s q k = go (ltb (q * 2 ^ k) (2 ^ (low f + suc (emax f))))
  where
    go : (t : Bool) → AtMost b (cond t (odd (suc (prec f)) false q k (low f)) (inf false))
        → AtMost b (cond t (odd (suc (prec f)) s q k (low f)) (inf s))
    go true h = odd_sign b (suc (prec f)) s q k (low f) h
    go false h = absurd h

pub round-at-most : (f : Format) (b : ℕ) (s : Bool) (num den : ℕ) → b ≤ 2 ^ prec f → 0 < den → num ≤ b * den
    → AtMost b (round f s num den)
round-at-most f b s num den B D h =
    let not_negative : AtMost b (round f false num den) =
    between-at-most b (round f false 0 1) (round f false num den) (round f false b 1)
    (value-at-most b (round f false 0 1) false 0 1 (lit< tt) (round_whole f false 0 zero-le) zero-le)
    (value-at-most b (round f false b 1) false b 1 (lit< tt) (round_whole f false b B) (le_of_eq (sym (mul-one b))))
    (round_mono f 0 1 num den (lit< tt) D (le_trans (le_of_eq (zero-mul den)) zero-le))
    (round_mono f num den b 1 D (lit< tt) (le_trans (le_of_eq (mul-one num)) h)) in
    subst (AtMost b) (sym (round_is f s num den))
    (units-sign f b s _ _ (subst (AtMost b) (round_is f false num den) not_negative))

pub whole-at-most : (f : Format) (b : ℕ) (z : ℤ) → b ≤ 2 ^ prec f → nat_abs z ≤ b → AtMost b (of_int f z)
unfolding of_int
whole-at-most f b (pos n) B h = round-at-most f b false n 1 B (lit< tt) (le_trans h (le_of_eq (sym (mul-one b))))
whole-at-most f b (negsuc n) B h =
    round-at-most f b true (suc n) 1 B (lit< tt) (le_trans h (le_of_eq (sym (mul-one b))))
