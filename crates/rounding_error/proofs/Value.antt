-- A float's value as a fraction: it agrees with `HasValue`, and its denominator is above zero. Assumes nothing.
use mathlib.Core.Path.{◌≡◌, refl, sym, subst}
use mathlib.Core.Bool.{Bool, true, false}
use Prim.Native.Nat.{ℕ, ◌*◌, ◌<◌}
use native.Mathlib.Omega.{arith}
use lib.Dec.{T, lit<}
use lib.Ieee.{Float, nan, inf, fin, up, down, neg}
use lib.Ieee.Fits.{down_pos}
use lib.Ieee.Exact.{HasValue}
use lib.Ieee.Scale.{finite}
use Rattle.rounding_error.specs.Fraction.{Frac, opp, Same}
use Rattle.rounding_error.specs.Value.{signed, val, Is, Rounds}
use Rattle.rounding_error.proofs.Same.{same_refl, opp-same}
use Rattle.rounding_error.proofs.Within.{same-within, within-opp}

pub signed-d : (s : Bool) (a c : ℕ) → (signed s a c).d ≡ c
signed-d false a c = refl
signed-d true a c = refl

pub signed-pos : (s : Bool) (a c : ℕ) → 0 < c → 0 < (signed s a c).d
signed-pos s a c h = rw (signed-d s a c) h

pub val_pos : (x : Float) → 0 < (val x).d
val_pos nan = lit< tt
val_pos (inf s) = lit< tt
val_pos (fin s m e) = signed-pos s (m * up e) (down e) (down_pos e)

pub is-val : (x : Float) → T (finite x) → Is x (val x)
is-val x h = record { real = h; same = same_refl (val_pos x) }

pub signed_same : (s : Bool) (a c w l : ℕ) → 0 < c → 0 < l → a * l ≡ w * c → Same (signed s a c) (signed s w l)
signed_same false a c w l C L e = omega arith
signed_same true a c w l C L e = omega arith

pub value-is : (x : Float) (s : Bool) (w l : ℕ) → 0 < l → HasValue x s w l → Is x (signed s w l)
value-is nan s w l L h = absurd h
value-is (inf t) s w l L h = absurd h
value-is (fin t m e) s w l L h =
    record {
      real = tt;
      same =
          subst (λ (u : Bool). Same (signed u (m * up e) (down e)) (signed s w l)) (sym h.0)
          (signed_same s (m * up e) (down e) w l (down_pos e) L h.1);
    }

-- ---- the opposite
pub neg-val : (x : Float) → val (neg x) ≡ opp (val x)
unfolding neg
neg-val nan = refl
neg-val (inf s) = refl
neg-val (fin false m e) = refl
neg-val (fin true m e) = refl

pub neg-finite : (x : Float) → T (finite x) → T (finite (neg x))
unfolding neg
neg-finite nan h = h
neg-finite (inf s) h = h
neg-finite (fin s m e) h = tt

pub neg_is : {x : Float} {a : Frac} → Is x a → Is (neg x) (opp a)
neg_is {x} h = record { real = neg-finite x h.real; same = rw (neg-val x) (opp-same h.same) }

pub neg-near : {g e : ℕ} {x : Float} {a : Frac} → Rounds g e x a → Rounds g e (neg x) (opp a)
neg-near {x = x} w = record { real = neg-finite x w.real; near = rw (neg-val x) (within-opp w.near) }

-- ---- exactly a number: near it, with the error zero
pub is-near : {x : Float} {a : Frac} (g : ℕ) → Is x a → Rounds g 0 x a
is-near g h = record { real = h.real; near = same-within g h.same }
