-- An operation on floats that lie near numbers lies near the exact result: its error is that of the operands, carried
-- through, plus one rounding. Assumes nothing.
use mathlib.Core.Bool.{Bool, false, ◌&&◌}
use Prim.Native.Nat.{ℕ, ◌+◌, ◌*◌, ◌^◌, ◌≤◌, ◌<◌}
use native.Mathlib.Nat.{zero-add, add-zero, mul-pos}
use lib.IntN.{ℤ}
use lib.Dec.{T, leb, ltb, leb→le, ltb→lt, lit<}
use lib.Pow.{pow_pos}
use lib.Ieee.{Float, fin, Format, prec, emax, low, up, down, add, sub, mul, div}
use lib.Ieee.Fits.{and_l, and_r, up_pos}
use Rattle.rounding_error.specs.Fraction.{Frac, nil, plus, times, opp, over, Same, Within, Mag}
use Rattle.rounding_error.specs.Value.{val, Is, Rounds}
use Rattle.rounding_error.proofs.Same.{same_refl, same-sym, times-same, over-same}
use Rattle.rounding_error.proofs.Within.{chain, from, to, rescale, same-within, within-plus}
use Rattle.rounding_error.proofs.ProductErrors.{within-times, within-product}
use Rattle.rounding_error.proofs.Value.{val_pos, neg-near}
use Rattle.rounding_error.proofs.OneRounding.{round-absolute, round-relative}
use Rattle.rounding_error.proofs.Operations.{Rounded, bottom, bounded, add-rounded, mul-rounded, div-rounded}

-- ---- one rounding of q, for |q| ≤ 2 ^ k / 2 ^ h
pub rounded-absolute : {f : Format} {x : Float} {q : Frac} (h k : ℕ) → prec f + h ≤ low f + k → k ≤ emax f + h
    → Within (2 ^ h) (2 ^ k) q nil → Rounded f x q → Rounds (2 ^ (prec f + h) * 2) (2 ^ k) x q
rounded-absolute {f} h k J O w r =
    let n = round-absolute f r.s r.a r.c h k (bottom r) J O (bounded r w) in
    rw r.is (record { real = n.real; near = to r.same n.near })

-- ---- one rounding of q, for |q| ≤ B / K, where B / K is not below the normal range: the error is at most (B / K) / 2
-- ^ prec
pub rounded-relative : {f : Format} {x : Float} {q : Frac} {K B : ℕ} → 0 < K → Within K B q nil
    → K * 2 ^ prec f ≤ B * (2 ^ low f * 2) → B ≤ K * 2 ^ emax f → Rounded f x q → Rounds (K * 2 ^ prec f) B x q
rounded-relative {f} {K = K} {B} k w m o r =
    let n = round-relative f r.s r.a r.c K B (bottom r) k (bounded r w) m o in
    rw r.is (record { real = n.real; near = to r.same n.near })

-- ---- What one rounding at |q| ≤ 2 ^ k / 2 ^ h needs of the given numbers: the format reaches there, and half a unit
-- there is at most r / g.
abbrev pub step : Format → ℕ → ℕ → ℕ → ℕ → Bool
step f g r h k =
    ltb 0 g && (leb (prec f + h) (low f + k) && (leb k (emax f + h) && leb (2 ^ k * g) (r * (2 ^ (prec f + h) * 2))))

record Step (f : Format) (g r h k : ℕ) : Type 0 where
  unit : 0 < g
  deep : prec f + h ≤ low f + k
  high : k ≤ emax f + h
  half : 2 ^ k * g ≤ r * (2 ^ (prec f + h) * 2)

steps : (f : Format) (g r h k : ℕ) → T (step f g r h k) → Step f g r h k
steps f g r h k s =
    let c = leb (2 ^ k * g) (r * (2 ^ (prec f + h) * 2)) in
    let b = leb k (emax f + h) in
    let a = leb (prec f + h) (low f + k) in
    let t = and_r (ltb 0 g) (a && (b && c)) s in
    let u = and_r a (b && c) t in
    record {
      unit = ltb→lt 0 g (and_l (ltb 0 g) (a && (b && c)) s);
      deep = leb→le (prec f + h) (low f + k) (and_l a (b && c) t);
      high = leb→le k (emax f + h) (and_l b c u);
      half = leb→le (2 ^ k * g) (r * (2 ^ (prec f + h) * 2)) (and_r b c u);
    }

-- x is a rounding of v, v is within u / g of q, and |q| ≤ t / g.
pub approx : {f : Format} {x : Float} {v q : Frac} {g u t : ℕ} (r h k : ℕ) → T (step f g r h k) → Rounded f x v
    → Within g u v q → Within g t q nil → (u + t) * 2 ^ h ≤ 2 ^ k * g → Rounds g (r + u) x q
approx {f} {g = g} r h k s R w b l =
    let z = steps f g r h k s in
    let n = rounded-absolute h k z.deep z.high (rescale z.unit l (chain w b)) R in
    record { real = n.real; near = chain (rescale (mul-pos (pow_pos (prec f + h)) (lit< tt)) z.half n.near) w }

-- ---- the operations
pub add-approx : {x y : Float} {a b q : Frac} {g e e' t : ℕ} (f : Format) (r h k : ℕ) → T (step f g r h k)
    → Rounds g e x a → Rounds g e' y b → Same (plus a b) q → Within g t q nil → (e + e' + t) * 2 ^ h ≤ 2 ^ k * g
    → Rounds g (r + (e + e')) (add f x y) q
add-approx {x} {y} f r h k s X Y E b l =
    approx r h k s (add-rounded f x y X.real Y.real) (to E (within-plus X.near Y.near)) b l

pub sub-approx : {x y : Float} {a b q : Frac} {g e e' t : ℕ} (f : Format) (r h k : ℕ) → T (step f g r h k)
    → Rounds g e x a → Rounds g e' y b → Same (plus a (opp b)) q → Within g t q nil → (e + e' + t) * 2 ^ h ≤ 2 ^ k * g
    → Rounds g (r + (e + e')) (sub f x y) q
unfolding sub
sub-approx f r h k s X Y E b l = add-approx f r h k s X (neg-near Y) E b l

-- The first factor is exact, and |a| ≤ B.
pub mul-approx : {x y : Float} {a b q : Frac} {B g e t : ℕ} (f : Format) (r h k : ℕ) → T (step f g r h k) → Is x a
    → Mag B a → Rounds g e y b → Same (times a b) q → Within g t q nil → (B * e + t) * 2 ^ h ≤ 2 ^ k * g
    → Rounds g (r + B * e) (mul f x y) q
mul-approx {x} {y} f r h k s X M Y E b l =
    approx r h k s (mul-rounded f x y X.real Y.real)
    (to E (from (same-sym (times-same X.same (same_refl (val_pos y)))) (within-times M Y.near))) b l

-- Both factors are near: |a| ≤ B, and the second factor itself is at most C.
pub mul-approx-both : {x y : Float} {a b q : Frac} {B C g e e' t : ℕ} (f : Format) (r h k : ℕ) → T (step f g r h k)
    → Rounds g e x a → Rounds g e' y b → Mag B a → Mag C (val y) → Same (times a b) q → Within g t q nil
    → (C * e + B * e' + t) * 2 ^ h ≤ 2 ^ k * g → Rounds g (r + (C * e + B * e')) (mul f x y) q
mul-approx-both {x} {y} f r h k s X Y M N E b l =
    approx r h k s (mul-rounded f x y X.real Y.real) (to E (within-product M N X.near Y.near)) b l

-- An exact number is divided by one above zero.
pub div-approx : {x : Float} {a q : Frac} {g t : ℕ} (f : Format) (n : ℕ) (d : ℤ) (r h k : ℕ) → T (step f g r h k)
    → 0 < n → Is x a → Same (over a (n * up d) (down d)) q → Within g t q nil → t * 2 ^ h ≤ 2 ^ k * g
    → Rounds g r (div f x (fin false n d)) q
div-approx {x} {g = g} f n d r h k s N X E b l =
    rw (add-zero r) at (approx r h k s (div-rounded f x n d X.real N)
    (to E (same-within g (over-same (n * up d) (down d) (mul-pos N (up_pos d)) X.same))) b (rw zero-add l))
