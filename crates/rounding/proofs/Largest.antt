-- The largest finite value of a format. It is a value, none is larger, and the midpoint above it lies half way to 2 ^
-- (emax + 1), the first number beyond it. Assumes nothing.
use mathlib.Core.Path.{◌≡◌, refl, sym, ap, ◌∙◌}
use mathlib.Core.Logic.{dite}
use mathlib.Core.Bool.{Bool, false}
use Prim.Native.Nat.{ℕ, suc, ◌+◌, ◌-◌, ◌*◌, ◌^◌, ◌≤◌, ◌<◌}
use native.Mathlib.Nat.{le_trans, le_of_eq, lt_of_lt_of_le, lt_of_le_of_lt, mul_assoc, mul-le-mul_right}
use native.Mathlib.Nat.{mul-le-mul_left, lt_of_mul-lt-mul_right, suc-mul, two-pow-succ}
use native.Mathlib.Decide.{dec_le}
use native.Mathlib.Omega.{arith}
use lib.IntN.{pos}
use lib.Dec.{T, lit≤}
use lib.Pow.{pow-add, pow_mono, suc_ones, le_ones}
use lib.Ieee.{Float, fin, Format, binary32, binary64, fits, prec, emax, low}
use lib.Ieee.Digits.{back}
use lib.Ieee.Exact.{HasValue}
use lib.Ieee.Scale.{overflow}
use Rattle.rounding.specs.Nearest.{largest, limit}
use Rattle.rounding.proofs.Grid.{few-digits}

room : (f : Format) → prec f ≤ emax f
room binary32 = lit≤ tt
room binary64 = lit≤ tt

pub above-largest : (f : Format) → largest f + 2 ^ (suc (emax f) - prec f) ≡ 2 ^ suc (emax f)
above-largest f =
    let x = suc (emax f) - prec f in
    let r = room f in
    sym (suc-mul (2 ^ prec f - 1) (2 ^ x))
    ∙ ap (λ (z : ℕ). z * 2 ^ x) (suc_ones (prec f))
    ∙ sym (pow-add 2 (prec f) x)
    ∙ ap (λ (z : ℕ). 2 ^ z) (omega arith)

half-unit : (f : Format) → 2 ^ (suc (emax f) - prec f) ≡ 2 ^ (emax f - prec f) + 2 ^ (emax f - prec f)
half-unit f =
    let r = room f in
    ap (λ (z : ℕ). 2 ^ z) (omega arith) ∙ two-pow-succ (emax f - prec f)

pub limit_is : (f : Format) → limit f ≡ 2 ^ suc (emax f) - 2 ^ (emax f - prec f)
limit_is f = omega (arith, above-largest f, half-unit f)

pub limit-middle : (f : Format) → limit f * 2 ≡ largest f + 2 ^ suc (emax f)
limit-middle f = omega (arith, above-largest f, half-unit f)

abbrev top-value : Format → Float
top-value f = fin false (2 ^ prec f - 1) (pos (suc (emax f) - prec f))

top-fits : (f : Format) → T (fits f (top-value f))
unfolding fits
top-fits binary32 = tt
top-fits binary64 = tt

pub largest-held : (f : Format) → (x : Float) × T (fits f x) × HasValue x false (largest f) 1
largest-held f = (top-value f, top-fits f, (refl, refl))

-- The largest unit is 2 ^ place of the smallest values.
abbrev pub place : Format → ℕ
place f = suc (emax f) - prec f + low f

pub largest-units : (f : Format) → largest f * 2 ^ low f ≡ (2 ^ prec f - 1) * 2 ^ place f
largest-units f =
    mul_assoc (2 ^ prec f - 1) (2 ^ (suc (emax f) - prec f)) (2 ^ low f)
    ∙ ap (λ (z : ℕ). (2 ^ prec f - 1) * z) (sym (pow-add 2 (suc (emax f) - prec f) (low f)))

few-most : (f : Format) (w j : ℕ) → w < 2 ^ prec f → w * 2 ^ j < overflow f → w * 2 ^ j ≤ largest f * 2 ^ low f
few-most f w j few fine =
    let r = room f in
    let c = place f in
    rw (largest-units f) (dite (dec_le j c)
    (λ l. le_trans (mul-le-mul_right (2 ^ j) (le_ones (prec f) few)) (mul-le-mul_left (2 ^ prec f - 1) (pow_mono l)))
    (λ g.
    let e : w * 2 ^ j ≡ w * 2 ^ (j - c) * 2 ^ c =
    ap (λ (z : ℕ). w * 2 ^ z) (sym (back j c (omega arith)))
    ∙ ap (λ (z : ℕ). w * z) (pow-add 2 (j - c) c)
    ∙ sym (mul_assoc w (2 ^ (j - c)) (2 ^ c)) in
    let o : overflow f ≡ 2 ^ prec f * 2 ^ c = ap (λ (z : ℕ). 2 ^ z) (omega arith) ∙ pow-add 2 (prec f) c in
    le_trans (le_of_eq e) (mul-le-mul_right (2 ^ c) (le_ones (prec f)
    (lt_of_mul-lt-mul_right (2 ^ c) (lt_of_le_of_lt (le_of_eq (sym e)) (lt_of_lt_of_le fine (le_of_eq o))))))))

pub largest-most : (f : Format) (y : Float) (t : Bool) (Y : ℕ) → T (fits f y) → HasValue y t Y (2 ^ low f)
    → Y ≤ largest f * 2 ^ low f
largest-most f y t Y held v =
    let z = few-digits f y t Y held v in
    le_trans (le_of_eq z.2) (few-most f z.0 z.1 z.3 (lt_of_le_of_lt (le_of_eq (sym z.2)) z.4))
