-- IEEE 754's words for square_root: of all values of the format, `root` gives the one nearest to the square root.
-- Counted in the smallest value let x be X, its root R and any other value Y. Then the square of twice the square root
-- of x is X * 4 * 2 ^ low, and it lies on R's side of the square of R + Y. Assumes nothing.
use Rattle.std.proofs.Common.{◌≡◌, ℕ, ◌+◌, ◌*◌, ◌/◌, ◌^◌, ◌<◌, ◌≤◌, false, T, pos, sym, refl, ap, ◌∙◌, subst, le_of_eq}
use Rattle.std.proofs.Common.{lt_of_lt_of_le, lt_of_le_of_lt, zero-lt-suc, mul_assoc, lt_of_mul-lt-mul_right}
use Rattle.std.proofs.Common.{mul-lt-mul_of_pos_right, mul-pos, mul_right_comm, le_of_mul-le-mul_right, mul-div_cancel}
use Rattle.std.proofs.Common.{arith, pow_pos}
use mathlib.Core.Logic.{dite}
use native.Mathlib.Decide.{dec_le, dec_lt}
use lib.Ieee.{Float, nan, inf, fin, Format, binary64, down, low, round, fits, le, lt, eq}
use lib.Ieee.Fits.{round_is}
use lib.Ieee.Exact.{HasValue}
use lib.Ieee.Order.{drop, kept, round_mono}
use lib.Ieee.Scale.{grid, overflow, round_val}
use Rattle.rounding.specs.Operations.{whole_root, more, rounded_root, root}
use Rattle.rounding.proofs.Units.{units-over}
use Rattle.rounding.proofs.Values.{fits-parts}
use Rattle.rounding.proofs.Nearest.{round-nearest}
use Rattle.square_root.proofs.Squares.{ring, sq-lt-back, whole-root}
use Rattle.square_root.proofs.WholeRoot.{above, under, more-le}
use Rattle.square_root.proofs.PackedRoot.{root-at}

in-units : (f : Format) (x : Float) (X : ℕ) → 0 < X → HasValue x false X (2 ^ low f)
    → root f x ≡ rounded_root f (X * (4 * 2 ^ low f))
in-units f x X P h =
    root-at f x X (2 ^ low f) P (pow_pos (low f)) h
    ∙ ap (λ (z : ℕ). rounded_root f (z / 2 ^ low f)) (sym (mul_assoc X (4 * 2 ^ low f) (2 ^ low f)))
    ∙ ap (rounded_root f) (mul-div_cancel (X * (4 * 2 ^ low f)) (pow_pos (low f)))

-- A comparison with twice the whole root, or one more if it is not exact, holds for twice the root.
sides : (n s Z L : ℕ) → 0 < L → s * s ≤ n → n < (s + 1) * (s + 1)
    → ((2 * s + more s n) * L * 2 ≤ Z * (4 * L) → n ≤ Z * Z) × (Z * (4 * L) ≤ (2 * s + more s n) * L * 2 → Z * Z ≤ n)
sides n s Z L P lo hi =
    let t = 2 * s + more s n in
    let e : Z * (4 * L) ≡ 2 * Z * L * 2 = simp ring (omega arith) in (
      (λ (h : t * L * 2 ≤ Z * (4 * L)).
          let l : t ≤ 2 * Z = le_of_mul-le-mul_right {k = L} (omega arith) P in
          dite (dec_le n (Z * Z)) (λ y. y) (λ g.
          let a : 2 * Z < t = above n s lo hi Z (omega arith) in
          absurd (omega arith))),
      (λ (h : Z * (4 * L) ≤ t * L * 2).
          let l : 2 * Z ≤ t = le_of_mul-le-mul_right {k = L} (omega arith) P in
          dite (dec_le (Z * Z) n) (λ y. y) (λ g.
          let a : t < 2 * Z = under n s lo hi Z (omega arith) in
          absurd (omega arith))),
    )

rounded-nearest : (f : Format) (n R Y : ℕ) (y : Float) → HasValue (rounded_root f n) false R (2 ^ low f) → T (fits f y)
    → HasValue y false Y (2 ^ low f)
    → (R < Y → n ≤ (R + Y) * (R + Y)) × (Y < R → (R + Y) * (R + Y) ≤ n)
unfolding rounded_root
rounded-nearest f n R Y y r held v =
    let s = whole_root n in
    let w = whole-root n in
    let near =
    round-nearest f false false (2 * s + more s n) (4 * 2 ^ low f) R Y y
    (mul-pos (zero-lt-suc 3) (pow_pos (low f))) r held v in
    let side = sides n s (R + Y) (2 ^ low f) (pow_pos (low f)) w.0 w.1 in
    ((λ h. side.0 (near.0 h)), (λ h. side.1 (near.1 h)))

pub root-nearest : (f : Format) (x y : Float) (X R Y : ℕ) → T (fits f y) → 0 < X
    → HasValue x false X (2 ^ low f) → HasValue (root f x) false R (2 ^ low f) → HasValue y false Y (2 ^ low f)
    → (R < Y → X * (4 * 2 ^ low f) ≤ (R + Y) * (R + Y)) × (Y < R → (R + Y) * (R + Y) ≤ X * (4 * 2 ^ low f))
root-nearest f x y X R Y held P vx vr vy =
    rounded-nearest f (X * (4 * 2 ^ low f)) R Y y
    (subst (λ (v : Float). HasValue v false R (2 ^ low f)) (in-units f x X P vx) vr) held vy

-- ---- in `f64` the root of a finite value is finite: it is at most 2 ^ 512
at_most : round binary64 false (2 ^ 512) 1 ≡ fin false 1 (pos 512)
unfolding round
at_most = refl

infinite-above : T (le (inf false) (fin false 1 (pos 512))) → ⊥
unfolding le lt eq
infinite-above t = t

finite-root : (n : ℕ) → n < 2 ^ 1587 * 2 ^ 1587 → (R : ℕ) × HasValue (rounded_root binary64 n) false R (2 ^ 1074)
unfolding rounded_root
finite-root n h =
    let s = whole_root n in
    let w = whole-root n in
    let t = 2 * s + more s n in
    let d = 4 * 2 ^ 1074 in
    let below : T (le (round binary64 false t d) (fin false 1 (pos 512))) =
    subst (λ (x : Float). T (le (round binary64 false t d) x)) at_most
    (round_mono binary64 t d (2 ^ 512) 1 (pow_pos 1076) (zero-lt-suc 0)
    (room s (more s n) (2 ^ 1587) (sq-lt-back s (2 ^ 1587) (lt_of_le_of_lt w.0 h))
    (more-le n s w.0 w.1))) in
    dite (dec_lt (grid binary64 t d) (overflow binary64))
    (λ l. (grid binary64 t d, round_val binary64 t d l))
    (λ g. absurd (infinite-above (subst (λ (x : Float). T (le x (fin false 1 (pos 512)))) (round_is binary64 false t d
    ∙ units-over binary64 false (kept 53 (t * 2 ^ 1074) d) (drop 53 (t * 2 ^ 1074) d)
    (not-lt→le (grid binary64 t d) (overflow binary64) g)) below)))
  where
    room : (s t B : ℕ) → s < B → t ≤ 1 → (2 * s + t) * 1 ≤ 2 * B
    room s t B a b = omega arith

    not-lt→le : (a b : ℕ) → (a < b → ⊥) → b ≤ a
    not-lt→le a b h = omega arith

in-range : (x : Float) (X : ℕ) → T (fits binary64 x) → HasValue x false X (2 ^ 1074) → X < 2 ^ 1024 * 2 ^ 1074
in-range nan X h v = absurd v
in-range (inf t) X h v = absurd v
in-range (fin t m e) X h v =
    lt_of_mul-lt-mul_right (down e) (lt_of_le_of_lt (le_of_eq (sym v.1))
    (lt_of_lt_of_le (mul-lt-mul_of_pos_right (fits-parts binary64 t m e h).2 (pow_pos 1074))
    (le_of_eq (mul_right_comm (2 ^ 1024) (down e) (2 ^ 1074)))))

-- The root of a positive f64 is a value, and of all values of the format none lies nearer to the square root.
pub root-is-nearest : (x : Float) (X : ℕ) → T (fits binary64 x) → 0 < X → HasValue x false X (2 ^ 1074)
    → (R : ℕ) × HasValue (root binary64 x) false R (2 ^ 1074)
    × ((y : Float) (Y : ℕ) → T (fits binary64 y) → HasValue y false Y (2 ^ 1074)
    → (R < Y → X * (4 * 2 ^ 1074) ≤ (R + Y) * (R + Y)) × (Y < R → (R + Y) * (R + Y) ≤ X * (4 * 2 ^ 1074)))
root-is-nearest x X held P v =
    let z = finite-root (X * (4 * 2 ^ 1074)) (mul-lt-mul_of_pos_right (in-range x X held v) (pow_pos 1076)) in
    let r : HasValue (root binary64 x) false z.0 (2 ^ 1074) =
    subst (λ (w : Float). HasValue w false z.0 (2 ^ 1074)) (sym (in-units binary64 x X P v)) z.1 in
    (z.0, r, λ y Y k w. root-nearest binary64 x y X z.0 Y k P v r w)
