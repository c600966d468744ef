-- K4, K5. The three operations of IEEE 754 that Rattle lacks: each is the exact value, rounded once by
-- `lib.Ieee.round`, for any format. Definitions only.
use Rattle.std.specs.Prelude.{false, cond, ℕ, zero, suc, ◌+◌, ◌*◌, ◌/◌, ◌^◌, leb, eqb}
use lib.Ieee.{Float, nan, inf, fin, Format, binary32, low, unlike, up, down, size, round, sum, add, mul}

-- convert_format, to f32: the nearest value, a tie to the one whose last digit is even (the law `narrowed-nearest`).
unfoldable pub narrowed : Float → Float
narrowed nan = nan
narrowed (inf s) = inf s
narrowed (fin s m e) = round binary32 s (m * up e) (down e)

-- fused_multiply_add: x * y + z, rounded once. With an infinity nothing is rounded, so `mul` and `add` say what it is;
-- `sum` says the sign of an exact zero. The laws `fused-once` and `fused-nearest` say in IEEE 754's words what this is.
unfoldable pub fused : Format → Float → Float → Float → Float
unfolding sum add mul
fused f nan y z = nan
fused f (inf s) y z = add f (mul f (inf s) y) z
fused f (fin s m e) nan z = nan
fused f (fin s m e) (inf t) z = add f (mul f (fin s m e) (inf t)) z
fused f (fin s m e) (fin t n d) nan = nan
fused f (fin s m e) (fin t n d) (inf u) = inf u
fused f (fin s m e) (fin t n d) (fin u k g) =
    sum f (unlike s t) (m * up e * (n * up d) * down g) u (k * up g * (down e * down d)) (down e * down d * down g)

-- The largest s with s * s ≤ n, for an n of at most k digits to the base 4. It is twice the root of n / 4, or one more.
unfoldable pub digits_root : ℕ → ℕ → ℕ
digits_root zero n = 0
digits_root (suc k) n = let r = 2 * digits_root k (n / 4) in cond (leb ((r + 1) * (r + 1)) n) (r + 1) r

unfoldable pub whole_root : ℕ → ℕ
unfolding digits_root
whole_root n = digits_root (size n) n

-- Says whether s is exactly the root of n (0) or the root lies above s (1).
abbrev pub more : ℕ → ℕ → ℕ
more s n = cond (eqb (s * s) n) 0 1

-- The value nearest to the square root of n / (4 * 4 ^ low). Here s counts halves of the format's smallest value: every
-- value of the format, and every midpoint of two, is a whole number of such halves, so a root between s and s + 1
-- rounds as s + 1 / 2 does.
unfoldable pub rounded_root : Format → ℕ → Float
unfolding round whole_root
rounded_root f n = let s = whole_root n in round f false (2 * s + more s n) (4 * 2 ^ low f)

-- square_root: a zero is its own root and keeps its sign; a number below zero has no root. The quotient by down e
-- leaves no remainder in a format's value. The law `root-is-nearest` of `square_root` says in IEEE 754's words what
-- this is: no value of the format lies nearer to the root.
unfoldable pub root : Format → Float → Float
unfolding rounded_root
root f nan = nan
root f (inf s) = cond s nan (inf false)
root f (fin s zero e) = fin s zero e
root f (fin s (suc m) e) = cond s nan (rounded_root f (suc m * up e * (4 * 2 ^ low f * 2 ^ low f) / down e))
