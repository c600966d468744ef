-- `round` for either sign, counted in the format's smallest values: the result is `grid` of them, and an infinity from
-- `overflow` on. And the count of a value: it is a number of few digits times a power of two. Assumes nothing.
use mathlib.Core.Path.{◌≡◌, sym, ◌∙◌, subst}
use mathlib.Core.Logic.{inl, inr}
use mathlib.Core.Bool.{Bool}
use Prim.Native.Nat.{ℕ, suc, ◌*◌, ◌^◌, ◌≤◌, ◌<◌}
use native.Mathlib.Nat.{le_of_eq, lt_of_lt_of_le, lt_of_le_of_lt, mul_comm, eq_of_mul-eq-mul_right}
use lib.Dec.{T}
use lib.Pow.{pow-add}
use lib.Ieee.{Float, nan, inf, fin, Format, down, round, fits, prec, emax, low}
use lib.Ieee.Fits.{down_pos, round_is}
use lib.Ieee.Exact.{HasValue, units_val}
use lib.Ieee.Order.{drop, kept}
use lib.Ieee.Scale.{grid, overflow}
use Rattle.rounding.proofs.NumberOrders.{lt-or-ge}
use Rattle.rounding.proofs.Units.{units-over}
use Rattle.rounding.proofs.Values.{fits-units}

pub overflow-units : (f : Format) → overflow f ≡ 2 ^ suc (emax f) * 2 ^ low f
overflow-units f = pow-add 2 (low f) (suc (emax f)) ∙ mul_comm (2 ^ low f) (2 ^ suc (emax f))

pub round-over : (f : Format) (s : Bool) (num den : ℕ) → overflow f ≤ grid f num den → round f s num den ≡ inf s
round-over f s num den h =
    let n = num * 2 ^ low f in
    round_is f s num den ∙ units-over f s (kept (prec f) n den) (drop (prec f) n den) h

pub round-value : (f : Format) (s : Bool) (num den : ℕ) → grid f num den < overflow f
    → HasValue (round f s num den) s (grid f num den) (2 ^ low f)
round-value f s num den h =
    let n = num * 2 ^ low f in
    subst (λ (x : Float). HasValue x s (grid f num den) (2 ^ low f)) (sym (round_is f s num den))
    (units_val f s (kept (prec f) n den) (drop (prec f) n den) h)

pub value-one : (x : Float) (s t : Bool) (a b c : ℕ) → HasValue x s a c → HasValue x t b c → a ≡ b
value-one nan s t a b c p q = absurd p
value-one (inf u) s t a b c p q = absurd p
value-one (fin u m e) s t a b c p q = eq_of_mul-eq-mul_right (down e) (down_pos e) a b (sym p.1 ∙ q.1)

-- If the result is finite, its count is `grid`.
pub rounded-grid : (f : Format) (s : Bool) (num den R : ℕ) → HasValue (round f s num den) s R (2 ^ low f)
    → R ≡ grid f num den
rounded-grid f s num den R r = elim (lt-or-ge (grid f num den) (overflow f)) [
  | inl h ↦ value-one (round f s num den) s s R (grid f num den) (2 ^ low f) r (round-value f s num den h)
  | inr h ↦ absurd (subst (λ (x : Float). HasValue x s R (2 ^ low f)) (round-over f s num den h) r)
]

-- A value of the format has a count of at most prec digits, times a power of two, below 2 ^ (emax + 1).
pub few-digits : (f : Format) (y : Float) (t : Bool) (Y : ℕ) → T (fits f y) → HasValue y t Y (2 ^ low f)
    → (w : ℕ) × (j : ℕ) × (Y ≡ w * 2 ^ j) × (w < 2 ^ prec f) × (Y < overflow f)
few-digits f nan t Y h v = absurd v
few-digits f (inf u) t Y h v = absurd v
few-digits f (fin u m e) t Y h v =
    let z = fits-units f u m e h in
    let is : Y ≡ m * 2 ^ z.0 = value-one (fin u m e) t u Y (m * 2 ^ z.0) (2 ^ low f) v z.1 in
    (m, z.0, is, z.2, lt_of_le_of_lt (le_of_eq is) (lt_of_lt_of_le z.3 (le_of_eq (sym (overflow-units f)))))
