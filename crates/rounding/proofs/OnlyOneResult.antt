-- `RoundedOnce` determines the result. Two values that are both nearest would be neighbours, and one of them odd. A
-- value A as near as the result is a whole number v of the result's unit, next to the even q, and so odd. An even last
-- digit of A would stand at a finer place, where A has a digit too many. Assumes nothing.
use mathlib.Core.Path.{◌≡◌, sym, ap, ◌∙◌, subst}
use mathlib.Core.Logic.{inl, inr, dite}
use mathlib.Core.Bool.{Bool}
use Prim.Native.Nat.{ℕ, suc, ◌+◌, ◌-◌, ◌*◌, ◌%◌, ◌^◌, ◌≤◌, ◌<◌}
use native.Mathlib.Nat.{le_trans, le_of_eq, le_antisymm, eq-zero-or-pos, mul-pos, mul-le-mul_left}
use native.Mathlib.Nat.{le_of_mul-le-mul_right, add-mul, suc-mul}
use native.Mathlib.Decide.{ℕ_discrete}
use native.Mathlib.Omega.{arith}
use lib.Pow.{pow_pos}
use lib.Ieee.{Float, Format, round, prec, low, hid}
use lib.Ieee.Fits.{two}
use lib.Ieee.Exact.{HasValue}
use lib.Ieee.Order.{drop, kept}
use lib.Ieee.Scale.{grid}
use Rattle.rounding.specs.Nearest.{limit, LastEven, Nearest, RoundedOnce}
use Rattle.rounding.proofs.NumberOrders.{lt-or-ge}
use Rattle.rounding.proofs.Distances.{as-near, apart-like}
use Rattle.rounding.proofs.WithinHalfDivisor.{closest-near}
use Rattle.rounding.proofs.DroppedDigits.{prec-pos}
use Rattle.rounding.proofs.Units.{twice_hid}
use Rattle.rounding.proofs.RoundsToItself.{value-unique}
use Rattle.rounding.proofs.Parity.{even-reaches}
use Rattle.rounding.proofs.Grid.{few-digits, rounded-grid, value-one}
use Rattle.rounding.proofs.Nearest.{least, both}
use Rattle.rounding.proofs.Ties.{tied, grid-even}
use Rattle.rounding.proofs.Overflow.{round-infinite}
use Rattle.rounding.proofs.NearestTiesToEven.{round-once}

-- q is within half a unit of the middle of q and v, so they are neighbours.
beside-even : (a u q v : ℕ) → 0 < u → (q * u * 2 ≤ a * 2 + u) × (a * 2 ≤ q * u * 2 + u) → a * 2 ≡ (q + v) * u
    → (q ≡ v → ⊥) → q % 2 ≡ 0 → v % 2 ≡ 1
beside-even a u q v U c t ne even =
    let s : (q + v) * u ≡ q * u + v * u = add-mul q v u in
    let x : q ≤ suc v = le_of_mul-le-mul_right {k = u} (omega (arith, suc-mul v u, c.0)) U in
    let y : v ≤ suc q = le_of_mul-le-mul_right {k = u} (omega (arith, suc-mul q u, c.1)) U in
    elim (lt-or-ge q v) [
      | inl h ↦ omega arith
      | inr g ↦ elim (lt-or-ge v q) [ inl h ↦ omega arith | inr h ↦ absurd (ne (le_antisymm h g)) ]
    ]

module _ (f : Format) (num den : ℕ) (D : 0 < den) where
  abbrev n : ℕ
  n = num * 2 ^ low f

  abbrev k : ℕ
  k = drop (prec f) n den

  abbrev q : ℕ
  q = kept (prec f) n den

  no_tie : (A w j : ℕ) → A ≡ w * 2 ^ j → w < 2 ^ prec f → (grid f num den ≡ A → ⊥) → n * 2 ≡ (grid f num den + A) * den
      → LastEven f A → ⊥
  no_tie A w j e few ne tie last =
      let (v, is) = tied f num den D A w j e few tie in
      let u = den * 2 ^ k in
      let U = mul-pos D (pow_pos k) in
      let t : n * 2 ≡ (q + v) * u = tie ∙ ap (λ (x : ℕ). (grid f num den + x) * den) is ∙ both f num den D v in
      let odd : v % 2 ≡ 1 =
      beside-even n u q v U (closest-near n u U) t (λ c. ne (ap (λ (x : ℕ). x * 2 ^ k) c ∙ sym is))
      (grid-even f num den D A w j e few ne tie) in
      let r : v * 2 ≤ last.q = even-reaches last.q last.k v k last.even odd (sym last.is ∙ is) in
      elim (eq-zero-or-pos k) [
        | inl z ↦
            let x : v * 2 ^ k ≡ v * 2 ^ 0 = ap (λ (i : ℕ). v * 2 ^ i) z in
            let y : last.q * 1 ≤ last.q * 2 ^ last.k = mul-le-mul_left last.q (pow_pos last.k) in
            omega (arith, last.is)
        | inr K ↦
            let P = two f in
            let H : 0 < prec f - 1 = omega arith in
            let g : q + hid f ≤ q + v =
            le_of_mul-le-mul_right {k = u} (le_trans (least f num den D K) (le_of_eq t)) U in
            omega (arith, last.few, twice_hid (prec f) (prec-pos f), twice_hid (prec f - 1) H)
      ]

pub round-only : (f : Format) (s : Bool) (num den : ℕ) (x : Float) → 0 < den → RoundedOnce f s num den x
    → x ≡ round f s num den
round-only f s num den x D h = elim (lt-or-ge num (limit f * den)) [
  | inr g ↦ h.above g ∙ sym ((round-infinite f num den D s).0 g)
  | inl l ↦ only-nearest (h.below l) ((round-once f s num den D).below l)
]
  where
    r : Float
    r = round f s num den

    l : ℕ
    l = 2 ^ low f

    only-nearest : Nearest f s num den x → Nearest f s num den r → x ≡ r
    only-nearest N M = dite (ℕ_discrete M.size N.size)
        (λ e. value-unique f x r s N.size N.held M.held N.value (rw e at M.value))
        (λ ne.
        let level =
        le_antisymm (N.nearest r s M.size M.held M.value)
        (M.nearest x s N.size N.held N.value) in
        let z = few-digits f x s N.size N.held N.value in
        let is : M.size ≡ grid f num den = rounded-grid f s num den M.size M.value in
        let tie =
        as-near (num * l) den M.size N.size D ne
        (apart-like s (num * l) (M.size * den) (N.size * den) (sym level)) in
        let other : r ≡ x → ⊥ =
        λ e. ne
        (value-one x s s M.size N.size l (subst (λ (y : Float). HasValue y s M.size l) e M.value)
        N.value) in
        absurd (no_tie f num den D N.size z.0 z.1 z.2 z.3 (λ e. ne (is ∙ e)) (rw is at tie)
        (N.even r s M.size M.held M.value other level)))
