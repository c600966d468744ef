-- K6. Farrow8's fractions are Lagrange's basis for the nodes -3 to 4: one computed test of the whole table, and the law
-- that turns it into the rule for each entry. Assumes nothing.
use mathlib.Core.Path.{◌≡◌, refl, ap, ◌∙◌}
use mathlib.Core.Bool.{Bool, true, false, ◌&&◌, cond}
use mathlib.Core.List.{List, []}
use mathlib.Core.Logic.{⊎_elim}
use Prim.Native.Nat.{ℕ, zero, suc, ◌<◌}
use native.Mathlib.Nat.{eq-or-lt_of_le, le_of_suc-le-suc}
use native.Mathlib.Omega.{arith}
use borrow.Author.Tests.{eqb-true, ltb-true}
use lib.Dec.{eqb, ltb}
use lib.IntN.{ℤ, pos, negsuc, nat_abs, ◌*ℤ◌}
use lib.ListN.{get_or}
use lib.Ieee.{Float, nan, fin, div, of_int}
use Rattle.farrow8_powers.specs.Table.{eight, nums, dens, num_at, den_at, rounded_at, quotients, column_in}
use Rattle.farrow8_powers.specs.Basis.{node, product, distances, coefficient, value_at, Entry, Full}

both : (a b : Bool) → (a && b) ≡ true → (a ≡ true) × (b ≡ true)
both true b e = (refl, e)
both false b e = let z : ◌≡◌ {A = ℕ} 0 1 = cc in absurd (omega arith)

-- ---- a test of each of n numbers
unfoldable every : (ℕ → Bool) → ℕ → Bool
every test zero = true
every test (suc n) = test n && every test n

each : (test : ℕ → Bool) (n : ℕ) → every test n ≡ true → (k : ℕ) → k < n → test k ≡ true
unfolding every
each test zero e k h = absurd (omega arith)
each test (suc n) e k h =
    let b = both (test n) (every test n) e in
    ⊎_elim (λ (i : k ≡ n). ap test i ∙ b.0) (λ (l : k < n). each test n b.1 k l)
    (eq-or-lt_of_le (le_of_suc-le-suc h))

each-of-eight : (test : ℕ → ℕ → Bool) → every (λ r. every (test r) 8) 8 ≡ true
    → (r k : ℕ) → r < 8 → k < 8 → test r k ≡ true
each-of-eight test e r k h l = each (test r) 8 (each (λ r. every (test r) 8) 8 e r h) k l

unfoldable eq_z : ℤ → ℤ → Bool
eq_z (pos a) (pos b) = eqb a b
eq_z (pos a) (negsuc b) = false
eq_z (negsuc a) (pos b) = false
eq_z (negsuc a) (negsuc b) = eqb a b

eq_z-true : (a b : ℤ) → eq_z a b ≡ true → a ≡ b
unfolding eq_z
eq_z-true (pos a) (pos b) e = ap pos (eqb-true a b e)
eq_z-true (pos a) (negsuc b) e = let z : ◌≡◌ {A = ℕ} 0 1 = cc in absurd (omega arith)
eq_z-true (negsuc a) (pos b) e = let z : ◌≡◌ {A = ℕ} 0 1 = cc in absurd (omega arith)
eq_z-true (negsuc a) (negsuc b) e = ap negsuc (eqb-true a b e)

-- ---- an element of eight
element : {A : Type 0} (f : ℕ → A) (k : ℕ) (d : A) → k < 8 → get_or (eight f) k d ≡ f k
element f zero d h = refl
element f (suc zero) d h = refl
element f (suc (suc zero)) d h = refl
element f (suc (suc (suc zero))) d h = refl
element f (suc (suc (suc (suc zero)))) d h = refl
element f (suc (suc (suc (suc (suc zero))))) d h = refl
element f (suc (suc (suc (suc (suc (suc zero)))))) d h = refl
element f (suc (suc (suc (suc (suc (suc (suc zero))))))) d h = refl
element f (suc (suc (suc (suc (suc (suc (suc (suc k)))))))) d h = absurd (omega arith)

-- ---- the table
passes : ℕ → ℕ → Bool
passes r p =
    ltb 0 (den_at r p)
    && (ltb 0 (nat_abs (distances r 8)) && eq_z (num_at r p *ℤ distances r 8) (coefficient r p *ℤ pos (den_at r p)))

all_pass : every (λ r. every (passes r) 8) 8 ≡ true
unfolding every eq_z passes product distances
all_pass = refl

pub basis : (r p : ℕ) → r < 8 → p < 8 → Entry r p
unfolding quotients passes
basis r p h l =
    let a = both _ _ (each-of-eight passes all_pass r p h l) in
    let b = both _ _ a.1 in
    record {
      proper = ltb-true _ _ a.0;
      distinct = ltb-true _ _ b.0;
      same = eq_z-true _ _ b.1;
      rounded =
          ap (λ (row : List Float). get_or row p nan) (element (λ r. eight (rounded_at r)) r [] h)
          ∙ element (rounded_at r) p nan l;
    }

pub full : Full nums × Full dens × Full quotients
unfolding quotients
full = (refl, refl, refl)

-- ---- these polynomials are the basis: each is 0 at every node but its own
vanishes : ℕ → ℕ → Bool
vanishes r i = eq_z (value_at (node i) (product r 8)) (cond (eqb i r) (distances r 8) (pos 0))

all-vanish : every (λ r. every (vanishes r) 8) 8 ≡ true
unfolding every eq_z vanishes value_at product distances
all-vanish = refl

pub at-nodes : (r i : ℕ) → r < 8 → i < 8 → value_at (node i) (product r 8) ≡ cond (eqb i r) (distances r 8) (pos 0)
unfolding vanishes
at-nodes r i h l = eq_z-true _ _ (each-of-eight vanishes all-vanish r i h l)

-- Column 0: the value of the polynomial at the integer is the sample there.
pub centre : column_in quotients 0 ≡ eight (λ r. cond (eqb r 3) (fin false 1 (pos 0)) (fin false 0 (pos 0)))
unfolding quotients div of_int
centre = refl
