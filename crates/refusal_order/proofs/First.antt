-- N9, D1b. The number that is given is that of the first line whose test fails, and none is given exactly if all tests
-- hold. This is shown for any table, also one in which a number stands twice, by going through its lines. Assumes
-- nothing.
use mathlib.Core.Path.{◌≡◌, refl, sym, ◌∙◌}
use mathlib.Core.Logic.{◌↔◌}
use mathlib.Core.Bool.{Bool, true, false, true≢false, ◌&&◌}
use mathlib.Core.List.{List, [], ◌∷◌}
use Prim.Native.Nat.{ℕ, zero, suc, ◌+◌, ◌<◌}
use native.Mathlib.Omega.{arith}
use borrow.Author.Tests.{eqb-true}
use lib.Dec.{eqb}
use Rattle.refusal_order.specs.Order.{Test, ◌unless◌, first_of, test_of, number_of, line_of, First, numbered, counted}

-- A first failing line stays the first if a line that holds is put in front.
later : (n : ℕ) {ts : List Test} {k : ℕ} → First ts k → First (n unless true ∷ ts) (suc k)
later n {ts} {k} w = record { fails = w.fails; before = passed }
  where
    passed : (j : ℕ) → j < suc k → test_of (line_of (n unless true ∷ ts) j) ≡ true
    passed zero h = refl
    passed (suc j) h = w.before j (omega arith)

sooner : (n : ℕ) {ts : List Test} {k : ℕ} → First (n unless true ∷ ts) (suc k) → First ts k
sooner n w = record { fails = w.fails; before = λ j h. w.before (suc j) (omega arith) }

-- The line that fails first has its number given.
pub first-given : (ts : List Test) (k : ℕ) → First ts k → first_of ts ≡ number_of (line_of ts k)
first-given [] k w = absurd (true≢false w.fails)
first-given ((n unless false) ∷ ts) zero w = refl
first-given ((n unless false) ∷ ts) (suc k) w = absurd (true≢false (sym (w.before 0 (omega arith))))
first-given ((n unless true) ∷ ts) zero w = absurd (true≢false w.fails)
first-given ((n unless true) ∷ ts) (suc k) w = first-given ts k (sooner n w)

-- A number that is given is that of a line that fails first.
pub given-first : (ts : List Test) (n : ℕ) → first_of ts ≡ suc n
    → (k : ℕ) × (First ts k × number_of (line_of ts k) ≡ suc n)
given-first [] n e = absurd (omega arith)
given-first ((m unless false) ∷ ts) n e = (0, (record { fails = refl; before = λ j h. absurd (omega arith) }, e))
given-first ((m unless true) ∷ ts) n e = let w = given-first ts n e in (suc w.0, (later m w.1.0, w.1.1))

-- N9. A number is given exactly when some line of that number is the first whose test fails.
pub exactly : (ts : List Test) (n : ℕ) → first_of ts
    ≡ suc n ↔ ((k : ℕ) × (First ts k × number_of (line_of ts k) ≡ suc n))
exactly ts n = (given-first ts n, λ w. first-given ts w.0 w.1.0 ∙ w.1.1)

all_hold : (ts : List Test) → numbered ts ≡ true → first_of ts ≡ 0 → (k : ℕ) → test_of (line_of ts k) ≡ true
all_hold [] h e k = refl
all_hold ((zero unless t) ∷ ts) h e k = absurd (true≢false (sym h))
all_hold ((suc n unless false) ∷ ts) h e k = absurd (omega arith)
all_hold ((suc n unless true) ∷ ts) h e zero = refl
all_hold ((suc n unless true) ∷ ts) h e (suc k) = all_hold ts h e k

hold-all : (ts : List Test) → ((k : ℕ) → test_of (line_of ts k) ≡ true) → first_of ts ≡ 0
hold-all [] h = refl
hold-all ((n unless false) ∷ ts) h = absurd (true≢false (sym (h 0)))
hold-all ((n unless true) ∷ ts) h = hold-all ts (λ k. h (suc k))

-- None is given exactly if every test holds, in a table whose numbers are above 0.
pub none : (ts : List Test) → numbered ts ≡ true → first_of ts ≡ 0 ↔ ((k : ℕ) → test_of (line_of ts k) ≡ true)
none ts h = (all_hold ts h, hold-all ts)

both_hold : (a b : Bool) → a && b ≡ true → (a ≡ true) × (b ≡ true)
both_hold true b h = (refl, h)
both_hold false b h = absurd (true≢false (sym h))

-- If the numbers are counted from n on, the line that fails first has the number n plus its place.
counted-number : (n : ℕ) (ts : List Test) → counted n ts ≡ true → (k : ℕ) → First ts k
    → number_of (line_of ts k) ≡ n + k
counted-number n [] c k w = absurd (true≢false w.fails)
counted-number n ((m unless t) ∷ ts) c zero w =
    omega (arith, eqb-true m n (both_hold (eqb m n) (counted (suc n) ts) c).0)
counted-number n ((m unless false) ∷ ts) c (suc k) w = absurd (true≢false (sym (w.before 0 (omega arith))))
counted-number n ((m unless true) ∷ ts) c (suc k) w =
    counted-number (suc n) ts (both_hold (eqb m n) (counted (suc n) ts) c).1 k (sooner m w) ∙ omega arith

-- N9. So the number k + 1 is given exactly if test k is the first that fails.
pub lowest : (ts : List Test) → counted 1 ts ≡ true → (k : ℕ) → first_of ts ≡ suc k ↔ First ts k
lowest ts c k = (given, λ w. first-given ts k w ∙ counted-number 1 ts c k w ∙ omega arith)
  where
    given : first_of ts ≡ suc k → First ts k
    given e = let w = given-first ts k e in
        let same : w.0 ≡ k = omega (arith, counted-number 1 ts c w.0 w.1.0, w.1.1) in
        rw same at w.1.0
