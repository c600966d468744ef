-- The greatest number of a list, where a number stands first, and the sum of the squares, for a list with one more
-- number behind it. Assumes nothing.
use Rattle.std.proofs.Common.{◌≡◌, ℕ, suc, ◌+◌, ◌*◌, ◌<◌, ◌≤◌, max, Bool, true, false, eqb, List, [], ◌∷◌, ◌++◌, length}
use Rattle.std.proofs.Common.{refl, ap, ◌∙◌, le_of_suc-le-suc, arith, length-append, eq-eqb, ne_eqb, eqb-true}
use borrow.Author.Tests.{eqb-false}
use Rattle.residual.specs.Report.{greatest, first_at, squares}

-- ---- one difference behind a list
pub greatest-more : (ds : List ℕ) (d : ℕ) → greatest (ds ++ (d ∷ [])) ≡ max (greatest ds) d
unfolding greatest
greatest-more [] d = omega arith
greatest-more (e ∷ ds) d = omega (arith, greatest-more ds d)

pub squares-more : (ds : List ℕ) (d : ℕ) → squares (ds ++ (d ∷ [])) ≡ squares ds + d * d
unfolding squares
squares-more [] d = omega arith
squares-more (e ∷ ds) d = omega (arith, squares-more ds d)

pub length_more : (ds : List ℕ) (d : ℕ) → length (ds ++ (d ∷ [])) ≡ length ds + 1
length_more ds d = length-append ds (d ∷ [])

-- ---- where a number stands first: by the test of the head
pub here : (g d : ℕ) (ds : List ℕ) → d ≡ g → first_at g (d ∷ ds) ≡ 0
unfolding first_at
here g d ds e = rw (eq-eqb d g e)

later : (g d : ℕ) (ds : List ℕ) → (d ≡ g → ⊥) → first_at g (d ∷ ds) ≡ suc (first_at g ds)
unfolding first_at
later g d ds e = rw (ne_eqb d g e)

nothing-greater : (d : ℕ) (ds : List ℕ) → d ≤ greatest (d ∷ ds)
unfolding greatest
nothing-greater d ds = omega arith

tail-greatest : (d : ℕ) (ds : List ℕ) → (d ≡ greatest (d ∷ ds) → ⊥) → greatest (d ∷ ds) ≡ greatest ds
unfolding greatest
tail-greatest d ds e = omega arith

pub alone : (d : ℕ) → d ≡ greatest (d ∷ [])
unfolding greatest
alone d = omega arith

-- The greatest number of a list that is not empty stands in it.
pub greatest-found : (d : ℕ) (ds : List ℕ) → first_at (greatest (d ∷ ds)) (d ∷ ds) ≤ length ds
greatest-found d [] = rw (here (greatest (d ∷ [])) d [] (alone d)) (omega arith)
greatest-found d (e ∷ ds) = go (eqb d (greatest (d ∷ e ∷ ds))) refl (greatest-found e ds)
  where
    go : (t : Bool) → eqb d (greatest (d ∷ e ∷ ds)) ≡ t → first_at (greatest (e ∷ ds)) (e ∷ ds) ≤ length ds
        → first_at (greatest (d ∷ e ∷ ds)) (d ∷ e ∷ ds) ≤ suc (length ds)
    go true h k = rw (here (greatest (d ∷ e ∷ ds)) d (e ∷ ds) (eqb-true d (greatest (d ∷ e ∷ ds)) h)) (omega arith)
    go false h k =
        let n = eqb-false d (greatest (d ∷ e ∷ ds)) h in
        rw (later (greatest (d ∷ e ∷ ds)) d (e ∷ ds) n, tail-greatest d (e ∷ ds) n) (omega arith)

-- The first place of a number in a list does not change if more is put behind the list.
pub found : (g : ℕ) (ds us : List ℕ) → first_at g ds < length ds → first_at g (ds ++ us) ≡ first_at g ds
unfolding first_at
found g [] us h = absurd (omega arith)
found g (d ∷ ds) us h = go (eqb d g) refl (λ k. found g ds us k)
  where
    go : (t : Bool) → eqb d g ≡ t → (first_at g ds < length ds → first_at g (ds ++ us) ≡ first_at g ds)
        → first_at g (d ∷ (ds ++ us)) ≡ first_at g (d ∷ ds)
    go true e k = rw e
    go false e k = rw (e, k (le_of_suc-le-suc (rw e at h)))

-- A number above all others stands first behind them.
pub above : (d : ℕ) (ds : List ℕ) → greatest ds < d → first_at d (ds ++ (d ∷ [])) ≡ length ds
unfolding greatest
above d [] h = here d d [] refl
above d (e ∷ ds) h = later d e (ds ++ (d ∷ [])) (λ p. omega arith) ∙ ap suc (above d ds (omega arith))
