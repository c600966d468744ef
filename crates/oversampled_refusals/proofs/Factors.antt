-- A factor in range is 2 or 4. Assumes nothing.
use mathlib.Core.Path.{◌≡◌, refl}
use mathlib.Core.Bool.{Bool, true, false, ◌||◌, false≢true}
use mathlib.Core.Logic.{◌⊎◌, inl, inr, ⊎_elim}
use Prim.Native.Nat.{ℕ}
use lib.Dec.{eqb, eqb→eq}
use denote.Floats.{passes}
use Rattle.filter_settings.specs.Ranges.{factor_ok}

pub two-or-four : (n : ℕ) → factor_ok n ≡ true → (n ≡ 2) ⊎ (n ≡ 4)
two-or-four n h = go (eqb n 2) (eqb n 4) refl refl h
  where
    go : (a b : Bool) → eqb n 2 ≡ a → eqb n 4 ≡ b → a || b ≡ true → (n ≡ 2) ⊎ (n ≡ 4)
    go true b p q e = inl (eqb→eq n 2 (passes _ p))
    go false true p q e = inr (eqb→eq n 4 (passes _ q))
    go false false p q e = absurd (false≢true e)

-- So its other value is 4.
pub the-other : (n : ℕ) → factor_ok n ≡ true → (n ≡ 2 → ⊥) → n ≡ 4
the-other n h not-two = ⊎_elim (λ (e : n ≡ 2). absurd (not-two e)) (λ (e : n ≡ 4). e) (two-or-four n h)
