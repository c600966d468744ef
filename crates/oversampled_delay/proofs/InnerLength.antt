-- The length of the inner ring where a setting is out of range: it is 0. Assumes nothing.
use Rattle.std.proofs.Common.{◌≡◌, ℕ, ◌+◌, ◌*◌, ◌^◌, ◌<◌, Bool, true, false, cond, ◌&&◌, refl, ⊎_elim, arith, ne_eqb}
use borrow.Author.Tests.{lt-leb}
use Rattle.ring.specs.Length.{settings_ok, length_for}
use Rattle.filter_settings.specs.Ranges.{factor_ok}
use Rattle.oversampled_refusals.proofs.Factors.{two-or-four}

abbrev pub inner_length : ℕ → ℕ → ℕ → ℕ
inner_length factor maximum margin =
    cond (factor_ok factor && settings_ok (factor * maximum) margin) (length_for (factor * maximum) margin) 0

-- A maximum above 2^24 is too long for either factor.
pub too_long : (factor maximum margin : ℕ) → 2 ^ 24 < maximum → 0 ≡ inner_length factor maximum margin
too_long factor maximum margin h = go (factor_ok factor) refl
  where
    out : factor_ok factor ≡ true → settings_ok (factor * maximum) margin ≡ false
    out f =
        ⊎_elim
        (λ (e : factor ≡ 2). rw e (lt-leb (2 * maximum + 2 * margin + 8) (2 ^ 24) (omega arith)))
        (λ (e : factor ≡ 4). rw e (lt-leb (4 * maximum + 2 * margin + 8) (2 ^ 24) (omega arith)))
        (two-or-four factor f)

    go : (f : Bool) → factor_ok factor ≡ f
        → 0 ≡ cond (f && settings_ok (factor * maximum) margin) (length_for (factor * maximum) margin) 0
    go true e = rw (out e)
    go false e = refl

pub no-factor : (factor maximum margin : ℕ) → (factor ≡ 2 → ⊥) → (factor ≡ 4 → ⊥)
    → 0 ≡ inner_length factor maximum margin
no-factor factor maximum margin a b = rw (ne_eqb factor 2 a, ne_eqb factor 4 b)
