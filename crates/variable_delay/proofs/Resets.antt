-- A reset, from the contracts of the calls within it: it is refused and the ring stays as it was, or it begins anew
-- over a cleared ring. It is stated without a width, so that both widths cite it. Assumes nothing.
use mathlib.Core.Path.{◌≡◌, refl, sym, ◌∙◌}
use mathlib.Core.Bool.{Bool, true, not, cond}
use mathlib.Core.List.{List}
use Prim.Native.Nat.{ℕ, ◌^◌}
use lib.Dec.{eqb, leb}
use lib.ListN.{length}
use lib.Ieee.{Float}
use Rattle.answer.specs.Refusals.{lowest_of}
use Rattle.ring.specs.Length.{settings_ok, length_for, zeros}
use Rattle.variable_delay.specs.Opening.{fresh, reset_verdict, reset_of, ring_reset}
use Rattle.variable_delay.proofs.Settings.{settled}
use Rattle.variable_delay.proofs.Refused.{not_opened, not-cleared}
use Rattle.variable_delay.specs.declared.VariableDelay.{VariableDelay}
use Rattle.variable_delay.specs.declared.Opened.TheVariants.{Reader, Refused}

-- n is the length that the settings need, and v the number that the code has for the refusal.
module _ (d : VariableDelay) (xs : List Float) {n v : ℕ}
    (long : n ≡ cond (settings_ok d.maximum d.margin) (length_for d.maximum d.margin) 0)
    (first : v
    ≡ lowest_of (not (eqb n 0)) (eqb (length xs) n) (leb d.accepted (2 ^ 36)) true true true true true) where
  verdict-is : v ≡ reset_verdict d (length xs)
  verdict-is =
      first
      ∙ settled d.maximum d.margin (length xs) n
      (λ (t u : Bool). lowest_of t u (leb d.accepted (2 ^ 36)) true true true true true) (λ t u. refl) long

  pub not-reset : (v ≡ 0 → ⊥) → (Refused v ≡ reset_of d (length xs)) × (xs ≡ ring_reset d xs)
  not-reset some = (not_opened v verdict-is some d, not-cleared v verdict-is some xs)

  pub anew : v ≡ 0 → {ys : List Float} → ys ≡ zeros (length xs)
      → (Reader (fresh d.maximum d.margin) ≡ reset_of d (length xs)) × (ys ≡ ring_reset d xs)
  anew none cleared = let z = sym verdict-is ∙ none in (rw z, rw z cleared)
