-- W3f. If the current quality and the target are the one that is asked for, an accepted call reads that quality alone
-- and leaves the fade as it was, by either rule. Assumes nothing.
use mathlib.Core.Path.{◌≡◌, refl, sym, ap, ◌∙◌}
use mathlib.Core.Bool.{Bool, true, false, ◌&&◌, false≢true}
use Prim.Native.Nat.{ℕ}
use Rattle.quality_mode.specs.declared.QualityMode.{QualityMode}
use Rattle.quality_mode.proofs.Equal.{same_refl}
use Rattle.quality_fade.specs.declared.Turn.{Turn}
use Rattle.quality_fade.specs.Fade.{fade_of, length_ok}
use Rattle.quality_fade.proofs.OneCall as ported
use Rattle.returning_fade.specs.declared.Rule.{Rule}
use Rattle.returning_fade.specs.declared.Rule.TheVariants.{Ported, Returning}
use Rattle.returning_fade.specs.declared.Direction.{Direction}
use Rattle.returning_fade.specs.declared.Direction.TheVariants.{Onwards, Back}
use Rattle.returning_fade.specs.declared.RuledTurn.{RuledTurn}
use Rattle.returning_fade.specs.Rules.{ruled, returning_ok, valid_of}
use Rattle.returning_fade.specs.Step.{step_by, returning_step}
use Rattle.returning_fade.proofs.OneCall as returning

-- The call of a state at rest.
abbrev pub plainly : QualityMode → Direction → ℕ → ℕ → RuledTurn
plainly q direction p n =
    record {
      turn = record { state = fade_of q q p n; mixed = false; from = q; to = q; weight = 0 };
      direction = direction;
    }

none : (b : Bool) → b && false ≡ false
none true = refl
none false = refl

back-never : (q : QualityMode) (p n : ℕ) → returning_ok Back (fade_of q q p n) ≡ false
unfolding returning_ok
back-never q p n = rw (same_refl q)

pub step-rests : (rule : Rule) (direction : Direction) (q : QualityMode) (p n : ℕ)
    → valid_of (ruled rule direction (fade_of q q p n)) ≡ true
    → step_by rule direction (fade_of q q p n) q ≡ plainly q direction p n
unfolding returning_step
step-rests Ported Onwards q p n v =
    ap (λ (t : Turn). record { turn = t; direction = Onwards })
    (ported.goes_on (fade_of q q p n) q v (same_refl q) ∙ ported.stays q p n)
step-rests Ported Back q p n v = absurd (false≢true (sym (none (length_ok n)) ∙ v))
step-rests Returning Onwards q p n v = rw v (returning.stays n q q p (same_refl q))
step-rests Returning Back q p n v = absurd (false≢true (sym (rw (back-never q p n) (none (length_ok n))) ∙ v))
