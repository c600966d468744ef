-- The engine after no frame and after one more frame, and the delays of that frame. Assumes nothing.
use mathlib.Core.Path.{◌≡◌, refl, ◌∙◌}
use Prim.Native.Nat.{ℕ, ◌+◌}
use native.Mathlib.Numerals.{add-one}
use lib.Ieee.{Float}
use Rattle.modulation.specs.Step.{next_of}
use Rattle.modulation_params.specs.declared.ModulationParams.{ModulationParams}
use Rattle.modulation_engine.specs.declared.ModulationEngine.{ModulationEngine}
use Rattle.modulation_sample.specs.declared.Next.{Next}
use Rattle.imitation.specs.Delays.{left_of, right_of, turned_by, offset_at}

pub turned_none : (params : ModulationParams) (e : ModulationEngine) → e ≡ turned_by params e 0
unfolding turned_by
turned_none params e = refl

pub turned_more : (params : ModulationParams) (e : ModulationEngine) (k : ℕ) {f : ModulationEngine} {n : Next}
    → f ≡ turned_by params e k → n ≡ next_of f params
    → n.engine ≡ turned_by params e (k + 1)
unfolding turned_by
turned_more params e k p q = rw (add-one k, q, p)

-- The delays of a frame, from what the engine returned.
pub left-turned : (params : ModulationParams) (e : ModulationEngine) (k : ℕ) (middle : Float) {f : ModulationEngine}
    {n : Next} {y : Float}
    → f ≡ turned_by params e k
    → n ≡ next_of f params → y ≡ left_of middle n.offset → y ≡ left_of middle (offset_at params e k)
left-turned params e k middle p q r = r ∙ rw (q, p)

pub right-turned : (params : ModulationParams) (e : ModulationEngine) (k : ℕ) (middle : Float) {f : ModulationEngine}
    {n : Next} {y : Float}
    → f ≡ turned_by params e k
    → n ≡ next_of f params → y ≡ right_of middle n.offset → y ≡ right_of middle (offset_at params e k)
right-turned params e k middle p q r = r ∙ rw (q, p)
