-- `modulation_engine::handed_back` meets its contract, by the two cases of the refusal. Assumes nothing.
use mathlib.Core.Path.{◌≡◌, refl}
use Prim.Native.Nat.{ℕ, zero, suc}
use Rattle.modulation_engine.specs.declared.ModulationEngine.{ModulationEngine}
use Rattle.modulation_engine.specs.declared.Opened.TheVariants.{Refused}
use Rattle.modulation_engine.specs.Engine.{opened_by}
use Rattle.modulation_engine.proofs.handed_back.Goals as goal

refused : (k : ℕ) (e : ModulationEngine) → (k ≡ 0 → ⊥) → Refused k ≡ opened_by k e
refused zero e h = absurd (h refl)
refused (suc k) e h = refl

pub returns-then-refusal-eq0 : goal.returns-then-refusal-eq0
returns-then-refusal-eq0 c = rw c.if-refusal-eq0.true

pub returns-else-refusal-eq0 : goal.returns-else-refusal-eq0
returns-else-refusal-eq0 c = refused _ _ c.if-refusal-eq0.false
