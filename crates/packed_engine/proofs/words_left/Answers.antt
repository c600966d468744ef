-- `packed_engine::words_left` meets its contract, by its two cases. Assumes nothing.
use mathlib.Core.Path.{◌≡◌, refl}
use mathlib.Core.List.{List}
use Prim.Native.Nat.{ℕ, zero, suc}
use Rattle.modulation_engine.specs.declared.ModulationEngine.{ModulationEngine}
use Rattle.packed_engine.specs.Words.{words_left}
use Rattle.packed_engine.proofs.words_left.Goals as goal

pub returns-then-number-eq0 : goal.returns-then-number-eq0
returns-then-number-eq0 c = rw (c.if-number-eq0.true, c.words_of.ensures)

refused : (k : ℕ) (after : ModulationEngine) (words : List ℕ) → (k ≡ 0 → ⊥) → words ≡ words_left k after words
refused zero after words n = absurd (n refl)
refused (suc k) after words n = refl

pub returns-else-number-eq0 : goal.returns-else-number-eq0
returns-else-number-eq0 c = refused c.args.number c.args.after c.args.words c.if-number-eq0.false
