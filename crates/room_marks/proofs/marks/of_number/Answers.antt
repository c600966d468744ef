-- `room_marks::marks::of_number` meets its contract, by whether the number is 1. Assumes nothing.
use mathlib.Core.Path.{◌≡◌, refl, sym, ◌∙◌}
use Prim.Native.Nat.{ℕ, zero, suc}
use Rattle.room_marks.specs.declared.Desk.TheVariants.{Two}
use Rattle.room_marks.specs.Marks.{desk_of}
use Rattle.room_marks.proofs.marks.of_number.Goals as goal

pub returns-then-number : goal.returns-then-number
returns-then-number c = rw (c.if-number.true ∙ c.number.ensures)

other : (n : ℕ) → (n ≡ 1 → ⊥) → Two ≡ desk_of n
other zero h = refl
other (suc zero) h = absurd (h refl)
other (suc (suc n)) h = refl

pub returns-else-number : goal.returns-else-number
returns-else-number c = other c.args.number (λ e. c.if-number.false (e ∙ sym c.number.ensures))
