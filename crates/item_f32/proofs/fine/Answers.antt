-- `item_f32::fine` meets its contract: each of an item's tests is among its own or follows from them. Assumes nothing.
use mathlib.Core.Path.{◌≡◌, sym, ◌∙◌}
use mathlib.Core.Bool.{true, false, false≢true}
use lib.Ieee.{of_bits}
use Rattle.item_f32.proofs.Items.{none-due}
use Rattle.item_f32.proofs.fine.Goals as goal

pub returns-then-delay-2 : goal.returns-then-delay-2
unfolding of_bits
returns-then-delay-2 c =
    let a = c.args in
    λ h. none-due a.i a.input a.delay c.if-i-lt-LIMIT.true c.if-delay.true c.if-delay-2.true
    (sym c.is_finite_f32.ensures ∙ h)

-- A test that failed leaves nothing to show.
led-away : {A : Type 0} → false ≡ true → A
led-away h = absurd (false≢true h)

pub returns-else-delay-2 : goal.returns-else-delay-2
returns-else-delay-2 c = led-away

pub returns-else-delay : goal.returns-else-delay
returns-else-delay c = led-away

pub returns-else-i-lt-LIMIT : goal.returns-else-i-lt-LIMIT
returns-else-i-lt-LIMIT c = led-away
