-- `wav_opening::told` meets its contract, by its two cases: if nothing is refused, the RIFF ends in the file. Assumes
-- nothing.
use mathlib.Core.Path.{◌≡◌, refl, sym, ◌∙◌}
use Prim.Native.Nat.{ℕ, ◌≤◌}
use mathlib.Core.List.{List}
use native.Mathlib.Omega.{arith}
use borrow.Author.Tests.{ne_eqb, leb-true}
use Rattle.refusal_order.proofs.First.{none}
use Rattle.refusal_order.specs.Order.{first_of}
use Rattle.wav_opening.specs.Opening.{end_of, opening_tests}
use Rattle.wav_opening.proofs.told.Goals as goal

held : (b : List ℕ) (size r : ℕ) → r ≡ first_of (opening_tests b size) → r ≡ 0 → end_of b size ≤ size
held b size r e z = leb-true (end_of b size) size ((none (opening_tests b size) refl).0 (sym e ∙ z) 3)

pub returns-then-refusal-ne0 : goal.returns-then-refusal-ne0
returns-then-refusal-ne0 c =
    let f = c.first_refusal-refusal.ensures in
    rw (ne_eqb _ _ (λ h. c.if-refusal-ne0.true (f ∙ h)), f)

pub overflow_add-result : goal.overflow_add-result
overflow_add-result c =
    let a = c.args in
    omega (
      arith,
      held a.opening.now a.length _ c.first_refusal-refusal.ensures
          c.if-refusal-ne0.false,
      c.true_riff.ensures,
    )

pub returns : goal.returns
returns c =
    let z = sym c.first_refusal-refusal.ensures ∙ c.if-refusal-ne0.false in
    rw (z, c.true_riff.ensures)
