-- C1. A contract that gives the answer and what is written by equations determines both. Assumes nothing.
use mathlib.Core.Path.{◌≡◌, sym, ◌∙◌}
use Rattle.determined.specs.Determined.{Given}

pub agree : {R L : Type 0} (answer : R) (left : L) {r s : R} {x y : L} → Given answer left r x → Given answer left s y
    → (r ≡ s) × (x ≡ y)
agree answer left p q = (p.0 ∙ sym q.0, p.1 ∙ sym q.1)
