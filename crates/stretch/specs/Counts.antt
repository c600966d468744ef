-- W3g. The absent taps of a whole stretch: the sums of W7's numbers over the items done. Definitions only.
use Rattle.std.specs.Prelude.{ℕ, zero, suc, List, [], ◌∷◌, length, Float}
use Rattle.absent_taps.specs.declared.Absent.{Absent}
use Rattle.absent_taps.specs.Absent.{none, plus}
use Rattle.stretch.specs.Stretch.{Call}
use Rattle.stretch.specs.Whole.{Reader, refused_first}

-- The absent taps of a call that is accepted, on a state, a ring, an input and a delay.
abbrev pub Absence : Type 0 → Type 0
Absence S = S → List Float → Float → Float → Absent

-- W7h. What is refused reads no tap.
abbrev pub none_if : ℕ → Absent → Absent
none_if zero a = a
none_if (suc k) a = none

-- The sums over single calls in order, up to the first that is refused.
unfoldable pub absent_in : {S : Type 0} → Call S → Absence S → S → List Float → List Float → List Float → Absent
absent_in call absent s ring [] ds = none
absent_in call absent s ring (x ∷ xs) [] = none
absent_in call absent s ring (x ∷ xs) (d ∷ ds) =
    let c = call s ring x d in
    none_if c.number (plus (absent s ring x d) (absent_in call absent c.state c.ring xs ds))

unfoldable pub whole_absent : {S : Type 0} → Reader S → Absence S → S → List Float → List Float → List Float → ℕ
    → Absent
whole_absent reader absent s ring inputs delays out =
    none_if (refused_first reader s (length ring) (length inputs) (length delays) out)
    (absent_in reader.call absent s ring inputs delays)
