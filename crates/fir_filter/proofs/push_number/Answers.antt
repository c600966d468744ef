-- `fir_filter::push_number` meets its contract: the sample goes to the next place. Assumes nothing.
use borrow.Author.Rules.{scaled_Fits}
use mathlib.Core.Path.{◌≡◌, refl}
use mathlib.Core.List.{List, [], ◌∷◌}
use Prim.Native.Nat.{ℕ, ◌+◌, ◌<◌}
use native.Mathlib.Nat.{mod-lt}
use native.Mathlib.Omega.{arith}
use lib.ListN.{length, set}
use lib.Ieee.{Float}
use Rattle.fir_filter.proofs.push_number.Goals as goal
use Rattle.fir_filter.proofs.push_number.Goals.{After-next_place-at}

-- An empty history stays empty.
empty : (xs : List Float) (i : ℕ) (v : Float) → length xs ≡ 0 → xs ≡ set xs i v
empty [] i v h = refl
empty (x ∷ xs) i v h = absurd (omega arith)

pub returns-then-history-eq0 : goal.returns-then-history-eq0
returns-then-history-eq0 c = empty _ _ _ c.if-history-eq0.true

inside : (c : After-next_place-at) → c.next_place-at.result < length c.args.history.now
inside c =
    let a = c.args in
    let p : 0 < length a.history.now = omega (arith, c.if-history-eq0.false) in
    omega (arith, c.next_place-at.ensures, mod-lt (a.pushes + 1) p)

pub offset_bounds-history-at : goal.offset_bounds-history-at
offset_bounds-history-at c =
    scaled_Fits _ (length c.args.history.now) 8 (omega (arith, inside c)) c.well_formed.0.1

pub bounds-history-at : goal.bounds-history-at
bounds-history-at c = inside c

pub returns : goal.returns
returns c = rw c.next_place-at.ensures
