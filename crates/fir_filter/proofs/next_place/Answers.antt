-- `fir_filter::next_place` meets its contract: the head moves on by one place, or back to the first. Assumes nothing.
use borrow.Author.Tests.{ne_eqb}
use mathlib.Core.Path.{◌≡◌, ap, ◌∙◌}
use Prim.Native.Nat.{ℕ, ◌+◌, ◌%◌, ◌<◌}
use native.Mathlib.Nat.{mod-lt}
use native.Mathlib.Omega.{arith}
use Rattle.fir_filter.proofs.Places.{next-wraps, next-moves}
use Rattle.fir_filter.proofs.next_place.Goals as goal
use Rattle.fir_filter.proofs.next_place.Goals.{After-place-next}

-- The head, which lies inside the history.
headed : (c : After-place-next) → let a = c.args in c.place-next.result ≡ a.pushes % a.len
headed c =
    let b = c.requires in
    c.place-next.ensures ∙ rw (ne_eqb c.args.len 0 (λ e. omega arith))

inside : (c : After-place-next) → c.place-next.result < c.args.len
inside c = let b = c.requires in omega (arith, headed c, mod-lt c.args.pushes b)

pub overflow_add-next : goal.overflow_add-next
overflow_add-next c = omega (arith, inside c)

pub returns-then-next-len : goal.returns-then-next-len
returns-then-next-len c =
    let a = c.args in
    next-wraps a.pushes a.len (omega (
      arith,
      headed (goal.at.returns-then-next-len c).After-place-next,
      c.if-next-len.true,
    ))

pub returns-else-next-len : goal.returns-else-next-len
returns-else-next-len c =
    let a = c.args in
    let h = headed (goal.at.returns-else-next-len c).After-place-next in
    ap (λ (n : ℕ). n + 1) h
    ∙ next-moves a.pushes a.len (omega (
      arith,
      h,
      inside (goal.at.returns-else-next-len c).After-place-next,
      c.if-next-len.false,
    ))
