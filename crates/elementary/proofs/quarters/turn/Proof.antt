-- `elementary::quarters::turn` meets its contract: the guess is right, or one turn more or less is (`CorrectedGuess`),
-- and the rest then determines k (`QuarterTurns`). Assumes nothing.
use borrow.Author.Rules.{rules}
use mathlib.Core.Path.{◌≡◌, subst}
use Prim.Native.Nat.{ℕ, ◌+◌, ◌-◌, ◌≤◌}
use native.Mathlib.Omega.{arith}
use lib.Ieee.{neg, of_bits}
use Rattle.elementary.specs.Steps.{Guess, Rest}
use Rattle.elementary.proofs.QuarterTurns.{settle}
use Rattle.elementary.proofs.CorrectedGuess.{Moved, one_more, one_less, stands}
use Rattle.elementary.proofs.quarters.turn.Statement.{statement}
use Rattle.elementary.proofs.quarters.turn.Tie as tie

back : (j : ℕ) → 1 ≤ j → j ≡ j - 1 + 1
back j h = omega arith

-- If r < -H / 2, one turn less is right.
lower : (c : tie.Then-r-2) → let b = c.before.before.before in Moved b.before.args.x (b.guess-j.result - 1)
unfolding neg of_bits
lower c =
    let r = c.before.before.rest-r in
    let b = c.before.before.before in
    let x = b.before.args.x in
    let j = b.guess-j.result in
    let e = back j b.guess-j.ensures.low in
    one_less x b.before.requires.1 (j - 1) (subst (λ (i : ℕ). Guess x i) e b.guess-j.ensures)
    (subst (λ (i : ℕ). Rest x i r.result) e r.ensures) c.if-r-2.true

-- If H / 2 ≤ r, one turn more is right.
higher : (c : tie.Else-r) → let b = c.before.before in Moved b.before.args.x (b.guess-j.result + 1)
unfolding of_bits
higher c =
    let b = c.before.before in
    one_more b.before.args.x b.before.requires.1 b.guess-j.result b.guess-j.ensures c.before.rest-r.ensures
    c.if-r.false

guess-requires : tie.Need-guess-j-requires
guess-requires c κs = c.requires.1

rest-requires : tie.Need-rest-r-requires
rest-requires c κs = (c.before.requires.0, (c.before.requires.1, c.guess-j.ensures))

rest-requires-2 : tie.Need-rest-s-requires
rest-requires-2 c κs = let s = c.before.before.before.before in (s.requires.0, (s.requires.1, (lower c).guess))

rest-requires-3 : tie.Need-rest-s-requires-else-r
rest-requires-3 c κs = let s = c.before.before.before in (s.requires.0, (s.requires.1, (higher c).guess))

returns : tie.Need-returns-then-r-2
returns c =
    let b = c.before.before.before.before in
    settle b.before.args.x c.rest-s.result (b.guess-j.result - 1) c.rest-s.ensures
    (lower c.before).halves

returns-2 : tie.Need-returns-else-r-2
unfolding neg of_bits
returns-2 c =
    let b = c.before.before.before in
    let r = c.before.before.rest-r in
    settle b.before.args.x r.result b.guess-j.result r.ensures
    (stands r.ensures c.before.if-r.true c.if-r-2.false)

returns-3 : tie.Need-returns-else-r
returns-3 c =
    let b = c.before.before.before in
    settle b.before.args.x c.rest-s-else-r.result (b.guess-j.result + 1) c.rest-s-else-r.ensures
    (higher c.before).halves

pub turn_spec : {M : Type 1} → statement M
turn_spec =
    tie.close (tie.spec guess-requires rest-requires (λ c. search rules) rest-requires-2 (λ c. search rules)
    rest-requires-3 returns returns-2 returns-3)
