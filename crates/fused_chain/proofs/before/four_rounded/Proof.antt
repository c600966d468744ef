-- `fused_chain::before::four_rounded` meets its contract. Assumes nothing.
use Rattle.std.proofs.Common.{◌≡◌, Bool, true, not, sym, ◌∙◌}
use borrow.Author.Tests.{not-true, not-false}
use mathlib.Core.Bool.{false≢true}
use Rattle.fused_chain.specs.Rounding.{Nearest}
use Rattle.fused_chain.proofs.before.four_rounded.Statement.{statement}
use Rattle.fused_chain.proofs.before.four_rounded.Tie as tie

-- A value that failed its test cannot also have passed it.
left : (b : Bool) → not b ≡ true → b ≡ true → ⊥
left b h k = false≢true (sym (not-true b h) ∙ k)

first : (c : tie.Else-not-s) → let r = c.before.before in
    Nearest r.before.args.a r.before.args.sum r.rounded-s.result.sum
first c = let r = c.before.before in r.rounded-s.ensures (not-false r.rounded-s.result.fine c.if-not-s.false)

second : (c : tie.Else-not-t) → let r = c.before.before in
    let e = r.before in
    Nearest e.before.before.before.args.b e.before.before.rounded-s.result.sum r.rounded-t.result.sum
second c = let r = c.before.before in r.rounded-t.ensures (not-false r.rounded-t.result.fine c.if-not-t.false)

third : (c : tie.Else-not-u) → let r = c.before.before in
    let e = r.before in
    Nearest e.before.before.before.before.before.before.args.c e.before.before.rounded-t.result.sum
    r.rounded-u.result.sum
third c = let r = c.before.before in r.rounded-u.ensures (not-false r.rounded-u.result.fine c.if-not-u.false)

rounded-requires : tie.Need-rounded-s-requires
rounded-requires c κs = (c.requires.0.first, c.requires.1)

returns : tie.Need-returns-then-not-s
returns c = λ h. absurd (left c.before.before.rounded-s.result.fine c.if-not-s.true h)

rounded-requires-2 : tie.Need-rounded-t-requires
rounded-requires-2 c κs = (c.before.before.before.requires.0.second, (first c).bounded)

returns-2 : tie.Need-returns-then-not-t
returns-2 c = λ h. absurd (left c.before.before.rounded-t.result.fine c.if-not-t.true h)

rounded-requires-3 : tie.Need-rounded-u-requires
rounded-requires-3 c κs = (c.before.before.before.before.before.before.requires.0.third, (second c).bounded)

returns-3 : tie.Need-returns-then-not-u
returns-3 c = λ h. absurd (left c.before.before.rounded-u.result.fine c.if-not-u.true h)

rounded-requires-4 : tie.Need-rounded-requires
rounded-requires-4 c κs =
    (c.before.before.before.before.before.before.before.before.before.requires.0.fourth, (third c).bounded)

returns-4 : tie.Need-returns
returns-4 c =
    let e3 = c.before in
    let e2 = e3.before.before.before in
    let e1 = e2.before.before.before in
    λ h. record {
      one = e1.before.before.rounded-s.result.sum;
      two = e2.before.before.rounded-t.result.sum;
      three = e3.before.before.rounded-u.result.sum;
      first = first e1;
      second = second e2;
      third = third e3;
      fourth = c.rounded.ensures h;
    }

pub four_rounded_spec : {M : Type 1} → statement M
four_rounded_spec =
    tie.close (tie.spec rounded-requires returns rounded-requires-2 returns-2 rounded-requires-3 returns-3
    rounded-requires-4 returns-4)
