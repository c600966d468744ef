-- `fused_chain::taps::multiplied` meets its contract: if the test passes, every factor is a number. Assumes nothing.
use Rattle.std.proofs.Common.{◌≡◌, true, rules}
use borrow.Author.Tests.{not-false}
use mathlib.Core.Bool.{false≢true}
use Rattle.fused_chain.proofs.Finite.{self-finite, four-finite}
use Rattle.biased_sum.proofs.CombinedTests.{first_of, second-of}
use Rattle.fused_chain.proofs.FourBiasedTurns.{renamed}
use Rattle.fused_chain.proofs.taps.multiplied.Statement.{statement}
use Rattle.fused_chain.proofs.taps.multiplied.Tie as tie

-- The two halves of the code's test.
all : (c : tie.Else-not-both) → c.before.both-3.result ≡ true
all c = not-false c.before.both-3.result c.if-not-both.false-raw

left : (c : tie.Else-not-both) → c.before.before.before.before.before.both.result ≡ true
left c =
    let b = c.before in
    first_of b.both-3.result b.before.before.before.before.both.result b.before.both-2.result
    b.both-3.ensures (all c)

right : (c : tie.Else-not-both) → c.before.before.both-2.result ≡ true
right c =
    let b = c.before in
    second-of b.both-3.result b.before.before.before.before.both.result b.before.both-2.result
    b.both-3.ensures (all c)

returns : tie.Need-returns-then-not-both
returns c = λ h. absurd (false≢true h)

multiply-requires : tie.Need-multiply-a-requires
multiply-requires c κs =
    let b = c.before.before.before.before.before in
    let n2 = b.before in
    let n1 = n2.before in
    n1.are_numbers.ensures.1 (first_of b.both.result n1.are_numbers.result n2.are_numbers-2.result
    b.both.ensures (left c))

multiply-requires-2 : tie.Need-multiply-b-requires
multiply-requires-2 c κs =
    let e = c.before in
    let b = e.before.before.before.before.before in
    let n2 = b.before in
    let n1 = n2.before in
    n2.are_numbers-2.ensures.1 (second-of b.both.result n1.are_numbers.result n2.are_numbers-2.result
    b.both.ensures (left e))

multiply-requires-3 : tie.Need-multiply-c-requires
multiply-requires-3 c κs =
    let e = c.before.before in
    let b = e.before.before in
    let n4 = b.before in
    let n3 = n4.before in
    n3.are_numbers-3.ensures.1 (first_of b.both-2.result n3.are_numbers-3.result n4.are_numbers-4.result
    b.both-2.ensures (right e))

multiply-requires-4 : tie.Need-multiply-d-requires
multiply-requires-4 c κs =
    let e = c.before.before.before in
    let b = e.before.before in
    let n4 = b.before in
    let n3 = n4.before in
    n4.are_numbers-4.ensures.1 (second-of b.both-2.result n3.are_numbers-3.result n4.are_numbers-4.result
    b.both-2.ensures (right e))

returns-2 : tie.Need-returns
returns-2 c =
    let m3 = c.before in
    let m2 = m3.before in
    let m1 = m2.before in
    let t4 = m1.before.before.before.before.before.before.before.before.before in
    let t3 = t4.before in
    let t2 = t3.before in
    let t1 = t2.before in
    λ h. record {
      first = renamed t1.tap_at-s.ensures.0 t1.tap_at-s.ensures.1 m1.multiply-a.ensures;
      second = renamed t2.tap_at-t.ensures.0 t2.tap_at-t.ensures.1 m2.multiply-b.ensures;
      third = renamed t3.tap_at-u.ensures.0 t3.tap_at-u.ensures.1 m3.multiply-c.ensures;
      fourth = renamed t4.tap_at-v.ensures.0 t4.tap_at-v.ensures.1 c.multiply-d.ensures;
      bounded =
          four-finite m1.multiply-a.result m2.multiply-b.result m3.multiply-c.result c.multiply-d.result
          (self-finite _ h);
    }

pub multiplied_spec : {M : Type 1} → statement M
multiplied_spec =
    tie.close (tie.spec (λ c κs. search rules) (λ c. search rules) (λ c κs. search rules) (λ c. search rules)
    (λ c κs. search rules) (λ c. search rules) (λ c κs. search rules) (λ c κs. search rules) (λ c κs. search rules)
    (λ c κs. search rules) (λ c κs. search rules) (λ c κs. search rules) (λ c κs. search rules) (λ c κs. search rules)
    returns multiply-requires multiply-requires-2 multiply-requires-3 multiply-requires-4 returns-2)
