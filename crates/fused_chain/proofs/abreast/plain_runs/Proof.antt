-- `fused_chain::abreast::plain_runs` meets its contract: the turns so far carry both sums, which are finite. Assumes
-- nothing.
use Rattle.std.proofs.Common.{◌≡◌, ◌-◌, ◌≤◌, Bool, true, T, le_refl, arith, rules}
use borrow.Author.Tests.{not-false}
use lib.Ieee.{Float, binary64, sub, eq, of_bits}
use lib.Ieee.Scale.{finite}
use Rattle.biased_sum.proofs.CombinedTests.{first_of, second-of}
use Rattle.fused_chain.specs.Blocks.{Carries, Runs}
use Rattle.fused_chain.proofs.ChainParts.{stay, on}
use Rattle.fused_chain.proofs.Finite.{self-finite}
use Rattle.fused_chain.proofs.FourTurnsByPatterns.{four}
use Rattle.fused_chain.proofs.abreast.plain_runs.Statement.{statement}
use Rattle.fused_chain.proofs.abreast.plain_runs.Tie as tie

abbrev invariant-loop : tie.invariant-loop-k
invariant-loop xs a0 a1 b0 b1 blend from to a b s₀ t₀ k₀ s t k =
    (from ≤ k) × (k ≤ to) × (Carries xs a0 a1 blend from k a s) × (T (finite s)) × (Carries xs b0 b1 blend from k b t)
    × (T (finite t))

abbrev decreases-loop : tie.decreases-loop-k
decreases-loop xs a0 a1 b0 b1 blend from to a b s₀ t₀ k₀ s t k = to - k

abbrev begun : tie.At-loop-k invariant-loop decreases-loop → tie.Start invariant-loop decreases-loop
begun l = l.before.before.before.before.before.before.before.before

-- Where no further turn is made, both runs end.
ended : (l : tie.At-loop-k invariant-loop decreases-loop)
    → let a = (begun l).args in
    (Runs a.xs.now a.a0.now a.a1.now a.blend a.from a.to a.a l.loop-k.k l.loop-k.s)
    × (Runs a.xs.now a.b0.now a.b1.now a.blend a.from a.to a.b l.loop-k.k l.loop-k.t)
ended l =
    let i = l.loop-k.invariant in
    (record { first = i.0; last = i.1; carried = i.2 }, record { first = i.0; last = i.1; carried = i.4 })

returns : tie.Need-returns-then-not-both invariant-loop decreases-loop
returns c =
    let b = c.before.before.before.before.before.before.before in
    let a = b.args in
    let p = b.requires.0 in
    let q = b.requires.1 in (
      record {
        first = le_refl a.from;
        last = p.order;
        carried = stay a.xs.now a.a0.now a.a1.now a.blend a.from a.a p.held;
      },
      record {
        first = le_refl a.from;
        last = q.order;
        carried = stay a.xs.now a.b0.now a.b1.now a.blend a.from a.b q.held;
      },
    )

-- The code's test that a value is finite: its difference from itself is zero.
abbrev none : Float → Bool
none z = eq (sub binary64 z z) (of_bits binary64 0)

loop-holds : tie.Need-loop-k-init invariant-loop decreases-loop
loop-holds c =
    let w = c.before in
    let b = w.before.before.before.before.before.before in
    let a = b.args in
    let p = b.requires.0 in
    let q = b.requires.1 in
    let all = not-false w.both.result c.if-not-both.false-raw in (
      le_refl a.from,
      p.order,
      stay a.xs.now a.a0.now a.a1.now a.blend a.from a.a p.held,
      self-finite a.a (first_of w.both.result (none a.a) (none a.b) w.both.ensures all),
      stay a.xs.now a.b0.now a.b1.now a.blend a.from a.b q.held,
      self-finite a.b (second-of w.both.result (none a.a) (none a.b) w.both.ensures all),
    )

multiplied-requires : tie.Need-multiplied-p-requires invariant-loop decreases-loop
multiplied-requires c κs =
    let p = (begun c.before).requires.0 in (omega (arith, p.samples), omega (arith, p.row), omega (arith, p.next))

multiplied-requires-2 : tie.Need-multiplied-q-requires invariant-loop decreases-loop
multiplied-requires-2 c κs =
    let p = (begun c.before.before).requires.1 in
    (omega (arith, p.samples), omega (arith, p.row), omega (arith, p.next))

-- The products of both chains passed their tests.
products : (c : tie.Else-not-both-2 invariant-loop decreases-loop) → let q = c.before.before in
    (q.before.multiplied-p.result.fine ≡ true) × (q.multiplied-q.result.fine ≡ true)
products c =
    let w = c.before in
    let q = w.before in
    let all = not-false w.both-in-loop-k.result c.if-not-both-2.false-raw in (
      first_of w.both-in-loop-k.result q.before.multiplied-p.result.fine q.multiplied-q.result.fine
          w.both-in-loop-k.ensures all,
      second-of w.both-in-loop-k.result q.before.multiplied-p.result.fine q.multiplied-q.result.fine
          w.both-in-loop-k.ensures all,
    )

four-rounded-requires : tie.Need-four_rounded-u-requires invariant-loop decreases-loop
four-rounded-requires c κs =
    let p = c.before.before.before in
    ((p.multiplied-p.ensures (products c).0).bounded, p.before.before.loop-k.invariant.3)

four-rounded-requires-2 : tie.Need-four_rounded-v-requires invariant-loop decreases-loop
four-rounded-requires-2 c κs =
    let e = c.before in
    let q = e.before.before in
    ((q.multiplied-q.ensures (products e).1).bounded, q.before.before.before.loop-k.invariant.5)

loop-again : tie.Need-loop-k-preserved invariant-loop decreases-loop
loop-again c =
    let w = c.before in
    let v = w.before in
    let u = v.before in
    let e = u.before in
    let q = e.before.before in
    let p = q.before in
    let l = p.before.before in
    let a = (begun l).args in
    let i = l.loop-k.invariant in
    let x = p.multiplied-p.result in
    let y = q.multiplied-q.result in
    let all = not-false w.both-in-loop-k-2.result c.if-not-both-3.false-raw in
    let N =
    u.four_rounded-u.ensures
    (first_of w.both-in-loop-k-2.result u.four_rounded-u.result.fine v.four_rounded-v.result.fine
    w.both-in-loop-k-2.ensures all) in
    let O =
    v.four_rounded-v.ensures
    (second-of w.both-in-loop-k-2.result u.four_rounded-u.result.fine v.four_rounded-v.result.fine
    w.both-in-loop-k-2.ensures all) in
    let C =
    four a.xs.now a.a0.now a.a1.now a.blend l.loop-k.k l.loop-k.s x.a x.b x.c x.d
    u.four_rounded-u.result.sum (p.multiplied-p.ensures (products e).0) N in
    let D =
    four a.xs.now a.b0.now a.b1.now a.blend l.loop-k.k l.loop-k.t y.a y.b y.c y.d
    v.four_rounded-v.result.sum (q.multiplied-q.ensures (products e).1) O in (
      omega (arith, i.0),
      omega (arith, i.1, p.before.loop-k-test.true),
      on a.xs.now a.a0.now a.a1.now a.blend i.2 C,
      N.fourth.bounded,
      on a.xs.now a.b0.now a.b1.now a.blend i.4 D,
      O.fourth.bounded,
    )

add-k : tie.Need-overflow_add-k invariant-loop decreases-loop
add-k c =
    let i = c.before.before.before.before.before.before.before.before in
    omega (arith, i.loop-k-test.true, (begun i.before).ranges.to)

loop-less : tie.Need-loop-k-smaller invariant-loop decreases-loop
loop-less c =
    let i = c.before.before.before.before.before.before.before.before in omega (arith, i.loop-k-test.true)

pub plain_runs_spec : {M : Type 1} → statement M
plain_runs_spec =
    tie.close (tie.spec invariant-loop decreases-loop (λ c κs. search rules) returns loop-holds (λ c. omega arith)
    multiplied-requires multiplied-requires-2 (λ c κs. search rules) (λ c. ended c.before.before.before.before.before)
    four-rounded-requires four-rounded-requires-2 (λ c κs. search rules)
    (λ c. ended c.before.before.before.before.before.before.before.before.before) add-k loop-less loop-again
    (λ c. ended c.before))
