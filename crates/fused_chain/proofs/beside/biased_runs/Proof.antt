-- `fused_chain::beside::biased_runs` meets its contract: each biased sum stands for its chain's sum. Assumes nothing.
use Rattle.std.proofs.Common.{◌-◌, ◌≤◌, le_refl, arith, rules}
use borrow.Author.Tests.{not-false}
use lib.Ieee.{binary64, sub}
use Rattle.biased_sum.proofs.BiasTests.{begins}
use Rattle.biased_sum.proofs.CombinedTests.{first_of, second-of}
use Rattle.fused_chain.specs.Blocks.{Runs}
use Rattle.fused_chain.proofs.ChainParts.{stay}
use Rattle.fused_chain.proofs.FourBiasedTurns as biased
use Rattle.fused_chain.proofs.FourBiasedTurns.{Stands, four}
use Rattle.fused_chain.proofs.beside.biased_runs.Statement.{statement}
use Rattle.fused_chain.proofs.beside.biased_runs.Tie as tie

abbrev invariant-loop : tie.invariant-loop-k
invariant-loop xs a0 a1 blend ys b0 b1 other from to a b f g s₀ t₀ k₀ s t k =
    (from ≤ k) × (k ≤ to) × (Stands xs a0 a1 blend f.bias f.low f.high from a k s)
    × (Stands ys b0 b1 other g.bias g.low g.high from b k t)

abbrev decreases-loop : tie.decreases-loop-k
decreases-loop xs a0 a1 blend ys b0 b1 other from to a b f g s₀ t₀ k₀ s t k = to - k

abbrev begun : tie.At-loop-k invariant-loop decreases-loop → tie.Start invariant-loop decreases-loop
begun l = l.before.before.before.before.before.before.before.before.before.before.before

-- Where no further turn is made, subtracting the bias gives both sums back.
ended : (l : tie.At-loop-k invariant-loop decreases-loop)
    → let a = (begun l).args in
    let v = l.before.before.before in
    (Runs a.xs.now a.a0.now a.a1.now a.blend a.from a.to a.a l.loop-k.k
    (sub binary64 l.loop-k.s v.before.with_bias-f.result.bias))
    × (Runs a.ys.now a.b0.now a.b1.now a.other a.from a.to a.b l.loop-k.k
    (sub binary64 l.loop-k.t v.with_bias-g.result.bias))
ended l =
    let a = (begun l).args in
    let v = l.before.before.before in
    let f = v.before.with_bias-f.result in
    let g = v.with_bias-g.result in
    let i = l.loop-k.invariant in (
      biased.ended a.xs.now a.a0.now a.a1.now a.blend f.bias f.low f.high a.from a.to
          a.a l.loop-k.k l.loop-k.s i.0 i.1 i.2,
      biased.ended a.ys.now a.b0.now a.b1.now a.other g.bias g.low g.high a.from a.to
          a.b l.loop-k.k l.loop-k.t i.0 i.1 i.3,
    )

returns : tie.Need-returns-then-not-both invariant-loop decreases-loop
returns c =
    let b = c.before.before.before.before.before.before.before.before.before.before in
    let a = b.args in
    let p = b.requires.0 in
    let q = b.requires.1 in (
      record {
        first = le_refl a.from;
        last = p.order;
        carried = stay a.xs.now a.a0.now a.a1.now a.blend a.from a.a p.held;
      },
      record {
        first = le_refl a.from;
        last = q.order;
        carried = stay a.ys.now a.b0.now a.b1.now a.other a.from a.b q.held;
      },
    )

loop-holds : tie.Need-loop-k-init invariant-loop decreases-loop
loop-holds c =
    let w = c.before in
    let v = w.before in
    let u = v.before in
    let b = u.before.before.before.before.before.before.before in
    let a = b.args in
    let p = b.requires.0 in
    let q = b.requires.1 in
    let f = u.with_bias-f.result.fine in
    let g = v.with_bias-g.result.fine in
    let all = not-false w.both.result c.if-not-both.false-raw in (
      le_refl a.from,
      p.order,
      (
        a.a,
        begins a.a u.with_bias-f.result u.with_bias-f.ensures p.held
            (first_of w.both.result f g w.both.ensures all),
        stay a.xs.now a.a0.now a.a1.now a.blend a.from a.a p.held,
      ),
      (
        a.b,
        begins a.b v.with_bias-g.result v.with_bias-g.ensures q.held
            (second-of w.both.result f g w.both.ensures all),
        stay a.ys.now a.b0.now a.b1.now a.other a.from a.b q.held,
      ),
    )

multiplied-requires : tie.Need-multiplied-p-requires invariant-loop decreases-loop
multiplied-requires c κs =
    let p = (begun c.before).requires.0 in (omega (arith, p.samples), omega (arith, p.row), omega (arith, p.next))

multiplied-requires-2 : tie.Need-multiplied-q-requires invariant-loop decreases-loop
multiplied-requires-2 c κs =
    let p = (begun c.before.before).requires.1 in
    (omega (arith, p.samples), omega (arith, p.row), omega (arith, p.next))

loop-again : tie.Need-loop-k-preserved invariant-loop decreases-loop
loop-again c =
    let z = c.before in
    let y = z.before in
    let x = y.before in
    let v = x.before in
    let u = v.before in
    let q = u.before in
    let p = q.before in
    let l = p.before.before in
    let a = (begun l).args in
    let i = l.loop-k.invariant in
    let w = l.before.before.before in
    let f = w.before.with_bias-f.result in
    let g = w.with_bias-g.result in
    let m = p.multiplied-p.result in
    let n = q.multiplied-q.result in
    let s = u.advance-u.result in
    let t = v.advance-v.result in
    let all = not-false z.both-in-loop-k-3.result c.if-not-both-2.false-raw in
    let one = first_of z.both-in-loop-k-3.result x.both-in-loop-k.result y.both-in-loop-k-2.result
    z.both-in-loop-k-3.ensures all in
    let two = second-of z.both-in-loop-k-3.result x.both-in-loop-k.result y.both-in-loop-k-2.result
    z.both-in-loop-k-3.ensures all in (
      omega (arith, i.0),
      omega (arith, i.1, p.before.loop-k-test.true),
      four a.xs.now a.a0.now a.a1.now a.blend f.bias f.low f.high a.from a.a
          l.loop-k.k l.loop-k.s m.a m.b m.c m.d s.sum
          (p.multiplied-p.ensures (first_of x.both-in-loop-k.result m.fine s.fine x.both-in-loop-k.ensures one))
          (u.advance-u.ensures.1.1 (second-of x.both-in-loop-k.result m.fine s.fine x.both-in-loop-k.ensures one)) i.2,
      four a.ys.now a.b0.now a.b1.now a.other g.bias g.low g.high a.from a.b
          l.loop-k.k l.loop-k.t n.a n.b n.c n.d t.sum
          (q.multiplied-q.ensures (first_of y.both-in-loop-k-2.result n.fine t.fine y.both-in-loop-k-2.ensures two))
          (v.advance-v.ensures.1.1 (second-of y.both-in-loop-k-2.result n.fine t.fine y.both-in-loop-k-2.ensures two))
          i.3,
    )

add-k : tie.Need-overflow_add-k invariant-loop decreases-loop
add-k c =
    let i = c.before.before.before.before.before.before.before.before in
    omega (arith, i.loop-k-test.true, (begun i.before).ranges.to)

loop-less : tie.Need-loop-k-smaller invariant-loop decreases-loop
loop-less c =
    let i = c.before.before.before.before.before.before.before.before in omega (arith, i.loop-k-test.true)

pub biased_runs_spec : {M : Type 1} → statement M
biased_runs_spec =
    tie.close (tie.spec invariant-loop decreases-loop (λ c κs. search rules) (λ c κs. search rules)
    (λ c κs. search rules) returns loop-holds (λ c. omega arith) multiplied-requires multiplied-requires-2
    (λ c κs. search rules) (λ c κs. search rules) (λ c κs. search rules) (λ c κs. search rules) (λ c κs. search rules)
    (λ c. ended c.before.before.before.before.before.before.before.before.before.before.before) add-k loop-less
    loop-again (λ c. ended c.before.before.before))
