-- `sinc_neighbours::straight::found` meets its contract: if nothing is refused, every tap is held and the run ends
-- before the ring does, the sum over them is the reading, by `BothWays`. Assumes nothing.
use borrow.Author.Rules.{rules}
use mathlib.Core.Path.{◌≡◌, sym, ◌∙◌}
use mathlib.Core.Bool.{true, false, false≢true}
use Prim.Native.Nat.{◌<◌}
use native.Mathlib.Omega.{arith}
use lib.ListN.{length}
use mir.Syntax.{w64}
use mir.Val.{to_z, of_z}
use mir.ValLaws.{to_z-of_z}
use Rattle.ring.proofs.HeldRuns as run
use Rattle.sinc_phases.specs.Phases.{first_tap}
use Rattle.sinc_read.specs.Reading.{sample_verdict}
use Rattle.sinc_read.proofs.AcceptedReading.{Readable, readable}
use Rattle.sinc_read.proofs.AnswerByRefusal.{read_is}
use Rattle.sinc_read.proofs.BothWays as found
use Rattle.sinc_read_f32.proofs.BothWays as ways
use Rattle.sinc_neighbours.proofs.straight.found.Statement.{statement}
use Rattle.sinc_neighbours.proofs.straight.found.Tie as tie

due : (c : tie.After-run_start-start) → let a = c.before.before.before.before.before.before.before.before.args in
    sample_verdict a.taps a.phases (length a.table.now) a.position ≡ 0
due c = let i = c.before.before.before.before in sym i.before.refusal.ensures ∙ i.if-refusal-eq0.true

ok : (c : tie.After-run_start-start) → let a = c.before.before.before.before.before.before.before.before.args in
    Readable a.taps a.phases (length a.table.now) a.position
ok c = let a = c.before.before.before.before.before.before.before.before.args in readable a.taps a.phases
    (length a.table.now) a.position (due c)

-- The first tap as the code holds it.
first : (c : tie.After-run_start-start) → let a = c.before.before.before.before.before.before.before.before.args in
    to_z w64 (of_z w64 c.before.first_tap-first.result) ≡ first_tap a.position a.taps
first c =
    let f = c.before.first_tap-first in
    found.first-is (ok c) (to_z-of_z w64 f.result (record { sfits = f.type_inv }) ∙ f.ensures)

inside : (c : tie.Then-start) → let r = c.before in
    r.run_start-start.result.place < length r.before.before.before.before.before.before.before.before.args.source.now
inside c =
    let r = c.before in
    let a = r.before.before.before.before.before.before.before.before.args in
    run.inside a.source.now a.count a.taps (to_z w64 (of_z w64 r.before.first_tap-first.result))
    r.run_start-start.result r.run_start-start.ensures c.if-start.true (found.some (ok r))

sub-if3 : tie.Need-overflow_sub-source
sub-if3 c = let h = inside c in omega (arith, h)

returns : tie.Need-returns-then-taps-source
returns c =
    let t = c.before in
    let r = t.before in
    let a = r.before.before.before.before.before.before.before.before.args in
    let n = r.before.before in
    let h = inside t in
    let l = c.if-taps-source.true in
    λ fine.
    record {
      lies =
          record {
            some = found.some (ok r);
            inside = omega (arith, h, l);
            rows = found.rows_fit (ok r) n.before.phase_at-between.ensures;
          };
      reads =
          λ v e.
          ways.held (ok r) a.table.now a.source.now a.count n.before.phase_at-between.ensures
          n.narrow-blend.ensures (first r) r.run_start-start.result r.run_start-start.ensures t.if-start.true e
          ∙ read_is _ a.taps a.phases (length a.table.now) a.position (due r);
    }

-- Where nothing is found nothing is to be shown.
led-away : {A : Type 0} → false ≡ true → A
led-away h = absurd (false≢true h)

pub found_spec : {M : Type 1} → statement M
found_spec =
    tie.close (tie.spec (λ c κs. search rules) (λ c κs. search rules) (λ c κs. search rules) (λ c κs. search rules)
    (λ c κs. search rules) sub-if3 returns (λ c. led-away) (λ c. led-away) (λ c. led-away))
