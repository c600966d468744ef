-- `oversampled_delay::phases::phases` meets its contract: before each turn of the loop the first k phases are made.
-- Assumes nothing.
use Rattle.std.proofs.Common.{◌≡◌, T, sym, refl, ap, ◌∙◌, subst, arith, rules}
use Rattle.kernels.specs.Kernels.{read_by}
use Rattle.oversampled_delay.specs.Phases.{turn_of, High, high_of, phases_of}
use Rattle.oversampled_delay.proofs.Steps.{no-phase, one_more}
use Rattle.oversampled_delay.proofs.Inner.{only-four-inside}
use Rattle.oversampled_delay.proofs.phases.phases.Goals as goal

pub loop-k-init : goal.loop-k-init
loop-k-init c = (refl, refl, no-phase _ _)

pub rate_of-rate-requires : goal.rate_of-rate-requires
rate_of-rate-requires c = c.requires.1.either

pub phase-inner-requires : goal.phase-inner-requires
phase-inner-requires c =
    let a = c.args in
    let r = c.requires.0 in
    let t = c.loop-k-test.true in (
      r,
      t,
      c.rate_of-rate.ensures,
      c.of_phase.ensures ∙ c.upsampled-four.ensures.each _ t r.few,
      only-four-inside
          (turn_of (read_by a.kernel a.table.now) a.state a.coefficients.now a.up.now a.from
          a.delay) (high_of a.state.inner a.down.now a.ring.now) r c.requires.1
          (subst T (sym c.well_formed.1.1.1.1.1.1.1.0.1) tt) refl c.loop-k.k t c.loop-k.invariant.2,
    )

pub loop-k-preserved : goal.loop-k-preserved
loop-k-preserved c =
    let i = c.loop-k.invariant in (
      search rules,
      search rules,
      one_more _ _ c.loop-k.k i.2 (
        c.phase-inner.ensures.value,
        (c.phase-inner.ensures.down_after, c.phase-inner.ensures.ring_after),
      ),
    )

pub returns : goal.returns
returns c =
    let i = c.loop-k.invariant in
    let a = c.args in
    let all : c.loop-k.k ≡ a.state.factor = omega arith in
    let e = i.2 ∙ ap (phases_of _ _) all in
    record {
      value = ap (λ (h : High). h.inner) e;
      down_after = ap (λ (h : High). h.down) e;
      ring_after =
          ap (λ (h : High). h.ring) e;
    }
