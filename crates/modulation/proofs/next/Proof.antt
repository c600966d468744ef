-- `modulation::next` meets its contract: the tests find the refusal of the definition, and each branch returns what the
-- definition gives for it. Assumes nothing.
use mathlib.Core.Path.{◌≡◌, sym, ap, ◌∙◌}
use mathlib.Core.Bool.{Bool, true, false, ◌&&◌}
use lib.Dec.{eqb}
use lib.Ieee.{Float}
use Rattle.smooth_random.specs.Drift.{next_of}
use Rattle.smooth_random.specs.declared.Next.{Next}
use Rattle.oscillator_ranges.specs.Ranges.{sample_rate_ok}
use Rattle.modulation_params.specs.Settings.{params_ok}
use Rattle.modulation_engine.specs.Engine.{phases_ok, valid_engine}
use Rattle.modulation.specs.Step.{wow_drift, flutter_drift}
use Rattle.modulation.proofs.VerdictByParts.{ready, found, outside}
use Rattle.modulation.proofs.next.Statement.{statement}
use Rattle.modulation.proofs.next.Tie as tie

settings : (c : tie.After-both-settings) → let a = c.before.before.before.args in
    c.both-settings.result ≡ (sample_rate_ok a.engine.sample_rate && params_ok a.params)
settings c = rw (c.both-settings.ensures, c.before.in_range.ensures, c.before.before.sample_rate_ok.ensures)

-- Two tests whose results are known.
and_is : {a b r a' b' : Bool} → r ≡ (a && b) → a ≡ a' → b ≡ b' → r ≡ (a' && b')
and_is r a b = r ∙ rw (a, b)

-- From the second test back to the first.
abbrev first : tie.After-both → tie.Then-settings
first c = c.before.before.before.before.before.before.before.before.before.before.before.before.before

valid : (c : tie.After-both) → c.both.result ≡ valid_engine (first c).before.before.before.before.args.engine
valid c =
    let t = first c in
    let e = t.before.before.before.before.args.engine in
    let p = t.before.before.before.before.args.params in
    let second = c.before.before.before.before.before in
    let drawn = second.before.before.before in
    let wow : drawn.next-wow.result ≡ wow_drift e p =
    drawn.next-wow.ensures
    ∙ ap (λ (z : Float). next_of e.wow_drift z e.sample_rate) drawn.before.clamp.ensures in
    let flutter : second.next-flutter.result ≡ flutter_drift e p =
    second.next-flutter.ensures
    ∙ ap (λ (z : Float). next_of e.flutter_drift z e.sample_rate) second.before.clamp-then-settings.ensures in
    let drifts =
    and_is c.before.before.both-drifts.ensures (ap (λ (n : Next). eqb n.refusal 0) wow)
    (ap (λ (n : Next). eqb n.refusal 0) flutter) in
    let tested : c.both.result
    ≡ (phases_ok e && (eqb (wow_drift e p).refusal 0 && eqb (flutter_drift e p).refusal 0)) =
    and_is c.both.ensures c.before.phases_ok.ensures drifts in
    tested ∙ ready e p (sym (settings t.before) ∙ t.if-settings.true)

returns : tie.Need-returns-then-both
returns c =
    let b = c.before.before.before in
    let t = first b in
    let second = b.before.before.before.before.before in
    let drawn = second.before.before.before in
    rw (
      found _ _ (sym (settings t.before) ∙ t.if-settings.true) true (sym (valid b) ∙ c.before.before.if-both.true),
      c.render-offset.ensures,
      c.before.stepped-after.ensures,
      second.next-flutter.ensures,
      second.before.clamp-then-settings.ensures,
      drawn.next-wow.ensures,
      drawn.before.clamp.ensures,
    )

returns-2 : tie.Need-returns-then-settings
returns-2 c =
    let t = first c.before in
    rw (found _ _ (sym (settings t.before) ∙ t.if-settings.true) false (sym (valid c.before) ∙ c.if-both.false))

returns-3 : tie.Need-returns
returns-3 c =
    let a = c.before.before.before.before.args in
    rw (outside a.engine a.params (sym (settings c.before) ∙ c.if-settings.false))

pub next_spec : {M : Type 1} → statement M
next_spec =
    tie.close (tie.spec (λ c κs. tt) (λ c κs. tt) (λ c κs. tt) (λ c κs. tt) (λ c κs. tt) (λ c κs. tt) (λ c κs. tt)
    (λ c κs. tt) (λ c κs. tt) (λ c κs. tt) (λ c κs. tt) (λ c κs. tt) returns returns-2 returns-3)
