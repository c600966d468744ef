-- `absent_qualities::of_quality` meets its contract, by whether the quality is Draft and by how many sets are read.
-- Assumes nothing.
use mathlib.Core.Path.{◌≡◌, sym, ◌∙◌, ap, subst}
use mathlib.Core.Bool.{false}
use Prim.Native.Nat.{ℕ}
use native.Mathlib.Omega.{arith}
use Rattle.ring.specs.Length.{zeros}
use Rattle.absent_taps.specs.declared.Absent.{Absent}
use Rattle.absent_taps.specs.Absent.{absent_at, plus}
use Rattle.quality_mode.specs.declared.QualityMode.TheVariants.{Draft}
use Rattle.quality_mode.specs.Quality.{taps_of, same_q}
use Rattle.absent_qualities.specs.Readings.{Few}
use Rattle.absent_qualities.proofs.Readings.{one_set, two-sets, draft-reads, table-reads, few-taps, taps-few}
use Rattle.absent_qualities.proofs.of_quality.Goals as goal
use Rattle.absent_qualities.proofs.of_quality.Goals.{After-missing-one, Else-same}

pub returns-then-same : goal.returns-then-same
returns-then-same c =
    let a = c.args in
    c.missing.ensures
    ∙ draft-reads a.choice (zeros a.len) a.count a.position a.quality
    (sym c.same.ensures ∙ c.if-same.true)

-- The case of one set of a table.
one : (c : After-missing-one) → let a = c.args in
    c.missing-one.result ≡ absent_at (zeros a.len) a.count a.position (taps_of a.quality)
one c =
    let a = c.args in
    c.missing-one.ensures
    ∙ ap (λ (n : ℕ). absent_at (zeros a.len) a.count a.position n) c.taps-taps.ensures

table : (c : Else-same) → same_q c.args.quality Draft ≡ false
table c = sym c.same.ensures ∙ c.if-same.false

pub returns-then-choice-lt2 : goal.returns-then-choice-lt2
returns-then-choice-lt2 c =
    let a = c.args in
    one (goal.at.returns-then-choice-lt2 c).After-missing-one ∙ one_set a.choice.which _ (omega arith)
    ∙ table-reads a.choice (zeros a.len) a.count a.position a.quality
    (table (goal.at.returns-then-choice-lt2 c).Else-same)

pub plus-requires : goal.plus-requires
plus-requires c =
    let a = c.args in
    let f : Few c.missing-one.result = subst Few (sym (one (goal.at.plus-requires c).After-missing-one))
    (few-taps a.choice (zeros a.len) a.count a.position (taps_of a.quality) (taps-few a.quality)) in
    (f, f)

pub returns : goal.returns
returns c =
    let a = c.args in
    c.plus.ensures ∙ ap (λ (s : Absent). plus s s) (one (goal.at.returns c).After-missing-one) ∙ two-sets a.choice.which
    _ (omega arith)
    ∙ table-reads a.choice (zeros a.len) a.count a.position a.quality (table (goal.at.returns c).Else-same)
