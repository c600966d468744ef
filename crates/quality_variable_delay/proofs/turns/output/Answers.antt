-- `quality_variable_delay::turns::output` meets its contract: each reading is the bank's, by `bank-read`.
-- Assumes nothing.
use Rattle.std.proofs.Common.{◌≡◌, sym, refl, ap, ◌∙◌}
use Rattle.quality_mode.specs.declared.QualityMode.{QualityMode}
use Rattle.bank_choice.specs.Inner.{choice_of}
use Rattle.bank_choice.specs.declared.Choice.{Choice}
use Rattle.bank_read.specs.Bank.{bank_at}
use Rattle.bank_read.specs.Inner.{read_of}
use Rattle.bank_read.proofs.BankReading.{draft-read, bank-read}
use Rattle.quality_variable_delay.proofs.turns.output.Goals as goal
use Rattle.quality_variable_delay.proofs.turns.output.Goals.{Start}

-- A quality's reading by the choice that was made.
chosen : (s : Start) (q : QualityMode) (h : Choice) → let a = s.args in
    h ≡ choice_of a.max_rate a.playback_rate
    → read_of h q a.sets.now a.source.now a.count a.position
    ≡ bank_at a.sets.now a.max_rate a.playback_rate q a.source.now a.count a.position
chosen s q h e =
    let a = s.args in
    ap (λ (k : Choice). read_of k q a.sets.now a.source.now a.count a.position) e
    ∙ bank-read a.max_rate a.playback_rate s.requires.0 q a.sets.now a.source.now a.count
    a.position
    s.requires.1 s.requires.2

pub returns-then-turn : goal.returns-then-turn
returns-then-turn c =
    let t = c.args.turn in
    let e = c.choice_or_zero-shared.ensures in
    rw c.if-turn.true
    (rw (
      c.mix.ensures,
      c.read-b.ensures ∙ chosen (goal.at.returns-then-turn c).Start t.to c.choice_or_zero-shared.result e,
      c.read-a.ensures ∙ chosen (goal.at.returns-then-turn c).Start t.from c.choice_or_zero-shared.result e,
    ))

-- Draft reads the same by every choice.
pub returns-then-same : goal.returns-then-same
returns-then-same c =
    let a = c.args in
    let h = choice_of a.max_rate a.playback_rate in
    rw c.if-turn.false
    (c.read.ensures
    ∙ draft-read h a.sets.now a.source.now a.count a.position a.turn.to
    (sym c.same.ensures ∙ c.if-same.true)
    ∙ chosen (goal.at.returns-then-same c).Start a.turn.to h refl)

pub returns : goal.returns
returns c =
    rw c.if-turn.false (c.read-2.ensures
    ∙ chosen (goal.at.returns c).Start c.args.turn.to c.choice_or_zero-choice.result c.choice_or_zero-choice.ensures)
