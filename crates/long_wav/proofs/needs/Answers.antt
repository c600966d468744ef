-- `long_wav::needs` meets its contract, by the steps of a reading. Assumes nothing.
use mathlib.Core.Path.{◌≡◌, sym, ap, ◌∙◌}
use Rattle.wav_opening.specs.declared.Begun.{Begun}
use Rattle.wav_opening.specs.Opening.{end_of}
use Rattle.long_wav.proofs.Verdicts.{asked-first, asked-none, asked-heads}
use Rattle.long_wav.proofs.needs.Goals as goal

pub returns-then-opening-ne0 : goal.returns-then-opening-ne0
returns-then-opening-ne0 c =
    let o = c.opening_needs-opening.ensures in
    let a = c.args in
    o ∙ sym (asked-first a.prefix.now a.length (λ z. c.if-opening-ne0.true (o ∙ z)))

pub returns-then-begun-ne0 : goal.returns-then-begun-ne0
returns-then-begun-ne0 c =
    let a = c.args in
    let r = ap (λ (g : Begun). g.refusal) c.told-begun.ensures in
    sym (asked-none a.prefix.now a.length (sym c.opening_needs-opening.ensures ∙ c.if-opening-ne0.false)
    (λ z. c.if-begun-ne0.true (r ∙ z)))

pub returns : goal.returns
returns c =
    let a = c.args in
    let r = sym (ap (λ (g : Begun). g.refusal) c.told-begun.ensures) ∙ c.if-begun-ne0.false in
    let e : c.told-begun.result.end ≡ end_of a.prefix.now a.length = ap (λ (g : Begun). g.end)
    c.told-begun.ensures ∙ rw r in
    c.heads_of-reached.ensures.asked_value
    ∙ rw e (sym (asked-heads a.prefix.now a.length (sym c.opening_needs-opening.ensures ∙ c.if-opening-ne0.false) r))
