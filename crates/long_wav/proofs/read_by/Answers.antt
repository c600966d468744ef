-- `long_wav::read_by` meets its contract, by the steps of a reading. Assumes nothing.
use mathlib.Core.Path.{sym, ◌∙◌}
use Rattle.wav_format.specs.Tags.{tag_by}
use Rattle.long_wav.proofs.Verdicts.{opened, refused-early, head-missing, walk-tells}
use Rattle.long_wav.proofs.read_by.Goals as goal

pub returns-then-begun-ne0 : goal.returns-then-begun-ne0
returns-then-begun-ne0 c =
    let a = c.args in
    refused-early a.prefix.now a.length (tag_by a.wrapped) c.begin-begun.result c.begin-begun.ensures
    c.if-begun-ne0.true

pub returns-then-reached-ne0 : goal.returns-then-reached-ne0
returns-then-reached-ne0 c =
    let a = c.args in
    let o = opened a.prefix.now a.length c.begin-begun.result c.begin-begun.ensures c.if-begun-ne0.false in
    head-missing a.prefix.now a.length (tag_by a.wrapped) o.0 o.1.0
    (λ z. c.if-reached-ne0.true (c.heads_of-reached.ensures.asked_value ∙ rw o.1.1 z))

pub returns : goal.returns
returns c =
    let a = c.args in
    let o = opened a.prefix.now a.length c.begin-begun.result c.begin-begun.ensures c.if-begun-ne0.false in
    let none = rw o.1.1 at (sym c.heads_of-reached.ensures.asked_value ∙ c.if-reached-ne0.false) in
    c.finish.ensures
    ∙ walk-tells a.prefix.now a.length (tag_by a.wrapped) o.0 o.1.0 none
    c.heads_of-reached.result.seen c.part_of-f.result.now c.tag_of-tag.result
    (c.heads_of-reached.ensures.seen_value c.if-reached-ne0.false ∙ rw o.1.1) c.part_of-f.ensures c.tag_of-tag.ensures
