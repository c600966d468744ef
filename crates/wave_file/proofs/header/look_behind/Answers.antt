-- `wave_file::header::look_behind` meets its contract, return by return. Assumes nothing.
use mathlib.Core.Path.{refl, sym, ap, ◌∙◌}
use Rattle.wav_opening.specs.declared.Begun.{Begun}
use Rattle.wave_file.specs.declared.Opened.TheVariants.{Refused}
use Rattle.wave_file.specs.Opening.{refused_by}
use Rattle.wave_file.specs.Opening.Opens.{shorter}
use Rattle.wave_file.proofs.Answers.{at_once, behind, broken-off}
use Rattle.wave_file.proofs.header.look_behind.Goals as goal

pub returns-then-opening-fewer : goal.returns-then-opening-fewer
returns-then-opening-fewer c = shorter refl

pub returns-then-start-ne0 : goal.returns-then-start-ne0
returns-then-start-ne0 c =
    at_once c.args.opening.now c.args.length c.layout_of-layout.ensures c.args.fd _
    (sym (ap (λ (x : Begun). x.refusal) c.begin-start.ensures)) c.if-start-ne0.true
    (ap Refused (c.refusal.ensures ∙ ap (refused_by _) c.told_of.ensures))

pub returns-in-Done : goal.returns-in-Done
returns-in-Done c =
    behind c.args.opening.now c.args.length c.layout_of-layout.ensures
    (sym (ap (λ (x : Begun). x.refusal) c.begin-start.ensures) ∙ c.if-start-ne0.false)
    (sym (ap (λ (x : Begun). x.end) c.begin-start.ensures))
    c.walk_all-walk.ensures c.in-Done.is c.find.ensures

pub returns-in-Broken : goal.returns-in-Broken
returns-in-Broken c = broken-off c.broken.ensures
