-- `coded_stretch::process_stretch` meets its contract, by the test of the numbers. Assumes nothing.
use mathlib.Core.Path.{◌≡◌, sym, ◌∙◌, ap}
use mathlib.Core.Bool.{Bool, true, false, ◌&&◌}
use Rattle.quality_codes.specs.Codes.{code_ok, fields_ok}
use Rattle.coded_stretch.proofs.NamedOrNot.{named, not_named}
use Rattle.coded_stretch.proofs.process_stretch.Goals as goal

pub returns-then-both : goal.returns-then-both
returns-then-both c =
    let s = c.args in
    let t : (code_ok s.quality && fields_ok s.state) ≡ true =
    ap (λ (x : Bool). code_ok s.quality && x) (sym c.fields_ok.ensures)
    ∙ sym c.both.ensures
    ∙ c.if-both.true in
    rw c.apart.ensures
    (named s.sets.now s.max_rate s.quality s.playback_rate s.state s.ring.now s.inputs.now
    s.delays.now s.out.now t
    (rw (c.decode.ensures, c.mode-q.ensures) at c.process_stretch-a.ensures))

pub returns : goal.returns
returns c =
    let s = c.args in
    let t : (code_ok s.quality && fields_ok s.state) ≡ false =
    ap (λ (x : Bool). code_ok s.quality && x) (sym c.fields_ok.ensures)
    ∙ sym c.both.ensures
    ∙ c.if-both.false in
    not_named s.sets.now s.max_rate s.quality s.playback_rate s.state s.ring.now
    s.inputs.now s.delays.now s.out.now t (rw c.decode-2.ensures at c.refused_first-v.ensures)
    c.odd.ensures
