-- `file_words::lines::put_refused` meets its contract: texts put one after the other are one. Assumes nothing.
use Rattle.error_lines.specs.Lines.{start_text}
use Rattle.refusal_words.specs.Refusals.{refusal_text}
use Rattle.file_words.specs.Unopened.{refused_line}
use Rattle.text.proofs.Texts.{then}
use Rattle.file_words.proofs.lines.put_refused.Goals as goal

pub returns : goal.returns
unfolding refused_line
returns c =
    let s = c.args in
    then s.out.now (start_text s.command.now s.name.now)
    (refusal_text s.name.now s.refused.number s.refused.tag s.refused.channels s.refused.block
    s.refused.bits) s.at c.put_start-one.ensures c.put_refusal.ensures
