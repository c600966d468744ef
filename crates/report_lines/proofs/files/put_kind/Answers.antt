-- `report_lines::files::put_kind` meets its contract: each arm of the match gives the text of its variant. Assumes
-- nothing.
use mathlib.Core.Path.{◌∙◌, ap, sym}
use Rattle.text.specs.Text.{ascii, put_at, place_after}
use Rattle.report_lines.specs.Files.{kind_text}
use Rattle.report_lines.proofs.files.put_kind.Goals as goal

pub returns-in-Pcm16 : goal.returns-in-Pcm16
unfolding ascii
returns-in-Pcm16 c =
    let t = ap kind_text (sym c.in-Pcm16.is) in
    record {
      value = c.put.ensures.value ∙ ap (place_after _ _) t;
      out_after =
          c.put.ensures.out_after ∙ ap (put_at _ _) t;
    }

pub returns-in-Pcm24 : goal.returns-in-Pcm24
unfolding ascii
returns-in-Pcm24 c =
    let t = ap kind_text (sym c.in-Pcm24.is) in
    record {
      value = c.put-in-Pcm24.ensures.value ∙ ap (place_after _ _) t;
      out_after =
          c.put-in-Pcm24.ensures.out_after ∙ ap (put_at _ _) t;
    }

pub returns-in-Float32 : goal.returns-in-Float32
unfolding ascii
returns-in-Float32 c =
    let t = ap kind_text (sym c.in-Float32.is) in
    record {
      value = c.put-in-Float32.ensures.value ∙ ap (place_after _ _) t;
      out_after =
          c.put-in-Float32.ensures.out_after ∙ ap (put_at _ _) t;
    }
