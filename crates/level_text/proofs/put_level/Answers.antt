-- `level_text::put_level` meets its contract: each arm of the match gives the text of its variant. Assumes nothing.
use mathlib.Core.Path.{◌∙◌, ap, sym}
use Rattle.text.specs.Text.{ascii, put_at, place_after}
use Rattle.level_text.specs.LevelText.{level_text}
use Rattle.level_text.proofs.put_level.Goals as goal

pub returns-in-None : goal.returns-in-None
unfolding ascii
returns-in-None c =
    let t = ap level_text (sym c.in-None.is) in
    record {
      value = c.put.ensures.value ∙ ap (place_after _ _) t;
      out_after = c.put.ensures.out_after ∙ ap (put_at _ _) t;
    }

pub returns-in-Some : goal.returns-in-Some
returns-in-Some c =
    let t = ap level_text (sym c.in-Some.is) in
    record {
      value = c.put_tenths.ensures.value ∙ ap (place_after _ _) t;
      out_after = c.put_tenths.ensures.out_after ∙ ap (put_at _ _) t;
    }
