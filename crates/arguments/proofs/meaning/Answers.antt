-- `arguments::meaning` meets its contract: NAME=VALUE is taken apart at its first `=`. Assumes nothing.
use mathlib.Core.Path.{◌≡◌, sym, ap, ◌∙◌}
use Prim.Native.Nat.{◌+◌, ◌-◌}
use native.Mathlib.Omega.{arith}
use lib.ListN.{length, drop, length-drop}
use lib.Seq.{take_all, length-take-le}
use Rattle.spelling.specs.Words.{split_in}
use Rattle.arguments.specs.Meaning.{valued_as}
use Rattle.spelling.proofs.Letters.{has_value}
use Rattle.arguments.proofs.meaning.Goals as goal

pub returns-then-is_named : goal.returns-then-is_named
returns-then-is_named c =
    let text = c.args.text.now in
    let from = c.value_at-from.result in
    let inside = has_value text (sym c.is_named.ensures ∙ c.if-is_named.true) in
    let behind : from ≡ split_in text + 1 = omega arith in
    let all = take_all (length text - from) (drop from text) (omega (arith, length-drop from text)) in
    rw (← c.is_named.ensures, c.if-is_named.true, ← behind, ← c.split-at.ensures.value)
    (c.valued.ensures
    ∙ ap (valued_as c.name_of-name.result) all
    ∙ ap (λ m. valued_as m (drop from text)) c.name_of-name.ensures)

pub returns : goal.returns
returns c = rw (← c.is_named.ensures, c.if-is_named.false)

pub slice_bounds-name_of-end : goal.slice_bounds-name_of-end
slice_bounds-name_of-end c = sym (length-take-le _ _ c.split-at.ensures.upper_bound)
