-- `picture::bars::put_bar` meets its contract: texts put one after the other are one. Assumes nothing.
use mathlib.Core.List.{◌++◌}
use Prim.Native.Nat.{◌-◌, ◌*◌}
use native.Mathlib.Omega.{arith}
use Rattle.text.specs.Text.{ascii}
use Rattle.text.proofs.Texts.{then}
use Rattle.picture.specs.Bars.{number_text, bar_text}
use Rattle.picture.proofs.Edges.{onward}
use Rattle.picture.proofs.bars.put_bar.Goals as goal

pub overflow_sub-width : goal.overflow_sub-width
overflow_sub-width c =
    let s = c.args in
    omega (arith, onward s.k s.n)

pub returns : goal.returns
unfolding ascii bar_text
returns c =
    let s = c.args in
    let from = c.start-from.result in
    let wide = c.start.result - from in
    let from-third = number_text (ascii "\" height=\"") (s.digits * 10) ++ (ascii "\"/>") in
    let from_Second = number_text (ascii "\" width=\"") wide ++ from-third in
    rw (← c.start.ensures, ← c.start-from.ensures)
    (then s.out.now (number_text s.opening.now from) from_Second s.at c.put_number-first.ensures
    (then c.put_number-first.new.out (number_text (ascii "\" width=\"") wide) from-third
    c.put_number-first.result c.put_number-second.ensures
    (then c.put_number-second.new.out (number_text (ascii "\" height=\"") (s.digits * 10)) (ascii "\"/>")
    c.put_number-second.result c.put_number-third.ensures c.put.ensures)))
