-- `long_header::long::put_sizes` meets its contract, by the kinds. Assumes nothing.
use mathlib.Core.Path.{sym, ap, ◌∙◌}
use mathlib.Core.List.{List}
use Prim.Native.Nat.{ℕ}
use native.Mathlib.Omega.{arith}
use Rattle.wav_header.proofs.Sizes.{longer-header}
use Rattle.long_header.specs.Parts.{over}
use Rattle.long_header.proofs.Placed.{sized-pcm, sized-float}
use Rattle.long_header.proofs.long.put_sizes.Goals as goal

pub returns-then-header_length-eq44 : goal.returns-then-header_length-eq44
returns-then-header_length-eq44 c =
    let a = c.args in
    c.put_full.ensures.out_after
    ∙ sized-pcm a.kind a.out.now (sym c.header_length.ensures ∙ c.if-header_length-eq44.true)

pub put_full-requires-2 : goal.put_full-requires-2
put_full-requires-2 c =
    omega (
      arith,
      c.requires,
      longer-header c.args.kind (λ z. c.if-header_length-eq44.false (c.header_length.ensures ∙ z)),
    )

pub put_full-requires-3 : goal.put_full-requires-3
put_full-requires-3 c =
    omega (
      arith,
      c.requires,
      c.put_full-2.ensures.out_len_unchanged,
      longer-header c.args.kind (λ z. c.if-header_length-eq44.false (c.header_length.ensures ∙ z)),
    )

pub returns : goal.returns
returns c =
    let a = c.args in
    c.put_full-3.ensures.out_after
    ∙ ap (λ (xs : List ℕ). over xs 90) c.put_full-2.ensures.out_after
    ∙ sized-float a.kind a.out.now (λ z. c.if-header_length-eq44.false (c.header_length.ensures ∙ z))
