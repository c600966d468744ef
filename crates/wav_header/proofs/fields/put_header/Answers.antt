-- `wav_header::fields::put_header` meets its contract: the parts in their order, for PCM and for float. Assumes
-- nothing.
use borrow.Author.Rules.{rules}
use mathlib.Core.Path.{sym, ◌∙◌}
use native.Mathlib.Omega.{arith}
use Rattle.wav_header.proofs.Sizes.{few_bytes, long-header, longer-header}
use Rattle.wav_header.proofs.Whole.{pcm, float}
use Rattle.wav_header.proofs.fields.put_header.Goals as goal

pub length_of-length-requires : goal.length_of-length-requires
length_of-length-requires c = c.requires.few

pub overflow_mul-size : goal.overflow_mul-size
overflow_mul-size c =
    rw c.width.ensures (omega (arith, few_bytes c.args.kind c.args.count c.requires.few))

pub overflow_sub-length : goal.overflow_sub-length
overflow_sub-length c = omega (arith, c.length_of-length.ensures, long-header c.args.kind)

pub put_start-requires : goal.put_start-requires
put_start-requires c =
    omega (arith, c.requires.exact, long-header c.args.kind)

pub put_data-requires : goal.put_data-requires
put_data-requires c =
    omega (
      arith,
      c.put_start.ensures.out_len_unchanged,
      c.requires.exact,
      c.header_length.ensures,
      c.if-header_length-eq44.true,
    )

pub returns-then-header_length-eq44 : goal.returns-then-header_length-eq44
returns-then-header_length-eq44 c =
    let s = c.args in
    rw (c.put_data.ensures, c.put_start.ensures.out_after, c.width.ensures, c.length_of-length.ensures)
    (pcm s.channels s.rate s.count s.kind (sym c.header_length.ensures ∙ c.if-header_length-eq44.true))

pub nonzero_div-count : goal.nonzero_div-count
nonzero_div-count c = search rules

pub put_fact-requires : goal.put_fact-requires
put_fact-requires c =
    let k = longer-header c.args.kind (λ z. c.if-header_length-eq44.false (c.header_length.ensures ∙ z)) in
    omega (arith, c.put_start.ensures.out_len_unchanged, c.requires.exact)

pub put_data-requires-2 : goal.put_data-requires-2
put_data-requires-2 c =
    let k = longer-header c.args.kind (λ z. c.if-header_length-eq44.false (c.header_length.ensures ∙ z)) in
    omega (arith, c.put_fact.ensures.out_len_unchanged, c.put_start.ensures.out_len_unchanged, c.requires.exact)

pub returns : goal.returns
returns c =
    let s = c.args in
    rw (
      c.put_data-2.ensures,
      c.put_fact.ensures.out_after,
      c.put_start.ensures.out_after,
      c.width.ensures,
      c.length_of-length.ensures,
    )
    (float s.channels s.rate s.count s.kind (λ z. c.if-header_length-eq44.false (c.header_length.ensures ∙ z)))
