-- `wav_header::fields::length_of` meets its contract: fewer than 2^32 samples have few enough bytes for every sum.
-- Assumes nothing.
use native.Mathlib.Omega.{arith}
use Rattle.wav_header.proofs.Sizes.{few_bytes, short-header}
use Rattle.wav_header.proofs.fields.length_of.Goals as goal

pub overflow_mul-size : goal.overflow_mul-size
overflow_mul-size c =
    rw c.width.ensures (omega (arith, few_bytes c.args.kind c.args.count c.requires))

pub overflow_add-result : goal.overflow_add-result
overflow_add-result c =
    rw (c.width.ensures, c.header_length.ensures)
    (omega (arith, few_bytes c.args.kind c.args.count c.requires, short-header c.args.kind))

pub overflow_add-result-2 : goal.overflow_add-result-2
overflow_add-result-2 c =
    rw (c.width.ensures, c.header_length.ensures)
    (omega (arith, few_bytes c.args.kind c.args.count c.requires, short-header c.args.kind))

pub returns : goal.returns
returns c = rw (c.width.ensures, c.header_length.ensures)
