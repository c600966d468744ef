-- `wav_header::fields::put_data` meets its contract: the block ends behind its two fields. Assumes nothing.
use mathlib.Core.Path.{sym, ◌∙◌}
use Prim.Native.Nat.{◌+◌}
use native.Mathlib.Omega.{arith}
use lib.ListN.{take}
use lib.Seq.{take_all}
use Rattle.word_bytes.specs.Bytes.{low_bytes}
use Rattle.wav_header.specs.Header.{data_name}
use Rattle.wav_header.specs.Fields.{data_for}
use Rattle.wav_header.proofs.Pieces.{two-behind}
use Rattle.wav_header.proofs.fields.put_data.Goals as goal

pub returns : goal.returns
unfolding low_bytes data_for
returns c =
    let at = c.args.at in
    let l = c.put-2.ensures.out_len_unchanged ∙ c.put.ensures.out_len_unchanged in
    sym (take_all (at + 4 + 4) c.put-2.new.out (omega (arith, l, c.requires)))
    ∙ rw (c.put-2.ensures.out_after, c.put.ensures.out_after)
    (two-behind (take at c.args.out.now) data_name (low_bytes 4 c.args.size))
