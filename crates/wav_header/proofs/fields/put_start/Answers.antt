-- `wav_header::fields::put_start` meets its contract: part after part. Assumes nothing.
use borrow.Author.Rules.{rules}
use Rattle.wav_header.proofs.fields.put_start.Goals as goal

pub returns : goal.returns
returns c =
    record {
      out_len_unchanged = search rules;
      out_after =
          rw (c.put_block.ensures.out_after, c.put_format.ensures.out_after, c.put_riff.ensures.out_after);
    }
