-- `wav_header::fields::put_riff` meets its contract: field after field, and the names are their letters. Assumes
-- nothing.
use borrow.Author.Rules.{rules}
use Rattle.word_bytes.specs.Bytes.{low_bytes}
use Rattle.wav_header.specs.Fields.{riff_for}
use Rattle.wav_header.proofs.fields.put_riff.Goals as goal

pub returns : goal.returns
unfolding low_bytes riff_for
returns c =
    record {
      out_len_unchanged = search rules;
      out_after =
          rw (c.put-3.ensures.out_after, c.put-2.ensures.out_after, c.put.ensures.out_after);
    }
