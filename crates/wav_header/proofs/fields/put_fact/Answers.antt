-- `wav_header::fields::put_fact` meets its contract: field after field, and the name is its letters. Assumes nothing.
use borrow.Author.Rules.{rules}
use lib.ListN.{take}
use Rattle.word_bytes.specs.Bytes.{low_bytes}
use Rattle.wav_header.specs.Header.{fact_name}
use Rattle.wav_header.specs.Fields.{fact_for}
use Rattle.wav_header.proofs.Pieces.{four-behind}
use Rattle.wav_header.proofs.fields.put_fact.Goals as goal

pub returns : goal.returns
unfolding low_bytes fact_for
returns c =
    let s = c.args in record {
      out_len_unchanged = search rules;
      out_after = rw (
        c.put-4.ensures.out_after,
        c.put-3.ensures.out_after,
        c.put-2.ensures.out_after,
        c.put.ensures.out_after,
      )
          (four-behind (take 36 s.out.now) (low_bytes 2 0) fact_name (low_bytes 4 4) (low_bytes 4 s.frames));
    }
