-- `wav_header::fields::put_format` meets its contract: field after field, and the name is its letters. Assumes nothing.
use borrow.Author.Rules.{rules}
use lib.ListN.{take}
use Rattle.word_bytes.specs.Bytes.{low_bytes}
use Rattle.wav_header.specs.Header.{fmt_name, tag_of}
use Rattle.wav_header.specs.Fields.{format_size, format_start}
use Rattle.wav_header.proofs.Pieces.{five-behind}
use Rattle.wav_header.proofs.fields.put_format.Goals as goal

pub returns : goal.returns
unfolding low_bytes format_start
returns c =
    let s = c.args in record {
      out_len_unchanged = search rules;
      out_after = rw (
        c.put-5.ensures.out_after,
        c.put-4.ensures.out_after,
        c.put-3.ensures.out_after,
        c.put-2.ensures.out_after,
        c.put.ensures.out_after,
        c.tag.ensures,
        c.format_size.ensures,
      )
          (five-behind (take 12 s.out.now) fmt_name (low_bytes 4 (format_size s.kind))
          (low_bytes 2 (tag_of s.kind)) (low_bytes 2 s.channels) (low_bytes 4 s.rate));
    }
