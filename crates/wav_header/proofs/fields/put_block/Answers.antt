-- `wav_header::fields::put_block` meets its contract, field after field: its products are of small numbers and fit a
-- word. Assumes nothing.
use borrow.Author.Rules.{rules}
use Prim.Native.Nat.{◌*◌, ◌≤◌}
use native.Mathlib.Nat.{mul-le-mul}
use native.Mathlib.Omega.{arith}
use lib.ListN.{take}
use Rattle.word_bytes.specs.Bytes.{low_bytes}
use Rattle.sample_kind.specs.Kinds.{width_of, frame_of}
use Rattle.sample_kind.proofs.Widths.{few_bytes}
use Rattle.wav_header.specs.Fields.{format_end}
use Rattle.wav_header.proofs.Sizes.{narrow}
use Rattle.wav_header.proofs.Pieces.{three-behind}
use Rattle.wav_header.proofs.fields.put_block.Goals as goal

pub overflow_mul-rate : goal.overflow_mul-rate
overflow_mul-rate c =
    let s = c.args in
    let r : s.rate ≤ 0xffff_ffff = omega arith in
    rw c.frame_width-frame.ensures (omega (arith, mul-le-mul r (few_bytes s.kind s.channels (omega arith))))

pub overflow_mul-width : goal.overflow_mul-width
overflow_mul-width c =
    let s = c.args in
    rw c.width.ensures (omega (arith, narrow s.kind))

pub returns : goal.returns
unfolding format_end
returns c =
    let s = c.args in record {
      out_len_unchanged = search rules;
      out_after = rw (
        c.put-3.ensures.out_after,
        c.put-2.ensures.out_after,
        c.put.ensures.out_after,
        c.width.ensures,
        c.frame_width-frame.ensures,
      )
          (three-behind (take 28 s.out.now) (low_bytes 4 (s.rate * frame_of s.kind s.channels))
          (low_bytes 2 (frame_of s.kind s.channels)) (low_bytes 2 (8 * width_of s.kind)));
    }
