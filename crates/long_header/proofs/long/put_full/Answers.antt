-- `long_header::long::put_full` meets its contract, by the laws of a lent part. Assumes nothing.
use Prim.Native.Nat.{◌+◌, ◌-◌}
use native.Mathlib.Omega.{arith}
use Rattle.wav_header.proofs.Pieces.{length-after}
use Rattle.long_header.proofs.Placed.{over-is}
use Rattle.long_header.proofs.long.put_full.Goals as goal

pub returns : goal.returns
returns c =
    let xs = c.args.out.now in
    let at = c.args.at in
    let w = c.write_bytes.ensures in record {
      out_after =
          over-is xs _ at (at + 4 - at) (omega arith) c.requires w;
      out_len_unchanged =
          length-after xs _ at (at + 4 - at) 4 _ (omega arith) c.requires w;
    }
