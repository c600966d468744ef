-- `wav_header::fields::put` meets its contract, by the law of a field in a lent part. Assumes nothing.
use Prim.Native.Nat.{◌+◌, ◌-◌}
use native.Mathlib.Omega.{arith}
use Rattle.wav_header.proofs.Pieces.{length-after, field-after}
use Rattle.wav_header.proofs.fields.put.Goals as goal

pub returns : goal.returns
returns c =
    let xs = c.args.out.now in
    let at = c.args.at in
    let size = c.args.size in
    let w = c.write_bytes in record {
      out_len_unchanged =
          length-after xs _ at (at + size - at) size _ (omega arith) c.requires w.ensures;
      out_after =
          field-after xs _ at (at + size - at) size _ (omega arith) c.requires w.ensures;
    }
