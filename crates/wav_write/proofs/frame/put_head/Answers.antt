-- `wav_write::frame::put_head` meets its contract: if there is room for a file, its header is not refused. Assumes
-- nothing.
use mathlib.Core.Path.{◌≡◌}
use Prim.Native.Nat.{◌-◌}
use native.Mathlib.Omega.{arith}
use Rattle.long_header.specs.LongHeader.{header_length_for}
use Rattle.wav_write.proofs.Laid.{head-is}
use Rattle.wav_write.proofs.frame.put_head.Goals as goal

pub returns : goal.returns
returns c =
    let a = c.args in
    let e : c.header_length_for-start.result - 0
    ≡ header_length_for a.kind a.count = omega (arith, c.header_length_for-start.ensures) in
    head-is a.form a.kind a.channels a.rate a.count a.out.now _ _ c.requires e
    c.header_of.ensures.out_after
