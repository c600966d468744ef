-- `wav_write::frame::put_pad` meets its contract: a file ends where its samples end, or one pad byte later. Assumes
-- nothing.
use Prim.Native.Nat.{◌+◌, ◌*◌}
use native.Mathlib.Omega.{arith}
use Rattle.wav_write.proofs.Around.{pad-one, pad-none}
use Rattle.wav_write.proofs.frame.put_pad.Goals as goal

pub overflow_mul-end : goal.overflow_mul-end
overflow_mul-end c = rw c.width.ensures (omega (arith, c.requires.long))

pub overflow_add-end : goal.overflow_add-end
overflow_add-end c =
    rw (c.width.ensures, c.header_length_for.ensures) (omega (arith, c.requires.long))

pub returns-then-end-length : goal.returns-then-end-length
returns-then-end-length c =
    pad-one c.args.kind c.args.count c.args.out.now _
    (rw (c.width.ensures, c.header_length_for.ensures)) c.requires.long
    (omega (arith, c.requires.exact, c.if-end-length.true))

pub returns-else-end-length : goal.returns-else-end-length
returns-else-end-length c =
    pad-none c.args.kind c.args.count c.args.out.now
    (c.header_length_for.result + c.args.count * c.width.result)
    (rw (c.width.ensures, c.header_length_for.ensures)) c.requires.long
    (omega (arith, c.requires.exact, c.if-end-length.false))
