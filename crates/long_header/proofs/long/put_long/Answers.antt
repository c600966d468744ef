-- `long_header::long::put_long` meets its contract: its parts together are the header. Assumes nothing.
use mathlib.Core.Path.{ap}
use native.Mathlib.Omega.{arith}
use lib.ListN.{length, length-append, length-drop}
use Rattle.wav_header.proofs.Sizes.{short-header, long-header}
use Rattle.long_header.proofs.Bounds.{some-channel}
use Rattle.long_header.proofs.Letters.{length-opening}
use Rattle.long_header.proofs.Placed.{tail-long}
use Rattle.long_header.proofs.Assembled.{assembled}
use Rattle.long_header.proofs.long.put_long.Goals as goal

pub overflow_mul-size : goal.overflow_mul-size
overflow_mul-size c = rw c.width.ensures (omega (arith, c.requires.small))

pub overflow_add-riff : goal.overflow_add-riff
overflow_add-riff c =
    rw c.width.ensures
    (omega (arith, c.requires.small, c.header_length-long.ensures, short-header c.args.kind))

pub overflow_add-riff-2 : goal.overflow_add-riff-2
overflow_add-riff-2 c =
    rw c.width.ensures
    (omega (arith, c.requires.small, c.header_length-long.ensures, short-header c.args.kind))

pub nonzero_div-frames : goal.nonzero_div-frames
nonzero_div-frames c =
    omega (arith, some-channel c.args.channels c.requires.mono-or-stereo)

pub put_rest-requires : goal.put_rest-requires
put_rest-requires c =
    let p = c.requires in
    record { exact = p.exact; rate-fits = p.rate-fits; mono-or-stereo = p.mono-or-stereo }

pub put_front-requires : goal.put_front-requires
put_front-requires c =
    let long = tail-long c.args.kind c.args.channels c.args.rate c.args.out.now _
    (omega (arith, c.requires.exact)) c.put_rest.ensures in
    omega (arith, long, long-header c.args.kind)

pub put_sizes-requires : goal.put_sizes-requires
put_sizes-requires c =
    let long = tail-long c.args.kind c.args.channels c.args.rate c.args.out.now _
    (omega (arith, c.requires.exact)) c.put_rest.ensures in
    let all = simp (length-append, length-drop, length-opening) at (ap length c.put_front.ensures) in
    omega (arith, all, long, long-header c.args.kind)

pub returns : goal.returns
returns c =
    rw (
      c.put_sizes.ensures,
      c.put_front.ensures,
      c.put_rest.ensures,
      c.header_length-long.ensures,
      c.width.ensures,
    )
    (assembled c.args.channels c.args.rate c.args.count c.args.form c.args.kind c.args.out.now
    (omega (arith, c.requires.exact)))
