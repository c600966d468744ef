-- `wav_format::format::format_ok` meets its contract, by the contracts of the functions that it calls; the product of
-- two small numbers fits. Assumes nothing.
use Prim.Native.Nat.{◌/◌, ◌≤◌}
use native.Mathlib.Nat.{mul-le-mul}
use native.Mathlib.Omega.{arith}
use Rattle.wav_format.specs.Format.{format_ok}
use Rattle.wav_format.proofs.format.format_ok.Goals as goal

pub overflow_mul-channels : goal.overflow_mul-channels
overflow_mul-channels c =
    let a = c.two-channels in
    let b = c.two-bits in
    let h : a.result ≤ 65535 = omega (arith, a.ensures.upper_bound) in
    let k : b.result / 8 ≤ 8192 = omega (arith, b.ensures.upper_bound) in
    omega (arith, mul-le-mul h k)

pub returns : goal.returns
unfolding format_ok
returns c = cc
