-- Every sample of three bytes but that of the last frame is followed by another byte of the part. Assumes nothing.
use Prim.Native.Nat.{ℕ, suc, ◌+◌, ◌*◌, ◌≤◌, ◌<◌}
use native.Mathlib.Nat.{suc-mul, mul-le-mul_right}
use native.Mathlib.Omega.{arith}
use Rattle.wav_samples.specs.Frames.{Whole}

pub one-behind : {size n frame first : ℕ} (k : ℕ) → Whole size n frame first 3 → k + 1 < n
    → k * frame + first + 4 ≤ size
one-behind {n = n} {frame = frame} k w h =
    let l : suc (suc k) ≤ n = omega arith in
    omega (arith, w.all, w.inside, mul-le-mul_right frame l, suc-mul (suc k) frame, suc-mul k frame)
