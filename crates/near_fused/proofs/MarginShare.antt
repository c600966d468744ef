-- The share of the terms that makes the margin is 2 ^ -70 or more; a given number is tested by computing. Assumes
-- nothing.
use mathlib.Core.Path.{refl}
use mathlib.Core.Bool.{Bool, true, false, not, ◌&&◌}
use Prim.Native.Nat.{ℕ, ◌*◌, ◌^◌, ◌≤◌, ◌<◌}
use lib.Dec.{T, leb, leb→le}
use lib.Ieee.{Float, nan, inf, fin, up, down}
use lib.Ieee.Exact.{HasValue}
use lib.Ieee.Fits.{down_pos}

abbrev pub enough : Float → Bool
enough nan = false
enough (inf s) = false
enough (fin s m e) = not s && leb (down e) (m * up e * 2 ^ 70)

-- The share is n / d.
pub record Share (x : Float) : Type 0 where
  pub n : ℕ
  pub d : ℕ
  pub some : 0 < d
  pub value : HasValue x false n d
  pub most : d ≤ n * 2 ^ 70

pub share : (x : Float) → T (enough x) → Share x
share nan h = absurd h
share (inf s) h = absurd h
share (fin true m e) h = absurd h
share (fin false m e) h =
    record {
      n = m * up e;
      d = down e;
      some = down_pos e;
      value = (refl, refl);
      most = leb→le (down e) (m * up e * 2 ^ 70) h;
    }
