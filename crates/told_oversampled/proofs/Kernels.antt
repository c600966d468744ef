-- A kernel whose settings are in range reads at most 128 taps. Assumes nothing.
use Rattle.std.proofs.Common.{◌≡◌, ◌%◌, ◌≤◌, true, ◌&&◌, eqb, leb, arith, lit≤, leb-true}
use Rattle.sinc_settings.specs.Ranges.{phases_ok}
use Rattle.kernels.specs.declared.Kernel.{Kernel}
use Rattle.kernels.specs.declared.Kernel.TheVariants.{Cubic, Lagrange, Farrow8, Sinc}
use Rattle.kernels.specs.Kernels.{own_ok, taps_of}
use Rattle.oversampled_delay.proofs.Tests.{parted}

pub few-taps : (k : Kernel) → own_ok k ≡ true → taps_of k ≤ 128
few-taps Cubic e = lit≤ tt
few-taps (Lagrange n) e =
    let p = parted (leb n 16 && leb 2 n) (eqb (n % 2) 0) e in
    let q : n ≤ 16 = leb-true n 16 (parted (leb n 16) (leb 2 n) p.0).0 in
    omega arith
few-taps Farrow8 e = lit≤ tt
few-taps (Sinc n phases) e =
    let p = parted (leb 4 n && leb n 128 && eqb (n % 2) 0) (phases_ok phases) e in
    let q = parted (leb 4 n && leb n 128) (eqb (n % 2) 0) p.0 in
    leb-true n 128 (parted (leb 4 n) (leb n 128) q.0).1
