-- How many binary digits a number has, and that the bars fill the line: the first begins at 0, each can be seen, and
-- the last ends at 1000. Assumes nothing.
use mathlib.Core.Path.{◌≡◌}
use Prim.Native.Nat.{ℕ, ◌+◌, ◌-◌, ◌*◌, ◌/◌, ◌^◌, ◌<◌, ◌≤◌}
use native.Mathlib.Nat.{add-mul, one-mul, zero-div, div-mul-le_self, le-div_iff_mul-le, mul-div_cancel_left}
use native.Mathlib.Omega.{arith}
use borrow.Author.Tests.{ne_eqb}
use lib.Ieee.Digits.{size-lt, size_reaches, size-le}
use Rattle.float_digits.proofs.Lengths.{size-some}
use Rattle.picture.specs.Bars.{bits_of, edge}

-- A number above 0 with b binary digits lies from 2^(b - 1) to below 2^b.
pub digits : (n : ℕ) → 0 < n → (2 ^ (bits_of n - 1) ≤ n) × (n < 2 ^ bits_of n)
digits n h = (size_reaches n (bits_of n - 1) (omega (arith, size-some n h)), size-lt n)

-- A difference of two samples of 24 bits has at most 24 bits, so no bar is taller than the panel.
pub full-scale : (n : ℕ) → n < 2 ^ 24 → bits_of n ≤ 24
full-scale n h = size-le n 24 h

pub begins : (n : ℕ) → 0 < n → edge 0 n ≡ 0
unfolding edge
begins n h = rw (ne_eqb n 0 (λ e. omega arith), zero-div n)

pub ends : (n : ℕ) → 0 < n → edge n n ≡ 1000
unfolding edge
ends n h = rw (ne_eqb n 0 (λ e. omega arith)) (mul-div_cancel_left 1000 h)

-- Each of up to 1000 stretches is at least one unit wide.
pub seen : (k n : ℕ) → 0 < n → n ≤ 1000 → edge k n + 1 ≤ edge (k + 1) n
unfolding edge
seen k n h l =
    let q = k * 1000 / n in
    let s : (q + 1) * n ≡ q * n + n = rw (add-mul q 1 n, one-mul n) in
    rw (ne_eqb n 0 (λ e. omega arith))
    ((le-div_iff_mul-le h).1 (omega (arith, div-mul-le_self (k * 1000) n)))
