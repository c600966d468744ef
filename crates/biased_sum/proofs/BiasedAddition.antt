-- p + b as an f64, where b is a bias plus Q units. Between the ends of the bias it is the bias plus what p and Q add up
-- to as an f32. Assumes nothing.
use mathlib.Core.Path.{◌≡◌, sym, ap, ◌∙◌, subst}
use mathlib.Core.Bool.{Bool, true}
use Prim.Native.Nat.{ℕ, ◌+◌, ◌^◌, ◌≤◌, ◌<◌}
use native.Mathlib.Nat.{lt_of_lt_of_le}
use native.Mathlib.Omega.{arith}
use lib.Pow.{pow_pos}
use lib.Ieee.{Float, binary32, binary64, round, add, lt}
use lib.Ieee.Exact.{HasValue}
use Rattle.rounding.proofs.Adding.{add-units}
use Rattle.rounding.proofs.Sums.{sum_is, sum-sign, sum-size}
use Rattle.biased_sum.specs.Biased.{digit, bias-of, near_of, far-of, Frame}
use Rattle.biased_sum.proofs.Grid.{L, Rounded, rounds}
use Rattle.biased_sum.proofs.InsideFrame.{Lies, inside}
use Rattle.biased_sum.proofs.Signs.{Apart, apart}

pub record Taken (t : Bool) (P : ℕ) (s : Bool) (Q k : ℕ) (b : Float) : Type 0 where
  pub sign : sum-sign t P s Q ≡ s
  pub more : 0 < sum-size t P s Q
  pub size : ℕ
  pub some : 0 < size
  pub biased : HasValue b s (bias-of k + size) (2 ^ 1074)
  pub rounded : HasValue (round binary32 s (sum-size t P s Q) (2 ^ 1074)) s size (2 ^ 1074)

module _ (t s : Bool) (P Q k : ℕ) (m low high p b : Float) (F : Frame s k m low high) (hp : HasValue p t P (2 ^ 1074))
    (hb : HasValue b s (bias-of k + Q) (2 ^ 1074)) where
  abbrev C : ℕ
  C = bias-of k

  abbrev W : ℕ
  W = sum-size t P s (C + Q)

  is : add binary64 p b ≡ round binary64 (sum-sign t P s (C + Q)) W L
  is = add-units binary64 p b t s P (C + Q) L (pow_pos 1074) hp hb ∙ sum_is binary64 t P s (C + Q) L

  pub taken : lt low (add binary64 p b) ≡ true → lt (add binary64 p b) high ≡ true → Taken t P s Q k (add binary64 p b)
  taken a h =
      let l : Lies s (sum-sign t P s (C + Q)) k W =
      inside s (sum-sign t P s (C + Q)) k W m low high (add binary64 p b) F is a h in
      let D : 0 < digit k = pow_pos (925 + k) in
      let w : Apart t P s Q C = apart t P s Q C l.sign (lt_of_lt_of_le (omega arith) l.from) in
      let n = sum-size t P s Q in
      let r : Rounded s k n =
      rounds s k n F.small (subst (λ (z : ℕ). near_of k ≤ z) w.size l.from)
      (subst (λ (z : ℕ). z < far-of k) w.size l.to) in
      record {
        sign = w.sign;
        more = omega (arith, w.size, l.from);
        size = r.size;
        some = lt_of_lt_of_le (omega arith) r.least;
        biased =
            subst (λ (z : Float). HasValue z s (C + r.size) L) (sym (is
            ∙ ap (λ (z : Bool). round binary64 z W L) l.sign
            ∙ ap (λ (z : ℕ). round binary64 s z L) w.size)) r.wide;
        rounded = r.narrow;
      }
