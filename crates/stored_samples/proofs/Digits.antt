-- W2d. The last w digits of the shifted sum's pattern are the stored ones, for any format and width, because what the
-- sum adds is a multiple of 2^w. Assumes nothing.
use mathlib.Core.Path.{◌≡◌, refl, sym, ap, ◌∙◌}
use mathlib.Core.Bool.{Bool, true, false, cond, not, true≢false}
use Prim.Native.Nat.{ℕ, zero, suc, ◌+◌, ◌-◌, ◌*◌, ◌%◌, ◌^◌, ◌≤◌, ◌<◌}
use native.Mathlib.Nat.{pow-suc, suc-mul, mod-eq_of_lt, mul-add-mod_self_right}
use native.Mathlib.Omega.{arith}
use borrow.Author.Tests.{ltb-true, leb-true}
use lib.Dec.{T}
use lib.Pow.{pow-add, pow_pos, pow_mono}
use lib.IntN.{pos, neg_ℤ}
use lib.Ieee.{Float, nan, inf, fin, Format, prec, low, hid, up, down, fits, is_nan, to_bits}
use lib.Ieee.Nearest.{closest}
use Rattle.interval.proofs.Signed.{ring}
use Rattle.stored_samples.specs.Stored.{nearest_whole, digits_of, fits_whole}
use Rattle.stored_samples.proofs.Ranges.{below-zero}
use Rattle.stored_samples.proofs.Pattern.{shifted, no_nan, bits}
use Rattle.stored_samples.proofs.Scaled.{room}

-- ---- the last digits of a multiple of b plus or minus n
plus-digits : (c b n : ℕ) → n < b → (c * b + n) % b ≡ n
plus-digits c b n h = mul-add-mod_self_right c b n ∙ mod-eq_of_lt h

minus-digits : (c b n : ℕ) → 0 < c → 0 < n → n < b → (c * b - n) % b ≡ b - n
minus-digits c b n z y h =
    let e : c * b - n ≡ (c - 1) * b + (b - n) =
    let g : c * b ≡ (c - 1) * b + b = ap (λ (z : ℕ). z * b) (omega arith) ∙ suc-mul (c - 1) b in omega arith in
    ap (λ (z : ℕ). z % b) e ∙ plus-digits (c - 1) b (b - n) (omega arith)

module _ (f : Format) (k : ℕ) (wide : suc k ≤ prec f - 3) where
  abbrev w : ℕ
  w = suc (suc k)

  abbrev u : ℕ
  u = 2 ^ suc k

  twice : 2 ^ w ≡ u * 2
  twice = pow-suc 2 (suc k)

  abbrev q : ℕ
  q = 2 ^ (prec f - 3)

  abbrev r : ℕ
  r = 2 ^ (prec f - 3 - suc k)

  split : q ≡ r * u
  split = ap (λ (z : ℕ). 2 ^ z) (omega arith) ∙ pow-add 2 (prec f - 3 - suc k) (suc k)

  abbrev c : ℕ
  c = low f * (r * 2) + r * 3

  some : 0 < c
  some = omega (arith, pow_pos (prec f - 3 - suc k))

  less : u ≤ q
  less = pow_mono wide

  one_less : w - 1 ≡ suc k
  one_less = omega arith

  multiple : low f * hid f + 3 * q * 2 ≡ c * 2 ^ w
  multiple = rw ((room f).hidden, split, twice) (simp ring (omega arith))

  last : (s : Bool) (n : ℕ) → (s ≡ false → n < u) → n ≤ u
      → (low f * hid f + cond s (3 * q * 2 - n) (3 * q * 2 + n)) % 2 ^ w ≡ digits_of w (cond s (neg_ℤ (pos n)) (pos n))
  last false n l h =
      ap (λ (z : ℕ). z % 2 ^ w) (omega (arith, multiple)) ∙ plus-digits c (2 ^ w) n (omega (arith, twice, l refl))
  last true zero l h =
      ap (λ (z : ℕ). z % 2 ^ w) (omega (arith, multiple)) ∙ plus-digits c (2 ^ w) 0 (pow_pos w)
  last true (suc n) l h =
      ap (λ (z : ℕ). z % 2 ^ w) (omega (arith, multiple, less))
      ∙ minus-digits c (2 ^ w) (suc n) some (omega arith) (omega (arith, twice, pow_pos (suc k)))

  pub stored : (x : Float) → T (fits f x) → fits_whole w x ≡ true
      → T (not (is_nan (shifted f k x))) × (to_bits f (shifted f k x) % 2 ^ w ≡ digits_of w (nearest_whole w x))
  unfolding fits_whole nearest_whole
  stored nan held ok = absurd (true≢false (sym ok))
  stored (inf s) held ok = absurd (true≢false (sym ok))
  stored (fin false m e) held ok =
      let n = closest (m * up e * u) (down e) in
      let l : n < u = ltb-true n u (rw one_less at ok) in
      let h : n ≤ u = omega arith in
      rw one_less (
        no_nan f k wide false m e held h,
        ap (λ (z : ℕ). z % 2 ^ w) (bits f k wide false m e held h) ∙ last false n (λ _. l) h,
      )
  stored (fin true m e) held ok =
      let n = closest (m * up e * u) (down e) in
      let h : n ≤ u = leb-true n u (rw (below-zero w n, one_less) at (rw one_less at ok)) in
      rw one_less (
        no_nan f k wide true m e held h,
        ap (λ (z : ℕ). z % 2 ^ w) (bits f k wide true m e held h) ∙ last true n (λ p. absurd (true≢false p)) h,
      )
