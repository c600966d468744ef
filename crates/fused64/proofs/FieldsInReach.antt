-- The quick way in one word: one test of all three fields shows that each is small enough, and a product is cut to a
-- word. Assumes nothing.
use Rattle.std.proofs.Common.{◌≡◌, ℕ, ◌+◌, ◌-◌, ◌*◌, ◌/◌, ◌%◌, ◌^◌, ◌<◌, ◌≤◌, sym, ap, ◌∙◌, inl, inr, lt_of_le_of_lt}
use Rattle.std.proofs.Common.{mod-lt, mul_assoc, mul_comm, eq-zero-or-pos, div-add-mod', arith, pow_pos, pow-add}
use Rattle.std.proofs.Common.{eq-eqb, ne_eqb}
use lib.Arith.{digits_lt}
use lib.Pow.{shr_le}
use lib.Bits.{bit_and, bit_or, and_le_l, and_le_r, and_mask, or_add_and, or_mod}
use Rattle.float_digits.specs.Pattern.{with_sticky}
use Rattle.float_digits.proofs.Jams.{jam-cut}
use Rattle.fused64.specs.Wide.{val, lower}
use Rattle.fused64.specs.Word.{Heads, Tells, Cutoff}

-- ---- one test for all three fields
or-ge-l : (x y : ℕ) → x ≤ bit_or x y
or-ge-l x y = omega (arith, or_add_and x y, and_le_r x y)

or-ge-r : (x y : ℕ) → y ≤ bit_or x y
or-ge-r x y = omega (arith, or_add_and x y, and_le_l x y)

pub heads : (f g h : ℕ) → bit_and (bit_or (bit_or f g) h) 0x7ff < 512 → Heads f g h
heads f g h l =
    let e : bit_and (bit_or (bit_or f g) h) 0x7ff ≡ bit_or (bit_or (f % 2 ^ 11) (g % 2 ^ 11)) (h % 2 ^ 11) =
    and_mask (bit_or (bit_or f g) h) 11
    ∙ or_mod (bit_or f g) h 11
    ∙ ap (λ (x : ℕ). bit_or x (h % 2 ^ 11)) (or_mod f g 11) in
    let a = or-ge-l (bit_or (f % 2 ^ 11) (g % 2 ^ 11)) (h % 2 ^ 11) in
    let b = or-ge-r (bit_or (f % 2 ^ 11) (g % 2 ^ 11)) (h % 2 ^ 11) in
    record {
      first = omega (arith, or-ge-l (f % 2 ^ 11) (g % 2 ^ 11));
      second = omega (arith, or-ge-r (f % 2 ^ 11) (g % 2 ^ 11));
      third = omega arith;
    }

-- ---- a product is cut to a word
sticky-same : (q r r' : ℕ) → (r ≡ 0 → r' ≡ 0) → (r' ≡ 0 → r ≡ 0) → with_sticky q r ≡ with_sticky q r'
sticky-same q r r' f g = elim (eq-zero-or-pos r) [
  | inl z ↦ rw (eq-eqb r 0 z, eq-eqb r' 0 (f z))
  | inr p ↦ rw (ne_eqb r 0 (omega arith), ne_eqb r' 0 (λ z. zero-not-pos r (g z) p))
]
  where
    zero-not-pos : (r : ℕ) → r ≡ 0 → 0 < r → ⊥
    zero-not-pos r z p = omega arith

none : (x y lo : ℕ) → Tells y lo → bit_or x y ≡ 0 → val x lo ≡ 0
none x y lo t z =
    let n = t.none (omega (arith, or-ge-r x y)) in
    omega (arith, or-ge-l x y)

nothing : (x y lo : ℕ) → Tells y lo → val x lo ≡ 0 → bit_or x y ≡ 0
nothing x y lo t z =
    let n = t.nothing (omega arith) in
    omega (arith, or_add_and x y)

-- The columns of a word show whether it is zero.
pub columns-tell : (middle low : ℕ) → Tells (bit_and (bit_or middle low) 0xffff_ffff) (lower middle low)
columns-tell middle low =
    let e : bit_and (bit_or middle low) 0xffff_ffff ≡ bit_or (middle % 2 ^ 32) (low % 2 ^ 32) =
    and_mask (bit_or middle low) 32 ∙ or_mod middle low 32 in
    let a = or-ge-l (middle % 2 ^ 32) (low % 2 ^ 32) in
    let b = or-ge-r (middle % 2 ^ 32) (low % 2 ^ 32) in
    let up : middle * 2 ^ 32 % 2 ^ 64 ≡ middle % 2 ^ 32 * 2 ^ 32 = moved middle in
    record {
      word = omega arith;
      none = λ z. omega arith;
      nothing = λ z. omega (arith, or_add_and (middle % 2 ^ 32) (low % 2 ^ 32));
    }
  where
    moved : (m : ℕ) → m * 2 ^ 32 % 2 ^ 64 ≡ m % 2 ^ 32 * 2 ^ 32
    moved m = omega arith

sticky-lt : (q r : ℕ) → q < 2 ^ 62 → with_sticky q r < 2 ^ 62
sticky-lt q r h = elim (eq-zero-or-pos r) [
  | inl z ↦ rw (eq-eqb r 0 z) h
  | inr p ↦ rw (ne_eqb r 0 (omega arith)) (omega arith)
]

module _ (hi rest d : ℕ) (H : hi < 2 ^ 62) where
  abbrev D : ℕ
  D = 2 ^ d

  pub back_fits : hi / D * D % 2 ^ 64 ≡ hi / D * D
  back_fits =
      let e = div-add-mod' hi D in
      mod-small (hi / D * D) (omega arith)
    where
      mod-small : (x : ℕ) → x < 2 ^ 64 → x % 2 ^ 64 ≡ x
      mod-small x h = omega arith

  pub back-le : hi / D * D % 2 ^ 64 ≤ hi
  back-le =
      let e = div-add-mod' hi D in
      omega (arith, back_fits)

  pub cut_off : (lo : ℕ) → Tells rest lo → Cutoff hi lo d
      (with_sticky (hi / D) (bit_or (hi - hi / D * D % 2 ^ 64) rest))
  cut_off lo t =
      let e : hi - hi / D * D % 2 ^ 64 ≡ hi % D = omega (arith, back_fits, div-add-mod' hi D) in
      let same : with_sticky (hi / D) (bit_or (hi % D) rest) ≡ with_sticky (hi / D) (val (hi % D) lo) =
      sticky-same (hi / D) (bit_or (hi % D) rest) (val (hi % D) lo) (none (hi % D) rest lo t)
      (nothing (hi % D) rest lo t) in
      let unit : 2 ^ (64 + d) ≡ D * 2 ^ 64 = pow-add 2 64 d ∙ mul_comm (2 ^ 64) D in
      let parts : hi / D * (D * 2 ^ 64) + val (hi % D) lo ≡ val hi lo =
      whole (hi / D) D (hi % D) lo hi (div-add-mod' hi D) in
      record {
        below = sticky-lt (hi / D) (bit_or (hi - hi / D * D % 2 ^ 64) rest) (lt_of_le_of_lt (shr_le hi d) H);
        jams =
            rw (
              e,
              same,
              unit,
            ) (jam-cut (val hi lo) (D * 2 ^ 64) (hi / D) (val (hi % D) lo) parts
            (digits_lt (mod-lt hi (pow_pos d)) t.word));
      }
    where
      whole : (q u r lo hi : ℕ) → q * u + r ≡ hi → q * (u * 2 ^ 64) + val r lo ≡ val hi lo
      whole q u r lo hi e =
          let a : q * (u * 2 ^ 64) ≡ q * u * 2 ^ 64 = sym (mul_assoc q u (2 ^ 64)) in
          omega arith
