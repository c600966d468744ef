-- Float samples by blocks. The bitwise or of patterns is no smaller than any of them, so it can show that none is a
-- NaN's; and a block that is lent and written extends the list of samples by its length. Assumes nothing.
use mathlib.Core.Path.{◌≡◌, sym, ap, ◌∙◌, subst}
use mathlib.Core.List.{List, [], ◌∷◌, ◌++◌, append_assoc, append-nil}
use mathlib.Core.Logic.{⊎_elim}
use Prim.Native.Nat.{ℕ, zero, suc, ◌+◌, ◌*◌, ◌%◌, ◌≤◌, ◌<◌}
use native.Mathlib.Nat.{add-mul, add-zero, add-suc, eq-or-lt_of_le, mul-le-mul_right}
use native.Mathlib.Omega.{arith}
use lib.Bits.{bit_or, or_mod, or_add_and, and_le_l, and_le_r}
use lib.Ieee.{binary32, of_bits}
use lib.ListN.{length, get_or, take, drop, length-append, length-drop}
use lib.Seq.{take_at, length-take-le}
use Rattle.loop_laws.specs.Loops.{list_of}
use Rattle.loop_laws.proofs.Lists.{length-list, element, same-list}
use Rattle.loop_laws.proofs.Writing.{Written, all-written}
use Rattle.wav_samples.specs.Frames.{Whole, Inside, NoneAbove}
use Rattle.wav_samples.proofs.Framing.{place}

-- ---- a block of a part
pub block : {size n frame first : ℕ} (at w : ℕ) → Whole size n frame first 4 → at + w ≤ n
    → Inside size w frame (at * frame + first)
block {frame = frame} at w h l k b = omega (arith, place (at + k) h (omega arith), add-mul at k frame)

pub begins : {size n frame first : ℕ} (at : ℕ) → Whole size n frame first 4 → at ≤ n → at * frame + first ≤ size + frame
begins {frame = frame} at h l = omega (arith, h.all, h.inside, mul-le-mul_right frame l)

pub shifted : {A : Type 0} (s : ℕ → A) (frame first at n w : ℕ) → n ≡ w
    → list_of (λ (k : ℕ). s (k * frame + (at * frame + first))) n ≡ list_of (λ (k : ℕ). s ((at + k) * frame + first)) w
shifted s frame first at n w e =
    rw e
    (same-list (λ (k : ℕ). s (k * frame + (at * frame + first))) (λ (k : ℕ). s ((at + k) * frame + first)) w
    (λ k l. ap s (omega (arith, add-mul at k frame))))

-- ---- patterns put together: no part is above the whole
left-part : (a b : ℕ) → a ≤ bit_or a b
left-part a b = omega (arith, or_add_and a b, and_le_r a b)

right-part : (a b : ℕ) → b ≤ bit_or a b
right-part a b = omega (arith, or_add_and a b, and_le_l a b)

up-to : (P : ℕ → Type 0) (k : ℕ) → ((i : ℕ) → i < k → P i) → P k → (i : ℕ) → i < k + 1 → P i
up-to P k h q i l =
    let m : i ≤ k = omega arith in
    ⊎_elim (λ (e : i ≡ k). subst P (sym e) q) (λ (b : i < k). h i b) (eq-or-lt_of_le m)

module _ (pattern : ℕ → ℕ) where
  pub no-pattern : (m : ℕ) → NoneAbove pattern 0 m
  no-pattern m k h = absurd (omega arith)

  module _ (k n : ℕ) (e : n ≡ pattern k) where
    pub one_more : (all : ℕ) → NoneAbove pattern k (all % 0x8000_0000)
        → NoneAbove pattern (k + 1) (bit_or all n % 0x8000_0000)
    one_more all h =
        let a = all % 0x8000_0000 in
        let b = n % 0x8000_0000 in
        let o : bit_or all n % 0x8000_0000 ≡ bit_or a b = or_mod all n 31 in
        up-to (λ (i : ℕ). pattern i % 0x8000_0000 ≤ bit_or all n % 0x8000_0000) k
        (λ i l. omega (arith, h i l, o, left-part a b))
        (rw (sym e) (omega (arith, o, right-part a b)))

    pub one-counted : (d found : ℕ) → (d ≡ 0 → n % 0x8000_0000 ≤ 0x7f80_0000)
        → (found ≡ 0 → NoneAbove pattern k 0x7f80_0000)
        → found + d ≡ 0 → NoneAbove pattern (k + 1) 0x7f80_0000
    one-counted d found z h q =
        up-to (λ (i : ℕ). pattern i % 0x8000_0000 ≤ 0x7f80_0000) k (h (omega arith)) (rw (sym e) (z (omega arith)))

  pub lower : (n m m' : ℕ) → m ≤ m' → NoneAbove pattern n m → NoneAbove pattern n m'
  lower n m m' l h k b = omega (arith, h k b)

-- ---- patterns that are kept
module _ (pattern : ℕ → ℕ) (n : ℕ) (xs : List ℕ) (e : xs ≡ list_of pattern n) where
  kept : (k : ℕ) → k < n → get_or xs k 0 ≡ pattern k
  kept k l = rw e (element pattern n k 0 l)

  pub kept-numbers : (m : ℕ) → NoneAbove pattern n m → NoneAbove (λ (k : ℕ). get_or xs k 0) n m
  kept-numbers m h k l = rw (kept k l) (h k l)

  pub kept-samples : list_of (λ (k : ℕ). of_bits binary32 (get_or xs k 0)) n
      ≡ list_of (λ (k : ℕ). of_bits binary32 (pattern k)) n
  kept-samples = same-list (λ (k : ℕ). of_bits binary32 (get_or xs k 0)) (λ (k : ℕ). of_bits binary32 (pattern k)) n
      (λ k l. ap (of_bits binary32) (kept k l))

-- ---- a block that is written
listed : {A : Type 0} (f : ℕ → A) (k w : ℕ) → list_of f (k + w) ≡ list_of f k ++ list_of (λ (j : ℕ). f (k + j)) w
unfolding list_of
listed f k zero = ap (list_of f) (add-zero k) ∙ sym (append-nil (list_of f k))
listed f k (suc w) =
    ap (list_of f) (add-suc k w)
    ∙ ap (λ (l : List _). l ++ (f (k + w) ∷ [])) (listed f k w)
    ∙ append_assoc (list_of f k) (list_of (λ (j : ℕ). f (k + j)) w) (f (k + w) ∷ [])

module _ {A : Type 0} {f : ℕ → A} {lent xs : List A} {k : ℕ} (h : Written f lent xs k) (w : ℕ) (ys : List A)
    (l : k + w ≤ length xs) (e : ys ≡ list_of (λ (j : ℕ). f (k + j)) w) where
  long : length ys ≡ w
  long = ap length e ∙ length-list (λ (j : ℕ). f (k + j)) w

  head : length (take k xs) ≡ k
  head = length-take-le k xs h.most

  both : take k xs ++ ys ≡ list_of f (k + w)
  both = rw (h.front, e) (sym (listed f k w))

  pub block_written : (m : ℕ) → m ≡ w → Written f lent (take k xs ++ (ys ++ drop m (drop k xs))) (k + w)
  block_written m q =
      let rest = drop m (drop k xs) in
      let s : length (take k xs ++ (ys ++ rest)) ≡ length xs
      = simp (length-append, length-drop, head, long) (omega arith) in
      record {
        long = s ∙ h.long;
        most = omega (arith, s);
        front = ap (take (k + w)) (sym (append_assoc (take k xs) ys rest))
            ∙ take_at (take k xs ++ ys) rest (k + w) (simp (length-append, head, long)) ∙ both;
      }

  pub last_written : (m : ℕ) → m ≡ w → k + w ≡ length xs
      → take k xs ++ (ys ++ drop m (drop k xs)) ≡ list_of f (length lent)
  last_written m q r = let b = block_written m q in all-written b (omega (arith, b.long, h.long))
