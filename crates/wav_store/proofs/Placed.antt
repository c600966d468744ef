-- The first samples are written, each behind those before it, for any kind. Assumes nothing.
use mathlib.Core.Path.{◌≡◌, refl, sym, ap, ◌∙◌, subst}
use mathlib.Core.List.{List, [], ◌∷◌, ◌++◌, append_assoc, append-nil}
use Prim.Native.Nat.{ℕ, zero, suc, ◌+◌, ◌-◌, ◌*◌, ◌≤◌, ◌<◌}
use native.Mathlib.Nat.{add_comm, zero-mul, suc-mul, mul-le-mul_right}
use native.Mathlib.Numerals.{add-one}
use native.Mathlib.Omega.{arith}
use lib.ListN.{length, take, drop, get_or, length-append, length-drop, drop_of_length-le}
use lib.Seq.{drop-cons, take_at, take_all, length-take-le, sets, sets-eq, length-sets}
use lib.Ieee.{Float, nan}
use borrow.Rule.Slice.PartMut.{put_mid, Post-is}
use Rattle.word_bytes.specs.Bytes.{low_bytes}
use Rattle.sample_kind.specs.declared.SampleKind.{SampleKind}
use Rattle.sample_kind.specs.declared.SampleKind.TheVariants.{Float32}
use Rattle.sample_kind.specs.Kinds.{width_of}
use Rattle.stored_samples.specs.Stored.{word_of}
use Rattle.wav_store.specs.Inner.{Placed, Next}
use Rattle.wav_store.specs.Storing.{bytes_of}

pub length-low : (k n : ℕ) → length (low_bytes k n) ≡ k
unfolding low_bytes
length-low zero n = refl
length-low (suc k) n = ap suc (length-low k _)

-- W2. There are as many bytes as the samples have.
pub length-bytes : (kind : SampleKind) (xs : List Float) → length (bytes_of kind xs) ≡ length xs * width_of kind
unfolding bytes_of
length-bytes kind [] = sym (zero-mul (width_of kind))
length-bytes kind (x ∷ xs) =
    length-append (low_bytes (width_of kind) (word_of kind x)) (bytes_of kind xs)
    ∙ rw (length-low (width_of kind) (word_of kind x), length-bytes kind xs)
    (add_comm (width_of kind) (length xs * width_of kind) ∙ sym (suc-mul (length xs) (width_of kind)))

module _ {kind : SampleKind} {xs : List Float} where
  pub unplaced : {out : List ℕ} → length out ≡ length xs * width_of kind → Placed kind xs out 0
  unplaced l = record { long = l; most = omega arith; whole = rw (zero-mul (width_of kind)) }

  module _ {out : List ℕ} {i : ℕ} (p : Placed kind xs out i) (h : i < length xs) where
    abbrev at : ℕ
    at = i * width_of kind

    -- The bytes of the next sample lie in the slice.
    pub inside : at + width_of kind ≤ length out
    inside = omega (arith, p.long, mul-le-mul_right (width_of kind) h, suc-mul i (width_of kind))

    pub placed-more : (d : Float) {bs : List ℕ} → bs ≡ low_bytes (width_of kind) (word_of kind (get_or xs i d))
        → Placed kind xs (sets out at bs) (i + 1)
    unfolding bytes_of
    placed-more d {bs} e =
        let w = width_of kind in
        let n : length bs ≡ w = ap length e ∙ length-low w (word_of kind (get_or xs i d)) in
        let next : (i + 1) * w ≡ at + w = rw add-one (suc-mul i w) in
        let front : length (take at out ++ bs) ≡ at + w =
        length-append (take at out) bs ∙ rw (n, length-take-le at out (omega (arith, inside))) in
        let written : take ((i + 1) * w) (sets out at bs) ≡ take at out ++ bs =
        rw (next, sets-eq bs out at (omega (arith, n, inside)))
        (take_at (take at out ++ bs) (drop (at + length bs) out) (at + w) front) in
        record {
          long = length-sets out at bs ∙ p.long;
          most = omega arith;
          whole =
              p.whole
              ∙ ap (λ (ys : List Float). take at out ++ bytes_of kind ys) (drop-cons xs i d h)
              ∙ ap (λ (ys : List ℕ). take at out ++ (ys ++ bytes_of kind (drop (suc i) xs))) (sym e)
              ∙ sym (append_assoc (take at out) bs (bytes_of kind (drop (suc i) xs)))
              ∙ rw (written, add-one);
        }

-- The bytes of the samples that are left are written behind those of the first n.
pub last_placed : {xs : List Float} {out ys : List ℕ} {n : ℕ} → Placed Float32 xs out n
    → ys ≡ bytes_of Float32 (take (length xs - n) (drop n xs)) → put_mid (n * 4) (length out - n * 4) out ys
    ≡ bytes_of Float32 xs
last_placed {xs} {out} {ys} {n} p e =
    let at = n * 4 in
    let t : take (length xs - n) (drop n xs) ≡ drop n xs =
    take_all (length xs - n) (drop n xs) (omega (arith, length-drop n xs)) in
    let le : at ≤ length out = omega (arith, p.long, p.most) in
    ap (λ (zs : List ℕ). take at out ++ (ys ++ zs))
    (Post-is at (length out) out le ∙ drop_of_length-le out {i = length out} (omega arith))
    ∙ ap (λ (zs : List ℕ). take at out ++ zs) (append-nil ys ∙ e ∙ ap (bytes_of Float32) t)
    ∙ sym p.whole

-- ---- the bytes of four samples, as the code writes them
pub step : {xs : List Float} {out o : List ℕ} {i w : ℕ} → Placed Float32 xs out i → i < length xs
    → w ≡ word_of Float32 (get_or xs i nan) → {n : ℕ} → o ≡ sets out n (low_bytes 4 w) → n ≡ i * 4
    → Placed Float32 xs o (i + 1)
step {xs} {out} {o} {i} {w} p h e f g =
    subst (λ (b : List ℕ). Placed Float32 xs b (i + 1)) (sym (f ∙ ap (λ (n : ℕ). sets out n (low_bytes 4 w)) g))
    (placed-more p h nan (ap (low_bytes 4) e))

pub moved : {xs : List Float} {out : List ℕ} {m n : ℕ} → Placed Float32 xs out m → m ≡ n → Placed Float32 xs out n
moved {xs} {out} p e = subst (λ (i : ℕ). Placed Float32 xs out i) e p

pub four-placed : {xs : List Float} {out p q r s : List ℕ} {i a b c d : ℕ} → Placed Float32 xs out i
    → i + 4 ≤ length xs → a ≡ word_of Float32 (get_or xs i nan) → b ≡ word_of Float32 (get_or xs (i + 1) nan)
    → c ≡ word_of Float32 (get_or xs (i + 2) nan) → d ≡ word_of Float32 (get_or xs (i + 3) nan)
    → p ≡ sets out (i * 4) (low_bytes 4 a) → q ≡ sets p (i * 4 + 4) (low_bytes 4 b)
    → r ≡ sets q (i * 4 + 8) (low_bytes 4 c) → s ≡ sets r (i * 4 + 12) (low_bytes 4 d)
    → Placed Float32 xs s (i + 4)
four-placed z l a b c d p q r w =
    let first = step z (omega arith) a p refl in
    let second = step first (omega arith) b q (omega arith) in
    let third = step (moved second (omega arith)) (omega arith) c r (omega arith) in
    moved (step (moved third (omega arith)) (omega arith) d w (omega arith)) (omega arith)

-- ---- four of sixteen
pub next-four : {xs : List Float} {i : ℕ} → Next 16 xs i → (o : ℕ) {j : ℕ} → o ≤ 12 → i + o ≡ j → Next 4 xs j
next-four n o l e = record { room = omega (arith, n.room, e); fit = n.fit }
