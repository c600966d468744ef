-- Two files with the same first bytes have the same parts and chunks in these and, if both hold their RIFF, the same
-- first two tests and the same walk. Assumes nothing.
use mathlib.Core.Path.{◌≡◌, refl, sym, ap, ◌∙◌}
use mathlib.Core.Bool.{not}
use mathlib.Core.List.{List, [], ◌∷◌}
use Prim.Native.Nat.{ℕ, zero, suc, ◌+◌, ◌≤◌}
use native.Mathlib.Omega.{arith}
use borrow.Author.Tests.{le-leb}
use lib.ListN.{length, take, drop}
use lib.Seq.{take-take}
use Rattle.word_bytes.specs.Bytes.{bytes_value}
use Rattle.riff_chunks.specs.declared.Walked.{Walked}
use Rattle.riff_chunks.specs.Chunks.{chunk_at}
use Rattle.riff_chunks.specs.Walk.{riff_sought, end_in, seen_of, walked_from, walk_to}
use Rattle.riff_chunks.proofs.Agree.{Alike}
use Rattle.wav.specs.Wave.{riff_size, walk_in, is_wave, within}

tails : (x y : ℕ) (xs ys : List ℕ) → x ∷ xs ≡ y ∷ ys → xs ≡ ys
tails x y xs ys e = cc

pub same-part : (n : ℕ) (b c : List ℕ) → take n b ≡ take n c → (at k : ℕ) → at + k ≤ n
    → take k (drop at b) ≡ take k (drop at c)
same-part n b c e zero k h = sym (take-take k n b (omega arith)) ∙ ap (take k) e ∙ take-take k n c (omega arith)
same-part zero b c e (suc at) k h = absurd (omega arith)
same-part (suc n) [] [] e (suc at) k h = refl
same-part (suc n) [] (y ∷ c) e (suc at) k h = let z : ◌≡◌ {A = ℕ} 0 1 = cc in absurd (omega arith)
same-part (suc n) (x ∷ b) [] e (suc at) k h = let z : ◌≡◌ {A = ℕ} 0 1 = cc in absurd (omega arith)
same-part (suc n) (x ∷ b) (y ∷ c) e (suc at) k h =
    same-part n b c (tails x y (take n b) (take n c) e) at k (omega arith)

-- If a file holds its RIFF, the walk ends at the RIFF's end.
pub walk-held : (b : List ℕ) → 8 + riff_size b ≤ length b
    → walk_in b ≡ walk_to riff_sought (chunk_at bytes_value b) (8 + riff_size b)
walk-held b h =
    let e : end_in b (8 + riff_size b) ≡ 8 + riff_size b = omega arith in
    ap (walk_to riff_sought (chunk_at bytes_value b)) e

module _ (n : ℕ) (b c : List ℕ) (same : take n b ≡ take n c) where
  pub alike : Alike (chunk_at bytes_value b) (chunk_at bytes_value c) n
  alike at h = rw (same-part n b c same at 4 (omega arith), same-part n b c same (at + 4) 4 (omega arith))

  pub size_same : 8 ≤ n → riff_size b ≡ riff_size c
  size_same h = ap bytes_value (same-part n b c same 4 4 (omega arith))

  module _ (held : 8 + riff_size b ≤ length b) (holds : 8 + riff_size c ≤ length c) where
    pub wave-same : 12 ≤ n → 4 ≤ riff_size b → is_wave b ≡ is_wave c
    unfolding is_wave
    wave-same h k =
        let s = size_same (omega arith) in
        rw (
          le-leb 12 (length b) (omega arith),
          le-leb 12 (length c) (omega arith),
          same-part n b c same 0 4 (omega arith),
          same-part n b c same 8 4 (omega arith),
          same-part n b c same 4 4 (omega arith),
        )

    pub within_same : walk_in b ≡ walk_in c → within b ≡ within c
    within_same v =
        rw (le-leb (8 + riff_size b) (length b) held, le-leb (8 + riff_size c) (length c) holds)
        (ap (λ (u : Walked). not u.overruns) v)

    pub walk_same : 8 ≤ n
        → walked_from riff_sought (chunk_at bytes_value b) (8 + riff_size b) 12
        ≡ walked_from riff_sought (chunk_at bytes_value c) (8 + riff_size b) 12
        → walk_in b ≡ walk_in c
    walk_same h e =
        walk-held b held
        ∙ ap (seen_of riff_sought (8 + riff_size b)) e
        ∙ ap (λ (k : ℕ). walk_to riff_sought (chunk_at bytes_value c) (8 + k)) (size_same h)
        ∙ sym (walk-held c holds)
