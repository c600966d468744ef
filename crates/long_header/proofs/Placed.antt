-- W10. What a block holds after a lent part is handed back: four bytes overwritten, the opening at the front, and a
-- header behind 36 bytes. Assumes nothing.
use mathlib.Core.Path.{◌≡◌, refl, sym, ap, ◌∙◌}
use mathlib.Core.Bool.{Bool, true, false, true≢false, ◌||◌}
use mathlib.Core.List.{List, [], ◌++◌, append-nil}
use Prim.Native.Nat.{ℕ, ◌+◌, ◌-◌, ◌≤◌}
use native.Mathlib.Omega.{arith}
use borrow.Author.Tests.{eqb-true, eq-eqb}
use lib.Dec.{eqb}
use lib.ListN.{length, take, drop, length-append, length-take, length-drop, drop_of_length-le}
use lib.Seq.{take_all}
use Rattle.word_bytes.specs.Bytes.{low_bytes}
use Rattle.sample_kind.specs.declared.SampleKind.{SampleKind}
use Rattle.sample_kind.specs.declared.SampleKind.TheVariants.{Pcm16, Pcm24, Float32}
use Rattle.wav_header.specs.Header.{header_length, header_of}
use Rattle.wav_header.specs.Refusals.{count_ok, header_verdict, header_in}
use Rattle.wav_settings.specs.Settings.{one_or_two}
use Rattle.wav_header.proofs.Taken.{given}
use Rattle.wav_header.proofs.Long.{length-header}
use Rattle.long_header.specs.LongHeader.{full, long_header_length}
use Rattle.long_header.specs.Parts.{over, sized, Tail}

pub over-is : (xs ys : List ℕ) (at k : ℕ) → k ≡ 4 → at + 4 ≤ length xs
    → ys ≡ low_bytes (length (take k (drop at xs))) full
    → take at xs ++ (ys ++ drop k (drop at xs)) ≡ over xs at
over-is xs ys at k e h w =
    let l : length (take k (drop at xs)) ≡ 4 = simp (length-take, length-drop) (omega arith) in
    rw (w, l, e)

pub front-is : (o xs ys : List ℕ) (n : ℕ) → n ≡ length o → length o ≡ 48 → 48 ≤ length xs
    → ys ≡ take n o ++ drop n (take 48 xs) → ys ++ drop 48 xs ≡ o ++ drop 48 xs
front-is o xs ys n e l h w =
    let none : drop n (take 48 xs) ≡ [] = drop_of_length-le (take 48 xs) {i = n} (simp length-take (omega arith)) in
    let all : take n o ≡ o = take_all n o (omega arith) in
    let new : ys ≡ o = w ∙ rw (none, all) (append-nil o) in
    ap (λ (zs : List ℕ). zs ++ drop 48 xs) new

-- No samples are whole frames of one or two channels, and their file fits RIFF.
empty-fits : (kind : SampleKind) (channels : ℕ) → one_or_two channels ≡ true → count_ok kind channels 0 ≡ true
empty-fits kind channels h = by (eqb channels 1) (eqb channels 2) refl refl h
  where
    one : (kind : SampleKind) → count_ok kind 1 0 ≡ true
    one Pcm16 = refl
    one Pcm24 = refl
    one Float32 = refl

    two : (kind : SampleKind) → count_ok kind 2 0 ≡ true
    two Pcm16 = refl
    two Pcm24 = refl
    two Float32 = refl

    by : (t u : Bool) → eqb channels 1 ≡ t → eqb channels 2 ≡ u → t || u ≡ true → count_ok kind channels 0 ≡ true
    by true u p q e = ap (λ (n : ℕ). count_ok kind n 0) (eqb-true channels 1 p) ∙ one kind
    by false true p q e = ap (λ (n : ℕ). count_ok kind n 0) (eqb-true channels 2 q) ∙ two kind
    by false false p q e = absurd (true≢false (sym e))

pub tail-is : (kind : SampleKind) (channels rate : ℕ) (xs ys : List ℕ) (k : ℕ) → k ≡ length xs - 36
    → Tail kind channels rate (length xs) → ys ≡ header_in kind channels rate 0 (take k (drop 36 xs))
    → take 36 xs ++ (ys ++ drop k (drop 36 xs)) ≡ take 36 xs ++ header_of kind channels rate 0
tail-is kind channels rate xs ys k e t w =
    let room : length (take k (drop 36 xs)) ≡ header_length kind =
    simp (length-take, length-drop) (omega (arith, t.exact)) in
    let due : header_verdict kind channels rate 0 (length (take k (drop 36 xs))) ≡ 0 =
    rw (t.rate-fits, empty-fits kind channels t.mono-or-stereo, t.mono-or-stereo, eq-eqb _ _ room) in
    let none : drop k (drop 36 xs) ≡ [] = drop_of_length-le (drop 36 xs) {i = k} (simp length-drop (omega arith)) in
    let new : ys ≡ header_of kind channels rate 0 =
    w ∙ sym (given _ _ (header_of kind channels rate 0) (take k (drop 36 xs)) refl due) in
    ap (λ (zs : List ℕ). take 36 xs ++ zs) (rw (new, none) (append-nil (header_of kind channels rate 0)))

-- The 32-bit sizes that each kind has.
pub sized-pcm : (kind : SampleKind) (xs : List ℕ) → header_length kind ≡ 44 → over xs 76 ≡ sized kind xs
sized-pcm Pcm16 xs h = refl
sized-pcm Pcm24 xs h = refl
sized-pcm Float32 xs h = absurd (omega (arith, h))

pub sized-float : (kind : SampleKind) (xs : List ℕ) → (header_length kind ≡ 44 → ⊥)
    → over (over xs 82) 90 ≡ sized kind xs
sized-float Pcm16 xs h = absurd (h refl)
sized-float Pcm24 xs h = absurd (h refl)
sized-float Float32 xs h = refl

-- The length of the block afterwards.
pub tail-long : (kind : SampleKind) (channels rate : ℕ) (xs ys : List ℕ) → 36 ≤ length xs
    → ys ≡ take 36 xs ++ header_of kind channels rate 0 → length ys ≡ long_header_length kind
tail-long kind channels rate xs ys h e =
    let l : length (take 36 xs) ≡ 36 = simp length-take (omega arith) in
    ap length e ∙ simp (length-append, l, length-header kind channels rate 0)
