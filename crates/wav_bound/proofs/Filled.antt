-- W1e, D3. Every sample of a PCM part that `fill` hands out is demand 3's whole sample for the very number that
-- `fill_whole` hands out, so that a file satisfies the premises of demand 3 about samples. Each such number has 24
-- bits, so that the residual never refuses it by 1. This is shown once for any width, in both formats. Assumes nothing.
use mathlib.Core.Path.{◌≡◌, refl, sym}
use mathlib.Core.Bool.{Bool, true, false, true≢false, ◌&&◌}
use mathlib.Core.List.{List, [], ◌∷◌, ◌++◌}
use Prim.Native.Nat.{ℕ, zero, suc, ◌*◌, ◌+◌, ◌^◌, ◌<◌}
use native.Mathlib.Omega.{arith}
use borrow.Author.Tests.{le-leb}
use lib.Dec.{lit≤}
use lib.IntN.{ℤ, pos, negsuc}
use lib.Signed.{mag}
use lib.ListN.{length}
use lib.Ieee.{Float, Format}
use Rattle.loop_laws.specs.Loops.{list_of}
use Rattle.cubic_bound.specs.Desk.{WholeSample, WholeSamples, none, also}
use Rattle.report_tests.specs.Tests.{in24, all24}
use Rattle.sample_kind.specs.declared.SampleKind.{SampleKind}
use Rattle.sample_kind.specs.declared.SampleKind.TheVariants.{Pcm16, Pcm24, Float32}
use Rattle.sample_kind.specs.Kinds.{frame_of}
use Rattle.wav_format.specs.Format.{number}
use Rattle.whole_samples.proofs.Signs.{units_small}
use Rattle.wav_samples.specs.Samples.{sample_of, is_pcm, whole_number}
use Rattle.wav_samples.specs.Filling.{verdict, whole_verdict, frames_of, filled, filled_whole}
use Rattle.wav_bound.proofs.PcmIsWhole.{suits}

-- The sample at a place, by the kind.
pub whole-sample : (f : Format) (kind : SampleKind) → is_pcm kind ≡ true → (b : List ℕ) (at : ℕ)
    → WholeSample (sample_of f kind b at) (whole_number kind b at)
whole-sample f Pcm16 p b at = suits f 16 (number 2 b at) (lit≤ tt) (lit≤ tt)
whole-sample f Pcm24 p b at = suits f 24 (number 3 b at) (lit≤ tt) (lit≤ tt)
whole-sample f Float32 p b at = absurd (true≢false (sym p))

few : (kind : SampleKind) → is_pcm kind ≡ true → (b : List ℕ) (at : ℕ) → mag (whole_number kind b at) < 2 ^ 23
few Pcm16 p b at = units_small 16 (number 2 b at) (lit≤ tt) (lit≤ tt)
few Pcm24 p b at = units_small 24 (number 3 b at) (lit≤ tt) (lit≤ tt)
few Float32 p b at = absurd (true≢false (sym p))

-- ---- lists that are written by two rules
last : {xs : List Float} {ss : List ℤ} {x : Float} {s : ℤ} → WholeSamples xs ss → WholeSample x s
    → WholeSamples (xs ++ x ∷ []) (ss ++ s ∷ [])
last none w = also w none
last (also v h) w = also v (last h w)

pub both : (f : ℕ → Float) (g : ℕ → ℤ) → ((k : ℕ) → WholeSample (f k) (g k)) → (n : ℕ)
    → WholeSamples (list_of f n) (list_of g n)
unfolding list_of
both f g h zero = none
both f g h (suc n) = last (both f g h n) (h n)

pub in-24 : (z : ℤ) → mag z < 2 ^ 23 → in24 z ≡ true
in-24 (pos n) h = le-leb n 8388607 (omega arith)
in-24 (negsuc n) h = rw (le-leb n 8388607 (omega arith))

behind : (t : Bool) {a b : Bool} → t && a ≡ true → (a ≡ true → b ≡ true) → t && b ≡ true
behind true h k = k h
behind false h k = h

also-24 : (zs : List ℤ) (z : ℤ) → all24 zs ≡ true → in24 z ≡ true → all24 (zs ++ z ∷ []) ≡ true
unfolding all24
also-24 [] z h e = rw e
also-24 (y ∷ zs) z h e = behind (in24 y) h (λ k. also-24 zs z k e)

pub every-24 : (g : ℕ → ℤ) → ((k : ℕ) → in24 (g k) ≡ true) → (n : ℕ) → all24 (list_of g n) ≡ true
unfolding list_of all24
every-24 g h zero = refl
every-24 g h (suc n) = also-24 (list_of g n) (g n) (every-24 g h n) (h n)

-- ---- what is handed out
module _ (kind : SampleKind) (pcm : is_pcm kind ≡ true) (b : List ℕ) where
  module _ (frame first n : ℕ) where
    pub whole-samples : (f : Format) → WholeSamples (frames_of (sample_of f kind b) frame first n)
        (frames_of (whole_number kind b) frame first n)
    whole-samples f = both _ _ (λ k. whole-sample f kind pcm b (k * frame + first)) n

    pub whole-in-24 : all24 (frames_of (whole_number kind b) frame first n) ≡ true
    whole-in-24 = every-24 _ (λ k. in-24 (whole_number kind b (k * frame + first)) (few kind pcm b (k * frame + first)))
        n

  -- A call of each that is not refused.
  module _ (channels channel n : ℕ) (accepted : whole_verdict kind channels channel (length b) n ≡ 0) where
    same-verdict : verdict kind channels channel (length b) n ≡ 0
    same-verdict = rw pcm at accepted

    pub filled-whole : (f : Format) (xs : List Float) (zs : List ℤ)
        → WholeSamples (filled f kind channels channel b n xs) (filled_whole kind channels channel b n zs)
    filled-whole f xs zs = rw (same-verdict, accepted)
        (whole-samples (frame_of kind channels) (frame_of kind channel) n f)

    pub filled-in-24 : (zs : List ℤ) → all24 (filled_whole kind channels channel b n zs) ≡ true
    filled-in-24 zs = rw accepted (whole-in-24 (frame_of kind channels) (frame_of kind channel) n)
