-- A stored word has no more digits than its kind, so it is below 256 ^ width. Assumes nothing.
use mathlib.Core.Path.{◌≡◌, refl}
use mathlib.Core.Bool.{Bool, true, false, cond}
use Prim.Native.Nat.{ℕ, suc, ◌-◌, ◌*◌, ◌^◌, ◌<◌}
use native.Mathlib.Nat.{pow-suc}
use native.Mathlib.Omega.{arith}
use borrow.Author.Tests.{ltb-true}
use denote.Floats.{passes}
use lib.Dec.{T, lit<}
use lib.IntN.{ℤ, pos, negsuc}
use lib.Ieee.{Float, nan, inf, fin, binary32, up, down, fits}
use lib.Ieee.Bits.{is_true, to_bits-lt}
use lib.Ieee.Fits.{and_r, round-fits}
use lib.Ieee.Scale.{finite}
use lib.Pow.{pow_pos}
use Rattle.rounding.specs.Operations.{narrowed}
use Rattle.sample_kind.specs.declared.SampleKind.{SampleKind}
use Rattle.sample_kind.specs.declared.SampleKind.TheVariants.{Pcm16, Pcm24, Float32}
use Rattle.sample_kind.specs.Kinds.{width_of}
use Rattle.stored_samples.specs.Stored.{nearest_whole, in_digits, digits_of, fits_whole, fits_in, digits_in, word_of}

few-digits : (w : ℕ) (z : ℤ) → 0 < w → in_digits w z ≡ true → digits_of w z < 2 ^ w
few-digits w (pos n) p t =
    let e : w ≡ suc (w - 1) = omega arith in
    let l = ltb-true n (2 ^ (w - 1)) t in
    rw (e, pow-suc 2 (w - 1)) (omega arith)
few-digits w (negsuc n) p t = omega (arith, pow_pos w)

few-whole : (w : ℕ) (x : Float) → 0 < w → fits_whole w x ≡ true → digits_of w (nearest_whole w x) < 2 ^ w
unfolding fits_whole
few-whole w x p t =
    let b = passes (fits_whole w x) t in
    few-digits w (nearest_whole w x) p (is_true _ (and_r (finite x) _ b))

pub narrow-fits : (x : Float) → T (fits binary32 (narrowed x))
unfolding narrowed fits
narrow-fits nan = tt
narrow-fits (inf s) = tt
narrow-fits (fin s m e) = round-fits binary32 s (m * up e) (down e)

few : (kind : SampleKind) (x : Float) → fits_in kind x ≡ true → digits_in kind x < 256 ^ width_of kind
few Pcm16 x t = few-whole 16 x (lit< tt) t
few Pcm24 x t = few-whole 24 x (lit< tt) t
few Float32 x t = to_bits-lt binary32 (narrowed x) (narrow-fits x)

pub word_lt : (kind : SampleKind) (x : Float) → word_of kind x < 256 ^ width_of kind
word_lt kind x = by (fits_in kind x) (few kind x)
  where
    by : (t : Bool) → (t ≡ true → digits_in kind x < 256 ^ width_of kind)
        → cond t (digits_in kind x) 0 < 256 ^ width_of kind
    by true h = h refl
    by false h = some kind
      where
        some : (kind : SampleKind) → 0 < 256 ^ width_of kind
        some Pcm16 = lit< tt
        some Pcm24 = lit< tt
        some Float32 = lit< tt
