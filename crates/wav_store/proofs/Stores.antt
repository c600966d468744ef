-- Which refusal a call of `store` gives, by its two tests in order, and what it leaves. Assumes nothing.
use mathlib.Core.Path.{◌≡◌, refl, sym, ap, ◌∙◌}
use mathlib.Core.Bool.{Bool, true, false, ◌&&◌}
use mathlib.Core.List.{List}
use Prim.Native.Nat.{ℕ, zero, suc, ◌*◌, ◌/◌, ◌%◌, ◌<◌}
use native.Mathlib.Nat.{mul-div_cancel, mul-mod_left, div-add-mod'}
use native.Mathlib.Omega.{arith}
use borrow.Author.Tests.{eqb-true, eq-eqb}
use lib.Dec.{eqb}
use lib.ListN.{length}
use lib.Ieee.{Float}
use lib.Ieee.Bits.{is_true}
use lib.Ieee.Fits.{and_i, and_l, and_r}
use denote.Floats.{passes}
use Rattle.rounding.proofs.NumberOrders.{same_test}
use Rattle.sample_kind.specs.declared.SampleKind.{SampleKind}
use Rattle.sample_kind.specs.declared.SampleKind.TheVariants.{Pcm16, Pcm24, Float32}
use Rattle.sample_kind.specs.Kinds.{width_of}
use Rattle.wav_store.specs.Inner.{AllPlain, Seen, PlainReady}
use Rattle.wav_store.specs.Storing.{all_fit, bytes_of, verdict, stored}
use Rattle.wav_store.proofs.Sight.{plain-fit}

pub some_bytes : (kind : SampleKind) → 0 < width_of kind
some_bytes Pcm16 = omega arith
some_bytes Pcm24 = omega arith
some_bytes Float32 = omega arith

-- A slice of n bytes has `count` samples of w bytes, by a remainder and a quotient.
pub counted : (n count w : ℕ) → 0 < w → (eqb (n % w) 0 && eqb (n / w) count) ≡ eqb n (count * w)
counted n count w W =
    same_test (eqb (n % w) 0 && eqb (n / w) count) (eqb n (count * w))
    (λ t.
    let r = eqb-true (n % w) 0 (is_true _ (and_l (eqb (n % w) 0) (eqb (n / w) count) t)) in
    let q = eqb-true (n / w) count (is_true _ (and_r (eqb (n % w) 0) (eqb (n / w) count) t)) in
    passes _ (eq-eqb n (count * w) (sym (div-add-mod' n w) ∙ rw (r, q) (omega arith))))
    (λ t.
    let e = eqb-true n (count * w) (is_true _ t) in
    and_i (eqb (n % w) 0) (eqb (n / w) count)
    (passes _ (eq-eqb (n % w) 0 (ap (λ (z : ℕ). z % w) e ∙ mul-mod_left count w)))
    (passes _ (eq-eqb (n / w) count (ap (λ (z : ℕ). z / w) e ∙ mul-div_cancel count W))))

-- The result was neither 0 nor 1.
pub plain-seen : (kind : SampleKind) (xs : List Float) (r : ℕ) → (r ≡ 0 → ⊥) → (r ≡ 1 → ⊥) → Seen kind xs r
    → (kind ≡ Float32) × AllPlain xs
plain-seen kind xs zero e f h = absurd (e refl)
plain-seen kind xs (suc zero) e f h = absurd (f refl)
plain-seen kind xs (suc (suc r)) e f h = h

-- ---- the two tests, as the code made them
module _ (kind : SampleKind) (xs : List Float) (old : List ℕ) {t : Bool}
    (e : t ≡ eqb (length old) (length xs * width_of kind)) where
  abbrev Answers : ℕ → List ℕ → Type 0
  Answers r out = (r ≡ verdict kind xs (length old)) × (out ≡ stored kind xs old)

  pub other_length : t ≡ false → Answers 2 old
  unfolding verdict
  other_length f = rw (sym e ∙ f) (refl, refl)

  module _ {u : Bool} (ok : t ≡ true) (g : u ≡ all_fit kind xs) where
    pub out_of_range : u ≡ false → Answers 15 old
    unfolding verdict
    out_of_range f = rw (sym e ∙ ok, sym g ∙ f) (refl, refl)

    pub written : {out : List ℕ} → u ≡ true → out ≡ bytes_of kind xs → Answers 0 out
    unfolding verdict
    written f w = rw (sym e ∙ ok, sym g ∙ f) (refl, w)

  pub plain_ready : t ≡ true → (kind ≡ Float32) × AllPlain xs → PlainReady xs old
  plain_ready ok (k, p) =
      record {
        long =
            eqb-true (length old) (length xs * width_of kind) (sym e ∙ ok)
            ∙ ap (λ (z : SampleKind). length xs * width_of z) k;
        plain = p;
      }

  pub plain-written : {out : List ℕ} → t ≡ true → (kind ≡ Float32) × AllPlain xs → out ≡ bytes_of Float32 xs
      → Answers 0 out
  plain-written ok (k, p) w =
      written ok (sym (ap (λ (z : SampleKind). all_fit z xs) k ∙ plain-fit xs p)) refl
      (w ∙ ap (λ (z : SampleKind). bytes_of z xs) (sym k))
