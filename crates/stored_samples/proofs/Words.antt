-- The stored word of a sample, by whether the sample fits. Assumes nothing.
use mathlib.Core.Path.{◌≡◌, sym, ap, ◌∙◌}
use mathlib.Core.Bool.{Bool, true, false, cond}
use Prim.Native.Nat.{ℕ}
use lib.Ieee.{Float}
use Rattle.sample_kind.specs.declared.SampleKind.{SampleKind}
use Rattle.stored_samples.specs.Stored.{fits_in, digits_in, word_of}

-- `test` is the test of the code.
module _ (kind : SampleKind) (x : Float) {test : Bool} (e : test ≡ fits_in kind x) where
  pub fitting : test ≡ true → fits_in kind x ≡ true
  fitting t = sym e ∙ t

  pub word : {n : ℕ} → test ≡ true → n ≡ digits_in kind x → n ≡ word_of kind x
  word t d = d ∙ sym (ap (λ (b : Bool). cond b (digits_in kind x) 0) (fitting t))

  pub none : test ≡ false → 0 ≡ word_of kind x
  none t = sym (ap (λ (b : Bool). cond b (digits_in kind x) 0) (sym e ∙ t))
