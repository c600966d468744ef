-- W10f. Each refusal of a header is given exactly when its test is the first that fails, none exactly when all tests
-- hold, and a refused call leaves the block as it was. From the laws over any table. Assumes nothing.
use mathlib.Core.Path.{◌≡◌, refl, sym}
use mathlib.Core.Logic.{◌↔◌}
use mathlib.Core.Bool.{true}
use mathlib.Core.List.{List}
use Prim.Native.Nat.{ℕ, suc}
use lib.ListN.{length}
use Rattle.refusal_order.specs.Order.{First, number_of, test_of, line_of}
use Rattle.refusal_order.proofs.First.{exactly, none}
use Rattle.sample_kind.specs.declared.SampleKind.{SampleKind}
use Rattle.wav_header.proofs.Taken.{kept}
use Rattle.long_header.specs.declared.Form.{Form}
use Rattle.long_header.specs.Refusals.{header_tests_for, header_verdict_for, header_after}

module _ (kind : SampleKind) (channels rate count room : ℕ) where
  pub write-exactly : (n : ℕ)
      → header_verdict_for kind channels rate count room ≡ suc n
      ↔ ((k : ℕ) × (First (header_tests_for kind channels rate count room) k
      × number_of (line_of (header_tests_for kind channels rate count room) k) ≡ suc n))
  write-exactly n = exactly (header_tests_for kind channels rate count room) n

  pub write-none : header_verdict_for kind channels rate count room ≡ 0
      ↔ ((k : ℕ) → test_of (line_of (header_tests_for kind channels rate count room) k) ≡ true)
  write-none = none (header_tests_for kind channels rate count room) refl

pub refused-keeps : (form : Form) (kind : SampleKind) (channels rate count : ℕ) (old : List ℕ)
    → (header_verdict_for kind channels rate count (length old) ≡ 0 → ⊥)
    → header_after form kind channels rate count old ≡ old
refused-keeps form kind channels rate count old h =
    sym (kept (header_verdict_for kind channels rate count (length old)) _ _ old refl h)
