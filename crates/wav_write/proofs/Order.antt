-- W2f, W10f. Each refusal of a write is given exactly when its test is the first that fails, none exactly when all
-- tests hold, and a refused call writes nothing. From the laws over any table. Assumes nothing.
use mathlib.Core.Path.{◌≡◌, refl, sym}
use mathlib.Core.Logic.{◌↔◌}
use mathlib.Core.Bool.{true}
use mathlib.Core.List.{List}
use Prim.Native.Nat.{ℕ, suc}
use lib.ListN.{length}
use lib.Ieee.{Float}
use Rattle.refusal_order.specs.Order.{First, number_of, test_of, line_of}
use Rattle.refusal_order.proofs.First.{exactly, none}
use Rattle.sample_kind.specs.declared.SampleKind.{SampleKind}
use Rattle.wav_header.proofs.Taken.{kept}
use Rattle.long_header.specs.declared.Form.{Form}
use Rattle.wav_write.specs.Writing.{tests, verdict, written}

module _ (kind : SampleKind) (channels rate : ℕ) (samples : List Float) where
  pub write-exactly : (room n : ℕ)
      → verdict kind channels rate samples room ≡ suc n
      ↔ ((k : ℕ) × (First (tests kind channels rate samples room) k
      × number_of (line_of (tests kind channels rate samples room) k) ≡ suc n))
  write-exactly room n = exactly (tests kind channels rate samples room) n

  pub write-none : (room : ℕ)
      → verdict kind channels rate samples room ≡ 0
      ↔ ((k : ℕ) → test_of (line_of (tests kind channels rate samples room) k) ≡ true)
  write-none room = none (tests kind channels rate samples room) refl

  pub refused-writes-nothing : (form : Form) (old : List ℕ) → (verdict kind channels rate samples (length old) ≡ 0 → ⊥)
      → written form kind channels rate samples old ≡ old
  refused-writes-nothing form old h = sym (kept (verdict kind channels rate samples (length old)) _ _ old refl h)
