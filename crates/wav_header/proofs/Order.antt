-- W2f. Each refusal of a header is given exactly when its test is the first that fails, and a refused call leaves the
-- block as it was. From the laws over any table. Assumes nothing.
use mathlib.Core.Path.{◌≡◌, refl, sym}
use mathlib.Core.Logic.{◌↔◌}
use mathlib.Core.Bool.{true, ◌&&◌}
use mathlib.Core.List.{List, [], ◌∷◌}
use Prim.Native.Nat.{ℕ, suc}
use lib.Dec.{eqb}
use lib.ListN.{length}
use Rattle.refusal_order.specs.Order.{Test, ◌unless◌, First, number_of, test_of, line_of}
use Rattle.refusal_order.proofs.First.{exactly, none}
use Rattle.sample_kind.specs.declared.SampleKind.{SampleKind}
use Rattle.wav_header.specs.Header.{header_length, header_of}
use Rattle.wav_header.specs.Refusals.{count_ok, header_verdict, header_in}
use Rattle.wav_settings.specs.Settings.{rate_ok, one_or_two}
use Rattle.wav_header.proofs.Taken.{kept}

module _ (kind : SampleKind) (channels rate count : ℕ) where
  -- The tests of 1, 2 and 13 in their order.
  abbrev pub header_tests : ℕ → List Test
  header_tests room =
      1 unless (rate_ok rate && count_ok kind channels count)
      ∷ 2 unless eqb room (header_length kind)
      ∷ 13 unless one_or_two channels
      ∷ []

  pub header-exactly : (room n : ℕ)
      → header_verdict kind channels rate count room ≡ suc n
      ↔ ((k : ℕ) × (First (header_tests room) k × number_of (line_of (header_tests room) k) ≡ suc n))
  header-exactly room n = exactly (header_tests room) n

  pub header-none : (room : ℕ)
      → header_verdict kind channels rate count room ≡ 0 ↔ ((k : ℕ) → test_of (line_of (header_tests room) k) ≡ true)
  header-none room = none (header_tests room) refl

  pub refused-keeps : (old : List ℕ) → (header_verdict kind channels rate count (length old) ≡ 0 → ⊥)
      → header_in kind channels rate count old ≡ old
  refused-keeps old h =
      sym (kept (header_verdict kind channels rate count (length old)) _ (header_of kind channels rate count) old refl
      h)
