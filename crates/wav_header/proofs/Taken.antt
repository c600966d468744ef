-- W2. What follows if a header is accepted, and what the lent block holds for each returned number. Assumes nothing.
use mathlib.Core.Path.{◌≡◌, refl, sym, ◌∙◌}
use mathlib.Core.Bool.{Bool, true, false, true≢false, ◌&&◌}
use mathlib.Core.List.{List, [], ◌∷◌}
use Prim.Native.Nat.{ℕ, zero, suc, ◌≤◌}
use native.Mathlib.Omega.{arith}
use borrow.Author.Tests.{eqb-true}
use lib.Dec.{eqb}
use Rattle.refusal_order.specs.Order.{◌unless◌, first_of}
use Rattle.sample_kind.specs.declared.SampleKind.{SampleKind}
use Rattle.wav_header.specs.Header.{header_length}
use Rattle.wav_header.specs.Refusals.{fits_riff, header_verdict, written_by}
use Rattle.wav_settings.specs.Settings.{rate_ok, one_or_two, whole_frames}
use Rattle.wav_header.specs.Fields.{Room}
use Rattle.wav_header.proofs.Sizes.{fits-few}

some-channel : (channels : ℕ) → one_or_two channels ≡ true → 1 ≤ channels
some-channel zero h = absurd (true≢false (sym h))
some-channel (suc n) h = omega arith

pub accepted : (kind : SampleKind) (channels rate count room : ℕ) → header_verdict kind channels rate count room ≡ 0
    → Room kind channels count room
accepted kind channels rate count room h =
    by (rate_ok rate) (whole_frames channels count) (fits_riff kind count) (eqb room (header_length kind))
    (one_or_two channels) refl refl refl h
  where
    by : (a b c d e : Bool) → fits_riff kind count ≡ c → eqb room (header_length kind) ≡ d → one_or_two channels ≡ e
        → first_of (1 unless (a && (b && c)) ∷ 2 unless d ∷ 13 unless e ∷ []) ≡ 0 → Room kind channels count room
    by true true true true true p q r z =
        record {
          exact = eqb-true room (header_length kind) q;
          some = some-channel channels r;
          few = fits-few kind count p;
        }
    by true true true true false p q r z = absurd (omega arith)
    by true true true false e p q r z = absurd (omega arith)
    by true true false d e p q r z = absurd (omega arith)
    by true false c d e p q r z = absurd (omega arith)
    by false b c d e p q r z = absurd (omega arith)

-- A refused call leaves the block as it was, and an accepted one writes the header.
pub kept : (r v : ℕ) (new old : List ℕ) → r ≡ v → (r ≡ 0 → ⊥) → old ≡ written_by v new old
kept r zero new old e h = absurd (h e)
kept r (suc v) new old e h = refl

pub given : (r v : ℕ) (new old : List ℕ) → r ≡ v → r ≡ 0 → new ≡ written_by v new old
given r v new old e h = rw (sym e ∙ h)
