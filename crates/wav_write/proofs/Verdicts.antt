-- W2f. The refusals that are known before any sample is read, followed by 15, are those of the table; and the answer
-- that belongs to a refusal's number. Assumes nothing.
use mathlib.Core.Path.{◌≡◌, refl, sym, ap, ◌∙◌}
use mathlib.Core.Bool.{Bool, true, false, cond, ◌&&◌}
use mathlib.Core.List.{List, [], ◌∷◌}
use Prim.Native.Nat.{ℕ, zero, suc}
use native.Mathlib.Omega.{arith}
use borrow.Author.Tests.{eq-eqb, leb-true}
use lib.Dec.{leb}
use lib.ListN.{length}
use lib.Ieee.{Float}
use Rattle.refusal_order.specs.Order.{◌unless◌, first_of}
use Rattle.sample_kind.specs.declared.SampleKind.{SampleKind}
use Rattle.wav_store.specs.Storing.{all_fit}
use Rattle.wav_store.specs.Storing.{verdict as store_verdict}
use Rattle.wav_header.specs.Header.{size_of}
use Rattle.long_header.specs.LongHeader.{file_length_for}
use Rattle.wav_settings.specs.Settings.{rate_ok, one_or_two, whole_frames}
use Rattle.long_header.specs.Refusals.{size_ok, file_verdict_for}
use Rattle.wav_write.specs.declared.Written.TheVariants as answers
use Rattle.wav_write.specs.Writing.{verdict, answer_by}
use Rattle.wav_write.specs.Placing.{early_verdict, Room}

abbrev pub or_later : ℕ → ℕ → ℕ
or_later zero m = m
or_later (suc n) m = suc n

three-then-one : (a s b c : Bool) → first_of (1 unless a ∷ 19 unless s ∷ 13 unless b ∷ 14 unless c ∷ [])
    ≡ or_later (first_of (1 unless a ∷ 19 unless s ∷ 13 unless b ∷ [])) (cond c 0 14)
three-then-one true true true c = refl
three-then-one true true false c = refl
three-then-one true false b c = refl
three-then-one false s b c = refl

four-then-one : (a s b c d : Bool)
    → first_of (1 unless a ∷ 19 unless s ∷ 13 unless b ∷ 14 unless c ∷ 15 unless d ∷ [])
    ≡ or_later (first_of (1 unless a ∷ 19 unless s ∷ 13 unless b ∷ 14 unless c ∷ [])) (cond d 0 15)
four-then-one true true true true d = refl
four-then-one true true true false d = refl
four-then-one true true false c d = refl
four-then-one true false b c d = refl
four-then-one false s b c d = refl

pub refused-first : (r v m : ℕ) → r ≡ v → (r ≡ 0 → ⊥) → r ≡ or_later v m
refused-first r zero m e h = absurd (h e)
refused-first r (suc v) m e h = e

pub early-is : (kind : SampleKind) (channels rate count room : ℕ)
    → early_verdict kind channels rate count room
    ≡ or_later (file_verdict_for kind channels rate count) (cond (leb (file_length_for kind count) room) 0 14)
early-is kind channels rate count room =
    three-then-one (rate_ok rate && whole_frames channels count) (size_ok kind count) (one_or_two channels)
    (leb (file_length_for kind count) room)

pub verdict-is : (kind : SampleKind) (channels rate : ℕ) (samples : List Float) (room : ℕ)
    → verdict kind channels rate samples room
    ≡ or_later (early_verdict kind channels rate (length samples) room) (cond (all_fit kind samples) 0 15)
verdict-is kind channels rate samples room =
    four-then-one (rate_ok rate && whole_frames channels (length samples)) (size_ok kind (length samples))
    (one_or_two channels)
    (leb (file_length_for kind (length samples)) room) (all_fit kind samples)

-- ---- the refusal, from the calls of a write
module _ (kind : SampleKind) (channels rate : ℕ) (samples : List Float) (room r : ℕ)
    (e : r ≡ early_verdict kind channels rate (length samples) room) where
  pub refused-early : (r ≡ 0 → ⊥) → r ≡ verdict kind channels rate samples room
  refused-early h = refused-first r _ _ e h ∙ sym (verdict-is kind channels rate samples room)

  -- A store into exactly the bytes of the samples can refuse only by 15.
  pub refused-late : r ≡ 0 → (n u : ℕ) → n ≡ size_of kind (length samples) → u ≡ store_verdict kind samples n
      → u ≡ verdict kind channels rate samples room
  unfolding store_verdict
  refused-late z n u l s =
      let due : store_verdict kind samples n ≡ cond (all_fit kind samples) 0 15 =
      rw (eq-eqb n (size_of kind (length samples)) l) in
      s ∙ due
      ∙ sym
      (verdict-is kind channels rate samples room
      ∙ ap (λ (v : ℕ). or_later v (cond (all_fit kind samples) 0 15)) (sym e ∙ z))

-- If a call is not refused early, the buffer has room for the file.
pub roomy : (kind : SampleKind) (channels rate count room : ℕ) → early_verdict kind channels rate count room ≡ 0
    → Room kind channels rate count room
roomy kind channels rate count room h =
    by (file_verdict_for kind channels rate count) (leb (file_length_for kind count) room) refl refl
    (sym (early-is kind channels rate count room) ∙ h)
  where
    by : (v : ℕ) (t : Bool) → file_verdict_for kind channels rate count ≡ v → leb (file_length_for kind count) room ≡ t
        → or_later v (cond t 0 14) ≡ 0 → Room kind channels rate count room
    by zero true p q z = record { planned = p; holds = leb-true (file_length_for kind count) room q }
    by zero false p q z = absurd (omega arith)
    by (suc v) t p q z = absurd (omega arith)

-- The answer that belongs to a refusal's number.
pub refused : (r v n : ℕ) → r ≡ v → (r ≡ 0 → ⊥) → answers.Refused r ≡ answer_by v n
refused r zero n e h = absurd (h e)
refused r (suc v) n e h = ap answers.Refused e

pub accepted : (v m n : ℕ) → v ≡ 0 → m ≡ n → answers.Length m ≡ answer_by v n
accepted v m n z e = rw (z, e)
