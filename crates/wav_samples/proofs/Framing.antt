-- The sample of each of n frames lies in the part; and what follows if a call is not refused. Assumes nothing.
use mathlib.Core.Path.{◌≡◌, refl, sym, ap, ◌∙◌}
use mathlib.Core.Bool.{Bool, true, false, not, true≢false, ◌&&◌}
use mathlib.Core.List.{List, [], ◌∷◌}
use Prim.Native.Nat.{ℕ, zero, suc, ◌+◌, ◌*◌, ◌/◌, ◌%◌, ◌≤◌, ◌<◌}
use native.Mathlib.Nat.{suc-mul, mul-le-mul_right, mul-mod_left, mul-div_left, div-add-mod'}
use native.Mathlib.Omega.{arith}
use borrow.Author.Tests.{leb-true, ltb-true, eqb-true}
use lib.Dec.{eqb, leb, ltb}
use Rattle.refusal_order.specs.Order.{◌unless◌, first_of}
use Rattle.sample_kind.specs.declared.SampleKind.{SampleKind}
use Rattle.sample_kind.specs.Kinds.{width_of, frame_of}
use Rattle.sample_kind.proofs.Widths.{fewer_bytes}
use Rattle.wav_samples.specs.Filling.{refused_by, filled_by}
use Rattle.wav_samples.specs.Frames.{Whole, Framed}

pub place : {size n frame first width : ℕ} (k : ℕ) → Whole size n frame first width → k < n
    → k * frame + first + width ≤ size
place {frame = frame} k w h = omega (arith, w.all, w.inside, mul-le-mul_right frame h, suc-mul k frame)

pub two-channels : {kind : SampleKind} {channels first size n : ℕ} → Framed kind channels first size n
    → (channels ≡ 1 → ⊥) → channels ≡ 2
two-channels f h = omega (arith, f.some, f.few)

-- What follows if a call is not refused.
pub framed : (asked : Bool) (kind : SampleKind) (channels channel size n : ℕ)
    → refused_by asked kind channels channel size n ≡ 0
    → Framed kind channels (frame_of kind channel) size n
framed asked kind channels channel size n h =
    by asked (leb channels 2) (ltb channel channels) (eqb size (n * frame_of kind channels)) refl refl refl h
  where
    by : (s a b c : Bool) → leb channels 2 ≡ a → ltb channel channels ≡ b → eqb size (n * frame_of kind channels) ≡ c
        → ◌≡◌ {A = ℕ} (first_of (1 unless (s && (a && b)) ∷ 2 unless c ∷ [])) 0
        → Framed kind channels (frame_of kind channel) size n
    by true true true true p q r z =
        let l = ltb-true channel channels q in
        record {
          some = omega arith;
          few = leb-true channels 2 p;
          whole = record {
            all = eqb-true size (n * frame_of kind channels) r;
            inside = omega (arith, mul-le-mul_right (width_of kind) l, suc-mul channel (width_of kind));
          };
        }
    by true true true false p q r z = absurd (omega arith)
    by true true false c p q r z = absurd (omega arith)
    by true false b c p q r z = absurd (omega arith)
    by false a b c p q r z = absurd (omega arith)

pub is-asked : (asked : Bool) → not asked ≡ false → asked ≡ true
is-asked true h = refl
is-asked false h = absurd (true≢false h)

pub is-not-asked : (asked : Bool) → not asked ≡ true → asked ≡ false
is-not-asked true h = absurd (true≢false (sym h))
is-not-asked false h = refl

-- A size is n whole frames exactly if its remainder is 0 and its quotient is n.
pub some_bytes : (kind : SampleKind) (channel channels : ℕ) → channel < channels → 0 < frame_of kind channels
some_bytes kind channel channels h = omega (arith, fewer_bytes kind channel channels h)

pub frames-are : (size n frame : ℕ) → size % frame ≡ 0 → size / frame ≡ n → size ≡ n * frame
frames-are size n frame p q = omega (arith, div-add-mod' size frame, ap (λ (m : ℕ). m * frame) q)

pub broken : (size n frame : ℕ) → (size % frame ≡ 0 → ⊥) → size ≡ n * frame → ⊥
broken size n frame h e = h (ap (λ (m : ℕ). m % frame) e ∙ mul-mod_left n frame)

pub other-number : (size n frame : ℕ) → 0 < frame → (size / frame ≡ n → ⊥) → size ≡ n * frame → ⊥
other-number size n frame p h e = h (ap (λ (m : ℕ). m / frame) e ∙ mul-div_left n p)

pub asked_is : (asked : Bool) (kind : SampleKind) (channels channel size n : ℕ)
    → refused_by asked kind channels channel size n ≡ 0 → asked ≡ true
asked_is true kind channels channel size n h = refl
asked_is false kind channels channel size n h = absurd (omega arith)

-- A refused call leaves the slice as it was, and an accepted one writes the new list.
pub kept : {A : Type 0} (r v : ℕ) (new old : List A) → r ≡ v → (r ≡ 0 → ⊥) → old ≡ filled_by v new old
kept r zero new old e h = absurd (h e)
kept r (suc v) new old e h = refl

pub given : {A : Type 0} (r v : ℕ) (new old : List A) → r ≡ v → r ≡ 0 → new ≡ filled_by v new old
given r v new old e h = rw (sym e ∙ h)
