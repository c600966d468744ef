-- W3f. In Draft a stretch at rest is handed to the reader over what Draft reads. Assumes nothing.
use mathlib.Core.Path.{◌≡◌, refl, sym, ap, ◌∙◌}
use mathlib.Core.Bool.{true, false}
use mathlib.Core.List.{List}
use Prim.Native.Nat.{ℕ, suc, ◌+◌, ◌-◌, ◌%◌, ◌<◌}
use native.Mathlib.Omega.{arith}
use borrow.Author.Tests.{eq-eqb, ne_eqb, eqb-true}
use lib.Bits.{bit_and}
use lib.Dec.{eqb, leb}
use lib.IntN.{pos}
use lib.ListN.{length, get_or, set}
use lib.Ieee.{Float, nan, binary64, sub, of_int}
use mir.Syntax.{w64}
use mir.Val.{to_z}
use mir.ValLaws.{to_z-of_z}
use Rattle.constants.specs.Numbers.{limit}
use Rattle.ring.specs.Length.{settings_ok, length_for}
use Rattle.ring.proofs.Lengths.{masked}
use Rattle.cubic_farrow_f32.specs.Draft.{draft_at}
use Rattle.bank_choice.specs.Inner.{choice_of}
use Rattle.bank_read.proofs.BankReading.{draft-read}
use Rattle.quality_mode.specs.declared.QualityMode.{QualityMode}
use Rattle.quality_mode.specs.declared.QualityMode.TheVariants.{Draft}
use Rattle.quality_mode.specs.Quality.{same_q}
use Rattle.quality_fade.proofs.StaysInRange.{both}
use Rattle.variable_delay.specs.Reader.{stored, position_of}
use Rattle.quality_variable_delay.specs.declared.QualityVariableDelayF32.{QualityVariableDelayF32}
use Rattle.stretch.specs.Whole.{whole_of}
use Rattle.stretch_call.specs.Items.{delay_reader, before_items, item_due, left_by}
use Rattle.stretch_call.proofs.Loops as loop
use Rattle.quality_stretch.specs.Inner.{Ready}
use Rattle.quality_stretch.proofs.Handed.{plainly, heard, Beside}

module _ (sets : List Float) (max-rate : Float) (q : QualityMode) (rate : Float) (d : QualityVariableDelayF32)
    (ring₀ xs ds out₀ : List Float) (draft : same_q q Draft ≡ true)
    (begun : Ready sets max-rate q rate d (length ring₀)) (alike : length ds ≡ length xs)
    (room : length out₀ ≡ length xs) where
  begins : before_items true true (plainly d) (length ring₀) (length xs) (length ds) (length out₀) ≡ 0
  begins =
      let s = (both (settings_ok d.maximum d.margin) _ begun.settings).0 in
      let l = (both (eqb (length ring₀) (length_for d.maximum d.margin)) _ begun.lengths).0 in
      let f = (both (leb d.accepted limit) _ begun.field).0 in
      rw (s, l, eq-eqb (length ds) (length xs) alike, eq-eqb (length out₀) (length xs) room, f)

  abbrev On : List Float → List Float → ℕ → ℕ → Type 0
  On = loop.Going draft_at true true (plainly d) ring₀ xs ds out₀

  -- The loop's place and position are the item's.
  next : {ring out : List Float} {i k : ℕ} → On ring out i k → k < length xs
      → item_due i (get_or xs k nan) (get_or ds k nan) ≡ 0
      → On (stored i ring (get_or xs k nan)) (set out k (heard sets max-rate q rate d ring₀ xs ds out₀ ring i k))
      (i + 1)
      (k + 1)
  next {ring} {out} {i} {k} t h e =
      let x = get_or xs k nan in
      let y = get_or ds k nan in
      let r =
      loop.ready draft_at true true (plainly d) ring₀ xs ds out₀ t nan h (sym (ap (λ (v : ℕ). eqb v 0) e)) refl in
      let long : length ring ≡ length_for d.maximum d.margin =
      eqb-true (length ring) (length_for d.maximum d.margin) (both _ true t.begun.lengths).0 in
      let mask : bit_and i (length ring₀ - 1) ≡ i % length ring =
      rw (← t.kept, long) (masked d.maximum d.margin i) in
      let at : sub binary64 (of_int binary64 (to_z w64 i)) y ≡ position_of i y = rw (to_z-of_z w64 (pos i) r.cast) in
      rw mask at (r.turns (λ own lent range.
      sym (draft-read (choice_of max-rate rate) sets (stored i ring x) (i + 1) (position_of i y) q draft)
      ∙ rw (rw at at range) (rw (mask, at))))

  pub in-draft : Beside sets max-rate q rate d ring₀ xs ds out₀
      (left_by out₀ (whole_of (delay_reader draft_at true true) (plainly d) ring₀ xs ds (length out₀)))
  in-draft =
      record {
        On = On;
        begun = loop.starts draft_at true true (plainly d) ring₀ xs ds out₀ refl begins;
        ended = λ t h. loop.all_done draft_at true true (plainly d) ring₀ xs ds out₀ t h;
        next = λ t h e. next t h e;
        stopped =
            λ {ring} {out} {i} {k} t h n e.
            loop.stops draft_at true true (plainly d) ring₀ xs ds out₀ t nan h (suc n) {b = false} (sym e)
            (sym (ne_eqb (item_due i (get_or xs k nan) (get_or ds k nan)) 0 (λ z. omega (arith, z, e)))) refl;
      }
