-- W3f. If the quality reads one table, its stretch at rest is handed to the reader over that table. Assumes nothing.
use mathlib.Core.Path.{◌≡◌, refl, sym}
use mathlib.Core.Bool.{true}
use mathlib.Core.List.{List}
use Prim.Native.Nat.{suc, ◌+◌}
use native.Mathlib.Omega.{arith}
use borrow.Author.Tests.{eq-eqb}
use lib.Dec.{eqb, leb}
use lib.ListN.{length, get_or}
use lib.Ieee.{Float, nan}
use Rattle.constants.specs.Numbers.{limit}
use Rattle.ring.specs.Length.{settings_ok, length_for}
use Rattle.sinc_settings.specs.Refusals.{table_length}
use Rattle.bank_choice.specs.Inner.{choice_of}
use Rattle.bank_choice.specs.declared.Choice.{Choice}
use Rattle.bank_read.proofs.OneTable.{Alone}
use Rattle.quality_mode.specs.declared.QualityMode.{QualityMode}
use Rattle.quality_mode.specs.Quality.{taps_of, phases_of}
use Rattle.quality_fade.proofs.StaysInRange.{both}
use Rattle.variable_delay.specs.Reader.{stored, position_of}
use Rattle.quality_variable_delay.specs.declared.QualityVariableDelayF32.{QualityVariableDelayF32}
use Rattle.stretch.specs.Stretch.{stretch_of}
use Rattle.stretch_call.specs.Items as plain
use Rattle.stretch_call.specs.declared.StretchAnswer.{StretchAnswer}
use Rattle.sinc_stretch_f32.specs.Reader.{left_f32}
use Rattle.sinc_stretch_f32.proofs.Turns as table-turns
use Rattle.quality_stretch.specs.Reader.{call_of, leaves, left_by}
use Rattle.quality_stretch.specs.Inner.{at_rest, at_count, Ready}
use Rattle.quality_stretch.proofs.AtRest as turns
use Rattle.quality_stretch.proofs.Handed.{plainly, Beside, handed_over}

module _ (sets : List Float) (max-rate : Float) (q : QualityMode) (rate : Float) (d : QualityVariableDelayF32)
    (ring₀ xs ds out₀ table : List Float) (alone : Alone (choice_of max-rate rate) q sets table)
    (ready : Ready sets max-rate q rate d (length ring₀)) (alike : length ds ≡ length xs)
    (room : length out₀ ≡ length xs) where
  begins : table-turns.due table (taps_of q) (phases_of q) (plainly d) ring₀ xs ds out₀ ≡ 0
  begins =
      let s = (both (settings_ok d.maximum d.margin) _ ready.settings).0 in
      let l = (both (eqb (length ring₀) (length_for d.maximum d.margin)) _ ready.lengths).0 in
      let f = (both (leb d.accepted limit) _ ready.field).0 in
      rw (
        s,
        alone.own,
        l,
        eq-eqb (length table) (table_length (taps_of q) (phases_of q)) alone.long,
        eq-eqb (length ds) (length xs) alike,
        eq-eqb (length out₀) (length xs) room,
        f,
      )

  pub by-table : Beside sets max-rate q rate d ring₀ xs ds out₀
      (left_f32 table (taps_of q) (phases_of q) (plainly d) ring₀ xs ds out₀)
  by-table =
      record {
        On = table-turns.On table (taps_of q) (phases_of q) (plainly d) ring₀ xs ds out₀;
        begun = table-turns.starts table (taps_of q) (phases_of q) (plainly d) ring₀ xs ds out₀ refl begins;
        ended = λ t h. table-turns.at-end table (taps_of q) (phases_of q) (plainly d) ring₀ xs ds out₀ t h;
        next =
            λ {ring} {out} {i} {k} t h e.
            table-turns.goes_on table (taps_of q) (phases_of q) (plainly d) ring₀ xs ds out₀ t nan h {n = 0} (
              sym e,
              (
                (λ z. sym (alone.reads (stored i ring (get_or xs k nan)) (i + 1) (position_of i (get_or ds k nan)))),
                rw e,
              ),
            ) refl;
        stopped =
            λ {ring} {out} {i} {k} t h n e.
            table-turns.ends table (taps_of q) (phases_of q) (plainly d) ring₀ xs ds out₀ t nan h {n = suc n} {s = nan}
            (sym e, ((λ z. absurd (omega (arith, z))), rw e)) (λ z. omega (arith, z));
      }

module _ (sets : List Float) (max-rate : Float) (q : QualityMode) (rate : Float) (d : QualityVariableDelayF32)
    (ring₀ xs ds out₀ table : List Float) {c : Choice} (chosen : c ≡ choice_of max-rate rate)
    (alone : Alone c q sets table) where
  module _ (ready : Ready sets max-rate q rate d (length ring₀)) (rests : at_rest d q rate ≡ true)
      (alike : length ds ≡ length xs) (room : length out₀ ≡ length xs) where
    -- What the stretch over the table answers and leaves is what this one has to.
    pub handed : {r : StretchAnswer} {ys o : List Float}
        → plain.leaves r ys o ≡ left_f32 table (taps_of q) (phases_of q) (plainly d) ring₀ xs ds out₀
        → leaves (turns.answer (at_count d r.state.accepted) r.done r.refusal) ys o
        ≡ left_by out₀ (stretch_of (call_of sets max-rate q rate) d ring₀ xs ds)
    handed e =
        handed_over sets max-rate q rate d ring₀ xs ds out₀
        (by-table sets max-rate q rate d ring₀ xs ds out₀ table (rw chosen at alone) ready alike room)
        ready rests alike room e
