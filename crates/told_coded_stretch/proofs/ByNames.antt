-- The sums counted beside a stretch on plain numbers are the stretch's absent taps, and none if a number names nothing,
-- because then no item is done. Assumes nothing.
use mathlib.Core.Path.{◌≡◌, refl, sym, ◌∙◌, ap}
use mathlib.Core.Bool.{Bool, true, false, ◌&&◌, cond}
use mathlib.Core.List.{List}
use Prim.Native.Nat.{ℕ, ◌+◌, ◌^◌, min}
use native.Mathlib.Omega.{arith}
use lib.Dec.{leb}
use lib.ListN.{length}
use lib.Ieee.{Float}
use Rattle.absent_taps.specs.declared.Absent.{Absent}
use Rattle.absent_taps.specs.Absent.{none}
use Rattle.bank_choice.specs.Inner.{choice_of}
use Rattle.quality_mode.specs.declared.QualityMode.{QualityMode}
use Rattle.quality_variable_delay.specs.State.{fade_part}
use Rattle.quality_variable_delay.specs.declared.QualityVariableDelayF32.{QualityVariableDelayF32}
use Rattle.quality_codes.specs.declared.Coded.{Coded}
use Rattle.quality_codes.specs.Codes.{mode_of, code_ok, decoded, fields_ok, odd_number}
use Rattle.quality_stretch.specs.Reader as stretch
use Rattle.quality_stretch.specs.Inner.{first_due}
use Rattle.coded_stretch.specs.Coded.{Left, leaves, taken_apart, pick, left_of, changed_by}
use Rattle.coded_stretch.specs.declared.CodedStretch.{CodedStretch}
use Rattle.quality_codes.specs.Left.{changed_of}
use Rattle.stretch.specs.Singles.{sum_of}
use Rattle.fade_absent.specs.Sums.{item_absent, sums_of}
use Rattle.told_quality_stretch.specs.Told.{stretch_absent}
use Rattle.told_quality_stretch.proofs.Wholes.{by-done}
use Rattle.told_coded_stretch.specs.Told.{leaves_told, absent_coded, told_of}

module _ (sets : List Float) (max-rate : Float) (q : ℕ) (rate : Float) (s : Coded)
    (ring inputs delays out : List Float) where
  abbrev beside : ℕ → Absent
  beside done =
      sums_of (length ring) (decoded s).accepted (fade_part (decoded s)) (choice_of max-rate rate) (mode_of q) delays
      done

  no_item : (b : Bool)
      → cond b
      (sum_of
      (item_absent (length ring) (decoded s).accepted (fade_part (decoded s)) (choice_of max-rate rate) (mode_of q)
      delays) 0) none
      ≡ none
  unfolding sum_of
  no_item true = refl
  no_item false = refl

  none_done : beside 0 ≡ none
  none_done =
      let least : min 0 (length delays) ≡ 0 = omega arith in
      rw least (no_item (leb ((decoded s).accepted + 0) (2 ^ 36)))

  abbrev named : Bool → Left Coded
  named b =
      pick b (taken_apart (stretch.left_of sets max-rate (mode_of q) rate (decoded s) ring inputs delays out))
      (leaves
      (odd_number (code_ok q)
      (first_due (length sets) max-rate (decoded s) (length ring) (length inputs) (length delays) (length out))) 0 s
      ring
      out)

  by_names : (b : Bool)
      → beside (named b).done
      ≡ cond b (stretch_absent sets max-rate (mode_of q) rate (decoded s) ring inputs delays out) none
  by_names true = sym (by-done sets max-rate (mode_of q) rate (decoded s) ring inputs delays out)
  by_names false = none_done

  -- What the code writes: a from the stretch, us and vs the ring and the output that it leaves, t from the count.
  pub told : (a : CodedStretch) {d : QualityVariableDelayF32} {m : QualityMode} {t : Absent} {us vs : List Float}
      → leaves a.refusal a.done a.state us vs ≡ left_of sets max-rate q rate s ring inputs delays out
      → d ≡ decoded s → m ≡ mode_of q
      → t ≡ sums_of (length ring) d.accepted (fade_part d) (choice_of max-rate rate) m delays a.done
      → leaves_told (leaves a.refusal a.done (changed_of a.state) us vs) t
      ≡ told_of sets max-rate q rate s ring inputs delays out
  told a e d m h =
      let f = h ∙ rw (d, m) (ap (λ (l : Left Coded). beside l.done) e) ∙ by_names (code_ok q && fields_ok s) in
      rw f (ap (λ (l : Left Coded). leaves_told (changed_by l)
      (absent_coded sets max-rate q rate s ring inputs delays out)) e)
