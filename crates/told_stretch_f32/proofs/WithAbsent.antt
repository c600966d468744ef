-- A stretch over f32 samples with its absent taps, from what the stretch returned and what was counted beside it. Its
-- items leave what those of the other width leave, so they have the same sums. Assumes nothing.
use mathlib.Core.Path.{◌≡◌, refl, sym, ap, ◌∙◌}
use mathlib.Core.Bool.{Bool, true}
use mathlib.Core.List.{List, [], ◌∷◌}
use Prim.Native.Nat.{ℕ, ◌≤◌}
use lib.ListN.{length}
use lib.Ieee.{Float}
use Rattle.absent_taps.specs.declared.Absent.{Absent}
use Rattle.absent_taps.specs.Absent.{plus}
use Rattle.variable_delay.specs.Reader.{Reading}
use Rattle.variable_delay.specs.declared.VariableDelay.{VariableDelay}
use Rattle.stretch.specs.Stretch.{Called, Ran, and_then, stretch_of}
use Rattle.stretch.specs.Whole.{whole_of, refused_first, unless_refused, done_of}
use Rattle.stretch.specs.Counts.{none_if, absent_in, whole_absent}
use Rattle.stretch_call.specs.Items.{item_of, delay_reader, Left, left_by}
use Rattle.stretch_call.specs.Items as plain
use Rattle.stretch_call.specs.declared.StretchAnswer.{StretchAnswer}
use Rattle.stretch_absent.specs.Sums.{absence, sums_of}
use Rattle.stretch_absent.proofs.Wholes.{by-done}
use Rattle.sinc_stretch_f32.specs.Reader.{item_f32, reader_f32}
use Rattle.sinc_stretch_f32.proofs.Alike.{same_item}
use Rattle.told_stretches.specs.Told.{leaves, told_by}
use Rattle.told_stretches.specs.Told.{Left as ToldLeft}
use Rattle.told_stretches.specs.declared.ToldStretch.{ToldStretch}

abbrev with-absent : StretchAnswer → Absent → ToldStretch
with-absent a s = record { state = a.state; done = a.done; refusal = a.refusal; absent = s }

abbrev told-left : Left → Absent → ToldLeft
told-left l s = leaves (with-absent l.answer s) l.ring l.out

module _ (read : Reading) (own lent : Bool) where
  same-run : (d : VariableDelay) (ring xs ds : List Float)
      → stretch_of (item_f32 read own lent) d ring xs ds ≡ stretch_of (item_of read own lent) d ring xs ds
  unfolding stretch_of
  same-run d ring [] ds = refl
  same-run d ring (x ∷ xs) [] = refl
  same-run d ring (x ∷ xs) (y ∷ ys) =
      let c : Called VariableDelay = item_of read own lent d ring x y in
      rw (same_item read own lent d ring x y)
      (ap (and_then c.number c) (same-run c.state c.ring xs ys))

  same-counts : (n : ℕ) (d : VariableDelay) (ring xs ds : List Float)
      → absent_in (item_f32 read own lent) (absence n) d ring xs ds
      ≡ absent_in (item_of read own lent) (absence n) d ring xs ds
  unfolding absent_in
  same-counts n d ring [] ds = refl
  same-counts n d ring (x ∷ xs) [] = refl
  same-counts n d ring (x ∷ xs) (y ∷ ys) =
      let c : Called VariableDelay = item_of read own lent d ring x y in
      rw (same_item read own lent d ring x y)
      (ap (λ (s : Absent). none_if c.number (plus (absence n d ring x y) s))
      (same-counts n c.state c.ring xs ys))

  module _ (n : ℕ) (few : own ≡ true → n ≤ 128) (d : VariableDelay) (ring inputs delays out : List Float) where
    abbrev all : Ran VariableDelay
    all = whole_of (reader_f32 read own lent) d ring inputs delays (length out)

    abbrev first : ℕ
    first =
        refused_first (delay_reader read own lent) d (length ring) (length inputs) (length delays) (length out)

    same_whole : all ≡ whole_of (delay_reader read own lent) d ring inputs delays (length out)
    unfolding whole_of
    same_whole = ap (unless_refused first d ring) (same-run d ring inputs delays)

    same-absent : whole_absent (reader_f32 read own lent) (absence n) d ring inputs delays (length out)
        ≡ whole_absent (delay_reader read own lent) (absence n) d ring inputs delays (length out)
    unfolding whole_absent
    same-absent = ap (none_if first) (same-counts n d ring inputs delays)

    sums : whole_absent (reader_f32 read own lent) (absence n) d ring inputs delays (length out)
        ≡ sums_of (length ring) d.accepted delays (done_of all) n
    sums =
        same-absent
        ∙ by-done read own lent d ring inputs delays (length out) n few
        ∙ ap (λ (r : Ran VariableDelay). sums_of (length ring) d.accepted delays (done_of r) n) (sym same_whole)

    pub told : (a : StretchAnswer) (s : Absent) {ring-left out-left : List Float}
        → plain.leaves a ring-left out-left ≡ left_by out all
        → s ≡ sums_of (length ring) d.accepted delays a.done n
        → leaves (with-absent a s) ring-left out-left
        ≡ told_by out all (whole_absent (reader_f32 read own lent) (absence n) d ring inputs delays (length out))
    told a s e f =
        ap (λ (l : Left). told-left l s) e
        ∙ ap (told_by out all)
        (f ∙ ap (λ (l : Left). sums_of (length ring) d.accepted delays l.answer.done n) e ∙ sym sums)
