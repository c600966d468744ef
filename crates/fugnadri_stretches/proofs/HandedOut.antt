-- What an export leaves follows from what the stretch leaves. Assumes nothing.
use mathlib.Core.Path.{◌≡◌, ap}
use mathlib.Core.List.{List}
use lib.Ieee.{Float}
use Rattle.stretch_call.specs.declared.StretchAnswer.{StretchAnswer}
use Rattle.stretch_call.specs.Items as stretch
use Rattle.told_stretches.specs.declared.ToldStretch.{ToldStretch}
use Rattle.told_stretches.specs.Told as told
use Rattle.fugnadri_stretches.specs.Exports.{Left, Told, leaves, tells}

abbrev handed : stretch.Left → Left
handed l = leaves l.answer.refusal l.answer.done l.answer.state.accepted l.ring l.out

abbrev handed-told : told.Left → Told
handed-told l =
    tells (leaves l.answer.refusal l.answer.done l.answer.state.accepted l.ring l.out)
    l.answer.absent

pub left : (a : StretchAnswer) (ring out : List Float) {l : stretch.Left} → stretch.leaves a ring out ≡ l
    → leaves a.refusal a.done a.state.accepted ring out ≡ handed l
left a ring out e = ap handed e

pub left-told : (a : ToldStretch) (ring out : List Float) {l : told.Left} → told.leaves a ring out ≡ l
    → tells (leaves a.refusal a.done a.state.accepted ring out) a.absent ≡ handed-told l
left-told a ring out e = ap handed-told e
