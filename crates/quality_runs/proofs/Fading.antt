-- Over a run of calls the qualities change as the accepted calls ask, in their order. So what holds of runs of steps of
-- quality_fade holds of a reader with the ported rule (Q1, Q2), and what holds of returning_fade's holds of a reader
-- with the second rule (W9e, W9f). Assumes nothing.
use mathlib.Core.Path.{◌≡◌, refl, sym, ◌∙◌, ap, subst}
use mathlib.Core.Bool.{true, false}
use mathlib.Core.List.{List, ◌∷◌, ◌++◌}
use Prim.Native.Nat.{ℕ, suc, ◌+◌, ◌*◌, ◌≤◌, ◌<◌}
use lib.ListN.{length, replicate}
use Rattle.quality_mode.specs.declared.QualityMode.{QualityMode}
use Rattle.quality_mode.specs.Quality.{same_q}
use Rattle.quality_fade.specs.declared.Turn.{Turn}
use Rattle.quality_fade.specs.Fade as fade
use Rattle.quality_fade.specs.Runs as ported
use Rattle.quality_fade.specs.Runs.{mixes_of}
use Rattle.quality_fade.proofs.FadeToEnd as steps
use Rattle.quality_fade.proofs.AfterCalls as left
use Rattle.returning_fade.specs.declared.Rule.TheVariants.{Ported, Returning}
use Rattle.returning_fade.specs.declared.Direction.{Direction}
use Rattle.returning_fade.specs.declared.RuledFade.{RuledFade}
use Rattle.returning_fade.specs.Rules.{ruled, valid_of, open_of}
use Rattle.returning_fade.specs.Step.{step_of}
use Rattle.returning_fade.specs.Runs.{turns_of, left_of, Smooth, PlainIn}
use Rattle.returning_fade.proofs.PortedRule as by-ported
use Rattle.returning_fade.proofs.NoJump as returning
use Rattle.returning_fade.proofs.Settles as returning-settles
use Rattle.quality_variable_delay.specs.State.{fade_part}
use Rattle.runs.specs.Calls.{keep, accepted_of}
use Rattle.runs.proofs.Calls.{accepted-taken, accepted-refused, by-calls, by-accepted}
use Rattle.quality_runs.specs.Runs.{Call, Reader, after_by, due, run, accepted, turns, asked}
use Rattle.quality_runs.proofs.Calls.{stays}

-- The qualities that the run leaves, and the mixing steps of its accepted calls.
pub faded : (r : Reader) (cs : List Call)
    → fade_part (run r cs).state ≡ left_of (fade_part r.state) (asked (accepted r cs))
unfolding left_of
faded =
    by-accepted due after_by stays (λ r s cs. fade_part s.state ≡ left_of (fade_part r.state) (asked cs))
    (λ r. refl)
    (λ r c s cs e ih. ih)

turns-by : (r : Reader) (c : Call) (cs : List Call) (v : ℕ) → due r c ≡ v
    → turns r (c ∷ cs) ≡ keep v (step_of (fade_part r.state) c.quality).turn (turns (after_by v r c) cs)
unfolding turns
turns-by r c cs v e =
    ap (λ (w : ℕ). keep w (step_of (fade_part r.state) c.quality).turn (turns (after_by w r c) cs)) e

pub turned : (r : Reader) (cs : List Call) → turns r cs ≡ turns_of (fade_part r.state) (asked (accepted r cs))
unfolding turns accepted_of turns_of
turned =
    by-calls due after_by stays (λ r cs. turns r cs ≡ turns_of (fade_part r.state) (asked (accepted r cs)))
    (λ r. refl)
    (λ r c cs e ih.
    rw (turns-by r c cs 0 e, accepted-taken due after_by stays r c cs e)
    (ap (λ (l : List Turn). (step_of (fade_part r.state) c.quality).turn ∷ l) ih))
    (λ r c cs k e ih. rw (turns-by r c cs (suc k) e, accepted-refused due after_by stays r c cs k e) ih)

-- ---- the rule is the ported one

module _ (r : Reader) (cs : List Call) (e : r.state.rule ≡ Ported) where
  abbrev s : RuledFade
  s = fade_part r.state

  -- W9b. The turns are those of quality_fade.
  pub ported-turns : turns r cs ≡ ported.turns_of s.fade (asked (accepted r cs))
  ported-turns = turned r cs ∙ by-ported.turns s e (asked (accepted r cs))

  -- Q1. If the accepted calls of a run ask N + k times for a quality other than the target and the current, exactly the
  -- first N of them are mixed.
  pub exactly : (q : QualityMode) (k : ℕ) → let f = s.fade in
      valid_of s ≡ true → same_q q f.target ≡ false → same_q q f.current ≡ false → 0 < f.crossfade_samples
      → asked (accepted r cs) ≡ replicate (f.crossfade_samples + k) q
      → mixes_of (turns r cs) ≡ replicate f.crossfade_samples true ++ replicate k false
  exactly q k v ht hc l a =
      ap mixes_of (ported-turns ∙ ap (ported.turns_of s.fade) a)
      ∙ steps.exactly s.fade q k (by-ported.valid s e v) ht hc l

  -- Q1. After those N calls the new quality is current, and nothing is left to fade.
  pub ended : (q : QualityMode) → let f = s.fade in
      valid_of s ≡ true → same_q q f.target ≡ false → same_q q f.current ≡ false → 0 < f.crossfade_samples
      → asked (accepted r cs) ≡ replicate f.crossfade_samples q
      → fade_part (run r cs).state ≡ open_of Ported q f.crossfade_samples
  ended q v ht hc l a =
      faded r cs
      ∙ by-ported.left s e (asked (accepted r cs))
      ∙ ap (ruled Ported s.direction)
      (ap (ported.left_of s.fade) a ∙ left.ended s.fade q (by-ported.valid s e v) ht hc l)
      ∙ ap (λ (w : Direction). ruled Ported w (fade.open_of q s.fade.crossfade_samples)) (by-ported.onwards s e v)

  -- Q2. At length 0 no call is mixed.
  pub never : r.state.crossfade_samples ≡ 0
      → mixes_of (turns r cs) ≡ replicate (length (asked (accepted r cs))) false
  never z = ap mixes_of ported-turns ∙ steps.never s.fade (asked (accepted r cs)) z

-- ---- the rule is the second one

module _ (r : Reader) (cs : List Call) (e : r.state.rule ≡ Returning) (v : valid_of (fade_part r.state) ≡ true) where
  -- W9e. From an accepted call to the next no share changes by more than 1, whatever was refused between them.
  pub no_jump : Smooth (turns r cs)
  no_jump = subst Smooth (sym (turned r cs)) (returning.no_jump (fade_part r.state) e v (asked (accepted r cs)))

  -- W9f. After 2N accepted calls or more that all ask for q, one that asks for q is plain in it.
  pub settles : (q : QualityMode) (k : ℕ) → 2 * r.state.crossfade_samples ≤ k
      → asked (accepted r cs) ≡ replicate k q
      → PlainIn q (step_of (fade_part (run r cs).state) q).turn
  settles q k l a =
      subst (λ (x : RuledFade). PlainIn q (step_of x q).turn)
      (sym (faded r cs ∙ ap (left_of (fade_part r.state)) a))
      (returning-settles.settles (fade_part r.state) e v q k l)
