-- W9g. A call leaves a state in its ranges if it was in them before, by either rule; opening and reset leave one in its
-- ranges. For the second rule it is proved on the two kinds of state: `next` says which of them a call leaves. Assumes
-- nothing.
use mathlib.Core.Path.{◌≡◌, refl, sym, ◌∙◌, ap, subst}
use mathlib.Core.Bool.{Bool, true, false, ◌&&◌, cond, false≢true}
use Prim.Native.Nat.{ℕ, ◌+◌, ◌-◌, ◌≤◌}
use native.Mathlib.Omega.{arith}
use borrow.Author.Tests.{leb-true, leb-false, eqb-true, eqb-false}
use lib.Dec.{leb, eqb}
use Rattle.quality_mode.specs.declared.QualityMode.{QualityMode}
use Rattle.quality_mode.specs.Quality.{same_q}
use Rattle.quality_mode.proofs.Equal.{same_refl, same_not}
use Rattle.quality_fade.specs.declared.Fade.{Fade}
use Rattle.quality_fade.specs.Fade.{fade_of, length_ok}
use Rattle.quality_fade.specs.Fade as ported-fade
use Rattle.quality_fade.proofs.StaysInRange as ported
use Rattle.quality_fade.proofs.StaysInRange.{both}
use Rattle.quality_fade.proofs.OneCall as ported-calls
use Rattle.quality_fade.specs.Step.{plain_turn}
use Rattle.returning_fade.specs.declared.Rule.{Rule}
use Rattle.returning_fade.specs.declared.Rule.TheVariants.{Ported, Returning}
use Rattle.returning_fade.specs.declared.Direction.{Direction}
use Rattle.returning_fade.specs.declared.Direction.TheVariants.{Onwards, Back}
use Rattle.returning_fade.specs.declared.RuledFade.{RuledFade}
use Rattle.returning_fade.specs.declared.RuledTurn.{RuledTurn}
use Rattle.returning_fade.specs.Rules.{backwards, ruled, returning_ok, place_ok, valid_of, open_of}
use Rattle.returning_fade.specs.Step.{aim_of, returning_turn, returning_step, step_by, step_of, left_by}
use Rattle.returning_fade.proofs.States.{State, rests, runs, fade_in, direction_in, held, Fine, seen, fine-ok}
use Rattle.returning_fade.proofs.OneCall.{stays, at_once, starts, on, down, taken}

-- The state that a call leaves. A fade that ends leaves its quality with the place at the length, as opening does.
abbrev pub next : ℕ → QualityMode → State → State
next n q (rests c p) = cond (same_q q c) (rests c p) (cond (leb n 1) (rests q n) (runs c q 1 Onwards))
next n q (runs c t p direction) =
    cond (backwards (aim_of direction (fade_of c t p n) q))
    (cond (leb p 1) (rests c n) (runs c t (p - 1) Back))
    (cond (leb n (p + 1)) (rests t n) (runs c t (p + 1) Onwards))

pub fine-next : (n : ℕ) (q : QualityMode) (s : State) → Fine n s → Fine n (next n q s)
fine-next n q (rests c p) f = go (same_q q c) (leb n 1) refl refl
  where
    go : (a b : Bool) → same_q q c ≡ a → leb n 1 ≡ b
        → Fine n (cond a (rests c p) (cond b (rests q n) (runs c q 1 Onwards)))
    go true b e l = f
    go false true e l = omega arith
    go false false e l = let m = leb-false n 1 l in (same_not q c e, omega arith, m)
fine-next n q (runs c t p direction) f =
    go (backwards (aim_of direction (fade_of c t p n) q)) (leb p 1) (leb n (p + 1)) refl refl
  where
    go : (a b d : Bool) → leb p 1 ≡ b → leb n (p + 1) ≡ d
        → Fine n (cond a (cond b (rests c n) (runs c t (p - 1) Back))
        (cond d (rests t n) (runs c t (p + 1) Onwards)))
    go true true d l m = omega arith
    go true false d l m = let k = leb-false p 1 l in (f.0, omega arith, omega (arith, f.2))
    go false b true l m = omega arith
    go false b false l m = (f.0, omega arith, leb-false n (p + 1) m)

-- The turn leaves that state.
abbrev reached : RuledTurn → RuledFade
reached t = ruled Returning t.direction t.turn.state

turned : (n : ℕ) (q : QualityMode) (s : State) → Fine n s
    → reached (returning_turn (direction_in s) (fade_in n s) q) ≡ held n (next n q s)
turned n q (rests c p) f = go (same_q q c) (leb n 1) (eqb n 0) refl refl refl
  where
    go : (a b z : Bool) → same_q q c ≡ a → leb n 1 ≡ b → eqb n 0 ≡ z
        → reached (returning_turn Onwards (fade_of c c p n) q)
        ≡ held n (cond a (rests c p) (cond b (rests q n) (runs c q 1 Onwards)))
    go true b z e l k = ap reached (stays n q c p e)
    go false true true e l k =
        let m = eqb-true n 0 k in
        ap reached (at_once n q c p e m) ∙ rw m
    go false true false e l k =
        let m = eqb-false n 0 k in
        let o = leb-true n 1 l in
        let i : n ≡ 1 = omega arith in
        ap reached (starts n q c p e (omega arith)) ∙ rw i
    go false false z e l k =
        let m = leb-false n 1 l in
        ap reached (starts n q c p e (omega arith)) ∙ rw l
turned n q (runs c t p direction) f =
    go (backwards (aim_of direction (fade_of c t p n) q)) (leb p 1) (leb n (p + 1)) refl refl refl
  where
    go : (a b d : Bool) → backwards (aim_of direction (fade_of c t p n) q) ≡ a → leb p 1 ≡ b → leb n (p + 1) ≡ d
        → reached (returning_turn direction (fade_of c t p n) q)
        ≡ held n (cond a (cond b (rests c n) (runs c t (p - 1) Back))
        (cond d (rests t n) (runs c t (p + 1) Onwards)))
    go true true d e l m = ap reached (down n q c t p direction f.0 e) ∙ rw l
    go true false d e l m = ap reached (down n q c t p direction f.0 e) ∙ rw l
    go false b true e l m =
        let o = leb-true n (p + 1) m in
        let i : p + 1 ≡ n = omega (arith, f.2) in
        ap reached (on n q c t p direction f.0 e) ∙ rw (m, i)
    go false b false e l m = ap reached (on n q c t p direction f.0 e) ∙ rw m

pub reaches : (n : ℕ) (q : QualityMode) (s : State) → length_ok n ≡ true → Fine n s
    → left_by (held n s) (step_of (held n s) q) ≡ held n (next n q s)
reaches n q s fits f = ap reached (taken n q s fits f) ∙ turned n q s f

-- ---- the ranges

held-valid : (n : ℕ) (s : State) → length_ok n ≡ true → Fine n s → valid_of (held n s) ≡ true
held-valid n (rests c p) fits f = rw (fits, fine-ok n (rests c p) f)
held-valid n (runs c t p direction) fits f = rw (fits, fine-ok n (runs c t p direction) f)

returning-valid : (direction : Direction) (s : Fade) (q : QualityMode) → valid_of (ruled Returning direction s) ≡ true
    → valid_of (left_by (ruled Returning direction s) (returning_step direction s q)) ≡ true
returning-valid direction s q v =
    let n = s.crossfade_samples in
    let p = both (length_ok n) _ v in
    let k = seen direction s p.1 in
    subst (λ (r : RuledFade). valid_of (left_by r (step_of r q)) ≡ true) (sym k.is)
    (ap valid_of (reaches n q k.state p.0 k.fine)
    ∙ held-valid n (next n q k.state) p.0 (fine-next n q k.state k.fine))

valid-by : (rule : Rule) (direction : Direction) (s : Fade) (q : QualityMode) → valid_of (ruled rule direction s) ≡ true
    → valid_of (left_by (ruled rule direction s) (step_by rule direction s q)) ≡ true
valid-by Ported Onwards s q v = ported.step-valid s q ∙ v
valid-by Ported Back s q v = absurd (false≢true (sym (off (length_ok s.crossfade_samples)) ∙ v))
  where
    off : (b : Bool) → b && false ≡ false
    off true = refl
    off false = refl
valid-by Returning direction s q v = returning-valid direction s q v

pub step-valid : (s : RuledFade) (q : QualityMode) → valid_of s ≡ true → valid_of (left_by s (step_of s q)) ≡ true
step-valid s q v = valid-by s.rule s.direction s.fade q v

-- The length never changes.
held-length : (n : ℕ) (s : State) → (held n s).fade.crossfade_samples ≡ n
held-length n (rests c p) = refl
held-length n (runs c t p direction) = refl

length-by : (rule : Rule) (direction : Direction) (s : Fade) (q : QualityMode)
    → (step_by rule direction s q).turn.state.crossfade_samples ≡ s.crossfade_samples
unfolding returning_step
length-by Ported direction s q = ported.step-length s q
length-by Returning direction s q = go (valid_of (ruled Returning direction s)) refl
  where
    go : (b : Bool) → valid_of (ruled Returning direction s) ≡ b
        → (returning_step direction s q).turn.state.crossfade_samples ≡ s.crossfade_samples
    go true v =
        let n = s.crossfade_samples in
        let p = both (length_ok n) _ v in
        let k = seen direction s p.1 in
        subst (λ (r : RuledFade). (step_of r q).turn.state.crossfade_samples ≡ n) (sym k.is)
        (ap (λ (r : RuledFade). r.fade.crossfade_samples) (reaches n q k.state p.0 k.fine)
        ∙ held-length n (next n q k.state))
    go false v = rw v (ported.step-length s q)

pub step-length : (s : RuledFade) (q : QualityMode)
    → (step_of s q).turn.state.crossfade_samples ≡ s.fade.crossfade_samples
step-length s q = length-by s.rule s.direction s.fade q

-- ---- where no fade runs, by either rule

pub rest-placed : (rule : Rule) (q : QualityMode) (p n : ℕ) → p ≤ n
    → place_ok (ruled rule Onwards (fade_of q q p n)) ≡ true
rest-placed Ported q p n l =
    ported.in_place q q p n l (λ f. let z : ◌≡◌ {A = ℕ} 0 1 = cc (same_refl q) in absurd (omega arith))
rest-placed Returning q p n l = fine-ok n (rests q p) l

pub rest-within : (rule : Rule) (q : QualityMode) (p n : ℕ) → place_ok (ruled rule Onwards (fade_of q q p n)) ≡ true
    → p ≤ n
unfolding ported-fade.place_ok returning_ok
rest-within Ported q p n h = leb-true p n (rw (same_refl q) at h)
rest-within Returning q p n h = leb-true p n (rw (same_refl q) at h)

-- Q3. Opening and reset leave a state in its ranges.
pub open-valid : (rule : Rule) (q : QualityMode) (n : ℕ) → length_ok n ≡ true → valid_of (open_of rule q n) ≡ true
open-valid rule q n fits = rw (fits, rest-placed rule q n n (omega arith))

-- Requesting the same quality again leaves everything as it was.
pub rest-stays : (rule : Rule) (q : QualityMode) (p n : ℕ) → length_ok n ≡ true → p ≤ n
    → step_of (ruled rule Onwards (fade_of q q p n)) q
    ≡ record { turn = plain_turn (fade_of q q p n); direction = Onwards }
rest-stays Ported q p n fits l =
    rw (
      ported-calls.goes_on (fade_of q q p n) q (rw (fits, rest-placed Ported q p n l)) (same_refl q),
      ported-calls.stays q p n,
    )
rest-stays Returning q p n fits l = taken n q (rests q p) fits l ∙ stays n q q p (same_refl q)
