-- Q2. What one accepted call does, by what it asks for: a quality other than the target starts a fade from the current
-- one, the current one is read at once, and length 0 never mixes. Assumes nothing.
use mathlib.Core.Path.{◌≡◌, refl, sym, ◌∙◌, ap, subst}
use mathlib.Core.Bool.{Bool, true, false, ◌||◌, cond}
use Prim.Native.Nat.{ℕ, ◌≤◌, ◌<◌}
use native.Mathlib.Omega.{arith}
use borrow.Author.Tests.{eq-eqb, ne_eqb}
use lib.Dec.{eqb}
use Rattle.quality_mode.specs.declared.QualityMode.{QualityMode}
use Rattle.quality_mode.specs.Quality.{same_q}
use Rattle.quality_mode.proofs.Equal.{same-eq, same_refl}
use Rattle.quality_fade.specs.declared.Fade.{Fade}
use Rattle.quality_fade.specs.declared.Turn.{Turn}
use Rattle.quality_fade.specs.Fade.{fade_of, length_ok, place_ok, valid_of, open_of, reset_of}
use Rattle.quality_fade.specs.Step.{asked_of, plain_of, plain_turn, mix_turn, turn_of, step_of}
use Rattle.quality_fade.proofs.StaysInRange.{both, in_place, Ready, ready, asked-length, step-taken, step-still}

-- ---- which states are in their ranges

pub fade-valid : (c t : QualityMode) (i n : ℕ) → length_ok n ≡ true → i ≤ n → (same_q c t ≡ false → i < n)
    → valid_of (fade_of c t i n) ≡ true
fade-valid c t i n fits l h = rw fits (in_place c t i n l h)

-- Q3. Opening and reset leave a state in its ranges.
pub open-valid : (q : QualityMode) (n : ℕ) → length_ok n ≡ true → valid_of (open_of q n) ≡ true
open-valid q n fits =
    fade-valid q q n n fits (omega arith) (λ f. let z : ◌≡◌ {A = ℕ} 0 1 = cc (same_refl q) in absurd (omega arith))

pub reset-valid : (s : Fade) → valid_of s ≡ true → valid_of (reset_of s) ≡ true
reset-valid s v = open-valid s.target s.crossfade_samples (both (length_ok s.crossfade_samples) _ v).0

-- ---- a turn

pub mixes : (c t : QualityMode) (i n : ℕ) → same_q c t ≡ false → 0 < n
    → turn_of (fade_of c t i n) ≡ mix_turn (fade_of c t i n)
mixes c t i n h l = let z : eqb n 0 ≡ false = ne_eqb n 0 (λ e. omega arith) in rw (h, z)

pub stays : (q : QualityMode) (i n : ℕ) → turn_of (fade_of q q i n) ≡ plain_turn (fade_of q q i n)
stays q i n = rw (same_refl q)

plain-at-zero : (a : Fade) → a.crossfade_samples ≡ 0 → (turn_of a).mixed ≡ false
plain-at-zero a e = rw (eq-eqb a.crossfade_samples 0 e) (go (same_q a.current a.target))
  where
    go : (b : Bool) → (cond (b || true) (plain_turn a) (mix_turn a)).mixed ≡ false
    go true = refl
    go false = refl

-- ---- a call

-- A call that asks for the target again goes on with the fade.
pub goes_on : (s : Fade) (q : QualityMode) → valid_of s ≡ true → same_q q s.target ≡ true → step_of s q ≡ turn_of s
goes_on s q v h = step-taken s q v ∙ rw h

-- A call that asks for a quality other than the target starts a fade.
pub starts : (s : Fade) (q : QualityMode) → valid_of s ≡ true → same_q q s.target ≡ false
    → step_of s q ≡ turn_of (fade_of s.current q 0 s.crossfade_samples)
starts s q v h = step-taken s q v ∙ rw h

-- Q2. A third quality starts again from the current one.
pub third : (s : Fade) (q : QualityMode) → valid_of s ≡ true → same_q q s.target ≡ false → same_q s.current q ≡ false
    → 0 < s.crossfade_samples
    → step_of s q ≡ mix_turn (fade_of s.current q 0 s.crossfade_samples)
third s q v ht hc l = starts s q v ht ∙ mixes s.current q 0 s.crossfade_samples hc l

-- Q2. The current quality is read at once, whatever the state.
pub back : (s : Fade) → valid_of s ≡ true
    → step_of s s.current
    ≡ plain_turn (fade_of s.current s.current
    (cond (same_q s.current s.target) s.crossfade_position 0) s.crossfade_samples)
back s v = go (same_q s.current s.target) refl
  where
    go : (b : Bool) → same_q s.current s.target ≡ b
        → step_of s s.current
        ≡ plain_turn (fade_of s.current s.current (cond b s.crossfade_position 0) s.crossfade_samples)
    go true e =
        goes_on s s.current v e
        ∙ subst
        (λ (t : QualityMode). turn_of (fade_of s.current t s.crossfade_position s.crossfade_samples)
        ≡ plain_turn (fade_of s.current s.current s.crossfade_position s.crossfade_samples))
        (same-eq s.current s.target e) (stays s.current s.crossfade_position s.crossfade_samples)
    go false e = starts s s.current v e ∙ stays s.current 0 s.crossfade_samples

-- The last quality that a call reads, plain or mixed, is the one that it asks for.
pub reads-asked : (s : Fade) (q : QualityMode) → valid_of s ≡ true → (step_of s q).to ≡ q
reads-asked s q v =
    ap (λ (t : Turn). t.to) (step-taken s q v)
    ∙ to-target (asked_of s q) (plain_of (asked_of s q))
    ∙ go (same_q q s.target) refl
  where
    to-target : (a : Fade) (b : Bool) → (cond b (plain_turn a) (mix_turn a)).to ≡ a.target
    to-target a true = refl
    to-target a false = refl

    go : (b : Bool) → same_q q s.target ≡ b → (cond b s (fade_of s.current q 0 s.crossfade_samples)).target ≡ q
    go true e = sym (same-eq q s.target e)
    go false e = refl

-- A weight over the length is at most 1.
pub weight-fits : (s : Fade) (q : QualityMode) → (step_of s q).weight ≤ s.crossfade_samples
weight-fits s q = go (valid_of s) refl
  where
    turned : (a : Fade) (b : Bool) → plain_of a ≡ b → Ready a
        → (cond b (plain_turn a) (mix_turn a)).weight ≤ a.crossfade_samples
    turned a true e r = omega arith
    turned a false e r = let l = r.room e in omega arith

    go : (b : Bool) → valid_of s ≡ b → (step_of s q).weight ≤ s.crossfade_samples
    go true v =
        let a = asked_of s q in
        let l : (turn_of a).weight ≤ a.crossfade_samples =
        turned a (plain_of a) refl (ready s q (both (length_ok s.crossfade_samples) (place_ok s) v).1) in
        rw (step-taken s q v) (omega (arith, asked-length s q))
    go false v = rw (step-still s q v) (omega arith)

-- Q2. Length 0 never mixes.
pub never-mixed : (s : Fade) (q : QualityMode) → s.crossfade_samples ≡ 0 → (step_of s q).mixed ≡ false
never-mixed s q h = go (valid_of s) refl
  where
    asked : (b : Bool) → (turn_of (cond b s (fade_of s.current q 0 s.crossfade_samples))).mixed ≡ false
    asked true = plain-at-zero s h
    asked false = plain-at-zero (fade_of s.current q 0 s.crossfade_samples) h

    go : (b : Bool) → valid_of s ≡ b → (step_of s q).mixed ≡ false
    go true v = rw (step-taken s q v) (asked (same_q q s.target))
    go false v = rw (step-still s q v)
