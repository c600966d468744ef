-- G2. A step keeps a state in its ranges: the place of a running fade is below its length, and the call that reaches
-- the length ends the fade. Assumes nothing.
use mathlib.Core.Path.{◌≡◌, refl, sym, ◌∙◌}
use mathlib.Core.Bool.{Bool, true, false, ◌&&◌, ◌||◌, cond}
use Prim.Native.Nat.{ℕ, ◌+◌, ◌≤◌, ◌<◌}
use native.Mathlib.Omega.{arith}
use borrow.Author.Tests.{ltb-true, leb-true, leb-false, eqb-false, le-leb, lt-ltb}
use lib.Dec.{leb, ltb, eqb}
use Rattle.quality_mode.specs.declared.QualityMode.{QualityMode}
use Rattle.quality_mode.specs.Quality.{same_q}
use Rattle.quality_mode.proofs.Equal.{same_refl}
use Rattle.quality_fade.specs.declared.Fade.{Fade}
use Rattle.quality_fade.specs.Fade.{fade_of, length_ok, place_ok, valid_of}
use Rattle.quality_fade.specs.Step.{asked_of, plain_of, plain_turn, mix_turn, turn_of, still_turn, step_of}

-- ---- booleans

pub both : (a b : Bool) → (a && b) ≡ true → (a ≡ true) × (b ≡ true)
both true b h = (refl, h)
both false b h = let z : ◌≡◌ {A = ℕ} 0 1 = cc in absurd (omega arith)

neither : (a b : Bool) → a || b ≡ false → (a ≡ false) × (b ≡ false)
neither true b h = let z : ◌≡◌ {A = ℕ} 0 1 = cc in absurd (omega arith)
neither false b h = (refl, h)

no : {A : Type 0} → ◌≡◌ {A = Bool} true false → A
no h = let z : ◌≡◌ {A = ℕ} 0 1 = cc in absurd (omega arith)

-- ---- the place

at_most : (s : Fade) → place_ok s ≡ true → s.crossfade_position ≤ s.crossfade_samples
unfolding place_ok
at_most s = go (same_q s.current s.target)
  where
    go : (b : Bool)
        → cond b (leb s.crossfade_position s.crossfade_samples)
        (ltb s.crossfade_position s.crossfade_samples)
        ≡ true
        → s.crossfade_position ≤ s.crossfade_samples
    go true h = leb-true s.crossfade_position s.crossfade_samples h
    go false h = let l = ltb-true s.crossfade_position s.crossfade_samples h in omega arith

below : (s : Fade) → place_ok s ≡ true → same_q s.current s.target ≡ false
    → s.crossfade_position < s.crossfade_samples
unfolding place_ok
below s h e = ltb-true s.crossfade_position s.crossfade_samples (rw e at h)

pub in_place : (c t : QualityMode) (i n : ℕ) → i ≤ n → (same_q c t ≡ false → i < n) → place_ok (fade_of c t i n) ≡ true
unfolding place_ok
in_place c t i n l h = go (same_q c t) refl
  where
    go : (b : Bool) → same_q c t ≡ b → cond b (leb i n) (ltb i n) ≡ true
    go true e = le-leb i n l
    go false e = lt-ltb i n (h e)

settled : (q : QualityMode) (i n : ℕ) → i ≤ n → place_ok (fade_of q q i n) ≡ true
settled q i n l = in_place q q i n l (λ f. no (sym (same_refl q) ∙ f))

-- ---- a state once a quality was asked for

pub record Ready (a : Fade) : Type 0 where
  pub fits : a.crossfade_position ≤ a.crossfade_samples
  pub room : plain_of a ≡ false → a.crossfade_position < a.crossfade_samples

pub ready : (s : Fade) (q : QualityMode) → place_ok s ≡ true → Ready (asked_of s q)
ready s q v = go (same_q q s.target)
  where
    go : (b : Bool) → Ready (cond b s (fade_of s.current q 0 s.crossfade_samples))
    go true =
        record {
          fits = at_most s v;
          room = λ h. below s v (neither (same_q s.current s.target) (eqb s.crossfade_samples 0) h).0;
        }
    go false =
        record {
          fits = omega arith;
          room =
              λ h. let e =
              eqb-false s.crossfade_samples 0
              (neither (same_q s.current q) (eqb s.crossfade_samples 0) h).1 in
              omega arith;
        }

turn-kept : (a : Fade) → Ready a → place_ok (turn_of a).state ≡ true
turn-kept a r = go (plain_of a) refl
  where
    mix : (b : Bool) → leb a.crossfade_samples (a.crossfade_position + 1) ≡ b
        → a.crossfade_position < a.crossfade_samples
        → place_ok (fade_of (cond b a.target a.current) a.target (a.crossfade_position + 1)
        a.crossfade_samples)
        ≡ true
    mix true e l = settled a.target (a.crossfade_position + 1) a.crossfade_samples (omega arith)
    mix false e l =
        let g = leb-false a.crossfade_samples (a.crossfade_position + 1) e in
        in_place a.current a.target (a.crossfade_position + 1) a.crossfade_samples (omega arith) (λ f. g)

    go : (b : Bool) → plain_of a ≡ b → place_ok (cond b (plain_turn a) (mix_turn a)).state ≡ true
    go true e = settled a.target a.crossfade_position a.crossfade_samples r.fits
    go false e = mix (leb a.crossfade_samples (a.crossfade_position + 1)) refl (r.room e)

-- ---- a step

pub asked-length : (s : Fade) (q : QualityMode) → (asked_of s q).crossfade_samples ≡ s.crossfade_samples
asked-length s q = go (same_q q s.target)
  where
    go : (b : Bool)
        → (cond b s (fade_of s.current q 0 s.crossfade_samples)).crossfade_samples ≡ s.crossfade_samples
    go true = refl
    go false = refl

turn-length : (a : Fade) → (turn_of a).state.crossfade_samples ≡ a.crossfade_samples
turn-length a = go (plain_of a)
  where
    go : (b : Bool) → (cond b (plain_turn a) (mix_turn a)).state.crossfade_samples ≡ a.crossfade_samples
    go true = refl
    go false = refl

-- The length never changes.
pub step-length : (s : Fade) (q : QualityMode) → (step_of s q).state.crossfade_samples ≡ s.crossfade_samples
unfolding step_of
step-length s q = go (valid_of s)
  where
    go : (b : Bool) → (cond b (turn_of (asked_of s q)) (still_turn s)).state.crossfade_samples ≡ s.crossfade_samples
    go true = turn-length (asked_of s q) ∙ asked-length s q
    go false = refl

-- A state in its ranges takes the rule's turn.
pub step-taken : (s : Fade) (q : QualityMode) → valid_of s ≡ true → step_of s q ≡ turn_of (asked_of s q)
unfolding step_of
step-taken s q v = rw v

pub step-still : (s : Fade) (q : QualityMode) → valid_of s ≡ false → step_of s q ≡ still_turn s
unfolding step_of
step-still s q v = rw v

step_kept : (s : Fade) (q : QualityMode) → valid_of s ≡ true → valid_of (step_of s q).state ≡ true
step_kept s q v =
    let b = both (length_ok s.crossfade_samples) (place_ok s) v in
    rw (step-length s q, b.0, step-taken s q v) (turn-kept (asked_of s q) (ready s q b.1))

-- A state is in its ranges after a step exactly if it was before.
pub step-valid : (s : Fade) (q : QualityMode) → valid_of (step_of s q).state ≡ valid_of s
step-valid s q = go (valid_of s) refl
  where
    go : (b : Bool) → valid_of s ≡ b → valid_of (step_of s q).state ≡ b
    go true v = step_kept s q v
    go false v = rw (step-still s q v) v
