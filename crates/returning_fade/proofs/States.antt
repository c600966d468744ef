-- A state that is in its ranges by the second rule is one of two: no fade runs and it has one quality, or a fade runs
-- from one quality to another, and its place is above 0 and below the length. Assumes nothing.
use mathlib.Core.Path.{◌≡◌, refl, sym, ap}
use mathlib.Core.Bool.{Bool, true, false, not, ◌&&◌, cond, true≢false}
use Prim.Native.Nat.{ℕ, ◌≤◌, ◌<◌}
use borrow.Author.Tests.{leb-true, ltb-true, le-leb, lt-ltb}
use lib.Dec.{leb, ltb}
use Rattle.quality_mode.specs.declared.QualityMode.{QualityMode}
use Rattle.quality_mode.specs.Quality.{same_q}
use Rattle.quality_mode.proofs.Equal.{same-eq, same_refl}
use Rattle.quality_fade.specs.declared.Fade.{Fade}
use Rattle.quality_fade.specs.Fade.{fade_of}
use Rattle.quality_fade.proofs.StaysInRange.{both}
use Rattle.returning_fade.specs.declared.Rule.TheVariants.{Returning}
use Rattle.returning_fade.specs.declared.Direction.{Direction}
use Rattle.returning_fade.specs.declared.Direction.TheVariants.{Onwards, Back}
use Rattle.returning_fade.specs.declared.RuledFade.{RuledFade}
use Rattle.returning_fade.specs.Rules.{backwards, ruled, returning_ok}

-- The fields are the quality and the place; or the first and the second quality, the place and the direction.
pub data State : Type 0 where
  rests : QualityMode → ℕ → State
  runs : QualityMode → QualityMode → ℕ → Direction → State

-- The state of a reader whose fade has the length n.
abbrev pub fade_in : ℕ → State → Fade
fade_in n (rests c p) = fade_of c c p n
fade_in n (runs c t p direction) = fade_of c t p n

abbrev pub direction_in : State → Direction
direction_in (rests c p) = Onwards
direction_in (runs c t p direction) = direction

abbrev pub held : ℕ → State → RuledFade
held n s = ruled Returning (direction_in s) (fade_in n s)

abbrev pub Fine : ℕ → State → Type 0
Fine n (rests c p) = p ≤ n
Fine n (runs c t p direction) = (same_q c t ≡ false) × (0 < p) × (p < n)

-- Every state in its ranges is one of the two.
pub record Seen (direction : Direction) (s : Fade) : Type 0 where
  pub state : State
  pub fine : Fine s.crossfade_samples state
  pub is : ruled Returning direction s ≡ held s.crossfade_samples state

pub seen : (direction : Direction) (s : Fade) → returning_ok direction s ≡ true → Seen direction s
unfolding returning_ok
seen direction s = go direction (same_q s.current s.target) refl
  where
    go : (way : Direction) (b : Bool) → same_q s.current s.target ≡ b
        → cond b (not (backwards way) && leb s.crossfade_position s.crossfade_samples)
        (ltb 0 s.crossfade_position && ltb s.crossfade_position s.crossfade_samples)
        ≡ true
        → Seen way s
    go Onwards true e h =
        record {
          state = rests s.current s.crossfade_position;
          fine = leb-true _ _ h;
          is =
              ap (λ (t : QualityMode).
              ruled Returning Onwards (fade_of s.current t s.crossfade_position s.crossfade_samples))
              (sym (same-eq s.current s.target e));
        }
    go Back true e h = absurd (true≢false (sym h))
    go way false e h =
        let p = both _ _ h in record {
          state = runs s.current s.target s.crossfade_position way;
          fine = (e, ltb-true _ _ p.0, ltb-true _ _ p.1);
          is = refl;
        }

pub fine-ok : (n : ℕ) (s : State) → Fine n s → returning_ok (direction_in s) (fade_in n s) ≡ true
unfolding returning_ok
fine-ok n (rests c p) f = rw (same_refl c, le-leb p n f)
fine-ok n (runs c t p direction) f = rw (f.0, lt-ltb 0 p f.1, lt-ltb p n f.2)
