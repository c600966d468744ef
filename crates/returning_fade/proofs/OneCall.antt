-- W9c, W9d. What one accepted call does by the second rule, for each quality that it may request. Assumes nothing.
use mathlib.Core.Path.{◌≡◌, ◌∙◌}
use mathlib.Core.Bool.{true, false, cond}
use Prim.Native.Nat.{ℕ, ◌<◌}
use native.Mathlib.Omega.{arith}
use borrow.Author.Tests.{eq-eqb, ne_eqb, le-leb, lt-leb}
use Rattle.quality_mode.specs.declared.QualityMode.{QualityMode}
use Rattle.quality_mode.specs.Quality.{same_q}
use Rattle.quality_mode.proofs.Equal.{same_refl, same_not}
use Rattle.quality_fade.specs.Fade.{fade_of, length_ok}
use Rattle.quality_fade.specs.Step.{plain_turn, mix_turn}
use Rattle.returning_fade.specs.declared.Direction.{Direction}
use Rattle.returning_fade.specs.declared.Direction.TheVariants.{Onwards}
use Rattle.returning_fade.specs.Rules.{backwards}
use Rattle.returning_fade.specs.Step.{aim_of, on_turn, lowered, back_again, lower_turn, returning_turn, returning_step}
use Rattle.returning_fade.specs.Step.{step_of}
use Rattle.returning_fade.proofs.States.{State, rests, runs, fade_in, direction_in, held, Fine, fine-ok}

-- No fade runs: the same quality is requested again, or another one at length 0, or another one, which starts with the
-- weight 1.
module _ (n : ℕ) (q c : QualityMode) (p : ℕ) where
  pub stays : same_q q c ≡ true
      → returning_turn Onwards (fade_of c c p n) q
      ≡ record { turn = plain_turn (fade_of c c p n); direction = Onwards }
  stays e = rw (same_refl c, e, same_refl c)

  pub at_once : same_q q c ≡ false → n ≡ 0
      → returning_turn Onwards (fade_of c c p n) q
      ≡ record { turn = plain_turn (fade_of c q 0 n); direction = Onwards }
  at_once e z = rw (same_refl c, e, same_not q c e, eq-eqb n 0 z)

  pub starts : same_q q c ≡ false → 0 < n
      → returning_turn Onwards (fade_of c c p n) q
      ≡ record { turn = mix_turn (fade_of c q 0 n); direction = Onwards }
  starts e l = rw (same_refl c, e, same_not q c e, ne_eqb n 0 (λ z. omega arith))

-- A fade runs: it goes up or down, by the direction that the request gives it.
module _ (n : ℕ) (q c t : QualityMode) (p : ℕ) (direction : Direction) (h : same_q c t ≡ false) where
  pub on : backwards (aim_of direction (fade_of c t p n) q) ≡ false
      → returning_turn direction (fade_of c t p n) q ≡ on_turn (fade_of c t p n)
  on e = rw (h, e)

  pub down : backwards (aim_of direction (fade_of c t p n) q) ≡ true
      → returning_turn direction (fade_of c t p n) q ≡ lower_turn (fade_of c t p n)
  down e = rw (h, e)

-- A state in its ranges takes the rule's turn.
pub taken : (n : ℕ) (q : QualityMode) (s : State) → length_ok n ≡ true → Fine n s
    → step_of (held n s) q ≡ returning_turn (direction_in s) (fade_in n s) q
unfolding returning_step
taken n q (rests c p) fits f = rw (fits, fine-ok n (rests c p) f)
taken n q (runs c t p direction) fits f = rw (fits, fine-ok n (runs c t p direction) f)

-- W9c, W9d. A fade runs from c to t and has the weight p.
module _ (n : ℕ) (c t : QualityMode) (p : ℕ) (direction : Direction) (fits : length_ok n ≡ true)
    (fine : Fine n (runs c t p direction)) where
  abbrev running : State
  running = runs c t p direction

  -- W9c. Requesting the current quality lowers the weight by one and keeps the two qualities and their order.
  pub goes_back : 1 < p → step_of (held n running) c ≡ lowered (fade_of c t p n)
  goes_back l =
      taken n c running fits fine ∙ down n c c t p direction fine.0 (rw (fine.0, same_refl c)) ∙ rw (lt-leb p 1 l)

  -- After the weight 1 comes 0: the current quality is read alone, and nothing is left to fade.
  pub is-back : p ≡ 1 → step_of (held n running) c ≡ back_again (fade_of c t p n)
  is-back e =
      taken n c running fits fine
      ∙ down n c c t p direction fine.0 (rw (fine.0, same_refl c))
      ∙ rw (le-leb p 1 (omega arith))

  -- Requesting the target raises the weight, whichever way the fade went before.
  pub goes_on : step_of (held n running) t ≡ on_turn (fade_of c t p n)
  goes_on = taken n t running fits fine ∙ on n t c t p direction fine.0 (rw (same_refl t))

  -- W9d. A third quality waits: the fade keeps its direction.
  pub waits : (q : QualityMode) → same_q q t ≡ false → same_q q c ≡ false
      → step_of (held n running) q ≡ cond (backwards direction) (lower_turn (fade_of c t p n))
      (on_turn (fade_of c t p n))
  waits q a b = taken n q running fits fine ∙ rw (fine.0, a, b)

-- W9d. Once the fade has ended, the next call starts the fade to the third quality with the weight 1.
pub then-starts : (n : ℕ) (q c : QualityMode) (p : ℕ) → length_ok n ≡ true → Fine n (rests c p) → same_q q c ≡ false
    → 0 < n → step_of (held n (rests c p)) q ≡ on_turn (fade_of c q 0 n)
then-starts n q c p fits fine e l = taken n q (rests c p) fits fine ∙ starts n q c p e l
