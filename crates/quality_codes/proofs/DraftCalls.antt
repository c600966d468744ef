-- What a call on plain numbers gives if all three qualities are Draft and nothing is refused, by either rule: it
-- stores, reads a cubic and counts. Assumes nothing.
use mathlib.Core.Path.{◌≡◌}
use mathlib.Core.Bool.{true}
use mathlib.Core.List.{List}
use Prim.Native.Nat.{ℕ, ◌+◌, ◌-◌, ◌%◌, ◌^◌, ◌<◌, ◌≤◌}
use borrow.Author.Tests.{le-leb}
use lib.Bits.{bit_and}
use lib.ListN.{length}
use lib.Ieee.{Float}
use Rattle.cubic_farrow_f32.specs.Draft.{draft_at}
use Rattle.ring.specs.Places.{position_ok}
use Rattle.ring.proofs.Lengths.{masked}
use Rattle.variable_delay.specs.Reader.{stored, position_of}
use Rattle.variable_delay.proofs.AcceptedCall as plainly
use Rattle.bank_read.specs.Bank.{chosen_at}
use Rattle.quality_mode.specs.declared.QualityMode.TheVariants.{Draft}
use Rattle.quality_fade.specs.Fade.{fade_of}
use Rattle.quality_fade.specs.Step.{plain_turn}
use Rattle.returning_fade.specs.declared.Direction.TheVariants.{Onwards}
use Rattle.returning_fade.specs.Rules.{ruled, place_ok}
use Rattle.returning_fade.specs.Step.{step_of}
use Rattle.returning_fade.proofs.StaysInRange.{rest-placed, rest-within, rest-stays}
use Rattle.quality_variable_delay.specs.State.{delay_part, fade_part}
use Rattle.quality_variable_delay.specs.Bank.{due_of}
use Rattle.quality_variable_delay.proofs.AcceptedCall.{taken, room, ring-some, position-in-range}
use Rattle.quality_codes.specs.Codes.{rule_of, decoded, state_of}
use Rattle.quality_codes.specs.Calls.{called_of, ring_called}
use Rattle.quality_codes.specs.declared.Coded.{Coded}
use Rattle.quality_codes.specs.declared.Called.{Called}
use Rattle.quality_codes.proofs.NamedQualities.{same-rule}

pub placed : (s : Coded) → s.current ≡ 0 → s.target ≡ 0 → s.direction ≡ 0
    → s.crossfade_position ≤ s.crossfade_samples
    → place_ok (fade_part (decoded s)) ≡ true
placed s c t o l =
    rw (c, t, o) (rest-placed (rule_of s.rule) Draft s.crossfade_position s.crossfade_samples l)

-- What `read` requires.
pub ready : (lent : ℕ) (max-rate : Float) (s : Coded) (len : ℕ) (x y playback-rate : Float)
    → due_of lent max-rate (decoded s) len x y playback-rate ≡ 0
    → (s.accepted < 2 ^ 36) × (0 < len) × (bit_and s.accepted (len - 1) ≡ s.accepted % len)
    × (position_ok (position_of s.accepted y) ≡ true)
ready lent max-rate s len x y playback-rate none =
    let t = taken _ _ (decoded s) len x y playback-rate none in
    let p = plainly.taken true true (delay_part (decoded s)) len x y t.plain-none in
    (room t, ring-some t, rw p.long (masked s.maximum s.margin s.accepted), position-in-range t)

module _ (sets : List Float) (max-rate : Float)
    (maximum margin accepted crossfade-position crossfade-samples rule : ℕ) (xs : List Float)
    (x y playback-rate : Float) (l : rule ≤ 1) (none : due_of (length sets) max-rate
    (decoded (state_of maximum margin accepted 0 0 crossfade-position crossfade-samples rule 0)) (length xs) x y
    playback-rate
    ≡ 0) where
  turned : step_of (ruled (rule_of rule) Onwards (fade_of Draft Draft crossfade-position crossfade-samples)) Draft
      ≡ record { turn = plain_turn (fade_of Draft Draft crossfade-position crossfade-samples); direction = Onwards }
  turned =
      let t =
      taken _ _ (decoded (state_of maximum margin accepted 0 0 crossfade-position crossfade-samples rule 0))
      (length xs) x y playback-rate none in
      rest-stays (rule_of rule) Draft crossfade-position crossfade-samples t.fits
      (rest-within (rule_of rule) Draft crossfade-position crossfade-samples t.placed)

  at_zero : ◌≡◌ {A = Called} (called_of sets max-rate
      (state_of maximum margin accepted 0 0 crossfade-position crossfade-samples rule 0) xs x y 0 playback-rate)
      (record {
        state = state_of maximum margin (accepted + 1) 0 0 crossfade-position crossfade-samples rule 0;
        number = 0;
        sample = draft_at (stored accepted xs x) (accepted + 1) (position_of accepted y);
      })
  unfolding chosen_at
  at_zero = rw (le-leb rule 1 l, none, turned, same-rule rule l)

-- The same at the numbers that the code holds.
module _ (sets : List Float) (max-rate : Float) (s : Coded) (xs : List Float) (x y : Float) (q : ℕ)
    (playback-rate : Float) (c : s.current ≡ 0) (t : s.target ≡ 0) (a : q ≡ 0) (o : s.direction ≡ 0)
    (l : s.rule ≤ 1) (none : due_of (length sets) max-rate (decoded s) (length xs) x y playback-rate ≡ 0) where
  pub called : ◌≡◌ {A = Called} (called_of sets max-rate s xs x y q playback-rate)
      (record {
        state =
            state_of s.maximum s.margin (s.accepted + 1) s.current s.target s.crossfade_position
            s.crossfade_samples s.rule s.direction;
        number = 0;
        sample = draft_at (stored s.accepted xs x) (s.accepted + 1) (position_of s.accepted y);
      })
  called =
      rw (c, t, o, a)
      (at_zero sets max-rate s.maximum s.margin s.accepted s.crossfade_position s.crossfade_samples
      s.rule xs x y playback-rate l (rw (c, t, o) at none))

  pub left : ring_called sets max-rate s xs x y q playback-rate ≡ stored s.accepted xs x
  left = rw (none, c, t, o, a, le-leb s.rule 1 l)
