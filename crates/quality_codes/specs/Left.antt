-- What a call of a quality reader through pointers leaves, and what an opening or a reset leaves: of the state the five
-- numbers that it changes; an opening gives the rule besides (W9a). Definitions only.
use Rattle.std.specs.Prelude.{ℕ, zero, suc, true, List, length, Float}
use Rattle.answer_parts.specs.Left.{Left, leaves, Renewed, renews}
use Rattle.returning_fade.specs.declared.Rule.{Rule}
use Rattle.quality_codes.specs.declared.Coded.{Coded}
use Rattle.quality_codes.specs.Codes.{code_ok}
use Rattle.quality_codes.specs.Calls.{called_of, ring_called, renewed_of, ring_renewed, fresh_of}

pub record Changed : Type 0 where
  pub accepted : ℕ
  pub current : ℕ
  pub target : ℕ
  pub crossfade_position : ℕ
  pub direction : ℕ

abbrev pub changed : ℕ → ℕ → ℕ → ℕ → ℕ → Changed
changed accepted current target crossfade-position direction = record {
  accepted = accepted;
  current = current;
  target = target;
  crossfade_position = crossfade-position;
  direction = direction;
}

abbrev pub changed_of : Coded → Changed
changed_of s = changed s.accepted s.current s.target s.crossfade_position s.direction

abbrev pub left_by : List Float → Float → Coded → List Float → Float → Float → ℕ → Float → Left Float Changed
left_by sets max-rate s xs x y q playback-rate =
    let c = called_of sets max-rate s xs x y q playback-rate in
    leaves c.number c.sample (changed_of c.state) (ring_called sets max-rate s xs x y q playback-rate)

-- What a reset leaves, which has no quality as an argument.
abbrev pub reset_left : Coded → List Float → Renewed Changed
reset_left s xs =
    let c = renewed_of true s (length xs) in
    renews c.number (changed_of c.state) (ring_renewed true s xs)

-- What an opening leaves. A refusal keeps what stood there.
pub record Begun : Type 0 where
  pub rule : ℕ
  pub numbers : Changed

abbrev pub with_rule : ℕ → Changed → Begun
with_rule rule numbers = record { rule = rule; numbers = numbers }

abbrev pub begun_of : Coded → Begun
begun_of s = with_rule s.rule (changed_of s)

abbrev pub unless_refused : ℕ → Begun → Begun → Begun
unless_refused zero before after = after
unless_refused (suc k) before after = before

abbrev pub opened_left : Rule → Begun → ℕ → ℕ → ℕ → ℕ → List Float → Renewed Begun
opened_left rule before maximum margin quality crossfade-samples xs =
    let s = fresh_of rule maximum margin quality crossfade-samples in
    let c = renewed_of (code_ok quality) s (length xs) in
    renews c.number (unless_refused c.number before (begun_of c.state)) (ring_renewed (code_ok quality) s xs)
