-- What is known of an accepted call: every test passed, also those of a plain delay reader, so its position is in range
-- and its ring has room. And what the call leaves. Assumes nothing.
use Rattle.std.proofs.Common.{◌≡◌, ℕ, ◌+◌, ◌^◌, ◌<◌, Bool, true, false, not, ◌&&◌, eqb, ltb, leb, List, pos}
use lib.Ieee.{Float, fin, le, is_nan}
use lib.Ieee.Bits.{is_true}
use lib.Ieee.Fits.{and_l, and_r}
use lib.Ieee.Scale.{finite}
use Rattle.answer.specs.Refusals.{lowest_of}
use Rattle.answer.specs.Answers.{answer_f32_of}
use Rattle.answer.specs.declared.AnswerF32.{AnswerF32}
use Rattle.answer.proofs.Passed.{passed}
use Rattle.ring.specs.Length.{settings_ok, length_for}
use Rattle.ring.specs.Places.{position_ok}
use Rattle.variable_delay.specs.Reader.{Reading, stored, position_of}
use Rattle.variable_delay.specs.Reader as plain
use Rattle.variable_delay.proofs.AcceptedCall as plainly
use Rattle.quality_mode.specs.declared.QualityMode.{QualityMode}
use Rattle.quality_fade.specs.Fade.{length_ok}
use Rattle.returning_fade.specs.declared.RuledTurn.{RuledTurn}
use Rattle.returning_fade.specs.Rules.{place_ok}
use Rattle.returning_fade.specs.Step.{step_of, left_by}
use Rattle.quality_variable_delay.specs.State.{delay_part, fade_part, joined}
use Rattle.quality_variable_delay.specs.Reader.{verdict, output_of, processed_by}
use Rattle.quality_variable_delay.specs.declared.QualityVariableDelayF32.{QualityVariableDelayF32}
use Rattle.quality_variable_delay.specs.declared.ProcessedQ.{ProcessedQ}

-- The tests by name: settings, fade length, bank; ring, sets; count, place; input, delay twice, rate, room.
record Tests (s n b e l a p x y w r m : Bool) : Type 0 where
  fewer : lowest_of (s && true) (e && true) a x y w true m ≡ 0
  fits : n ≡ true
  banked : b ≡ true
  lasting : l ≡ true
  placed : p ≡ true

tests : (s n b e l a p x y w r m : Bool) → lowest_of (s && (n && b)) (e && l) (a && p) x y w r m ≡ 0
    → Tests s n b e l a p x y w r m
tests s n b e l a p x y w r m h =
    let q = passed (s && (n && b)) (e && l) (a && p) x y w r m h in
    let own = and_r s (n && b) q.p1 in record {
      fewer =
          rw (
            is_true s (and_l s (n && b) q.p1),
            is_true e (and_l e l q.p2),
            is_true a (and_l a p q.p3),
            is_true x q.p4,
            is_true y q.p5,
            is_true w q.p6,
            is_true m q.p8,
          );
      fits = is_true n (and_l n b own);
      banked = is_true b (and_r n b own);
      lasting = is_true l (and_r e l q.p2);
      placed = is_true p (and_r a p q.p3);
    }

pub record Taken (bank lent : Bool) (d : QualityVariableDelayF32) (len : ℕ) (x y : Float) : Type 0 where
  pub plain-none : plain.verdict true true (delay_part d) len x y ≡ 0
  pub fits : length_ok d.crossfade_samples ≡ true
  pub banked : bank ≡ true
  pub lasting : lent ≡ true
  pub placed : place_ok (fade_part d) ≡ true

pub taken : (bank lent : Bool) (d : QualityVariableDelayF32) (len : ℕ) (x y rate : Float)
    → verdict bank lent d len x y rate ≡ 0 → Taken bank lent d len x y
taken bank lent d len x y rate h =
    let t =
    tests (settings_ok d.maximum d.margin) (length_ok d.crossfade_samples) bank
    (eqb len (length_for d.maximum d.margin)) lent (leb d.accepted (2 ^ 36)) (place_ok (fade_part d))
    (finite x) (finite y && le (fin false 0 (pos 0)) y) (le y (fin false 1 (pos 36))) (not (is_nan rate))
    (ltb d.accepted (2 ^ 36)) h in
    record { plain-none = t.fewer; fits = t.fits; banked = t.banked; lasting = t.lasting; placed = t.placed }

module _ {bank lent : Bool} {d : QualityVariableDelayF32} {len : ℕ} {x y : Float} (t : Taken bank lent d len x y) where
  as_plain : plainly.Taken true true (delay_part d) len x y
  as_plain = plainly.taken true true (delay_part d) len x y t.plain-none

  pub room : d.accepted < 2 ^ 36
  room = as_plain.room

  pub ring-some : 0 < len
  ring-some = plainly.ring-some as_plain

  pub position-in-range : position_ok (position_of d.accepted y) ≡ true
  position-in-range = plainly.position-in-range as_plain

-- The call's record, from the turn, the ring and the position with which it read.
pub taken-call : (read : QualityMode → Reading) (d : QualityVariableDelayF32) (xs : List Float) (x y : Float)
    (q : QualityMode) {t : RuledTurn} {ys : List Float} {p z : Float} {s : QualityVariableDelayF32} {a : AnswerF32}
    → s ≡ joined (record { maximum = d.maximum; margin = d.margin; accepted = d.accepted + 1 })
    (left_by (fade_part d) t)
    → a ≡ answer_f32_of 0 z
    → z ≡ output_of read t.turn ys (d.accepted + 1) p
    → t ≡ step_of (fade_part d) q
    → ys ≡ stored d.accepted xs x
    → p ≡ position_of d.accepted y
    → ◌≡◌ {A = ProcessedQ} (record { state = s; answer = a }) (processed_by read 0 d xs x y q)
taken-call read d xs x y q left answered read_out turned kept placed =
    rw (left, answered, read_out, turned, kept, placed)
