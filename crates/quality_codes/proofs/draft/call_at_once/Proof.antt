-- `quality_codes::draft::call_at_once` meets its contract: a call on the fast path by the law of `DraftCalls`, any
-- other by `call_through`. Assumes nothing.
use borrow.Author.Rules.{rules}
use mathlib.Core.Path.{◌≡◌}
use mathlib.Core.Bool.{true}
use Prim.Native.Nat.{◌-◌, ◌%◌, ◌^◌, ◌<◌, ◌≤◌}
use native.Mathlib.Omega.{arith}
use lib.Bits.{bit_and}
use lib.ListN.{length}
use Rattle.ring.specs.Places.{position_ok}
use Rattle.variable_delay.specs.Reader.{position_of}
use Rattle.quality_variable_delay.specs.Bank.{due_of}
use Rattle.quality_codes.specs.Codes.{decoded, state_of}
use Rattle.quality_codes.specs.declared.Coded.{Coded}
use Rattle.quality_codes.proofs.DraftCalls.{ready, called, left}
use Rattle.quality_codes.proofs.draft.call_at_once.Statement.{statement}
use Rattle.quality_codes.proofs.draft.call_at_once.Tie as tie

abbrev state : tie.Start → Coded
state s =
    let a = s.args in
    state_of a.maximum a.margin a.accepted.now a.current.now a.target.now
    a.crossfade_position.now a.crossfade_samples a.rule a.direction.now

-- The tests have passed.
told : (c : tie.Then-plain) → let a = c.before.before.before.before.before.before.before.before.before.args in
    (a.current.now ≡ 0) × (a.target.now ≡ 0) × (a.quality ≡ 0) × (a.direction.now ≡ 0) × (a.rule ≤ 1)
    × (due_of (length a.sets.now) a.max_rate
    (decoded (state c.before.before.before.before.before.before.before.before.before)) (length a.ring.now) a.input
    a.delay a.playback_rate
    ≡ 0)
told c = c.before.plain.ensures c.if-plain.true

asked : (c : tie.Then-plain) → let a = c.before.before.before.before.before.before.before.before.before.args in
    (a.accepted.now < 2 ^ 36) × (0 < length a.ring.now)
    × (bit_and a.accepted.now (length a.ring.now - 1) ≡ a.accepted.now % length a.ring.now)
    × (position_ok (position_of a.accepted.now a.delay) ≡ true)
asked c =
    let a = c.before.before.before.before.before.before.before.before.before.args in
    ready (length a.sets.now) a.max_rate (state c.before.before.before.before.before.before.before.before.before)
    (length a.ring.now) a.input a.delay
    a.playback_rate (told c).5

read-requires : tie.Need-read-y-requires
read-requires c κs = asked c.before

add-put-f32 : tie.Need-overflow_add-i
add-put-f32 c = omega (arith, (asked c.before.before.before.before).0)

returns : tie.Need-returns-then-plain
returns c =
    let w = c.put_f32.ensures in
    let r = c.before.before.before.before.before in
    let t = r.before.before in
    let a = t.before.before.before.before.before.before.before.before.before.args in
    let p = told t in
    let e =
    called a.sets.now a.max_rate (state t.before.before.before.before.before.before.before.before.before) a.ring.now
    a.input a.delay a.quality
    a.playback_rate p.0 p.1 p.2 p.3 p.4 p.5 in
    let l =
    left a.sets.now a.max_rate (state t.before.before.before.before.before.before.before.before.before) a.ring.now
    a.input a.delay a.quality
    a.playback_rate p.0 p.1 p.2 p.3 p.4 p.5 in
    rw (w.0, w.1, r.read-y.ensures.0, r.read-y.ensures.1, e, l)

pub call_at_once_spec : {M : Type 1} → statement M
call_at_once_spec =
    tie.close (tie.spec (λ c κs. search rules) read-requires add-put-f32 (λ c κs. search rules) (λ c. search rules)
    returns (λ c κs. search rules) (λ c. search rules) (λ c. search rules))
