-- W4g. One call of a desk's reader in a furnished room is the quality reader's call over a bank of the desk's own, and
-- depends on the room only by which sets the desk holds. Assumes nothing.
use mathlib.Core.Path.{◌≡◌, refl, sym, ◌∙◌, ap}
use mathlib.Core.Bool.{Bool, true, false, true≢false, ◌&&◌}
use mathlib.Core.List.{List}
use Prim.Native.Nat.{ℕ, ◌+◌, ◌*◌}
use native.Mathlib.Omega.{arith}
use borrow.Author.Tests.{eq-eqb}
use lib.Dec.{T, ltb}
use lib.ListN.{length, get_or}
use lib.Ieee.{Float, nan, binary64, fits}
use lib.Ieee.Fits.{add-fits, cond-fits}
use Rattle.constants.specs.Numbers.{set_length, zero-f}
use Rattle.sinc_settings.specs.Ranges.{rate_ok}
use Rattle.bessel.specs.declared.Mode.{Mode}
use Rattle.bank_choice.specs.Rates.{bank_ok, steps_of, rate_of, set_rate_of}
use Rattle.sinc_bank_f32.specs.Sets.{set_in, bank_in}
use Rattle.sinc_bank_f32.proofs.Lengths.{bank-long}
use Rattle.bank_read.specs.Bank.{set_at, bank_at}
use Rattle.quality_variable_delay.specs.Reader.{verdict, ring_after, processed_by}
use Rattle.quality_variable_delay.specs.declared.QualityVariableDelayF32.{QualityVariableDelayF32}
use Rattle.quality_variable_delay.proofs.AcceptedCall.{taken}
use Rattle.quality_variable_delay.proofs.ChosenCall.{same-readings}
use Rattle.room_marks.specs.declared.Desk.{Desk}
use Rattle.room_marks.specs.Marks.{held_by, in_mode, mode_in, mark_ok}
use Rattle.room_marks.specs.Slots.{first_slot, own_set}
use Rattle.room_marks.specs.Asking.{own_slot}
use Rattle.room_marks.proofs.Searching.{ok_at}
use Rattle.room_grants.proofs.Granting.{lengths, among, passes}
use Rattle.set_room.specs.Room.{Room, slot_of}
use Rattle.room_runs.specs.Turns.{Furnished, holds_in}
use Rattle.room_runs.proofs.SameRate.{both, same-rate, eq-sym}
use Rattle.room_runs.proofs.Marking.{not_free, own-mode}
use Rattle.desk_delay.specs.Desk.{Caller, caller_of, safe_rate, tighter_rate, held_at, sets_held}
use Rattle.desk_delay.specs.Desk.{desk_verdict}
use Rattle.desk_delay.specs.Desk.{desk_call, desk_ring}
use Rattle.desk_delay.proofs.DeskCalls.{as-reader}
use Rattle.desk_delay.proofs.BankRead.{bank-read}
use Rattle.desk_runs.specs.Events.{Call}
use Rattle.desk_runs.specs.Alone.{Alone, has, due, call}

is_true : (b : Bool) → T b → b ≡ true
is_true true t = refl
is_true false t = absurd t

-- The rate of a bank's set is an f64.
set-rate-f64 : (top : Float) (k : ℕ) → fits binary64 (set_rate_of top k) ≡ true
unfolding rate_of fits
set-rate-f64 top k =
    is_true _ (cond-fits binary64 (bank_ok top && ltb k (steps_of top)) (rate_of top (steps_of top) (k + 1)) zero-f
    (add-fits binary64 _ _) tt)

-- The slot in which a desk holds a set has the set's floats.
held-floats : (room : Room) → Furnished room → (d : Desk) (rate : Float) (mode : Mode) → fits binary64 rate ≡ true
    → holds_in d room rate mode ≡ true
    → set_at room.slots (own_slot d rate mode room.rates room.marks) ≡ set_in mode rate
unfolding set_at slot_of
held-floats room f d rate mode r64 h =
    let n = length room.slots in
    let test = own_set d rate mode in
    let k = first_slot test room.rates room.marks in
    let m = get_or room.marks k 0 in
    let r = get_or room.rates k nan in
    let b = among room.rates room.marks n f.agree test h in
    let t = both (held_by d m) _ (passes room.rates room.marks n f.agree test h) in
    let l = lengths room.rates room.marks n f.agree in
    let s = both (mark_ok m) _ (ok_at room.rates room.marks k f.whole (omega (arith, b, l))) in
    let held = not_free d m s.0 t.0 in
    let g = both (in_mode mode m) _ t.1 in
    let ok : rate_ok r ≡ true = rw held at s.1 in
    let q : r ≡ rate = same-rate r rate (f.f64 k) r64 ok (eq-sym r rate ∙ g.1) in
    let p : mode_in m ≡ mode = own-mode mode m s.0 g.0 in
    f.sets k b held ∙ ap (λ (a : Mode). set_in a r) p ∙ ap (set_in mode) q

-- ---- one call
module _ (d : Desk) (room : Room) (f : Furnished room) (a : Alone) (c : Call)
    (held : (rate : Float) → fits binary64 rate ≡ true → holds_in d room rate c.mode ≡ a.held rate c.mode) where
  abbrev who : Caller
  who = caller_of d c.mode

  abbrev state : QualityVariableDelayF32
  state = a.reader.state

  abbrev ring : List Float
  ring = a.reader.ring

  safe-64 : fits binary64 (safe_rate c.top c.rate) ≡ true
  safe-64 = set-rate-f64 c.top _

  tighter-64 : fits binary64 (tighter_rate c.top c.rate) ≡ true
  tighter-64 = set-rate-f64 c.top _

  lent : sets_held who room c.top c.rate ≡ has a c
  lent = rw (f.agree, held (safe_rate c.top c.rate) safe-64, held (tighter_rate c.top c.rate) tighter-64)

  same-due : desk_verdict who room c.top state (length ring) c.input c.delay c.rate ≡ due a c
  same-due =
      sym (as-reader who room.rates room.marks room.slots c.top state (length ring) c.input c.delay
      c.rate f.whole)
      ∙ ap (λ (b : Bool). verdict (bank_ok c.top) b state (length ring) c.input c.delay c.rate) lent

  abbrev bank : List Float
  bank = bank_in c.mode c.top

  by-sets : (b : Bool) → has a c ≡ b
      → desk_call who room c.top state ring c.input c.delay c.quality c.rate ≡ call a c
  by-sets true e =
      bank-read who room c.top state ring c.input c.delay c.rate f.whole (lent ∙ e)
      (held-floats room f d (safe_rate c.top c.rate) c.mode safe-64)
      (held-floats room f d (tighter_rate c.top c.rate) c.mode tighter-64) c.quality
      ∙ ap (λ (b : Bool).
      processed_by (bank_at bank c.top c.rate)
      (verdict (bank_ok c.top) b state (length ring) c.input c.delay c.rate) state ring c.input c.delay
      c.quality)
      (eq-eqb (length bank) (steps_of c.top * set_length) (bank-long c.mode c.top) ∙ sym e)
  by-sets false e =
      ap (λ (v : ℕ).
      processed_by (held_at who room c.top c.rate) v state ring c.input c.delay c.quality) same-due
      ∙ same-readings (held_at who room c.top c.rate) (bank_at bank c.top c.rate) (due a c) state ring
      c.input c.delay c.quality
      (λ none r.
      absurd (true≢false
      (sym (taken (bank_ok c.top) (has a c) state (length ring) c.input c.delay c.rate none).lasting ∙ e)))

  pub same-call : desk_call who room c.top state ring c.input c.delay c.quality c.rate ≡ call a c
  same-call = by-sets (has a c) refl

  pub same-ring : desk_ring who room c.top state ring c.input c.delay c.rate
      ≡ ring_after (due a c) state ring c.input
  same-ring = ap (λ (v : ℕ). ring_after v state ring c.input) same-due
