-- W3g. The absent taps of a whole call of the quality reader are the sums that are counted beside it for the items
-- done: after k accepted items the count has grown by k, the fade has taken k turns, and the ring is as long as before.
-- Assumes nothing.
use mathlib.Core.Path.{◌≡◌, refl, sym, ap, ◌∙◌}
use mathlib.Core.Bool.{Bool, true, false, cond}
use mathlib.Core.List.{List, [], ◌∷◌}
use Prim.Native.Nat.{ℕ, zero, suc, ◌+◌, ◌^◌, ◌≤◌, ◌<◌, min}
use native.Mathlib.Omega.{arith}
use borrow.Author.Tests.{le-leb, leb-true, ne_eqb}
use lib.Dec.{leb}
use lib.ListN.{length, get_or, length-set}
use lib.Ieee.{Float, nan}
use Rattle.answer.proofs.Cases.{number-f32-is}
use Rattle.absent_taps.specs.declared.Absent.{Absent}
use Rattle.absent_taps.specs.Absent.{none}
use Rattle.bank_choice.specs.Inner.{choice_of}
use Rattle.quality_mode.specs.declared.QualityMode.{QualityMode}
use Rattle.quality_fade.proofs.StaysInRange.{both}
use Rattle.returning_fade.specs.declared.RuledFade.{RuledFade}
use Rattle.returning_fade.specs.Step.{step_of}
use Rattle.quality_variable_delay.specs.State.{fade_part, joined}
use Rattle.quality_variable_delay.specs.Reader.{state_after}
use Rattle.quality_variable_delay.specs.Bank.{due_of}
use Rattle.quality_variable_delay.specs.declared.QualityVariableDelayF32.{QualityVariableDelayF32}
use Rattle.told_quality.specs.Inner.{counted_of}
use Rattle.told_quality.proofs.ByCounts.{by-bank, in-range}
use Rattle.stretch.specs.Stretch.{Call, Called, Ran, and_then, stretch_of}
use Rattle.stretch.specs.Whole.{whole_of, refused_first, done_of}
use Rattle.stretch.specs.Singles.{Between, after_calls, absent_call, sum_of}
use Rattle.stretch.proofs.Laws.{as-single, done-fits, as-left}
use Rattle.stretch.proofs.WholeLaws.{passed, not-begun, begins, kept, counts}
use Rattle.stretch_absent.proofs.Wholes.{same_sum}
use Rattle.quality_stretch.specs.Reader.{call_of, quality}
use Rattle.quality_stretch.specs.Reader as stretch
use Rattle.quality_stretch.specs.declared.StretchedQ.{StretchedQ}
use Rattle.quality_stretch.proofs.Orderly.{orderly}
use Rattle.fade_absent.specs.Sums.{next_of, fade_after, item_absent, sums_of}
use Rattle.told_quality_stretch.specs.Told.{absence, stretch_absent, leaves, told_by, told_of}
use Rattle.told_quality_stretch.specs.declared.ToldStretchedQ.{ToldStretchedQ}

-- The state with another count and another fade.
abbrev at : QualityVariableDelayF32 → ℕ → RuledFade → QualityVariableDelayF32
at d i f = joined (record { maximum = d.maximum; margin = d.margin; accepted = i }) f

-- A turn before k others is a turn behind them.
turned-first : (q : QualityMode) (f : RuledFade) (k : ℕ) → fade_after q (next_of q f) k ≡ fade_after q f (suc k)
unfolding fade_after
turned-first q f zero = refl
turned-first q f (suc k) = ap (next_of q) (turned-first q f k)

module _ (sets : List Float) (max-rate : Float) (q : QualityMode) (rate : Float) where
  abbrev call : Call QualityVariableDelayF32
  call = call_of sets max-rate q rate

  abbrev run : QualityVariableDelayF32 → List Float → List Float → List Float → Ran QualityVariableDelayF32
  run = stretch_of call

  module _ (d : QualityVariableDelayF32) (ring : List Float) (x y : Float) where
    abbrev due : ℕ
    due = due_of (length sets) max-rate d (length ring) x y rate

    number_is : (call d ring x y).number ≡ due
    unfolding call_of
    number_is = number-f32-is due _

    accepted : due ≡ 0 → ((call d ring x y).state ≡ state_after 0 d q) × (length (call d ring x y).ring ≡ length ring)
    unfolding call_of
    accepted v = (rw v, rw v (length-set ring _ x))

    -- The numbers of an accepted call, from the length of its ring.
    as-counted : due ≡ 0
        → absence max-rate q rate d ring x y
        ≡ counted_of (length ring) d.accepted (d.accepted + 1) y (choice_of max-rate rate)
        (step_of (fade_part d) q).turn
    as-counted v =
        sym (by-bank max-rate d ring x y q rate 0 (λ z. in-range (length sets) max-rate d (length ring) x y rate v))

  -- What stands after k accepted items.
  record After (d : QualityVariableDelayF32) (len k : ℕ) (e : QualityVariableDelayF32) (ring : List Float) : Type 0
    where
      state : e ≡ at d (d.accepted + k) (fade_after q (fade_part d) k)
      long : length ring ≡ len

  after : (d : QualityVariableDelayF32) (ring xs ds : List Float) (k : ℕ) → k ≤ done_of (run d ring xs ds)
      → After d (length ring) k (after_calls call d ring xs ds k).state (after_calls call d ring xs ds k).ring
  unfolding stretch_of after_calls fade_after
  after d ring xs ds zero h = record { state = start; long = refl }
    where
      start : d ≡ at d (d.accepted + 0) (fade_after q (fade_part d) 0)
      start =
          let none_more : d.accepted ≡ d.accepted + 0 = omega arith in ap (λ (i : ℕ). at d i (fade_part d)) none_more
  after d ring [] ds (suc k) h = absurd (omega arith)
  after d ring (x ∷ xs) [] (suc k) h = absurd (omega arith)
  after d ring (x ∷ xs) (y ∷ ys) (suc k) h =
      by (call d ring x y).number refl (after (call d ring x y).state (call d ring x y).ring xs ys k) h
    where
      c : Called QualityVariableDelayF32
      c = call d ring x y

      rest : Ran QualityVariableDelayF32
      rest = run c.state c.ring xs ys

      by : (n : ℕ) → c.number ≡ n
          → (k ≤ done_of rest
          → After c.state (length c.ring) k (after_calls call c.state c.ring xs ys k).state
          (after_calls call c.state c.ring xs ys k).ring)
          → suc k ≤ done_of (and_then n c rest)
          → After d (length ring) (suc k) (after_calls call c.state c.ring xs ys k).state
          (after_calls call c.state c.ring xs ys k).ring
      by zero e more h =
          let a = accepted d ring x y (sym (number_is d ring x y) ∙ e) in
          let w = more (omega arith) in
          let more-one : d.accepted + 1 + k ≡ d.accepted + suc k = omega arith in
          record {
            state =
                w.state
                ∙ ap (λ (s : QualityVariableDelayF32). at s (s.accepted + k) (fade_after q (fade_part s) k)) a.0
                ∙ ap (at d (d.accepted + 1 + k)) (turned-first q (fade_part d) k)
                ∙ ap (λ (i : ℕ). at d i (fade_after q (fade_part d) (suc k))) more-one;
            long = w.long ∙ a.1;
          }
      by (suc n) e more h = absurd (omega arith)

  -- The absent taps of item k.
  item : (d : QualityVariableDelayF32) (ring xs ds : List Float) (k : ℕ) → k < done_of (run d ring xs ds)
      → absent_call call (absence max-rate q rate) d ring xs ds k
      ≡ item_absent (length ring) d.accepted (fade_part d) (choice_of max-rate rate) q ds k
  item d ring xs ds k h =
      let b : Between QualityVariableDelayF32 = after_calls call d ring xs ds k in
      let x = get_or xs k nan in
      let y = get_or ds k nan in
      let w = after d ring xs ds k (omega arith) in
      let t = (as-single call d ring xs ds k h).taken in
      as-counted b.state b.ring x y (sym (number_is b.state b.ring x y) ∙ t)
      ∙ ap (λ (s : QualityVariableDelayF32).
      counted_of (length b.ring) s.accepted (s.accepted + 1) y (choice_of max-rate rate)
      (step_of (fade_part s) q).turn) w.state
      ∙ rw (w.long, ne_eqb (d.accepted + k) (d.accepted + k + 1) (λ e. omega arith))

  module _ (d : QualityVariableDelayF32) (ring xs ds : List Float) (out : List Float) where
    abbrev all : Ran QualityVariableDelayF32
    all = whole_of (quality sets max-rate q rate) d ring xs ds (length out)

    abbrev sums : ℕ → Absent
    sums n = sum_of (absent_call call (absence max-rate q rate) d ring xs ds) n

    abbrev beside : ℕ → Absent
    beside done = sums_of (length ring) d.accepted (fade_part d) (choice_of max-rate rate) q ds done

    abbrev first : ℕ
    first = refused_first (quality sets max-rate q rate) d (length ring) (length xs) (length ds) (length out)

    none_done : (b : Bool)
        → sums 0
        ≡ cond b (sum_of (item_absent (length ring) d.accepted (fade_part d) (choice_of max-rate rate) q ds) 0) none
    unfolding sum_of
    none_done true = refl
    none_done false = refl

    nothing-done : done_of all ≡ 0 → sums (done_of all) ≡ beside (done_of all)
    nothing-done e =
        let least : min 0 (length ds) ≡ 0 = omega arith in
        rw (e, least) (none_done (leb (d.accepted + 0) (2 ^ 36)))

    some-done : first ≡ 0 → sums (done_of all) ≡ beside (done_of all)
    some-done e =
        let p = passed (quality sets max-rate q rate) d (length ring) (length xs) (length ds) (length out) e in
        let b =
        ap (λ (r : Ran QualityVariableDelayF32). done_of r)
        (begins (quality sets max-rate q rate) d ring xs ds (length out) e) in
        let fits = done-fits call d ring xs ds in
        let every : min (done_of all) (length ds) ≡ done_of all = omega (arith, b, fits, p.delays-many) in
        let o = orderly sets max-rate q rate in
        let w = after d ring xs ds (done_of (run d ring xs ds)) (omega arith) in
        let left = (as-left call o.still d ring xs ds).0 ∙ w.state in
        let f = (kept (quality sets max-rate q rate) o d ring xs ds p.fields).fields in
        let within : leb (run d ring xs ds).state.accepted (2 ^ 36) ≡ true =
        (both (leb (run d ring xs ds).state.accepted (2 ^ 36)) _ f).0 in
        let room : d.accepted + done_of all ≤ 2 ^ 36 = rw b (leb-true _ _ (rw left at within)) in
        rw (every, le-leb (d.accepted + done_of all) (2 ^ 36) room)
        (same_sum _ _ (done_of all) (λ k l. item d ring xs ds k (omega (arith, b))))

    pub by-done : stretch_absent sets max-rate q rate d ring xs ds out ≡ beside (done_of all)
    by-done =
        counts (quality sets max-rate q rate) (absence max-rate q rate) d ring xs ds (length out) ∙ by first refl
      where
        by : (v : ℕ) → first ≡ v → sums (done_of all) ≡ beside (done_of all)
        by zero e = some-done e
        by (suc k) e =
            nothing-done
            (ap (λ (r : Ran QualityVariableDelayF32). done_of r)
            (not-begun (quality sets max-rate q rate) d ring xs ds (length out) k e))

    -- The same stretch, told.
    abbrev with-absent : StretchedQ → Absent → ToldStretchedQ
    with-absent a s = record { state = a.state; done = a.done; refusal = a.refusal; absent = s }

    pub told : (a : StretchedQ) (s : Absent) {ring-left out-left : List Float}
        → stretch.leaves a ring-left out-left ≡ stretch.left_by out all
        → s ≡ beside a.done
        → leaves (with-absent a s) ring-left out-left ≡ told_of sets max-rate q rate d ring xs ds out
    told a s e f =
        ap (λ (l : stretch.Left). leaves (with-absent l.answer s) l.ring l.out) e
        ∙ ap (told_by out all) (f ∙ ap (λ (l : stretch.Left). beside l.answer.done) e ∙ sym by-done)
