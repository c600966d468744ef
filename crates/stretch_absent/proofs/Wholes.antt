-- W3g. The absent taps of a whole call of a delay reader are the sums that `absent_in` gives for the items done: after
-- k accepted items the count has grown by k and the ring is as long as before. Assumes nothing.
use mathlib.Core.Path.{◌≡◌, refl, sym, ap, ◌∙◌}
use mathlib.Core.Bool.{Bool, true, false, true≢false, ◌&&◌, cond}
use mathlib.Core.List.{List, [], ◌∷◌}
use Prim.Native.Nat.{ℕ, zero, suc, ◌+◌, ◌^◌, ◌≤◌, ◌<◌, min}
use native.Mathlib.Omega.{arith}
use borrow.Author.Tests.{le-leb, leb-true}
use lib.Dec.{leb}
use lib.ListN.{length, get_or, length-set, length-replicate}
use lib.Ieee.{Float, nan}
use Rattle.ring.specs.Length.{settings_ok, zeros}
use Rattle.variable_delay.specs.Reader.{Reading, stored, position_of}
use Rattle.variable_delay.specs.declared.VariableDelay.{VariableDelay}
use Rattle.absent_taps.specs.declared.Absent.{Absent}
use Rattle.absent_taps.specs.Absent.{none, plus}
use Rattle.absent_taps.proofs.Laws.{by_length}
use Rattle.stretch.specs.Stretch.{Called, Ran, and_then, stretch_of}
use Rattle.stretch.specs.Whole.{whole_of, refused_first, done_of}
use Rattle.stretch.specs.Counts.{whole_absent}
use Rattle.stretch.specs.Singles.{after_calls, absent_call, sum_of}
use Rattle.stretch.proofs.Laws.{done-fits, as-left}
use Rattle.stretch.proofs.WholeLaws.{passed, not-begun, begins, kept, counts}
use Rattle.stretch_call.specs.Items.{item_of, delay_reader}
use Rattle.stretch_call.proofs.Items.{with_count, accepted, number_is, orderly}
use Rattle.stretch_absent.specs.Sums.{absence, item_absent, sums_of}

pub same_sum : (f g : ℕ → Absent) (n : ℕ) → ((k : ℕ) → k < n → f k ≡ g k) → sum_of f n ≡ sum_of g n
unfolding sum_of
same_sum f g zero e = refl
same_sum f g (suc n) e =
    rw (e n (omega arith)) (ap (λ (s : Absent). plus s (g n)) (same_sum f g n (λ k l. e k (omega arith))))

module _ (read : Reading) (own lent : Bool) where
  abbrev run : VariableDelay → List Float → List Float → List Float → Ran VariableDelay
  run = stretch_of (item_of read own lent)

  -- What stands after k accepted items.
  record After (d : VariableDelay) (len i : ℕ) (e : VariableDelay) (ring : List Float) : Type 0 where
    state : e ≡ with_count d i
    long : length ring ≡ len

  after : (d : VariableDelay) (ring xs ds : List Float) (k : ℕ) → k ≤ done_of (run d ring xs ds)
      → After d (length ring) (d.accepted + k) (after_calls (item_of read own lent) d ring xs ds k).state
      (after_calls (item_of read own lent) d ring xs ds k).ring
  unfolding stretch_of after_calls
  after d ring xs ds zero h =
      let none_more : d.accepted ≡ d.accepted + 0 = omega arith in
      record { state = ap (with_count d) none_more; long = refl }
  after d ring [] ds (suc k) h = absurd (omega arith)
  after d ring (x ∷ xs) [] (suc k) h = absurd (omega arith)
  after d ring (x ∷ xs) (y ∷ ys) (suc k) h =
      by (item_of read own lent d ring x y).number refl
      (after (item_of read own lent d ring x y).state (item_of read own lent d ring x y).ring xs ys k) h
    where
      c : Called VariableDelay
      c = item_of read own lent d ring x y

      rest : Ran VariableDelay
      rest = run c.state c.ring xs ys

      by : (n : ℕ) → c.number ≡ n
          → (k ≤ done_of rest
          → After c.state (length c.ring) (c.state.accepted + k)
          (after_calls (item_of read own lent) c.state c.ring xs ys k).state
          (after_calls (item_of read own lent) c.state c.ring xs ys k).ring)
          → suc k ≤ done_of (and_then n c rest)
          → After d (length ring) (d.accepted + suc k)
          (after_calls (item_of read own lent) c.state c.ring xs ys k).state
          (after_calls (item_of read own lent) c.state c.ring xs ys k).ring
      by zero e more h =
          let a = accepted read own lent d ring x y (sym (number_is read own lent d ring x y) ∙ e) in
          let w = more (omega arith) in
          let more-one : d.accepted + 1 + k ≡ d.accepted + suc k = omega arith in
          record {
            state = w.state ∙ rw a.state (ap (with_count d) more-one);
            long = w.long ∙ ap length a.ring-left ∙ simp length-set;
          }
      by (suc n) e more h = absurd (omega arith)

  -- The absent taps of item k.
  item : (d : VariableDelay) (ring xs ds : List Float) (taps k : ℕ) → k < done_of (run d ring xs ds)
      → absent_call (item_of read own lent) (absence taps) d ring xs ds k
      ≡ item_absent (length ring) d.accepted ds taps k
  item d ring xs ds taps k h =
      let w = after d ring xs ds k (omega arith) in
      let held = (after_calls (item_of read own lent) d ring xs ds k).ring in
      rw w.state
      (by_length (stored (d.accepted + k) held (get_or xs k nan)) (zeros (length ring))
      (length-set held _ (get_or xs k nan) ∙ w.long ∙ sym (length-replicate (length ring) _)) (d.accepted + k + 1)
      (position_of (d.accepted + k) (get_or ds k nan)) taps)

  -- No kernel whose settings are in range reads more than 128 taps.
  module _ (d : VariableDelay) (ring xs ds : List Float) (out taps : ℕ) (kernel : own ≡ true → taps ≤ 128) where
    abbrev done : ℕ
    done = done_of (whole_of (delay_reader read own lent) d ring xs ds out)

    abbrev sums : ℕ → Absent
    sums n = sum_of (absent_call (item_of read own lent) (absence taps) d ring xs ds) n

    none_done : (b : Bool) → sums 0 ≡ cond b (sum_of (item_absent (length ring) d.accepted ds taps) 0) none
    unfolding sum_of
    none_done true = refl
    none_done false = refl

    nothing-done : done ≡ 0 → sums done ≡ sums_of (length ring) d.accepted ds done taps
    nothing-done e =
        let least : min 0 (length ds) ≡ 0 = omega arith in
        rw (e, least) (none_done (leb taps 128 && leb (d.accepted + 0) (2 ^ 36)))

    some-done : refused_first (delay_reader read own lent) d (length ring) (length xs) (length ds) out ≡ 0
        → sums done ≡ sums_of (length ring) d.accepted ds done taps
    some-done e =
        let p = passed (delay_reader read own lent) d (length ring) (length xs) (length ds) out e in
        let b = ap (λ (r : Ran VariableDelay). done_of r) (begins (delay_reader read own lent) d ring xs ds out e) in
        let fits = done-fits (item_of read own lent) d ring xs ds in
        let all : min done (length ds) ≡ done = omega (arith, b, fits, p.delays-many) in
        let w = after d ring xs ds (done_of (run d ring xs ds)) (omega arith) in
        let left = (as-left (item_of read own lent) (orderly read own lent).still d ring xs ds).0 ∙ w.state in
        let f = (kept (delay_reader read own lent) (orderly read own lent) d ring xs ds p.fields).fields in
        let room : d.accepted + done ≤ 2 ^ 36 = rw b (leb-true _ _ (rw left at f)) in
        let few = kernel (owned (settings_ok d.maximum d.margin) p.settings) in
        rw (all, le-leb taps 128 few, le-leb (d.accepted + done) (2 ^ 36) room)
        (same_sum _ _ done (λ k l. item d ring xs ds taps k (omega (arith, b))))
      where
        owned : (s : Bool) → s && own ≡ true → own ≡ true
        owned true h = h
        owned false h = absurd (true≢false (sym h))

    pub by-done : whole_absent (delay_reader read own lent) (absence taps) d ring xs ds out
        ≡ sums_of (length ring) d.accepted ds done taps
    by-done =
        counts (delay_reader read own lent) (absence taps) d ring xs ds out
        ∙ by (refused_first (delay_reader read own lent) d (length ring) (length xs) (length ds) out) refl
      where
        by : (v : ℕ) → refused_first (delay_reader read own lent) d (length ring) (length xs) (length ds) out ≡ v
            → sums done ≡ sums_of (length ring) d.accepted ds done taps
        by zero e = some-done e
        by (suc k) e =
            nothing-done
            (ap (λ (r : Ran VariableDelay). done_of r) (not-begun (delay_reader read own lent) d ring xs ds out k e))
