-- What the loop over single calls keeps while a fade may run: the items before the place k are done, and the tests 1 to
-- 3 still pass. From what a call gave: a refused one ends the stretch, an accepted one leaves it going; and from the
-- place where the quality is at rest the other items are read on. Assumes nothing.
use mathlib.Core.Path.{◌≡◌, refl, sym, ap, ◌∙◌}
use mathlib.Core.List.{List, ◌++◌, append_assoc, append-nil}
use Prim.Native.Nat.{ℕ, zero, suc, ◌+◌, ◌-◌, ◌≤◌, ◌<◌}
use native.Mathlib.Omega.{arith}
use lib.ListN.{length, take, drop, get_or, set, length-append, length-drop, drop_of_length-le}
use lib.Seq.{drop-drop, take_all}
use borrow.Rule.Slice.PartMut.{put_mid, Post-is}
use lib.Ieee.{Float}
use Rattle.quality_mode.specs.declared.QualityMode.{QualityMode}
use Rattle.quality_variable_delay.specs.declared.QualityVariableDelayF32.{QualityVariableDelayF32}
use Rattle.stretch.specs.Stretch.{Call, Ran, stretch_of}
use Rattle.stretch.specs.Whole.{whole_of}
use Rattle.stretch.proofs.Going as going
use Rattle.stretch.proofs.Laws.{done-fits}
use Rattle.stretch.proofs.WholeLaws.{passed}
use Rattle.stretch.proofs.WholeLaws as whole
use Rattle.quality_stretch.specs.Reader.{call_of, quality, Left, leaves, left_by, left_of}
use Rattle.quality_stretch.specs.Inner.{first_due, Ready}
use Rattle.quality_stretch.specs.declared.StretchedQ.{StretchedQ}
use Rattle.quality_stretch.proofs.AtRest.{answer}
use Rattle.quality_stretch.proofs.Orderly.{orderly}

-- The part of a list from the place k to its end, as the code lends it, and put back.
abbrev pub tail : ℕ → List Float → List Float
tail k l = take (length l - k) (drop k l)

tail-is : (k : ℕ) (l : List Float) → tail k l ≡ drop k l
tail-is k l = take_all (length l - k) (drop k l) (omega (arith, length-drop k l))

pub tail-length : (k : ℕ) (l : List Float) → length (tail k l) ≡ length l - k
tail-length k l = rw (tail-is k l) (length-drop k l)

put-tail : (k : ℕ) (l vs : List Float) → k ≤ length l → put_mid k (length l - k) l vs ≡ take k l ++ vs
put-tail k l vs h =
    ap (λ (t : List Float). take k l ++ (vs ++ t))
    (Post-is k (length l) l h ∙ drop_of_length-le l {i = length l} (omega arith))
    ∙ ap (λ (t : List Float). take k l ++ t) (append-nil vs)

module _ (sets : List Float) (max-rate : Float) (q : QualityMode) (rate : Float) (d₀ : QualityVariableDelayF32)
    (ring₀ xs ds out₀ : List Float) where
  abbrev call : Call QualityVariableDelayF32
  call = call_of sets max-rate q rate

  abbrev pub due : ℕ
  due = first_due (length sets) max-rate d₀ (length ring₀) (length xs) (length ds) (length out₀)

  abbrev all : Ran QualityVariableDelayF32
  all = whole_of (quality sets max-rate q rate) d₀ ring₀ xs ds (length out₀)

  pub refused-first : (n : ℕ) → n ≡ due → (n ≡ 0 → ⊥)
      → leaves (answer d₀ 0 n) ring₀ out₀ ≡ left_of sets max-rate q rate d₀ ring₀ xs ds out₀
  refused-first zero e h = absurd (h refl)
  refused-first (suc n) e h =
      rw (whole.not-begun (quality sets max-rate q rate) d₀ ring₀ xs ds (length out₀) n (sym e))

  pub record Going (s : QualityVariableDelayF32) (ring out : List Float) (k : ℕ) : Type 0 where
    pub ready : Ready sets max-rate q rate s (length ring)
    pub alike : length ds ≡ length xs
    pub room : length out₀ ≡ length xs
    pub place : k ≤ length xs
    pub kept : length ring ≡ length ring₀
    pub first : due ≡ 0
    pub half : going.Half call d₀ ring₀ xs ds out₀ s ring out k

  pub starts : {n : ℕ} → n ≡ due → n ≡ 0 → Going d₀ ring₀ out₀ 0
  starts e z =
      let p =
      passed (quality sets max-rate q rate) d₀ (length ring₀) (length xs) (length ds) (length out₀) (sym e ∙ z) in
      record {
        ready = record { settings = p.settings; lengths = p.lent; field = p.fields };
        alike = p.delays-many;
        room = p.out-many;
        place = omega arith;
        kept = refl;
        first = sym e ∙ z;
        half = going.begun call d₀ ring₀ xs ds out₀;
      }

  module _ {s : QualityVariableDelayF32} {ring out : List Float} {k : ℕ} (g : Going s ring out k) where
    ran : all ≡ stretch_of call d₀ ring₀ xs ds
    ran = whole.begins (quality sets max-rate q rate) d₀ ring₀ xs ds (length out₀) g.first

    fits : k ≤ length out₀
    fits = omega (arith, g.place, g.room)

    -- What is left when the loop ends at the place k with a number, a state and a ring.
    leaves_all : (t : QualityVariableDelayF32) (us : List Float) (n : ℕ)
        → stretch_of call d₀ ring₀ xs ds ≡ record { state = t; ring = us; number = n; samples = take k out }
        → leaves (answer t k n) us out ≡ left_of sets max-rate q rate d₀ ring₀ xs ds out₀
    leaves_all t us n e =
        let d = going.done call d₀ ring₀ xs ds out₀ g.half fits in
        let o = going.in_place call d₀ ring₀ xs ds out₀ g.half fits in
        rw (ran ∙ e) (rw d (ap (λ (v : List Float). leaves (answer t k n) us v) (rw d at o)))

    pub at-end : length xs ≤ k → leaves (answer s k 0) ring out ≡ left_of sets max-rate q rate d₀ ring₀ xs ds out₀
    at-end h = leaves_all s ring 0 (going.ended call d₀ ring₀ xs ds out₀ g.half (omega (arith, g.alike)))

    -- All items are read on.
    pub whole-at-rest : {r : StretchedQ} {us vs : List Float}
        → leaves r us vs ≡ left_by out₀ (stretch_of call d₀ ring₀ xs ds)
        → leaves r us vs ≡ left_of sets max-rate q rate d₀ ring₀ xs ds out₀
    whole-at-rest e = e ∙ rw ran

    -- n, t, us and v are the number, the state, the ring and the sample that the call gave.
    module _ (z : Float) (l : k < length xs) {n : ℕ} {t : QualityVariableDelayF32} {us : List Float} {v : Float}
        (e : let c = call s ring (get_or xs k z) (get_or ds k z) in
        (t ≡ c.state) × ((n ≡ c.number) × ((v ≡ c.sample) × (us ≡ c.ring)))) where
      m : k < length ds
      m = omega (arith, g.alike)

      pub ends : (n ≡ 0 → ⊥) → leaves (answer t k n) us out ≡ left_of sets max-rate q rate d₀ ring₀ xs ds out₀
      ends h =
          leaves_all t us n
          (going.stopped call d₀ ring₀ xs ds out₀ g.half z l m n e.1.0 h e.0 e.1.1.1)

      pub goes_on : n ≡ 0 → Going t us (set out k v) (k + 1)
      goes_on none =
          let o = (orderly sets max-rate q rate).keeps s ring (get_or xs k z) (get_or ds k z) (sym e.1.0 ∙ none) in
          let w : length us ≡ length ring = ap length e.1.1.1 ∙ o.0 in
          record {
            ready =
                record {
                  settings = rw e.0 (o.1 ∙ g.ready.settings);
                  lengths = rw (e.0, w) (o.2 ∙ g.ready.lengths);
                  field = rw e.0 o.3;
                };
            alike = g.alike;
            room = g.room;
            place = omega arith;
            kept = w ∙ g.kept;
            first = g.first;
            half =
                going.turn call d₀ ring₀ xs ds out₀ g.half z l m (omega (arith, g.room)) e.1.0 none e.0
                e.1.1.1 e.1.1.0;
          }

    -- From the place k on the other items are read on: r is what that answers, with the ring us and the rest vs of the
    -- output.
    module _ {r : StretchedQ} {us vs : List Float}
        (e : leaves r us vs
        ≡ left_by (tail k out) (stretch_of call s ring (tail k xs) (tail k ds))) where
      as_dropped : leaves r us vs ≡ left_by (drop k out) (stretch_of call s ring (drop k xs) (drop k ds))
      as_dropped = rw (tail-is k out, tail-is k xs, tail-is k ds) at e

      pub done-few : k + r.done ≤ length xs
      done-few =
          let d : r.done ≤ length (drop k xs) =
          rw (ap (λ (t : Left). t.answer.done) as_dropped) (done-fits call s ring (drop k xs) (drop k ds)) in
          omega (arith, d, length-drop k xs, g.place)

      joined : leaves (answer r.state (k + r.done) r.refusal) us (take k out ++ vs)
          ≡ left_of sets max-rate q rate d₀ ring₀ xs ds out₀
      joined =
          let o = stretch_of call s ring (drop k xs) (drop k ds) in
          let n = length o.samples in
          let many : length (take k out ++ o.samples) ≡ k + n =
          length-append (take k out) o.samples
          ∙ ap (λ (t : ℕ). t + n) (going.done call d₀ ring₀ xs ds out₀ g.half fits) in
          let left : take k out ++ (o.samples ++ drop n (drop k out))
          ≡ (take k out ++ o.samples) ++ drop (k + n) out₀ =
          sym (append_assoc (take k out) o.samples (drop n (drop k out)))
          ∙ ap (λ (t : List Float). (take k out ++ o.samples) ++ t)
          (ap (drop n) g.half.rest ∙ drop-drop n k out₀) in
          ap (λ (t : Left).
          leaves (answer t.answer.state (k + t.answer.done) t.answer.refusal) t.ring
          (take k out ++ t.out)) as_dropped
          ∙ rw (ran ∙ g.half.whole, many)
          (ap (λ (t : List Float). leaves (answer o.state (k + n) o.number) o.ring t) left)

      pub reads_on : leaves (answer r.state (k + r.done) r.refusal) us (put_mid k (length out - k) out vs)
          ≡ left_of sets max-rate q rate d₀ ring₀ xs ds out₀
      reads_on = rw (put-tail k out vs (omega (arith, g.half.long, fits))) joined
