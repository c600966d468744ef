-- What the loop over the items at rest keeps: the items before the place k are done, i samples are accepted, and
-- nothing else of the state has changed. From what an item gave: a refused one ends the stretch, an accepted one leaves
-- it going. Assumes nothing.
use mathlib.Core.Path.{◌≡◌, refl, sym, ap, ◌∙◌, subst}
use mathlib.Core.Bool.{true, not, ◌&&◌}
use mathlib.Core.List.{List}
use Prim.Native.Nat.{ℕ, zero, suc, ◌+◌, ◌*◌, ◌^◌, ◌≤◌, ◌<◌}
use native.Mathlib.Omega.{arith}
use borrow.Author.Tests.{eqb-true, le-leb, leb-true}
use lib.Dec.{eqb, leb}
use lib.ListN.{length, take, get_or, set, length-set}
use lib.Ieee.{Float, is_nan}
use Rattle.bank_choice.specs.Rates.{bank_ok, steps_of}
use Rattle.bank_choice.specs.Inner.{choice_of}
use Rattle.bank_choice.specs.declared.Choice.{Choice}
use Rattle.sinc_bank_f32.specs.Sets.{set_length}
use Rattle.bank_read.specs.Inner.{read_of}
use Rattle.bank_read.proofs.BankReading.{bank-read}
use Rattle.quality_mode.specs.declared.QualityMode.{QualityMode}
use Rattle.quality_mode.specs.Quality.{same_q}
use Rattle.quality_mode.proofs.Equal.{same-eq}
use Rattle.quality_fade.specs.Fade.{fade_of}
use Rattle.quality_fade.proofs.StaysInRange.{both}
use Rattle.returning_fade.specs.declared.RuledFade.{RuledFade}
use Rattle.returning_fade.specs.Rules.{ruled, valid_of}
use Rattle.returning_fade.specs.Step.{step_of}
use Rattle.variable_delay.specs.Reader.{stored, position_of}
use Rattle.variable_delay.specs.declared.VariableDelay.{VariableDelay}
use Rattle.quality_variable_delay.specs.State.{fade_part, joined}
use Rattle.quality_variable_delay.specs.Bank.{due_of}
use Rattle.quality_variable_delay.specs.declared.QualityVariableDelayF32.{QualityVariableDelayF32}
use Rattle.quality_variable_delay.proofs.AcceptedCall.{Taken, taken, position-in-range}
use Rattle.quality_variable_delay.proofs.AcceptedCall as accepting
use Rattle.stretch.specs.Stretch.{Call, Called, Ran, stretch_of}
use Rattle.stretch.proofs.Going as going
use Rattle.stretch_call.specs.Items.{item_due}
use Rattle.item_f32.specs.Item.{item_stored}
use Rattle.item_f32.proofs.Items.{ring-stays}
use Rattle.quality_stretch.specs.Reader.{call_of, leaves, left_by}
use Rattle.quality_stretch.specs.Inner.{at_rest, at_count, Ready}
use Rattle.quality_stretch.specs.declared.StretchedQ.{StretchedQ}
use Rattle.quality_stretch.proofs.Rests.{plainly, step-rests}

abbrev pub answer : QualityVariableDelayF32 → ℕ → ℕ → StretchedQ
answer d done refusal = record { state = d; done = done; refusal = refusal }

-- The turn of a state at rest.
module _ (d : QualityVariableDelayF32) (q : QualityMode) (rate : Float) (rests : at_rest d q rate ≡ true) where
  numbered : not (is_nan rate) ≡ true
  numbered = (both (same_q d.current_quality q && same_q d.target_quality q) _ rests).1

  as-rest : fade_part d ≡ ruled d.rule d.direction (fade_of q q d.crossfade_position d.crossfade_samples)
  as-rest =
      let p = (both (same_q d.current_quality q && same_q d.target_quality q) _ rests).0 in
      let s = both (same_q d.current_quality q) _ p in
      rw (same-eq d.current_quality q s.0, same-eq d.target_quality q s.1)

  turn-rests : valid_of (fade_part d) ≡ true
      → step_of (fade_part d) q ≡ plainly q d.direction d.crossfade_position d.crossfade_samples
  turn-rests v =
      ap (λ (f : RuledFade). step_of f q) as-rest
      ∙ step-rests d.rule d.direction q d.crossfade_position d.crossfade_samples
      (subst (λ (f : RuledFade). valid_of f ≡ true) as-rest v)

module _ (sets : List Float) (max-rate : Float) (q : QualityMode) (rate : Float) (d₀ : QualityVariableDelayF32)
    (ring₀ xs ds out₀ : List Float) where
  abbrev call : Call QualityVariableDelayF32
  call = call_of sets max-rate q rate

  abbrev all : Ran QualityVariableDelayF32
  all = stretch_of call d₀ ring₀ xs ds

  pub record On (ring out : List Float) (i k : ℕ) : Type 0 where
    pub ready : Ready sets max-rate q rate (at_count d₀ i) (length ring)
    pub rests : at_rest d₀ q rate ≡ true
    pub bound : i ≤ 2 ^ 36
    pub alike : length ds ≡ length xs
    pub room : length out₀ ≡ length xs
    pub place : k ≤ length xs
    pub kept : length ring ≡ length ring₀
    pub half : going.Half call d₀ ring₀ xs ds out₀ (at_count d₀ i) ring out k

  pub starts : Ready sets max-rate q rate d₀ (length ring₀) → at_rest d₀ q rate ≡ true → length ds ≡ length xs
      → length out₀ ≡ length xs → On ring₀ out₀ d₀.accepted 0
  starts r a l m =
      record {
        ready = r;
        rests = a;
        bound = leb-true d₀.accepted (2 ^ 36) (both (leb d₀.accepted (2 ^ 36)) _ r.field).0;
        alike = l;
        room = m;
        place = omega arith;
        kept = refl;
        half = going.begun call d₀ ring₀ xs ds out₀;
      }

  module _ {ring out : List Float} {i k : ℕ} (g : On ring out i k) where
    -- What is left when the loop ends at the place k with a number.
    leaves_all : (n : ℕ)
        → all ≡ record { state = at_count d₀ i; ring = ring; number = n; samples = take k out }
        → leaves (answer (at_count d₀ i) k n) ring out ≡ left_by out₀ all
    leaves_all n e =
        let l : k ≤ length out₀ = omega (arith, g.place, g.room) in
        let d = going.done call d₀ ring₀ xs ds out₀ g.half l in
        let o = going.in_place call d₀ ring₀ xs ds out₀ g.half l in
        rw e (rw d (ap (λ (t : List Float). leaves (answer (at_count d₀ i) k n) ring t) (rw d at o)))

    pub at-end : length xs ≤ k → leaves (answer (at_count d₀ i) k 0) ring out ≡ left_by out₀ all
    at-end h = leaves_all 0 (going.ended call d₀ ring₀ xs ds out₀ g.half (omega (arith, g.alike)))

    -- n, s and ys are the number, the sample and the ring that the item gave, with the choice of sets c.
    module _ (z : Float) (l : k < length xs) {c : Choice} (chosen : c ≡ choice_of max-rate rate) {n : ℕ} {s : Float}
        {ys : List Float}
        (e : (n ≡ item_due i (get_or xs k z) (get_or ds k z))
        × ((n ≡ 0
        → s ≡ read_of c q sets (stored i ring (get_or xs k z)) (i + 1) (position_of i (get_or ds k z)))
        × (ys ≡ item_stored (item_due i (get_or xs k z) (get_or ds k z)) i ring (get_or xs k z)))) where
      abbrev x : Float
      x = get_or xs k z

      abbrev y : Float
      y = get_or ds k z

      abbrev called : Called QualityVariableDelayF32
      called = call (at_count d₀ i) ring x y

      due-is : due_of (length sets) max-rate (at_count d₀ i) (length ring) x y rate ≡ n
      due-is =
          let r = g.ready in
          let v : due_of (length sets) max-rate (at_count d₀ i) (length ring) x y rate ≡ item_due i x y =
          rw (r.settings, r.lengths, r.field, numbered d₀ q rate g.rests) in
          v ∙ sym e.0

      stays : (m : ℕ) → due_of (length sets) max-rate (at_count d₀ i) (length ring) x y rate ≡ suc m
          → (suc m ≡ called.number) × ((at_count d₀ i ≡ called.state) × (ring ≡ called.ring))
      unfolding call_of
      stays m v = (rw v, (rw v, rw v))

      stops : (m : ℕ) → m ≡ n → (m ≡ 0 → ⊥) → leaves (answer (at_count d₀ i) k m) ring out ≡ left_by out₀ all
      stops zero p h = absurd (h refl)
      stops (suc m) p h =
          let r = stays m (due-is ∙ sym p) in
          leaves_all (suc m)
          (going.stopped call d₀ ring₀ xs ds out₀ g.half z l (omega (arith, g.alike)) (suc m) r.0 h r.1.0
          r.1.1)

      pub ends : (n ≡ 0 → ⊥) → leaves (answer (at_count d₀ i) k n) ys out ≡ left_by out₀ all
      ends h = rw (ring-stays n e.0 h i ring x e.1.1) (stops n refl h)

      module _ (none : n ≡ 0) where
        tests : Taken (bank_ok max-rate) (eqb (length sets) (steps_of max-rate * set_length)) (at_count d₀ i)
            (length ring)
            x y
        tests =
            taken (bank_ok max-rate) (eqb (length sets) (steps_of max-rate * set_length)) (at_count d₀ i) (length ring)
            x y
            rate (due-is ∙ none)

        left : ys ≡ stored i ring x
        left = e.1.1 ∙ rw (sym e.0 ∙ none)

        turned : step_of (fade_part d₀) q ≡ plainly q d₀.direction d₀.crossfade_position d₀.crossfade_samples
        turned = turn-rests d₀ q rate g.rests (rw (tests.fits, tests.placed))

        accepted : (n ≡ called.number)
            × ((at_count d₀ (i + 1) ≡ called.state) × ((ys ≡ called.ring) × (s ≡ called.sample)))
        unfolding call_of
        accepted =
            let v = due-is ∙ none in
            let counted : VariableDelay =
            record { maximum = d₀.maximum; margin = d₀.margin; accepted = i + 1 } in
            let p =
            bank-read max-rate rate tests.banked q sets (stored i ring x) (i + 1) (position_of i y)
            (eqb-true (length sets) (steps_of max-rate * set_length) tests.lasting) (position-in-range tests) in (
              rw v none,
              (
                rw (v, turned) (ap (joined counted) (as-rest d₀ q rate g.rests)),
                (rw (v, left), rw (v, turned) (e.1.0 none ∙ rw chosen p)),
              ),
            )

        pub goes_on : On ys (set out k s) (i + 1) (k + 1)
        goes_on =
            let m : length ys ≡ length ring = rw left (length-set ring _ x) in
            let a = accepted in
            let w = accepting.room tests in
            record {
              ready =
                  record {
                    settings = g.ready.settings;
                    lengths = rw m g.ready.lengths;
                    field = rw (le-leb (i + 1) (2 ^ 36) (omega arith)) tests.placed;
                  };
              rests = g.rests;
              bound = omega arith;
              alike = g.alike;
              room = g.room;
              place = omega arith;
              kept = m ∙ g.kept;
              half =
                  going.turn call d₀ ring₀ xs ds out₀ g.half z l (omega (arith, g.alike)) (omega (arith, g.room))
                  a.0 none a.1.0 a.1.1.0 a.1.1.1;
            }
