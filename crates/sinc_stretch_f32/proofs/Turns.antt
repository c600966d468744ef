-- What the loop over a stretch keeps: the items before the place k are done, and i samples are accepted. From what an
-- item gave: a refused one ends the stretch, an accepted one leaves it going. Assumes nothing.
use mathlib.Core.Path.{◌≡◌, refl, sym, ap, ◌∙◌}
use mathlib.Core.Bool.{Bool, ◌&&◌}
use mathlib.Core.List.{List}
use Prim.Native.Nat.{ℕ, zero, suc, ◌+◌, ◌^◌, ◌≤◌, ◌<◌}
use native.Mathlib.Omega.{arith}
use borrow.Author.Tests.{le-leb, leb-true}
use lib.Dec.{eqb}
use lib.ListN.{length, take, get_or, set, length-set}
use lib.Ieee.{Float}
use lib.Ieee.Bits.{is_true}
use Rattle.sinc_settings.specs.Ranges.{taps_ok, phases_ok}
use Rattle.sinc_settings.specs.Refusals.{table_length}
use Rattle.sinc_settings.proofs.RefusalParts.{both-pass}
use Rattle.sinc_read_f32.specs.Reading.{sinc_f32_at, read_of}
use Rattle.variable_delay.specs.Reader.{verdict, stored, position_of}
use Rattle.variable_delay.specs.declared.VariableDelay.{VariableDelay}
use Rattle.variable_delay.proofs.AcceptedCall.{Taken, taken, position-in-range}
use Rattle.stretch.specs.Stretch.{Call, Called, Ran, stretch_of}
use Rattle.stretch.specs.Whole.{whole_of}
use Rattle.stretch.proofs.Going as going
use Rattle.stretch.proofs.WholeLaws.{passed}
use Rattle.stretch.proofs.WholeLaws as whole
use Rattle.stretch_call.specs.Items.{before_items, item_due, leaves, left_by}
use Rattle.stretch_call.specs.declared.StretchAnswer.{StretchAnswer}
use Rattle.stretch_call.proofs.Tests.{Begun, rest-due}
use Rattle.item_f32.specs.Item.{item_stored}
use Rattle.item_f32.proofs.Items.{ring-stays}
use Rattle.sinc_stretch_f32.specs.Reader.{item_f32, sinc_f32, left_f32}

abbrev pub counts : VariableDelay → ℕ → VariableDelay
counts d i = record { maximum = d.maximum; margin = d.margin; accepted = i }

abbrev pub answer : VariableDelay → ℕ → ℕ → StretchAnswer
answer d done refusal = record { state = d; done = done; refusal = refusal }

module _ (table : List Float) (taps phases : ℕ) (d₀ : VariableDelay) (ring₀ xs ds out₀ : List Float) where
  abbrev own : Bool
  own = taps_ok taps && phases_ok phases

  abbrev lent : Bool
  lent = eqb (length table) (table_length taps phases)

  abbrev pub due : ℕ
  due = before_items own lent d₀ (length ring₀) (length xs) (length ds) (length out₀)

  abbrev call : Call VariableDelay
  call = (sinc_f32 table taps phases).call

  abbrev all : Ran VariableDelay
  all = whole_of (sinc_f32 table taps phases) d₀ ring₀ xs ds (length out₀)

  pub refused-first : (n : ℕ) → n ≡ due → (n ≡ 0 → ⊥)
      → leaves (answer d₀ 0 n) ring₀ out₀ ≡ left_f32 table taps phases d₀ ring₀ xs ds out₀
  refused-first zero e h = absurd (h refl)
  refused-first (suc n) e h =
      rw (whole.not-begun (sinc_f32 table taps phases) d₀ ring₀ xs ds (length out₀) n (sym e))

  pub record On (ring out : List Float) (i k : ℕ) : Type 0 where
    pub begun : Begun own lent (counts d₀ i) (length ring)
    pub bound : i ≤ 2 ^ 36
    pub alike : length ds ≡ length xs
    pub room : length out₀ ≡ length xs
    pub place : k ≤ length xs
    pub kept : length ring ≡ length ring₀
    pub first : due ≡ 0
    pub half : going.Half call d₀ ring₀ xs ds out₀ (counts d₀ i) ring out k

  pub starts : {n : ℕ} → n ≡ due → n ≡ 0 → On ring₀ out₀ d₀.accepted 0
  starts e z =
      let p = passed (sinc_f32 table taps phases) d₀ (length ring₀) (length xs) (length ds) (length out₀) (sym e ∙ z) in
      record {
        begun = record { settings = p.settings; lengths = p.lent; fields = p.fields };
        bound = leb-true d₀.accepted (2 ^ 36) p.fields;
        alike = p.delays-many;
        room = p.out-many;
        place = omega arith;
        kept = refl;
        first = sym e ∙ z;
        half = going.begun call d₀ ring₀ xs ds out₀;
      }

  module _ {ring out : List Float} {i k : ℕ} (g : On ring out i k) where
    -- What is left when the loop ends at the place k with a number.
    leaves_all : (n : ℕ)
        → stretch_of call d₀ ring₀ xs ds
        ≡ record { state = counts d₀ i; ring = ring; number = n; samples = take k out }
        → leaves (answer (counts d₀ i) k n) ring out ≡ left_f32 table taps phases d₀ ring₀ xs ds out₀
    leaves_all n e =
        let l : k ≤ length out₀ = omega (arith, g.place, g.room) in
        let d = going.done call d₀ ring₀ xs ds out₀ g.half l in
        let o = going.in_place call d₀ ring₀ xs ds out₀ g.half l in
        rw (whole.begins (sinc_f32 table taps phases) d₀ ring₀ xs ds (length out₀) g.first ∙ e)
        (rw d (ap (λ (t : List Float). leaves (answer (counts d₀ i) k n) ring t) (rw d at o)))

    pub at-end : length xs ≤ k
        → leaves (answer (counts d₀ i) k 0) ring out ≡ left_f32 table taps phases d₀ ring₀ xs ds out₀
    at-end h = leaves_all 0 (going.ended call d₀ ring₀ xs ds out₀ g.half (omega (arith, g.alike)))

    -- n, s and ys are the number, the sample and the ring that the item gave.
    module _ (z : Float) (l : k < length xs) {n : ℕ} {s : Float} {ys : List Float}
        (e : (n ≡ item_due i (get_or xs k z) (get_or ds k z))
        × ((n ≡ 0 → s ≡ read_of table taps phases (stored i ring (get_or xs k z)) (i + 1)
        (position_of i (get_or ds k z)))
        × (ys ≡ item_stored (item_due i (get_or xs k z) (get_or ds k z)) i ring (get_or xs k z)))) where
      abbrev x : Float
      x = get_or xs k z

      abbrev y : Float
      y = get_or ds k z

      abbrev called : Called VariableDelay
      called = call (counts d₀ i) ring x y

      verdict-is : verdict own lent (counts d₀ i) (length ring) x y ≡ n
      verdict-is = rest-due g.begun x y ∙ sym e.0

      stays : (m : ℕ) → verdict own lent (counts d₀ i) (length ring) x y ≡ suc m
          → (suc m ≡ called.number) × ((counts d₀ i ≡ called.state) × (ring ≡ called.ring))
      unfolding item_f32
      stays m v = (rw v, (rw v, rw v))

      stops : (m : ℕ) → m ≡ n → (m ≡ 0 → ⊥)
          → leaves (answer (counts d₀ i) k m) ring out ≡ left_f32 table taps phases d₀ ring₀ xs ds out₀
      stops zero p h = absurd (h refl)
      stops (suc m) p h =
          let r = stays m (verdict-is ∙ sym p) in
          leaves_all (suc m)
          (going.stopped call d₀ ring₀ xs ds out₀ g.half z l (omega (arith, g.alike)) (suc m) r.0 h r.1.0
          r.1.1)

      pub ends : (n ≡ 0 → ⊥)
          → leaves (answer (counts d₀ i) k n) ys out ≡ left_f32 table taps phases d₀ ring₀ xs ds out₀
      ends h = rw (ring-stays n e.0 h i ring x e.1.1) (stops n refl h)

      module _ (none : n ≡ 0) where
        tests : Taken own lent (counts d₀ i) (length ring) x y
        tests = taken own lent (counts d₀ i) (length ring) x y (verdict-is ∙ none)

        left : ys ≡ stored i ring x
        left = e.1.1 ∙ rw (sym e.0 ∙ none)

        accepted : (n ≡ called.number)
            × ((counts d₀ (i + 1) ≡ called.state) × ((ys ≡ called.ring) × (s ≡ called.sample)))
        unfolding item_f32
        accepted =
            let v = verdict-is ∙ none in
            let p = both-pass (is_true own tests.owned) (is_true lent tests.lasting) in
            (rw v none, (rw v, (rw (v, left), rw v (e.1.0 none ∙ rw (p, position-in-range tests)))))

        pub goes_on : On ys (set out k s) (i + 1) (k + 1)
        goes_on =
            let m : length ys ≡ length ring = rw left (length-set ring _ x) in
            let a = accepted in
            record {
              begun =
                  record {
                    settings = g.begun.settings;
                    lengths = rw m g.begun.lengths;
                    fields = le-leb (i + 1) (2 ^ 36) (omega (arith, tests.room));
                  };
              bound = omega (arith, tests.room);
              alike = g.alike;
              room = g.room;
              place = omega arith;
              kept = m ∙ g.kept;
              first = g.first;
              half =
                  going.turn call d₀ ring₀ xs ds out₀ g.half z l (omega (arith, g.alike)) (omega (arith, g.room))
                  a.0 none a.1.0 a.1.1.0 a.1.1.1;
            }
