-- What a loop over the items of a stretch keeps, for any kernel: the items before the place k are done, and the count
-- is i. One item more, the refused item, and the end. Assumes nothing.
use mathlib.Core.Path.{◌≡◌, refl, sym, ap, ◌∙◌}
use mathlib.Core.Bool.{Bool, true, false, true≢false}
use mathlib.Core.List.{List}
use Prim.Native.Nat.{ℕ, zero, suc, ◌+◌, ◌-◌, ◌%◌, ◌^◌, ◌≤◌, ◌<◌}
use native.Mathlib.Nat.{mod-lt}
use native.Mathlib.Omega.{arith}
use borrow.Author.Tests.{le-leb, eqb-true}
use lib.Bits.{bit_and}
use lib.Dec.{T, eqb}
use lib.IntN.{pos}
use lib.ListN.{length, take, get_or, set, length-set}
use lib.Ieee.{Float, binary64, sub, of_int, in_float}
use lib.Ieee.Bits.{is_true}
use mir.Syntax.{w64}
use mir.Val.{SFits, to_z}
use mir.ValLaws.{to_z-of_z}
use Rattle.integer_part.proofs.FloorInside.{in-float}
use Rattle.ring.specs.Places.{position_ok}
use Rattle.ring.proofs.Lengths.{masked}
use Rattle.variable_delay.specs.Reader.{Reading, verdict, position_of}
use Rattle.variable_delay.specs.declared.VariableDelay.{VariableDelay}
use Rattle.variable_delay.proofs.AcceptedCall.{Taken, taken, ring-some, position-in-range}
use Rattle.stretch.specs.Stretch.{Ran, stretch_of}
use Rattle.stretch.specs.Whole.{whole_of}
use Rattle.stretch.proofs.Going as going
use Rattle.stretch.proofs.WholeLaws.{Passed, passed}
use Rattle.stretch.proofs.WholeLaws as whole
use Rattle.stretch_call.specs.Items.{item_of, delay_reader, before_items, item_due, leaves, left_by}
use Rattle.stretch_call.specs.declared.StretchAnswer.{StretchAnswer}
use Rattle.stretch_call.proofs.Tests.{Begun, rest-due}
use Rattle.stretch_call.proofs.Items.{with_count, accepted, refused}

abbrev pub answer : VariableDelay → ℕ → ℕ → StretchAnswer
answer d done refusal = record { state = d; done = done; refusal = refusal }

module _ (read : Reading) (own lent : Bool) (d₀ : VariableDelay) (ring₀ xs ds out₀ : List Float) where
  abbrev due : ℕ
  due = before_items own lent d₀ (length ring₀) (length xs) (length ds) (length out₀)

  abbrev all : Ran VariableDelay
  all = whole_of (delay_reader read own lent) d₀ ring₀ xs ds (length out₀)

  -- The call that is refused before the first item.
  pub not-begun : (n : ℕ) → n ≡ due → (n ≡ 0 → ⊥) → leaves (answer d₀ 0 n) ring₀ out₀ ≡ left_by out₀ all
  not-begun zero e h = absurd (h refl)
  not-begun (suc n) e h =
      rw (whole.not-begun (delay_reader read own lent) d₀ ring₀ xs ds (length out₀) n (sym e))

  pub record Going (ring out : List Float) (i k : ℕ) : Type 0 where
    pub begun : Begun own lent (with_count d₀ i) (length ring)
    pub alike : length ds ≡ length xs
    pub room : length out₀ ≡ length xs
    pub place : k ≤ length xs
    pub kept : length ring ≡ length ring₀
    pub first : due ≡ 0
    pub half : going.Half (item_of read own lent) d₀ ring₀ xs ds out₀ (with_count d₀ i) ring out k

  pub starts : {n : ℕ} → n ≡ due → n ≡ 0 → Going ring₀ out₀ d₀.accepted 0
  starts e z =
      let p = passed (delay_reader read own lent) d₀ (length ring₀) (length xs) (length ds) (length out₀) (sym e ∙ z) in
      record {
        begun = record { settings = p.settings; lengths = p.lent; fields = p.fields };
        alike = p.delays-many;
        room = p.out-many;
        place = omega arith;
        kept = refl;
        first = sym e ∙ z;
        half = going.begun (item_of read own lent) d₀ ring₀ xs ds out₀;
      }

  module _ {ring out : List Float} {i k : ℕ} (g : Going ring out i k) where
    ran : {r : Ran VariableDelay} → stretch_of (item_of read own lent) d₀ ring₀ xs ds ≡ r → all ≡ r
    ran e = whole.begins (delay_reader read own lent) d₀ ring₀ xs ds (length out₀) g.first ∙ e

    -- What is left when a loop ends at the place k with a number.
    leaves_all : (n : ℕ) → all ≡ record { state = with_count d₀ i; ring = ring; number = n; samples = take k out }
        → leaves (answer (with_count d₀ i) k n) ring out ≡ left_by out₀ all
    leaves_all n e =
        let l : k ≤ length out₀ = omega (arith, g.place, g.room) in
        let d = going.done (item_of read own lent) d₀ ring₀ xs ds out₀ g.half l in
        let o = going.in_place (item_of read own lent) d₀ ring₀ xs ds out₀ g.half l in
        rw e (rw d (ap (λ (t : List Float). leaves (answer (with_count d₀ i) k n) ring t) (rw d at o)))

    pub all_done : length xs ≤ k → leaves (answer (with_count d₀ i) k 0) ring out ≡ left_by out₀ all
    all_done h =
        leaves_all 0 (ran (going.ended (item_of read own lent) d₀ ring₀ xs ds out₀ g.half (omega (arith, g.alike))))

    module _ (z : Float) (l : k < length xs) where
      abbrev x : Float
      x = get_or xs k z

      abbrev y : Float
      y = get_or ds k z

      item-due : verdict own lent (with_count d₀ i) (length ring) x y ≡ item_due i x y
      item-due = rest-due g.begun x y

      m : k < length ds
      m = omega (arith, g.alike)

      -- The refused item ends the stretch: b is what the quick tests said.
      pub stops : (n : ℕ) {b : Bool} → n ≡ item_due i x y → b ≡ eqb (item_due i x y) 0 → b ≡ false
          → leaves (answer (with_count d₀ i) k n) ring out ≡ left_by out₀ all
      stops zero e f h = absurd (true≢false (ap (λ (v : ℕ). eqb v 0) e ∙ sym f ∙ h))
      stops (suc n) e f h =
          let r = refused read own lent (with_count d₀ i) ring x y n (item-due ∙ sym e) in
          leaves_all (suc n)
          (ran (going.stopped (item_of read own lent) d₀ ring₀ xs ds out₀ g.half z l m (suc n) (sym r.number)
          (λ q. omega arith) (sym r.state) (sym r.ring-left)))

      -- The sample's place, and the position, as the code computes them.
      abbrev at : ℕ
      at = bit_and i (length ring₀ - 1)

      abbrev position : Float
      position = sub binary64 (of_int binary64 (to_z w64 i)) y

      -- The item that is accepted: its place is inside, the casts of its count are exact, and behind it the loop goes
      -- on. The kernel has to read as defined only if its settings, its table and the position are in range.
      pub record Ready : Type 0 where
        pub below : i < 2 ^ 36
        pub some : 0 < length ring₀
        pub inside : at < length ring
        pub inside-lent : at < length ring₀
        pub cast : SFits w64 (pos i)
        pub whole_float : T (in_float binary64 (to_z w64 i))
        pub turns : {v : Float}
            → (own ≡ true → lent ≡ true → position_ok position ≡ true → v ≡ read (set ring at x) (i + 1) position)
            → Going (set ring at x) (set out k v) (i + 1) (k + 1)

      module _ (fine : item_due i x y ≡ 0) where
        tests : Taken own lent (with_count d₀ i) (length ring) x y
        tests = taken own lent (with_count d₀ i) (length ring) x y (item-due ∙ fine)

        mask : at ≡ i % length ring
        mask = rw (← g.kept, tests.long) (masked d₀.maximum d₀.margin i)

        fits : SFits w64 (pos i)
        fits = record { sfits = omega (arith, tests.room) }

        count-is : to_z w64 i ≡ pos i
        count-is = to_z-of_z w64 (pos i) fits

        position-is : position ≡ position_of i y
        position-is = rw count-is

        goes_on : {v : Float}
            → (own ≡ true → lent ≡ true → position_ok position ≡ true → v ≡ read (set ring at x) (i + 1) position)
            → Going (set ring at x) (set out k v) (i + 1) (k + 1)
        goes_on reads =
            let a = accepted read own lent (with_count d₀ i) ring x y (item-due ∙ fine) in
            let v =
            reads (is_true own tests.owned) (is_true lent tests.lasting)
            (rw position-is (position-in-range tests)) in
            rw mask
            (record {
              begun =
                  record {
                    settings = g.begun.settings;
                    lengths = simp length-set g.begun.lengths;
                    fields = le-leb (i + 1) (2 ^ 36) (omega (arith, tests.room));
                  };
              alike = g.alike;
              room = g.room;
              place = omega arith;
              kept = simp length-set g.kept;
              first = g.first;
              half =
                  going.turn (item_of read own lent) d₀ ring₀ xs ds out₀ g.half z l m (omega (arith, g.room))
                  (sym a.number) refl (sym a.state) (sym a.ring-left)
                  (v ∙ rw (mask, position-is) (sym a.sample));
            })

        all-ready : Ready
        all-ready =
            let p : at < length ring = rw mask (mod-lt _ (ring-some tests)) in
            record {
              below = tests.room;
              some = omega (arith, p, g.kept);
              inside = p;
              inside-lent = omega (arith, p, g.kept);
              cast = fits;
              whole_float = rw count-is (in-float (pos i) (omega (arith, tests.room)));
              turns = goes_on;
            }

      pub ready : {b : Bool} → b ≡ eqb (item_due i x y) 0 → b ≡ true → Ready
      ready f h = all-ready (eqb-true (item_due i x y) 0 (sym f ∙ h))
