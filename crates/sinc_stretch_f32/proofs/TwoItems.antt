-- Two items from what `take` gave for each: the samples are read in order, or the second is stored first, where that
-- leaves the first reading as it was. Assumes nothing.
use mathlib.Core.Path.{◌≡◌, refl, ◌∙◌}
use mathlib.Core.Bool.{true}
use mathlib.Core.List.{List}
use Prim.Native.Nat.{ℕ, ◌+◌}
use lib.ListN.{length}
use lib.Ieee.{Float}
use Rattle.sinc_read_f32.specs.Reading.{read_of}
use Rattle.sinc_neighbours.specs.Apart.{apart_of}
use Rattle.sinc_neighbours.proofs.Unreached.{unreached}
use Rattle.stretch_call.specs.Items.{item_due}
use Rattle.item_f32.specs.Item.{item_stored, taken_of}
use Rattle.item_f32.specs.declared.Taken.{Taken}
use Rattle.item_f32.proofs.Items.{none-taken, not-served, served, ring-stays}
use Rattle.sinc_stretch_f32.specs.Items.{Served, Neighbours}

module _ (table : List Float) (taps phases i : ℕ) (ring : List Float) (x y u v : Float) {t : Taken} {mid : List Float}
    (e : (t ≡ taken_of (item_due i x y) i y) × (mid ≡ item_stored (item_due i x y) i ring x)) where
  pub first-refused : (t.refusal ≡ 0 → ⊥) → {m : ℕ} {a b : Float}
      → Neighbours table taps phases i ring x y u v t.refusal m a b mid
  first-refused some =
      record {
        between = mid;
        one = not-served (item_due i x y) i ring x y e some;
        two = λ z. absurd (some z);
        ended = λ h. refl;
      }

  module _ (z : t.refusal ≡ 0) where
    pub in_order : {m : ℕ} {a b : Float} {ys : List Float} → a ≡ read_of table taps phases mid (i + 1) t.position
        → Served table taps phases (i + 1) mid u v m b ys → Neighbours table taps phases i ring x y u v 0 m a b ys
    in_order r s =
        record {
          between = mid;
          one = served (item_due i x y) i ring x y e (read_of table taps phases) z r;
          two = λ w. s;
          ended = λ h. absurd (h refl);
        }

    module _ {w : Taken} {ys : List Float}
        (f : (w ≡ taken_of (item_due (i + 1) u v) (i + 1) v)
        × (ys ≡ item_stored (item_due (i + 1) u v) (i + 1) mid u)) where
      pub second-refused : (w.refusal ≡ 0 → ⊥) → {a b : Float}
          → a ≡ read_of table taps phases ys (i + 1) t.position
          → Neighbours table taps phases i ring x y u v 0 w.refusal a b ys
      second-refused some r =
          let n = (not-served (item_due (i + 1) u v) (i + 1) mid u v f some {A = ℕ}).0 in
          in_order (r ∙ rw (ring-stays w.refusal n some (i + 1) mid u f.1))
          (not-served (item_due (i + 1) u v) (i + 1) mid u v f some)

      pub stored-first : apart_of (length mid) (i + 1 + 1) t.position taps ≡ true → w.refusal ≡ 0 → {a b : Float}
          → a ≡ read_of table taps phases ys (i + 1) t.position
          → b ≡ read_of table taps phases ys (i + 1 + 1) w.position
          → Neighbours table taps phases i ring x y u v 0 0 a b ys
      stored-first clear none r s =
          let n = none-taken (item_due (i + 1) u v) (i + 1) mid u v f none in
          in_order (r ∙ rw (f.1, n) (unreached mid (i + 1) u table taps phases t.position clear))
          (served (item_due (i + 1) u v) (i + 1) mid u v f (read_of table taps phases) none s)
