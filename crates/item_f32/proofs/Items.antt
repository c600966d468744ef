-- An item of a stretch: what its tests say, and where its sample is stored. Assumes nothing.
use mathlib.Core.Path.{◌≡◌, refl, sym, ap, ◌∙◌}
use mathlib.Core.Bool.{true, false, ◌&&◌}
use mathlib.Core.List.{List, [], ◌∷◌}
use Prim.Native.Nat.{ℕ, zero, suc, ◌+◌, ◌%◌, ◌^◌, ◌<◌}
use native.Mathlib.Omega.{arith}
use borrow.Author.Tests.{lt-ltb}
use lib.Dec.{ltb, ltb→lt}
use lib.IntN.{pos}
use lib.ListN.{length, set}
use lib.Seq.{set_out}
use lib.Ieee.{Float, fin, le}
use lib.Ieee.Scale.{finite}
use Rattle.answer.proofs.Passed.{passed}
use Rattle.ring.specs.Quick.{place_of}
use Rattle.ring.proofs.RunStartWays.{place-mod}
use Rattle.variable_delay.specs.Reader.{Reading, stored, position_of}
use Rattle.variable_delay.proofs.Settings.{delay-finite}
use Rattle.stretch_call.specs.Items.{item_due}
use Rattle.item_f32.specs.Item.{item_stored, taken_of}
use Rattle.item_f32.specs.declared.Taken.{Taken}

pub none-due : (i : ℕ) (x y : Float) → i < 2 ^ 36 → le (fin false 0 (pos 0)) y ≡ true
    → le y (fin false 1 (pos 36)) ≡ true → finite x ≡ true → item_due i x y ≡ 0
none-due i x y room a b f = rw (f, delay-finite y a b, a, b, lt-ltb i (2 ^ 36) room)

-- An item that is not refused finds room.
pub room : (i : ℕ) (x y : Float) → item_due i x y ≡ 0 → i < 2 ^ 36
room i x y h =
    ltb→lt i (2 ^ 36)
    (passed true true true (finite x) (finite y && le (fin false 0 (pos 0)) y) (le y (fin false 1 (pos 36))) true
    (ltb i (2 ^ 36)) h).p8

-- The number that the code holds, for a refused item.
pub refused : (w : ℕ) {v : ℕ} → w ≡ v → (w ≡ 0 → ⊥) → (i : ℕ) (xs : List Float) (x y : Float)
    → (◌≡◌ {A = Taken} (record { refusal = w; position = fin false 0 (pos 0) }) (taken_of v i y))
    × (xs ≡ item_stored v i xs x)
refused zero e h i xs x y = absurd (h refl)
refused (suc k) e h i xs x y = (rw (← e), rw (← e))

-- The place that the code finds is the sample's. An empty ring has none, and stays empty.
pub placed : (i : ℕ) (xs : List Float) (x : Float) {p : ℕ} → p ≡ place_of i (length xs) → set xs p x ≡ stored i xs x
placed i [] x {p} e = set_out [] p x (omega arith) ∙ sym (set_out [] (i % 0) x (omega arith))
placed i (z ∷ zs) x e = rw e (ap (λ (k : ℕ). set (z ∷ zs) k x) (place-mod i (length (z ∷ zs)) (omega arith)))

-- What `take` hands back: the number, and the position of an item that is accepted.
refusal_is : (v i : ℕ) (y : Float) {t : Taken} → t ≡ taken_of v i y → t.refusal ≡ v
refusal_is zero i y e = rw e
refusal_is (suc k) i y e = rw e

-- An item from what `take` gave, for any kernel's reading: it is refused, or it reads the ring with its sample stored.
module _ (v i : ℕ) (xs : List Float) (x y : Float) {t : Taken} {ys : List Float}
    (e : (t ≡ taken_of v i y) × (ys ≡ item_stored v i xs x)) where
  pub none-taken : t.refusal ≡ 0 → v ≡ 0
  none-taken z = sym (refusal_is v i y e.0) ∙ z

  pub not-served : (t.refusal ≡ 0 → ⊥) → {A : Type 0}
      → (t.refusal ≡ v) × ((t.refusal ≡ 0 → A) × (ys ≡ item_stored v i xs x))
  not-served some = (refusal_is v i y e.0, ((λ z. absurd (some z)), e.1))

  pub served : (read : Reading) → t.refusal ≡ 0 → {s : Float} → s ≡ read ys (i + 1) t.position
      → (◌≡◌ {A = ℕ} 0 v)
      × ((◌≡◌ {A = ℕ} 0 0 → s ≡ read (stored i xs x) (i + 1) (position_of i y)) × (ys ≡ item_stored v i xs x))
  served read z s = let n = none-taken z in (sym n, ((λ w. s ∙ rw (e.0, e.1, n)), e.1))

-- A refused item leaves the ring.
pub ring-stays : (n : ℕ) {v : ℕ} → n ≡ v → (n ≡ 0 → ⊥) → (i : ℕ) (xs : List Float) (x : Float) {ys : List Float}
    → ys ≡ item_stored v i xs x → ys ≡ xs
ring-stays zero a h i xs x e = absurd (h refl)
ring-stays (suc k) a h i xs x e = rw (← a) at e
