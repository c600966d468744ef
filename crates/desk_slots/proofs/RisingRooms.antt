-- W4j. A room in which the rates of the held slots rise is in range: no two of them are equal, so that no two held
-- slots have the same rate and mode. Assumes nothing.
use mathlib.Core.Path.{◌≡◌, refl, sym}
use mathlib.Core.Bool.{Bool, true, false, true≢false, ◌&&◌}
use mathlib.Core.List.{List, [], ◌∷◌}
use Prim.Native.Nat.{ℕ, zero, suc}
use native.Mathlib.Omega.{arith}
use borrow.Author.Tests.{ne_eqb}
use lib.Dec.{T, eqb}
use lib.Ieee.{Float, lt, le}
use lib.Ieee.Bits.{is_true}
use lib.Ieee.Scale.{finite}
use Rattle.interval.proofs.Signed.{le-le, le-lt}
use Rattle.bessel.specs.declared.Mode.{Mode}
use Rattle.sinc_settings.specs.Ranges.{one-f, two-f}
use Rattle.room_marks.specs.Marks.{mark_ok, in_mode, mode_in}
use Rattle.room_marks.specs.Slots.{some, has_set, room_ok}
use Rattle.desk_slots.specs.Rising.{rising_from}
use Rattle.desk_slots.proofs.FloatOrder.{of-true, above-bounded, below-bounded, still-above, self-least}
use Rattle.desk_slots.proofs.FloatOrder.{less-least, less-unequal}

and-false : (a : Bool) → a && false ≡ false
and-false true = refl
and-false false = refl

is_held : (k : ℕ) → eqb (suc k) 0 ≡ false
is_held k = ne_eqb (suc k) 0 (λ z. omega arith)

-- What is known of slots whose rates rise from above `low`.
record Risen (low : Float) (rates : List Float) (marks : List ℕ) : Type 0 where
  small : le low two-f ≡ true
  fine : room_ok rates marks ≡ true
  unlike : (x : Float) (mode : Mode) → T (finite x) → le x low ≡ true → some (has_set x mode) rates marks ≡ false

risen : (low : Float) (rates : List Float) (marks : List ℕ) → le one-f low ≡ true → rising_from low rates marks ≡ true
    → Risen low rates marks
unfolding rising_from room_ok some
risen low [] marks a h = record { small = h; fine = refl; unlike = λ x mode p l. refl }
risen low (r ∷ rates) [] a h = record { small = h; fine = refl; unlike = λ x mode p l. refl }
risen low (r ∷ rates) (zero ∷ marks) a h =
    let t = risen low rates marks a h in record { small = t.small; fine = t.fine; unlike = t.unlike }
risen low (r ∷ rates) (suc k ∷ marks) a h =
    go (mark_ok (suc k)) (lt low r) refl refl (λ b t. risen r rates marks b t) (rw (is_held k) at h)
  where
    go : (u v : Bool) → mark_ok (suc k) ≡ u → lt low r ≡ v
        → (le one-f r ≡ true → rising_from r rates marks ≡ true → Risen r rates marks)
        → (u && v) && rising_from r rates marks ≡ true
        → Risen low (r ∷ rates) (suc k ∷ marks)
    go false v e f later h = absurd (true≢false (sym h))
    go true false e f later h = absurd (true≢false (sym h))
    go true true e f later h =
        let p = below-bounded low r a f in
        let b = still-above low r p a f in
        let t = later b h in
        let q = above-bounded low r p f t.small in
        let less = of-true (lt low r) f in
        let most = of-true (le r two-f) t.small in
        let upward = of-true (le low r) (less-least low r f) in
        record {
          small = is_true (le low two-f) (le-le low r two-f p q tt upward most);
          fine = rw (is_held k, e, b, t.small, t.unlike r (mode_in (suc k)) q (self-least r q), t.fine);
          unlike = λ x mode w l.
              let least = of-true (le x low) l in
              let apart = less-unequal x r w q (is_true (lt x r) (le-lt x low r w p q least less)) in
              let beneath = is_true (le x r) (le-le x low r w p q least upward) in
              rw (is_held k, apart, and-false (in_mode mode (suc k)), t.unlike x mode w beneath);
        }

pub rising-room : (rates : List Float) (marks : List ℕ) → rising_from one-f rates marks ≡ true
    → room_ok rates marks ≡ true
rising-room rates marks h = (risen one-f rates marks (self-least one-f tt) h).fine
