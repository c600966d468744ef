-- Going through the slots one after the other: what a search knows at slot i of the slots from there on. Assumes
-- nothing.
use mathlib.Core.Path.{◌≡◌, refl, sym}
use mathlib.Core.Bool.{Bool, true, false, true≢false, not, cond, ◌&&◌, ◌||◌}
use mathlib.Core.List.{List, [], ◌∷◌}
use Prim.Native.Nat.{ℕ, zero, suc, ◌+◌, ◌≤◌, ◌<◌, min}
use native.Mathlib.Nat.{zero-add}
use native.Mathlib.Numerals.{add-one}
use native.Mathlib.Omega.{arith}
use borrow.Author.Tests.{lt-ltb, le-ltb, ltb-true, ltb-false}
use lib.Dec.{ltb, eqb}
use lib.ListN.{length, get_or, drop}
use lib.Seq.{drop-cons}
use lib.Ieee.{Float, nan}
use Rattle.sinc_settings.specs.Ranges.{rate_ok}
use Rattle.room_marks.specs.Marks.{mark_ok, mode_in}
use Rattle.room_marks.specs.Slots.{some, first_slot, has_set, slot_ok, again, room_ok}
use Rattle.room_marks.specs.Search.{shorter, alone_at}

same-ltb : (a b c d : ℕ) (t : Bool) → ltb a b ≡ t → (a < b → c < d) → (b ≤ a → d ≤ c) → ltb c d ≡ t
same-ltb a b c d true e f g = lt-ltb c d (f (ltb-true a b e))
same-ltb a b c d false e f g = le-ltb c d (g (ltb-false a b e))

-- Some slot passes exactly if the first that does is among the slots.
module _ (test : Float → ℕ → Bool) where
  some-step : (b : Bool) (rates : List Float) (marks : List ℕ)
      → some test rates marks ≡ ltb (first_slot test rates marks) (shorter rates marks)
      → b || some test rates marks
      ≡ ltb (cond b 0 (suc (first_slot test rates marks))) (min (suc (length rates)) (suc (length marks)))
  some-step true rates marks e = sym (lt-ltb 0 (min (suc (length rates)) (suc (length marks))) (omega arith))
  some-step false rates marks e =
      sym (same-ltb (first_slot test rates marks) (shorter rates marks) (suc (first_slot test rates marks))
      (min (suc (length rates)) (suc (length marks))) (some test rates marks) (sym e)
      (λ h. omega arith) (λ h. omega arith))

  pub some_first : (rates : List Float) (marks : List ℕ)
      → some test rates marks ≡ ltb (first_slot test rates marks) (shorter rates marks)
  unfolding some first_slot
  some_first [] marks = sym (le-ltb 0 (min 0 (length marks)) (omega arith))
  some_first (r ∷ rates) [] = sym (le-ltb 0 (min (suc (length rates)) 0) (omega arith))
  some_first (r ∷ rates) (m ∷ marks) = some-step (test r m) rates marks (some_first rates marks)

  no-marks : (rates : List Float) → first_slot test rates [] ≡ 0
  unfolding first_slot
  no-marks [] = refl
  no-marks (r ∷ rates) = refl

  -- Past the end nothing is left.
  pub none_left : (rates : List Float) (marks : List ℕ) (i : ℕ) → shorter rates marks ≤ i
      → first_slot test (drop i rates) (drop i marks) ≡ 0
  unfolding first_slot
  none_left [] marks zero h = refl
  none_left [] marks (suc i) h = refl
  none_left (r ∷ rates) [] zero h = refl
  none_left (r ∷ rates) [] (suc i) h = no-marks (drop i rates)
  none_left (r ∷ rates) (m ∷ marks) zero h = absurd (omega arith)
  none_left (r ∷ rates) (m ∷ marks) (suc i) h = none_left rates marks i (omega arith)

  -- Of the slots from i on the first that passes is i, or the first of the later ones.
  pub here : (rates : List Float) (marks : List ℕ) (i : ℕ) → i < shorter rates marks
      → first_slot test (drop i rates) (drop i marks)
      ≡ cond (test (get_or rates i nan) (get_or marks i 0)) 0
      (suc (first_slot test (drop (suc i) rates) (drop (suc i) marks)))
  unfolding first_slot
  here rates marks i h =
      let l : i < length rates = omega arith in
      let k : i < length marks = omega arith in
      rw (drop-cons rates i nan l, drop-cons marks i 0 k)

  -- ---- what a search knows before slot i: none of the slots passed is the one.
  abbrev pub Passed : List Float → List ℕ → ℕ → Type 0
  Passed rates marks i = first_slot test rates marks ≡ i + first_slot test (drop i rates) (drop i marks)

  module _ (rates : List Float) (marks : List ℕ) where
    pub at_first : Passed rates marks 0
    at_first = sym (zero-add _)

    module _ (i : ℕ) (p : Passed rates marks i) where
      pub at-end : shorter rates marks ≤ i → i ≡ first_slot test rates marks
      at-end h = omega (arith, p, none_left rates marks i h)

      pub found : i < shorter rates marks → test (get_or rates i nan) (get_or marks i 0) ≡ true
          → i ≡ first_slot test rates marks
      found h t = let e = here rates marks i h in omega (arith, p, rw t at e)

      pub goes_on : i < shorter rates marks → test (get_or rates i nan) (get_or marks i 0) ≡ false
          → Passed rates marks (i + 1)
      goes_on h t = let e = here rates marks i h in rw add-one (omega (arith, p, rw t at e))

-- ---- W4j, slot by slot
no-marks-ok : (rates : List Float) → room_ok rates [] ≡ true
unfolding room_ok
no-marks-ok [] = refl
no-marks-ok (r ∷ rates) = refl

pub nothing_left : (rates : List Float) (marks : List ℕ) (i : ℕ) → shorter rates marks ≤ i
    → room_ok (drop i rates) (drop i marks) ≡ true
unfolding room_ok
nothing_left [] marks zero h = refl
nothing_left [] marks (suc i) h = refl
nothing_left (r ∷ rates) [] zero h = refl
nothing_left (r ∷ rates) [] (suc i) h = no-marks-ok (drop i rates)
nothing_left (r ∷ rates) (m ∷ marks) zero h = absurd (omega arith)
nothing_left (r ∷ rates) (m ∷ marks) (suc i) h = nothing_left rates marks i (omega arith)

and_assoc : (a b c : Bool) → a && (b && c) ≡ (a && b) && c
and_assoc true b c = refl
and_assoc false b c = refl

pub slot-by-slot : (rates : List Float) (marks : List ℕ) (i : ℕ) → i < shorter rates marks
    → room_ok (drop i rates) (drop i marks)
    ≡ alone_at rates marks i && room_ok (drop (suc i) rates) (drop (suc i) marks)
unfolding room_ok alone_at
slot-by-slot rates marks i h =
    let l : i < length rates = omega arith in
    let k : i < length marks = omega arith in
    rw (drop-cons rates i nan l, drop-cons marks i 0 k)
    (and_assoc (slot_ok (get_or rates i nan) (get_or marks i 0)) _ _)

-- A held slot is in range by its mark and its rate.
pub held-alone : (rates : List Float) (marks : List ℕ) (i : ℕ) → eqb (get_or marks i 0) 0 ≡ false
    → let r = get_or rates i nan in let m = get_or marks i 0 in
    alone_at rates marks i
    ≡ (mark_ok m && rate_ok r) && not (some (has_set r (mode_in m)) (drop (suc i) rates) (drop (suc i) marks))
unfolding alone_at
held-alone rates marks i h = rw h

pub free-alone : (rates : List Float) (marks : List ℕ) (i : ℕ) → get_or marks i 0 ≡ 0 → true ≡ alone_at rates marks i
unfolding alone_at
free-alone rates marks i h = rw h

-- ---- what is found
module _ (test : Float → ℕ → Bool) where
  passes-step : (r : Float) (m : ℕ) (rates : List Float) (marks : List ℕ) (f : ℕ) (b : Bool) → test r m ≡ b
      → (f < shorter rates marks → test (get_or rates f nan) (get_or marks f 0) ≡ true)
      → cond b 0 (suc f) < min (suc (length rates)) (suc (length marks))
      → test (get_or (r ∷ rates) (cond b 0 (suc f)) nan) (get_or (m ∷ marks) (cond b 0 (suc f)) 0) ≡ true
  passes-step r m rates marks f true e g h = e
  passes-step r m rates marks f false e g h = g (omega arith)

  -- The first slot that passes does pass.
  pub first_passes : (rates : List Float) (marks : List ℕ) → let k = first_slot test rates marks in
      k < shorter rates marks → test (get_or rates k nan) (get_or marks k 0) ≡ true
  unfolding first_slot
  first_passes [] marks h = absurd (omega arith)
  first_passes (r ∷ rates) [] h = absurd (omega arith)
  first_passes (r ∷ rates) (m ∷ marks) h =
      passes-step r m rates marks (first_slot test rates marks) (test r m) refl (first_passes rates marks) h

both_hold : (a b : Bool) → a && b ≡ true → (a ≡ true) × (b ≡ true)
both_hold true b h = (refl, h)
both_hold false b h = absurd (true≢false (sym h))

-- W4j. In a room in range every slot is.
pub ok_at : (rates : List Float) (marks : List ℕ) (i : ℕ) → room_ok rates marks ≡ true → i < shorter rates marks
    → slot_ok (get_or rates i nan) (get_or marks i 0) ≡ true
unfolding room_ok
ok_at [] marks i h l = absurd (omega arith)
ok_at (r ∷ rates) [] i h l = absurd (omega arith)
ok_at (r ∷ rates) (m ∷ marks) zero h l = (both_hold (slot_ok r m) _ h).0
ok_at (r ∷ rates) (m ∷ marks) (suc i) h l =
    ok_at rates marks i (both_hold (not (again r m rates marks)) _ (both_hold (slot_ok r m) _ h).1).1 (omega arith)

pub mark-at : (rates : List Float) (marks : List ℕ) (i : ℕ) → room_ok rates marks ≡ true → i < shorter rates marks
    → mark_ok (get_or marks i 0) ≡ true
mark-at rates marks i h l = (both_hold (mark_ok (get_or marks i 0)) _ (ok_at rates marks i h l)).0
