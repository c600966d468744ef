-- Whether some slot passes a test, slot k and the others apart; and in a room in range no other slot has the set of a
-- held slot. Assumes nothing.
use mathlib.Core.Path.{◌≡◌, refl, ◌∙◌, ap}
use mathlib.Core.Bool.{Bool, true, false, true≢false, not, ◌&&◌, ◌||◌}
use mathlib.Core.List.{List, [], ◌∷◌}
use Prim.Native.Nat.{ℕ, zero, suc, ◌<◌}
use native.Mathlib.Omega.{arith}
use borrow.Author.Tests.{not-true}
use lib.ListN.{length, get_or, set}
use lib.Ieee.{Float, nan, eq}
use Rattle.bessel.specs.declared.Mode.{Mode}
use Rattle.bessel.specs.declared.Mode.TheVariants.{Ported, Full}
use Rattle.room_marks.proofs.Searching.{mark-at}
use Rattle.room_marks.specs.Marks.{mark_ok, is_free, mode_in}
use Rattle.room_marks.specs.Slots.{some, has_set, slot_ok, again, room_ok}
use Rattle.room_runs.specs.Turns.{same_mode}
use Rattle.room_runs.proofs.SameRate.{both, eq-sym}
use Rattle.room_runs.proofs.Marking.{mode-alone, mode-by}

none : (a b : Bool) → a || b ≡ false → (a ≡ false) × (b ≡ false)
none true b h = absurd (true≢false h)
none false b h = (refl, h)

-- Some slot but slot k passes.
unfoldable pub except : (Float → ℕ → Bool) → ℕ → List Float → List ℕ → Bool
except test k [] marks = false
except test k (r ∷ rates) [] = false
except test zero (r ∷ rates) (m ∷ marks) = some test rates marks
except test (suc k) (r ∷ rates) (m ∷ marks) = test r m || except test k rates marks

or_swap : (a b c : Bool) → a || (b || c) ≡ b || (a || c)
or_swap true true c = refl
or_swap true false c = refl
or_swap false b c = refl

module _ (test : Float → ℕ → Bool) where
  pub apart : (rates : List Float) (marks : List ℕ) (k : ℕ) → k < length rates → k < length marks
      → some test rates marks ≡ test (get_or rates k nan) (get_or marks k 0) || except test k rates marks
  unfolding some except
  apart [] marks k h l = absurd (omega arith)
  apart (r ∷ rates) [] k h l = absurd (omega arith)
  apart (r ∷ rates) (m ∷ marks) zero h l = refl
  apart (r ∷ rates) (m ∷ marks) (suc k) h l =
      ap (λ (b : Bool). test r m || b) (apart rates marks k (omega arith) (omega arith))
      ∙ or_swap (test r m) (test (get_or rates k nan) (get_or marks k 0)) (except test k rates marks)

  pub marked : (rates : List Float) (marks : List ℕ) (k v : ℕ)
      → except test k rates (set marks k v) ≡ except test k rates marks
  unfolding except
  marked [] marks k v = refl
  marked (r ∷ rates) [] zero v = refl
  marked (r ∷ rates) [] (suc k) v = refl
  marked (r ∷ rates) (m ∷ marks) zero v = refl
  marked (r ∷ rates) (m ∷ marks) (suc k) v = ap (λ (b : Bool). test r m || b) (marked rates marks k v)

  pub rewritten : (rates : List Float) (marks : List ℕ) (k : ℕ) (x : Float) (v : ℕ)
      → except test k (set rates k x) (set marks k v) ≡ except test k rates marks
  unfolding except
  rewritten [] marks k x v = refl
  rewritten (r ∷ rates) [] zero x v = refl
  rewritten (r ∷ rates) [] (suc k) x v = refl
  rewritten (r ∷ rates) (m ∷ marks) zero x v = refl
  rewritten (r ∷ rates) (m ∷ marks) (suc k) x v = ap (λ (b : Bool). test r m || b) (rewritten rates marks k x v)

  none-at : (rates : List Float) (marks : List ℕ) (k : ℕ) → k < length rates → k < length marks
      → some test rates marks ≡ false → test (get_or rates k nan) (get_or marks k 0) ≡ false
  unfolding some
  none-at [] marks k h l n = absurd (omega arith)
  none-at (r ∷ rates) [] k h l n = absurd (omega arith)
  none-at (r ∷ rates) (m ∷ marks) zero h l n = (none (test r m) _ n).0
  none-at (r ∷ rates) (m ∷ marks) (suc k) h l n =
      none-at rates marks k (omega arith) (omega arith) (none (test r m) (some test rates marks) n).1

-- What no slot passes, none passes that asks for more.
module _ (test more : Float → ℕ → Bool) (w : (r : Float) (m : ℕ) → test r m ≡ false → more r m ≡ false) where
  pub fewer : (rates : List Float) (marks : List ℕ) → some test rates marks ≡ false → some more rates marks ≡ false
  unfolding some
  fewer [] marks h = refl
  fewer (r ∷ rates) [] h = refl
  fewer (r ∷ rates) (m ∷ marks) h =
      let g = none (test r m) (some test rates marks) h in rw (w r m g.0) (fewer rates marks g.1)

  pub fewer-except : (rates : List Float) (marks : List ℕ) (k : ℕ) → except test k rates marks ≡ false
      → except more k rates marks ≡ false
  unfolding except
  fewer-except [] marks k h = refl
  fewer-except (r ∷ rates) [] k h = refl
  fewer-except (r ∷ rates) (m ∷ marks) zero h = fewer rates marks h
  fewer-except (r ∷ rates) (m ∷ marks) (suc k) h =
      let g = none (test r m) (except test k rates marks) h in rw (w r m g.0) (fewer-except rates marks k g.1)

-- A held slot that has another's set is a slot whose set the other has.
turned : (r s : Float) (m n : ℕ) → mark_ok m ≡ true → mark_ok n ≡ true → is_free n ≡ false
    → has_set r (mode_in m) s n ≡ false → is_free m ≡ false → has_set s (mode_in n) r m ≡ false
turned r s m n p q f h g =
    rw (g, mode-alone (mode_in m) (mode_in n) m p (mode-by m p), eq-sym s r)
    (same (mode_in m) (mode_in n) (eq r s) (rw (f, mode-alone (mode_in n) (mode_in m) n q (mode-by n q)) at h))
  where
    same : (a b : Mode) (e : Bool) → same_mode b a && e ≡ false → same_mode a b && e ≡ false
    same a b e h = rw (sides a b) h
      where
        sides : (a b : Mode) → same_mode a b ≡ same_mode b a
        sides Ported Ported = refl
        sides Ported Full = refl
        sides Full Ported = refl
        sides Full Full = refl

pub no_other : (rates : List Float) (marks : List ℕ) (k : ℕ) → room_ok rates marks ≡ true → k < length rates
    → k < length marks → is_free (get_or marks k 0) ≡ false
    → except (has_set (get_or rates k nan) (mode_in (get_or marks k 0))) k rates marks ≡ false
unfolding except room_ok
no_other [] marks k h a b f = absurd (omega arith)
no_other (r ∷ rates) [] k h a b f = absurd (omega arith)
no_other (r ∷ rates) (m ∷ marks) zero h a b f =
    let g = both (not (again r m rates marks)) _ (both (slot_ok r m) _ h).1 in
    not-true (some (has_set r (mode_in m)) rates marks) (rw f at g.0)
no_other (r ∷ rates) (m ∷ marks) (suc k) h a b f =
    let o = both (slot_ok r m) _ h in
    let g = both (not (again r m rates marks)) _ o.1 in
    let q = mark-at rates marks k g.1 (omega arith) in
    rw (head (is_free m) refl g.0 (both (mark_ok m) _ o.0).0 q)
    (no_other rates marks k g.1 (omega arith) (omega arith) f)
  where
    head : (c : Bool) → is_free m ≡ c → not (again r m rates marks) ≡ true → mark_ok m ≡ true
        → mark_ok (get_or marks k 0) ≡ true → has_set (get_or rates k nan) (mode_in (get_or marks k 0)) r m ≡ false
    head true e n p q = rw e
    head false e n p q =
        let z = not-true (some (has_set r (mode_in m)) rates marks) (rw e at n) in
        turned r (get_or rates k nan) m (get_or marks k 0) p q f
        (none-at (has_set r (mode_in m)) rates marks k (omega arith) (omega arith) z) e
