-- W4g. What a desk holds after a desk has given up a set: its own set is taken away, and the other desk's changes
-- nothing. Assumes nothing.
use mathlib.Core.Path.{◌≡◌, refl, sym, ◌∙◌, ap}
use mathlib.Core.Bool.{Bool, true, false, true≢false, not, ◌&&◌, ◌||◌}
use Prim.Native.Nat.{ℕ, ◌<◌}
use native.Mathlib.Omega.{arith}
use borrow.Author.Tests.{eqb-true}
use lib.ListN.{length, get_or, set}
use lib.Ieee.{Float, nan, binary64, fits, eq}
use Rattle.sinc_settings.specs.Ranges.{rate_ok}
use Rattle.bessel.specs.declared.Mode.{Mode}
use Rattle.bessel.specs.declared.Mode.TheVariants.{Ported, Full}
use Rattle.room_marks.specs.declared.Desk.{Desk}
use Rattle.room_marks.specs.Marks.{mark_ok, is_free, held_by, other_desk, in_mode, mode_in, left_by}
use Rattle.room_marks.specs.Slots.{some, has_set, own_set}
use Rattle.room_marks.proofs.Searching.{mark-at}
use Rattle.room_grants.proofs.Granting.{lengths}
use Rattle.set_room.specs.Room.{Room}
use Rattle.room_runs.specs.Turns.{Furnished, same_mode, same_set}
use Rattle.room_runs.proofs.SameRate.{both, same-rate, eq-sym}
use Rattle.room_runs.proofs.Marking.{mode-alone}
use Rattle.room_runs.proofs.Marking.{free-held, left-own, left_other, not_free, own-mode}
use Rattle.room_runs.proofs.Holding.{now-some, marked-some}
use Rattle.room_runs.proofs.Except.{except, fewer-except, no_other}

taken : (s e : Bool) → (s ≡ true → e ≡ false) → e ≡ not s && (s || e)
taken true e h = h refl
taken false e h = refl

-- What nobody holds, no desk does.
pub own-has : (desk : Desk) (asked : Float) (mode : Mode) (r : Float) (m : ℕ) → has_set asked mode r m ≡ false
    → own_set desk asked mode r m ≡ false
own-has desk asked mode r m h = by (is_free m) refl h
  where
    and-false : (a b : Bool) → b ≡ false → a && b ≡ false
    and-false true b e = e
    and-false false b e = refl

    by : (b : Bool) → is_free m ≡ b → not b && (in_mode mode m && eq asked r) ≡ false
        → own_set desk asked mode r m ≡ false
    by true e h = rw (eqb-true m 0 e, free-held desk)
    by false e h = and-false (held_by desk m) (in_mode mode m && eq asked r) h

same-mode : (a b : Mode) → same_mode a b ≡ true → a ≡ b
same-mode Ported Ported h = refl
same-mode Ported Full h = absurd (true≢false (sym h))
same-mode Full Ported h = absurd (true≢false (sym h))
same-mode Full Full h = refl

-- ---- giving up
module _ (r : Room) (f : Furnished r) (asked : Float) (in-mode : Mode) (g64 : fits binary64 asked ≡ true)
    (ok : rate_ok asked ≡ true) (giver : Desk) (k : ℕ) (h : k < length r.marks)
    (own : own_set giver asked in-mode (get_or r.rates k nan) (get_or r.marks k 0) ≡ true) where
  abbrev m : ℕ
  m = get_or r.marks k 0

  abbrev at : Float
  at = get_or r.rates k nan

  long : length r.rates ≡ length r.marks
  long = lengths r.rates r.marks (length r.slots) f.agree

  mark : mark_ok m ≡ true
  mark = mark-at r.rates r.marks k f.whole (omega (arith, long, h))

  holds : held_by giver m ≡ true
  holds = (both (held_by giver m) _ own).0

  in-it : in_mode in-mode m ≡ true
  in-it = (both (in_mode in-mode m) _ (both (held_by giver m) _ own).1).0

  its-rate : asked ≡ at
  its-rate = same-rate asked at g64 (f.f64 k) ok (both (in_mode in-mode m) _ (both (held_by giver m) _ own).1).1

  module _ (rate : Float) (mode : Mode) (r64 : fits binary64 rate ≡ true) where
    abbrev test : Float → ℕ → Bool
    test = own_set giver rate mode

    says : in_mode mode m && eq rate at ≡ same_set asked in-mode rate mode
    says = rw (mode-alone in-mode mode m mark in-it, its-rate)

    -- No other slot has the set that is given up.
    alone : same_set asked in-mode rate mode ≡ true → except test k r.rates r.marks ≡ false
    alone s =
        let g = both (same_mode in-mode mode) _ s in
        let q : at ≡ rate = sym its-rate ∙ same-rate asked rate g64 r64 ok (eq-sym asked rate ∙ g.1) in
        let p : mode_in m ≡ mode = own-mode in-mode m mark in-it ∙ same-mode in-mode mode g.0 in
        fewer-except (has_set rate mode) test (own-has giver rate mode) r.rates r.marks k
        (rw (q, p) at (no_other r.rates r.marks k f.whole (omega (arith, long, h)) h
        (not_free giver m mark holds)))

    pub own-left : some test r.rates (set r.marks k (left_by giver m))
        ≡ not (same_set asked in-mode rate mode) && some test r.rates r.marks
    own-left =
        marked-some r.rates r.marks 0 long k h test (left_by giver m)
        ∙ rw (left-own giver m mark holds, now-some r.rates r.marks 0 long k h test, holds, says)
        (taken (same_set asked in-mode rate mode) (except test k r.rates r.marks) alone)

  pub other-left : (desk : Desk) → giver ≡ other_desk desk → (rate : Float) (mode : Mode)
      → some (own_set desk rate mode) r.rates (set r.marks k (left_by giver m))
      ≡ some (own_set desk rate mode) r.rates r.marks
  other-left desk e rate mode =
      marked-some r.rates r.marks 0 long k h (own_set desk rate mode) (left_by giver m)
      ∙ ap (λ (b : Bool). b || except (own_set desk rate mode) k r.rates r.marks) (same giver e holds)
      ∙ sym (now-some r.rates r.marks 0 long k h (own_set desk rate mode))
    where
      same : (g : Desk) → g ≡ other_desk desk → held_by g m ≡ true
          → held_by desk (left_by g m) && (in_mode mode (left_by g m) && eq rate at)
          ≡ held_by desk m && (in_mode mode m && eq rate at)
      same g e i = rw e (left_other desk mode m (eq rate at) mark (rw e at i))
