-- W4g. What a desk holds after a desk has asked for a set: its own set is added, and the other desk's changes nothing.
-- Assumes nothing.
use mathlib.Core.Path.{◌≡◌, refl, sym, ◌∙◌}
use mathlib.Core.Bool.{Bool, true, false, not, ◌&&◌, ◌||◌}
use mathlib.Core.List.{List}
use Prim.Native.Nat.{ℕ, ◌<◌}
use native.Mathlib.Omega.{arith}
use borrow.Author.Tests.{not-true, eqb-true}
use lib.ListN.{length, get_or, set, length-set}
use lib.Seq.{get_or-set_same}
use lib.Ieee.{Float, nan, binary64, fits, eq}
use Rattle.sinc_settings.specs.Ranges.{rate_ok}
use Rattle.bessel.specs.declared.Mode.{Mode}
use Rattle.room_marks.specs.declared.Desk.{Desk}
use Rattle.room_marks.specs.Marks.{mark_ok, is_free, held_by, other_desk, in_mode, built_by, shared_by}
use Rattle.room_marks.specs.Slots.{some, free, has_set, own_set}
use Rattle.room_marks.proofs.Searching.{mark-at}
use Rattle.room_grants.proofs.Granting.{lengths, passes, AnewAt, anew-below}
use Rattle.set_room.specs.Room.{Room}
use Rattle.room_runs.specs.Turns.{Furnished, same_set}
use Rattle.room_runs.proofs.SameRate.{both, same-rate}
use Rattle.room_runs.proofs.Marking.{shared-holds, shared-other, shared-mode, mode-alone, built-holds}
use Rattle.room_runs.proofs.Marking.{built-other}
use Rattle.room_runs.proofs.Marking.{built-mode, free-held}
use Rattle.room_runs.proofs.Except.{except, apart, marked, rewritten}

-- ---- Bools
added : (h s e : Bool) → s || e ≡ s || ((h && s) || e)
added h true e = refl
added true false e = refl
added false false e = refl

module _ (rates : List Float) (marks : List ℕ) (n : ℕ) (w : length rates ≡ length marks) (k : ℕ)
    (h : k < length marks) (test : Float → ℕ → Bool) where
  below : k < length rates
  below = omega arith

  -- Some slot passes, before and after slot k has changed.
  pub now-some : some test rates marks ≡ test (get_or rates k nan) (get_or marks k 0) || except test k rates marks
  now-some = apart test rates marks k below h

  pub marked-some : (v : ℕ) → some test rates (set marks k v) ≡ test (get_or rates k nan) v || except test k rates marks
  marked-some v =
      apart test rates (set marks k v) k below (omega (arith, length-set marks k v))
      ∙ rw (get_or-set_same marks k v 0 h, marked test rates marks k v)

  written-some : (x : Float) (v : ℕ) → some test (set rates k x) (set marks k v) ≡ test x v || except test k rates marks
  written-some x v =
      apart test (set rates k x) (set marks k v) k (omega (arith, length-set rates k x, below))
      (omega (arith, length-set marks k v))
      ∙ rw (get_or-set_same rates k x nan below, get_or-set_same marks k v 0 h, rewritten test rates marks k x v)

-- ---- one turn, in a furnished room
module _ (r : Room) (f : Furnished r) (asked : Float) (in-mode : Mode) (g64 : fits binary64 asked ≡ true)
    (desk : Desk) (rate : Float) (mode : Mode) where
  abbrev rates : List Float
  rates = r.rates

  abbrev marks : List ℕ
  marks = r.marks

  abbrev n : ℕ
  n = length r.slots

  long : length rates ≡ length marks
  long = lengths rates marks n f.agree

  abbrev test : Float → ℕ → Bool
  test = own_set desk rate mode

  -- Slot k has the set that is asked for.
  module _ (ok : rate_ok asked ≡ true) (k : ℕ) (h : k < length marks)
      (has : has_set asked in-mode (get_or rates k nan) (get_or marks k 0) ≡ true) where
    abbrev m : ℕ
    m = get_or marks k 0

    mark : mark_ok m ≡ true
    mark = mark-at rates marks k f.whole (omega (arith, long, h))

    held : is_free m ≡ false
    held = not-true (is_free m) (both (not (is_free m)) _ has).0

    in-it : in_mode in-mode m ≡ true
    in-it = (both (in_mode in-mode m) _ (both (not (is_free m)) _ has).1).0

    its-rate : asked ≡ get_or rates k nan
    its-rate =
        same-rate asked (get_or rates k nan) g64 (f.f64 k) ok
        (both (in_mode in-mode m) _ (both (not (is_free m)) _ has).1).1

    -- What slot k says of the set that is looked for.
    says : in_mode mode m && eq rate (get_or rates k nan) ≡ same_set asked in-mode rate mode
    says = rw (mode-alone in-mode mode m mark in-it, its-rate)

    pub own-shared : some test rates (set marks k (shared_by desk m))
        ≡ same_set asked in-mode rate mode || some test rates marks
    own-shared =
        marked-some rates marks n long k h test (shared_by desk m)
        ∙ rw (
          shared-holds desk m mark held,
          shared-mode desk mode m mark held,
          says,
          now-some rates marks n long k h test,
          says,
        )
        (added (held_by desk m) (same_set asked in-mode rate mode) (except test k rates marks))

    pub other-shared : some test rates (set marks k (shared_by (other_desk desk) m)) ≡ some test rates marks
    other-shared =
        marked-some rates marks n long k h test (shared_by (other_desk desk) m)
        ∙ rw (shared-other desk m mark held, shared-mode (other_desk desk) mode m mark held)
        (sym (now-some rates marks n long k h test))

  -- A set that is built in slot k, which is free.
  module _ (k : ℕ) (a : AnewAt asked in-mode rates marks n k) where
    inside : k < length marks
    inside = anew-below asked in-mode rates marks n k a

    nobody : get_or marks k 0 ≡ 0
    nobody = eqb-true (get_or marks k 0) 0 (rw a.place (passes rates marks n f.agree free a.some-free))

    none-there : some test rates marks ≡ except test k rates marks
    none-there = now-some rates marks n long k inside test ∙ rw (nobody, free-held desk)

    pub own-anew : some test (set rates k asked) (set marks k (built_by desk in-mode))
        ≡ same_set asked in-mode rate mode || some test rates marks
    own-anew =
        written-some rates marks n long k inside test asked (built_by desk in-mode)
        ∙ rw (built-holds desk in-mode, built-mode desk in-mode mode, none-there)

    pub other-anew : some test (set rates k asked) (set marks k (built_by (other_desk desk) in-mode))
        ≡ some test rates marks
    other-anew =
        written-some rates marks n long k inside test asked (built_by (other_desk desk) in-mode)
        ∙ rw (built-other desk in-mode, none-there)
