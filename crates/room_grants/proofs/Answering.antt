-- What is answered, by the tests in the order of the code: first those that asking and giving up share, then whether a
-- slot is found. Assumes nothing.
use mathlib.Core.Path.{◌≡◌, refl, sym, ◌∙◌, ap}
use mathlib.Core.Bool.{Bool, true, false, true≢false, cond, ◌&&◌, ◌||◌}
use mathlib.Core.List.{List, [], ◌∷◌}
use Prim.Native.Nat.{ℕ, zero, suc, ◌*◌, ◌≤◌, ◌<◌}
use native.Mathlib.Omega.{arith}
use borrow.Author.Tests.{lt-ltb, le-ltb, eqb-true}
use lib.Dec.{eqb}
use lib.ListN.{length, get_or, set}
use lib.Ieee.{Float}
use Rattle.constants.specs.Numbers.{zero-f, set_length}
use Rattle.refusal_order.specs.Order.{◌unless◌, first_of}
use Rattle.sinc_settings.specs.Ranges.{rate_ok}
use Rattle.bessel.specs.declared.Mode.{Mode}
use Rattle.room_marks.specs.declared.Desk.{Desk}
use Rattle.room_grants.specs.declared.Place.{Place}
use Rattle.room_grants.specs.declared.Place.TheVariants.{Shared, Anew, Refused}
use Rattle.room_marks.specs.Marks.{left_by}
use Rattle.room_marks.specs.Slots.{some, first_slot, free, has_set, own_set, room_ok}
use Rattle.room_marks.specs.Asking.{lengths_agree, set_slot, free_slot, own_slot}
use Rattle.room_grants.specs.Grants.{open_verdict, ask_verdict, place_by}
use Rattle.room_grants.specs.Grants.{cleared_to, rates_by, marks_by, asked_place, give_up_verdict, given_up}
use Rattle.room_marks.specs.Search.{shorter}
use Rattle.room_grants.specs.Grants.{room_verdict}
use Rattle.room_marks.proofs.Searching.{some_first}

-- ---- a fourth test behind three
refused-before : (a b c d : Bool) (n k : ℕ) → first_of (1 unless a ∷ 2 unless b ∷ 3 unless c ∷ []) ≡ suc k
    → first_of (1 unless a ∷ 2 unless b ∷ 3 unless c ∷ n unless d ∷ []) ≡ suc k
refused-before false b c d n k e = e
refused-before true false c d n k e = e
refused-before true true false d n k e = e
refused-before true true true d n k e = absurd (omega arith)

fourth : (a b c d : Bool) (n : ℕ) → first_of (1 unless a ∷ 2 unless b ∷ 3 unless c ∷ []) ≡ 0
    → first_of (1 unless a ∷ 2 unless b ∷ 3 unless c ∷ n unless d ∷ []) ≡ cond d 0 n
fourth false b c d n e = absurd (omega arith)
fourth true false c d n e = absurd (omega arith)
fourth true true false d n e = absurd (omega arith)
fourth true true true d n e = refl

second-third : (a b c : Bool) → first_of (1 unless a ∷ 2 unless b ∷ 3 unless c ∷ []) ≡ 0 → (b ≡ true) × (c ≡ true)
second-third false b c e = absurd (omega arith)
second-third true false c e = absurd (omega arith)
second-third true true false e = absurd (omega arith)
second-third true true true e = (refl, refl)

same-lengths : (rates : List Float) (marks : List ℕ) (floats : ℕ) (b : Bool) → eqb (length rates) (length marks) ≡ b
    → b && eqb floats (length marks * set_length) ≡ true → length rates ≡ length marks
same-lengths rates marks floats true e h = eqb-true (length rates) (length marks) e
same-lengths rates marks floats false e h = absurd (true≢false (sym h))

pub open_is : (rates : List Float) (marks : List ℕ) (floats : ℕ) (b : Bool) → b ≡ lengths_agree rates marks floats
    → open_verdict rates marks floats ≡ cond b 0 2
unfolding open_verdict
open_is rates marks floats b e = rw e

-- The answer and both lists, by the place.
pub by_place : (desk : Desk) (rate : Float) (mode : Mode) (rates : List Float) (marks : List ℕ) {p at : Place}
    {rates' : List Float} {marks' : List ℕ} → at ≡ p → rates' ≡ rates_by p rate rates
    → marks' ≡ marks_by p desk mode marks
    → (p ≡ at) × ((rates' ≡ rates_by at rate rates) × (marks' ≡ marks_by at desk mode marks))
by_place desk rate mode rates marks e r m = (
  sym e,
  (
    r ∙ ap (λ (q : Place). rates_by q rate rates) (sym e),
    m ∙ ap (λ (q : Place). marks_by q desk mode marks)
        (sym e),
  ),
)

-- The answer and both lists that opening leaves.
pub by-verdict : (rates : List Float) (marks : List ℕ) {rates' : List Float} {marks' : List ℕ} {v w : ℕ} → v ≡ w
    → rates' ≡ cleared_to w zero-f rates → marks' ≡ cleared_to w 0 marks
    → (w ≡ v) × ((rates' ≡ cleared_to v zero-f rates) × (marks' ≡ cleared_to v 0 marks))
by-verdict rates marks e r m =
    (sym e, (r ∙ ap (λ (n : ℕ). cleared_to n zero-f rates) (sym e), m ∙ ap (λ (n : ℕ). cleared_to n 0 marks) (sym e)))

module _ (rate : Float) (mode : Mode) (rates : List Float) (marks : List ℕ) (floats : ℕ) where
  -- The tests of 16 and 17.
  abbrev fits_in : Bool
  fits_in = some (has_set rate mode) rates marks || some free rates marks

  abbrev holds : Desk → Bool
  holds desk = some (own_set desk rate mode) rates marks

  abbrev placed : ℕ → Place
  placed v =
      place_by v (some (has_set rate mode) rates marks) (set_slot rate mode rates marks) (free_slot rates marks)

  pub refused-ask : (no : ℕ) → no ≡ room_verdict rate rates marks floats → (no ≡ 0 → ⊥)
      → asked_place rate mode rates marks floats ≡ Refused no
  unfolding room_verdict ask_verdict asked_place
  refused-ask zero e h = absurd (h refl)
  refused-ask (suc k) e h =
      ap placed
      (refused-before (rate_ok rate) (lengths_agree rates marks floats) (room_ok rates marks) fits_in 16 k (sym e))

  module _ (ok : room_verdict rate rates marks floats ≡ 0) where
    pub in-range : (length rates ≡ length marks) × (room_ok rates marks ≡ true)
    unfolding room_verdict
    in-range =
        let h = second-third (rate_ok rate) (lengths_agree rates marks floats) (room_ok rates marks) ok in
        (same-lengths rates marks floats _ refl h.0, h.1)

    -- A slot passes a test exactly if the first that does is below the number of marks.
    pub there : (test : Float → ℕ → Bool) (k : ℕ) → k ≡ first_slot test rates marks → k < length marks
        → some test rates marks ≡ true
    there test k e h =
        some_first test rates marks
        ∙ lt-ltb (first_slot test rates marks) (shorter rates marks) (omega (arith, e, in-range.0))

    pub nowhere : (test : Float → ℕ → Bool) (k : ℕ) → k ≡ first_slot test rates marks → length marks ≤ k
        → some test rates marks ≡ false
    nowhere test k e h =
        some_first test rates marks
        ∙ le-ltb (first_slot test rates marks) (shorter rates marks) (omega (arith, e, in-range.0))

    by_cases : (a b : Bool) (s f : ℕ)
        → place_by (cond (a || b) 0 16) a s f ≡ cond a (Shared s) (cond b (Anew f) (Refused 16))
    by_cases true b s f = refl
    by_cases false true s f = refl
    by_cases false false s f = refl

    asked : (a b : Bool) → some (has_set rate mode) rates marks ≡ a → some free rates marks ≡ b
        → asked_place rate mode rates marks floats
        ≡ cond a (Shared (set_slot rate mode rates marks)) (cond b (Anew (free_slot rates marks)) (Refused 16))
    unfolding room_verdict ask_verdict asked_place
    asked a b p q =
        ap placed
        (fourth (rate_ok rate) (lengths_agree rates marks floats) (room_ok rates marks) fits_in 16 ok)
        ∙ rw (p, q) (by_cases a b (set_slot rate mode rates marks) (free_slot rates marks))

    pub shared-ask : (k : ℕ) → k ≡ set_slot rate mode rates marks → k < length marks
        → asked_place rate mode rates marks floats ≡ Shared k
    shared-ask k e h = asked true _ (there (has_set rate mode) k e h) refl ∙ ap Shared (sym e)

    module _ (s : ℕ) (e : s ≡ set_slot rate mode rates marks) (h : length marks ≤ s) (k : ℕ)
        (f : k ≡ free_slot rates marks) where
      pub anew-ask : k < length marks → asked_place rate mode rates marks floats ≡ Anew k
      anew-ask l = asked false true (nowhere (has_set rate mode) s e h) (there free k f l) ∙ ap Anew (sym f)

      pub full-ask : length marks ≤ k → asked_place rate mode rates marks floats ≡ Refused 16
      full-ask l = asked false false (nowhere (has_set rate mode) s e h) (nowhere free k f l)

    -- ---- giving up
    pub given-up : (desk : Desk) (k : ℕ) → k ≡ own_slot desk rate mode rates marks → k < length marks
        → (0 ≡ give_up_verdict desk rate mode rates marks floats)
        × (set marks k (left_by desk (get_or marks k 0)) ≡ given_up desk rate mode rates marks floats)
    unfolding room_verdict give_up_verdict given_up
    given-up desk k e h =
        let v = fourth (rate_ok rate) (lengths_agree rates marks floats) (room_ok rates marks) (holds desk) 17 ok
        ∙ ap (λ (b : Bool). cond b 0 17) (there (own_set desk rate mode) k e h) in
        (sym v, rw (v, e))

    pub not-held : (desk : Desk) (k : ℕ) → k ≡ own_slot desk rate mode rates marks → length marks ≤ k
        → (17 ≡ give_up_verdict desk rate mode rates marks floats)
        × (marks ≡ given_up desk rate mode rates marks floats)
    unfolding room_verdict give_up_verdict given_up
    not-held desk k e h =
        let v = fourth (rate_ok rate) (lengths_agree rates marks floats) (room_ok rates marks) (holds desk) 17 ok
        ∙ ap (λ (b : Bool). cond b 0 17) (nowhere (own_set desk rate mode) k e h) in
        (sym v, rw v)

  pub refused-give-up : (desk : Desk) (no : ℕ) → no ≡ room_verdict rate rates marks floats → (no ≡ 0 → ⊥)
      → (no ≡ give_up_verdict desk rate mode rates marks floats)
      × (marks ≡ given_up desk rate mode rates marks floats)
  unfolding room_verdict give_up_verdict given_up
  refused-give-up desk zero e h = absurd (h refl)
  refused-give-up desk (suc k) e h =
      let v = refused-before (rate_ok rate) (lengths_agree rates marks floats) (room_ok rates marks) (holds desk) 17 k
      (sym e) in
      (sym v, rw v)
