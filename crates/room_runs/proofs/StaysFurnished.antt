-- W4e, W4f. An opened room is furnished, and stays so over any run of asking and giving up. Assumes nothing.
use mathlib.Core.Path.{◌≡◌, refl, sym, ◌∙◌, ap}
use mathlib.Core.Bool.{Bool, true, false, true≢false, cond}
use mathlib.Core.List.{List, [], ◌∷◌}
use mathlib.Core.Logic.{⊎_elim}
use Prim.Native.Nat.{ℕ, zero, suc, ◌+◌, ◌*◌, ◌≤◌, ◌<◌}
use native.Mathlib.Omega.{arith}
use native.Mathlib.Nat.{eq-or-lt_of_le}
use borrow.Author.Tests.{eqb-true, eqb-false, ltb-true, ltb-false, not-true}
use lib.Dec.{eqb, ltb}
use lib.ListN.{length, get_or, set, replicate, length-set, length-replicate}
use lib.Seq.{get_or-set_same, get_or-set_other}
use lib.Ieee.{Float, nan, binary64, fits}
use Rattle.constants.specs.Numbers.{set_length, zero-f}
use Rattle.bessel.specs.declared.Mode.{Mode}
use Rattle.sinc_bank_f32.specs.Sets.{set_in}
use Rattle.sinc_bank_f32.proofs.Lengths.{set_long}
use Rattle.room_marks.specs.declared.Desk.{Desk}
use Rattle.room_marks.specs.Marks.{is_free, mode_in, built_by, shared_by, left_by, held_by}
use Rattle.room_marks.specs.Slots.{first_slot, has_set, own_set, room_ok}
use Rattle.room_marks.specs.Asking.{lengths_agree, own_slot}
use Rattle.room_marks.proofs.Searching.{mark-at}
use Rattle.room_grants.specs.declared.Place.{Place}
use Rattle.room_grants.specs.declared.Place.TheVariants.{Shared, Anew, Refused}
use Rattle.room_grants.specs.Grants.{open_verdict, rates_by, marks_by, give_up_verdict, given_up, marks_without}
use Rattle.room_grants.proofs.Granting.{lengths, among, passes, AnewAt, anew-given, shared-given, anew-below, anew-fits}
use Rattle.room_grants.proofs.Granting.{give-up-given}
use Rattle.set_room.specs.Room.{Room, room_of, slot_of, with_set, slots_by, place_in, asked_of, gave_up, opened}
use Rattle.set_room.specs.Room.{open_due}
use Rattle.room_runs.specs.Turns.{Turn, asks, gives, after_turn, after_turns, rate_in, f64s, Furnished}
use Rattle.room_runs.proofs.SameRate.{both}
use Rattle.room_runs.proofs.Marking.{Follows, freed, stays, itself, shares, leaves, built-ok}
use Rattle.room_runs.proofs.StaysInRange.{follows-room, anew-room}
use Rattle.room_runs.proofs.SlotFloats.{set_there, length-same, before-it, behind-it}

-- One mark changed: it follows the one before, and so do the others.
one_follows : (marks : List ℕ) (k v : ℕ) → k < length marks → Follows (get_or marks k 0) v → (i : ℕ)
    → Follows (get_or marks i 0) (get_or (set marks k v) i 0)
one_follows (m ∷ marks) zero v h f zero = f
one_follows (m ∷ marks) zero v h f (suc i) = itself (get_or marks i 0)
one_follows (m ∷ marks) (suc k) v h f zero = itself m
one_follows (m ∷ marks) (suc k) v h f (suc i) = one_follows marks k v (omega arith) f i
one_follows [] k v h f i = absurd (omega arith)

-- A held mark that follows another: that was held in the same mode.
was-held : {m v : ℕ} → Follows m v → is_free v ≡ false → (is_free m ≡ false) × (mode_in v ≡ mode_in m)
was-held freed h = absurd (true≢false h)
was-held {m} {v} (stays f l k) h = (sym f ∙ h, rw l)

agree-again : (rates xs : List Float) (marks vs : List ℕ) (n : ℕ) → length xs ≡ length rates
    → length vs ≡ length marks → lengths_agree rates marks n ≡ true → lengths_agree xs vs n ≡ true
agree-again rates xs marks vs n p q h = rw (p, q) h

-- A mark that follows the one before leaves the room furnished.
marked : (r : Room) (k v : ℕ) → Furnished r → k < length r.marks → Follows (get_or r.marks k 0) v
    → Furnished (room_of r.rates (set r.marks k v) r.slots)
marked r k v w h f =
    let l = length-set r.marks k v in
    let g = one_follows r.marks k v h f in
    record {
      agree = agree-again r.rates r.rates r.marks (set r.marks k v) (length r.slots) refl l w.agree;
      whole = follows-room r.rates r.marks (set r.marks k v) g l w.whole;
      f64 = w.f64;
      sets = λ i b e. let o = was-held (g i) e in
          w.sets i (omega (arith, l, b)) o.0 ∙ ap (λ (m : Mode). set_in m (get_or r.rates i nan)) (sym o.1);
    }

-- ---- a set that is built
set-f64 : (rates : List Float) (k : ℕ) (x : Float) → fits binary64 x ≡ true
    → ((i : ℕ) → fits binary64 (get_or rates i nan) ≡ true) → (i : ℕ)
    → fits binary64 (get_or (set rates k x) i nan) ≡ true
set-f64 [] k x p f i = f i
set-f64 (r ∷ rates) zero x p f zero = p
set-f64 (r ∷ rates) zero x p f (suc i) = f (suc i)
set-f64 (r ∷ rates) (suc k) x p f zero = f 0
set-f64 (r ∷ rates) (suc k) x p f (suc i) = set-f64 rates k x p (λ j. f (suc j)) i

module _ (desk : Desk) (rate : Float) (mode : Mode) (r : Room) (k : ℕ) (w : Furnished r)
    (f64 : fits binary64 rate ≡ true) (a : AnewAt rate mode r.rates r.marks (length r.slots) k) where
  abbrev v : ℕ
  v = built_by desk mode

  below : k < length r.marks
  below = anew-below rate mode r.rates r.marks (length r.slots) k a

  below-rates : k < length r.rates
  below-rates = omega (arith, below, lengths r.rates r.marks (length r.slots) w.agree)

  inside : k * set_length + set_length ≤ length r.slots
  inside = anew-fits rate mode r.rates r.marks (length r.slots) k a

  long : length (set_in mode rate) ≡ set_length
  long = set_long mode rate

  abbrev floats : List Float
  floats = with_set k (set_in mode rate) r.slots

  -- Slot i, by where it stands.
  pub other-slot : (i : ℕ) (b : Bool) → ltb i k ≡ b → (i ≡ k → ⊥) → slot_of i floats ≡ slot_of i r.slots
  other-slot i true e n = before-it k (set_in mode rate) r.slots long inside i (ltb-true i k e)
  other-slot i false e n =
      behind-it k (set_in mode rate) r.slots long inside i
      (⊎_elim (λ (q : k ≡ i). absurd (n (sym q))) (λ (l : k < i). l) (eq-or-lt_of_le (ltb-false i k e)))

  slot : (i : ℕ) (b : Bool) → eqb i k ≡ b → i < length r.marks → is_free (get_or (set r.marks k v) i 0) ≡ false
      → slot_of i floats ≡ set_in (mode_in (get_or (set r.marks k v) i 0)) (get_or (set r.rates k rate) i nan)
  slot i true e h f =
      let q = eqb-true i k e in
      rw (
        q,
        get_or-set_same r.marks k v 0 below,
        get_or-set_same r.rates k rate nan below-rates,
        (built-ok desk mode).2,
      )
      (set_there k (set_in mode rate) r.slots long inside)
  slot i false e h f =
      let n = eqb-false i k e in
      let m = get_or-set_other r.marks k i v 0 n in
      other-slot i _ refl n ∙ rw (m, get_or-set_other r.rates k i rate nan n) (w.sets i h (ap is_free (sym m) ∙ f))

  built : Furnished (room_of (set r.rates k rate) (set r.marks k v) floats)
  built =
      let l = length-set r.marks k v in
      record {
        agree =
            rw (length-same k (set_in mode rate) r.slots long inside)
            (agree-again r.rates (set r.rates k rate) r.marks (set r.marks k v) (length r.slots)
            (length-set r.rates k rate) l w.agree);
        whole =
            anew-room desk rate mode f64 a.accepted.rate-ok r.rates r.marks k w.f64 a.missing
            w.whole;
        f64 = set-f64 r.rates k rate f64 w.f64;
        sets = λ i b e. slot i _ refl (omega (arith, l, b)) e;
      }

-- ---- one turn
module _ (desk : Desk) (rate : Float) (mode : Mode) (r : Room) (w : Furnished r) (f64 : fits binary64 rate ≡ true) where
  abbrev n : ℕ
  n = length r.slots

  by_place : (p : Place) → place_in rate mode r ≡ p
      → Furnished (room_of (rates_by p rate r.rates) (marks_by p desk mode r.marks) (slots_by p rate mode r.slots))
  by_place (Shared k) e =
      let s = shared-given rate mode r.rates r.marks n k e in
      let test = has_set rate mode in
      let b = among r.rates r.marks n w.agree test s.there in
      let t = passes r.rates r.marks n w.agree test s.there in
      let q : k ≡ first_slot test r.rates r.marks = s.place in
      let h : k < length r.marks = omega (arith, q, b) in
      let held : is_free (get_or r.marks k 0) ≡ false =
      rw q (not-true (is_free (get_or r.marks (first_slot test r.rates r.marks) 0)) (both _ _ t).0) in
      let l = lengths r.rates r.marks n w.agree in
      marked r k (shared_by desk (get_or r.marks k 0)) w h
      (shares desk (get_or r.marks k 0) (mark-at r.rates r.marks k w.whole (omega (arith, h, l))) held)
  by_place (Anew k) e = built desk rate mode r k w f64 (anew-given rate mode r.rates r.marks n k e)
  by_place (Refused m) e = w

  pub after-asking : Furnished (asked_of desk rate mode r)
  unfolding asked_of
  after-asking = by_place (place_in rate mode r) refl

  by-verdict : (v : ℕ) → give_up_verdict desk rate mode r.rates r.marks n ≡ v
      → Furnished (room_of r.rates (marks_without v desk (own_slot desk rate mode r.rates r.marks) r.marks)
      r.slots)
  by-verdict zero e =
      let g = give-up-given desk rate mode r.rates r.marks n e in
      let test = own_set desk rate mode in
      let k = first_slot test r.rates r.marks in
      let b = among r.rates r.marks n w.agree test g.held in
      let t = passes r.rates r.marks n w.agree test g.held in
      let l = lengths r.rates r.marks n w.agree in
      marked r k (left_by desk (get_or r.marks k 0)) w b
      (leaves desk (get_or r.marks k 0) (mark-at r.rates r.marks k w.whole (omega (arith, b, l)))
      (both (held_by desk (get_or r.marks k 0)) _ t).0)
  by-verdict (suc m) e = w

  pub after-giving-up : Furnished (gave_up desk rate mode r)
  unfolding gave_up given_up
  after-giving-up = by-verdict (give_up_verdict desk rate mode r.rates r.marks n) refl

pub after-turn : (r : Room) (t : Turn) → Furnished r → fits binary64 (rate_in t) ≡ true → Furnished (after_turn r t)
after-turn r (asks desk rate mode) w f = after-asking desk rate mode r w f
after-turn r (gives desk rate mode) w f = after-giving-up desk rate mode r w f

-- ---- any run
pub after-turns : (r : Room) (ts : List Turn) → Furnished r → f64s ts ≡ true → Furnished (after_turns r ts)
unfolding after_turns
after-turns r [] w f = w
after-turns r (t ∷ ts) w f =
    let g = both (fits binary64 (rate_in t)) (f64s ts) f in
    after-turns (after_turn r t) ts (after-turn r t w g.0) g.1

-- ---- an opened room
all-free : (a b : ℕ) → room_ok (replicate a zero-f) (replicate b 0) ≡ true
unfolding room_ok
all-free zero b = refl
all-free (suc a) zero = refl
all-free (suc a) (suc b) = all-free a b

zero-marks : (n i : ℕ) → get_or {A = ℕ} (replicate n 0) i 0 ≡ 0
zero-marks zero i = refl
zero-marks (suc n) zero = refl
zero-marks (suc n) (suc i) = zero-marks n i

zero-rates : (n i : ℕ) → fits binary64 (get_or (replicate n zero-f) i nan) ≡ true
unfolding fits
zero-rates zero i = refl
zero-rates (suc n) zero = refl
zero-rates (suc n) (suc i) = zero-rates n i

agreed : (rates : List Float) (marks : List ℕ) (n : ℕ) (b : Bool) → lengths_agree rates marks n ≡ b
    → ◌≡◌ {A = ℕ} (cond b 0 2) 0 → lengths_agree rates marks n ≡ true
agreed rates marks n true e h = e
agreed rates marks n false e h = absurd (omega arith)

-- W4. Opening furnishes a room, unless it refuses.
pub opened-room : (r : Room) → open_due r ≡ 0 → Furnished (opened r)
unfolding opened open_verdict
opened-room r h =
    let a = agreed r.rates r.marks (length r.slots) _ refl h in
    let xs = replicate (length r.rates) zero-f in
    let ms = replicate {A = ℕ} (length r.marks) 0 in
    let z : Furnished (room_of xs ms r.slots) = record {
      agree =
          agree-again r.rates xs r.marks ms (length r.slots) (length-replicate (length r.rates) zero-f)
          (length-replicate {A = ℕ} (length r.marks) 0) a;
      whole = all-free (length r.rates) (length r.marks);
      f64 = zero-rates (length r.rates);
      sets = λ i b e. absurd (true≢false (ap is_free (sym (zero-marks (length r.marks) i)) ∙ e));
    } in
    rw h z
