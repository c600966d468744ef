-- W4e, W4j. A room stays in range: if every mark follows the one before, and if a set that no slot has is built in a
-- free slot. Assumes nothing.
use mathlib.Core.Path.{◌≡◌, refl, sym, ◌∙◌, ap}
use mathlib.Core.Bool.{Bool, true, false, true≢false, not, cond, ◌&&◌, ◌||◌}
use mathlib.Core.List.{List, [], ◌∷◌}
use Prim.Native.Nat.{ℕ, zero, suc}
use native.Mathlib.Omega.{arith}
use borrow.Author.Tests.{ltb-true, ltb-false, le-leb, lt-leb, not-true}
use lib.Dec.{ltb, leb}
use lib.ListN.{length, get_or, set}
use lib.Ieee.{Float, nan, binary64, fits, eq}
use Rattle.sinc_settings.specs.Ranges.{rate_ok}
use Rattle.bessel.specs.declared.Mode.{Mode}
use Rattle.bessel.specs.declared.Mode.TheVariants.{Ported, Full}
use Rattle.room_marks.specs.declared.Desk.{Desk}
use Rattle.room_marks.specs.Marks.{mark_ok, is_free, in_mode, mode_in, built_by}
use Rattle.room_marks.specs.Slots.{some, has_set, slot_ok, again, room_ok}
use Rattle.room_runs.proofs.SameRate.{both, same-rate, equal-itself, rate-positive}
use Rattle.room_runs.proofs.Marking.{Follows, freed, stays, built-ok, own-mode, mode-by}

none : (a b : Bool) → a || b ≡ false → (a ≡ false) × (b ≡ false)
none true b h = absurd (true≢false h)
none false b h = (refl, h)

-- ---- each mark follows the one before
mode-same : (m v : ℕ) → ltb v 4 ≡ ltb m 4 → mode_in v ≡ mode_in m
mode-same m v e = ap (λ (b : Bool). cond b Ported Full) e

above : (v : ℕ) (b : Bool) → ltb v 4 ≡ b → leb 4 v ≡ not b
above v true e = lt-leb 4 v (ltb-true v 4 e)
above v false e = le-leb 4 v (ltb-false v 4 e)

in-same : (mode : Mode) (m v : ℕ) → ltb v 4 ≡ ltb m 4 → in_mode mode v ≡ in_mode mode m
in-same Ported m v e = e
in-same Full m v e = above v (ltb m 4) e ∙ sym (above m (ltb m 4) refl)

follows-set : (rate : Float) (mode : Mode) (r : Float) (m v : ℕ) → Follows m v → has_set rate mode r m ≡ false
    → has_set rate mode r v ≡ false
follows-set rate mode r m v freed h = refl
follows-set rate mode r m v (stays f l k) h = rw (f, in-same mode m v l) h

follows-some : (rate : Float) (mode : Mode) (rates : List Float) (marks vs : List ℕ)
    → ((i : ℕ) → Follows (get_or marks i 0) (get_or vs i 0)) → length vs ≡ length marks
    → some (has_set rate mode) rates marks ≡ false → some (has_set rate mode) rates vs ≡ false
unfolding some
follows-some rate mode [] marks vs w l h = refl
follows-some rate mode (r ∷ rates) marks [] w l h = refl
follows-some rate mode (r ∷ rates) [] (v ∷ vs) w l h = absurd (omega arith)
follows-some rate mode (r ∷ rates) (m ∷ marks) (v ∷ vs) w l h =
    let g = none (has_set rate mode r m) (some (has_set rate mode) rates marks) h in
    rw (follows-set rate mode r m v (w 0) g.0)
    (follows-some rate mode rates marks vs (λ i. w (suc i)) (omega arith) g.1)

follows-ok : (r : Float) (m v : ℕ) → Follows m v → slot_ok r m ≡ true → slot_ok r v ≡ true
follows-ok r m v freed h = refl
follows-ok r m v (stays f l k) h = let g = both (mark_ok m) _ h in rw (k g.0, f) g.1

follows-again : (r : Float) (m v : ℕ) (rates : List Float) (marks vs : List ℕ) → Follows m v
    → ((i : ℕ) → Follows (get_or marks i 0) (get_or vs i 0)) → length vs ≡ length marks
    → not (again r m rates marks) ≡ true → not (again r v rates vs) ≡ true
follows-again r m v rates marks vs freed w l h = refl
follows-again r m v rates marks vs (stays f e k) w l h = by (is_free m) refl h
  where
    by : (b : Bool) → is_free m ≡ b → not (not b && some (has_set r (mode_in m)) rates marks) ≡ true
        → not (again r v rates vs) ≡ true
    by true g h = rw (f, g)
    by false g h =
        rw (
          f,
          g,
          mode-same m v e,
          follows-some r (mode_in m) rates marks vs w l
              (not-true (some (has_set r (mode_in m)) rates marks) h),
        )

pub follows-room : (rates : List Float) (marks vs : List ℕ) → ((i : ℕ) → Follows (get_or marks i 0) (get_or vs i 0))
    → length vs ≡ length marks → room_ok rates marks ≡ true → room_ok rates vs ≡ true
unfolding room_ok
follows-room [] marks vs w l h = refl
follows-room (r ∷ rates) marks [] w l h = refl
follows-room (r ∷ rates) [] (v ∷ vs) w l h = absurd (omega arith)
follows-room (r ∷ rates) (m ∷ marks) (v ∷ vs) w l h =
    let g = both (slot_ok r m) _ h in
    let k = both (not (again r m rates marks)) _ g.1 in
    rw (
      follows-ok r m v (w 0) g.0,
      follows-again r m v rates marks vs (w 0) (λ i. w (suc i)) (omega arith) k.0,
    )
    (follows-room rates marks vs (λ i. w (suc i)) (omega arith) k.1)

-- ---- a set that no slot has, in a free slot
set-some : (test : Float → ℕ → Bool) (rates : List Float) (marks : List ℕ) (k : ℕ) (x : Float) (v : ℕ)
    → some test rates marks ≡ false → test x v ≡ false → some test (set rates k x) (set marks k v) ≡ false
unfolding some
set-some test [] marks k x v h t = refl
set-some test (r ∷ rates) [] zero x v h t = refl
set-some test (r ∷ rates) [] (suc k) x v h t = refl
set-some test (r ∷ rates) (m ∷ marks) zero x v h t = rw t (none (test r m) _ h).1
set-some test (r ∷ rates) (m ∷ marks) (suc k) x v h t =
    let g = none (test r m) (some test rates marks) h in rw g.0 (set-some test rates marks k x v g.1 t)

module _ (desk : Desk) (rate : Float) (mode : Mode) (f64 : fits binary64 rate ≡ true) (ok : rate_ok rate ≡ true) where
  abbrev v : ℕ
  v = built_by desk mode

  -- A held slot that has not the set does not have it either as it is built.
  other : (r : Float) (m : ℕ) → fits binary64 r ≡ true → slot_ok r m ≡ true → is_free m ≡ false
      → has_set rate mode r m ≡ false → has_set r (mode_in m) rate v ≡ false
  other r m f s h n = by (has_set r (mode_in m) rate v) refl
    where
      by : (b : Bool) → has_set r (mode_in m) rate v ≡ b → b ≡ false
      by false e = refl
      by true e =
          let g = both (in_mode (mode_in m) v) _ (both (not (is_free v)) _ e).1 in
          let k = both (mark_ok m) _ s in
          let held : rate_ok r ≡ true = rw h at k.1 in
          let same : mode_in m ≡ mode =
          sym (own-mode (mode_in m) v (built-ok desk mode).0 g.0) ∙ (built-ok desk mode).2 in
          let q : r ≡ rate = same-rate r rate f f64 held g.1 in
          let in-it : in_mode mode m ≡ true = rw same at (mode-by m k.0) in
          let equal : eq rate r ≡ true = rw (sym q) (equal-itself r (rate-positive r held)) in
          absurd (true≢false (sym (rw (h, in-it, equal)) ∙ n))

  pub anew-room : (rates : List Float) (marks : List ℕ) (k : ℕ) → ((i : ℕ) → fits binary64 (get_or rates i nan) ≡ true)
      → some (has_set rate mode) rates marks ≡ false → room_ok rates marks ≡ true
      → room_ok (set rates k rate) (set marks k v) ≡ true
  unfolding room_ok some
  anew-room [] marks k f n h = refl
  anew-room (r ∷ rates) [] zero f n h = refl
  anew-room (r ∷ rates) [] (suc k) f n h = refl
  anew-room (r ∷ rates) (m ∷ marks) zero f n h =
      let g = both (slot_ok r m) _ h in
      let k = both (not (again r m rates marks)) _ g.1 in
      let b = built-ok desk mode in
      rw (b.0, b.1, b.2, ok, (none (has_set rate mode r m) _ n).1) k.1
  anew-room (r ∷ rates) (m ∷ marks) (suc k) f n h =
      let g = both (slot_ok r m) _ h in
      let a = both (not (again r m rates marks)) _ g.1 in
      let e = none (has_set rate mode r m) (some (has_set rate mode) rates marks) n in
      rw (g.0, later (is_free m) refl g.0 a.0 e.0) (anew-room rates marks k (λ i. f (suc i)) e.1 a.1)
    where
      later : (b : Bool) → is_free m ≡ b → slot_ok r m ≡ true → not (again r m rates marks) ≡ true
          → has_set rate mode r m ≡ false → not (again r m (set rates k rate) (set marks k v)) ≡ true
      later true e s a h = rw e
      later false e s a h =
          rw (
            e,
            set-some (has_set r (mode_in m)) rates marks k rate v
                (not-true (some (has_set r (mode_in m)) rates marks) (rw e at a)) (other r m (f 0) s e h),
          )
