-- What a mark becomes by a call, for the slot's range: it stays held in its mode, or it is free. Assumes nothing.
use mathlib.Core.Path.{◌≡◌, refl, sym}
use mathlib.Core.Bool.{Bool, true, false, true≢false, ◌&&◌}
use Prim.Native.Nat.{ℕ, zero, suc}
use native.Mathlib.Omega.{arith}
use lib.Dec.{ltb}
use Rattle.bessel.specs.declared.Mode.{Mode}
use Rattle.bessel.specs.declared.Mode.TheVariants.{Ported, Full}
use Rattle.room_marks.specs.declared.Desk.{Desk}
use Rattle.room_marks.specs.declared.Desk.TheVariants.{One, Two}
use Rattle.room_runs.specs.Turns.{same_mode}
use Rattle.room_marks.proofs.MarkNumbers.{mark-most}
use Rattle.room_marks.specs.Marks.{mark_ok, is_free, held_by, other_desk, in_mode, mode_in, built_by, shared_by}
use Rattle.room_marks.specs.Marks.{left_by}

-- A mark that follows another: it is free, or it is held or free as the other is, in the same mode.
pub data Follows (m : ℕ) : ℕ → Type 0 where
  freed : Follows m 0
  stays : {v : ℕ} → is_free v ≡ is_free m → ltb v 4 ≡ ltb m 4 → (mark_ok m ≡ true → mark_ok v ≡ true) → Follows m v

pub itself : (m : ℕ) → Follows m m
itself m = stays refl refl (λ h. h)

-- The eight marks that say something, and the rest.
pub data Mark : ℕ → Type 0 where
  m0 : Mark 0
  m1 : Mark 1
  m2 : Mark 2
  m3 : Mark 3
  m5 : Mark 5
  m6 : Mark 6
  m7 : Mark 7

pub mark_of : (m : ℕ) → mark_ok m ≡ true → Mark m
mark_of zero h = m0
mark_of (suc zero) h = m1
mark_of (suc (suc zero)) h = m2
mark_of (suc (suc (suc zero))) h = m3
mark_of (suc (suc (suc (suc zero)))) h = absurd (true≢false (sym h))
mark_of (suc (suc (suc (suc (suc zero))))) h = m5
mark_of (suc (suc (suc (suc (suc (suc zero)))))) h = m6
mark_of (suc (suc (suc (suc (suc (suc (suc zero))))))) h = m7
mark_of (suc (suc (suc (suc (suc (suc (suc (suc m)))))))) h =
    let k = mark-most (suc (suc (suc (suc (suc (suc (suc (suc m)))))))) h in absurd (omega arith)

pub shares : (d : Desk) (m : ℕ) → mark_ok m ≡ true → is_free m ≡ false → Follows m (shared_by d m)
shares d m h f = by d (mark_of m h) f
  where
    by : (d : Desk) {m : ℕ} → Mark m → is_free m ≡ false → Follows m (shared_by d m)
    by d m0 f = absurd (true≢false f)
    by One m1 f = stays refl refl (λ h. refl)
    by One m2 f = stays refl refl (λ h. refl)
    by One m3 f = stays refl refl (λ h. refl)
    by One m5 f = stays refl refl (λ h. refl)
    by One m6 f = stays refl refl (λ h. refl)
    by One m7 f = stays refl refl (λ h. refl)
    by Two m1 f = stays refl refl (λ h. refl)
    by Two m2 f = stays refl refl (λ h. refl)
    by Two m3 f = stays refl refl (λ h. refl)
    by Two m5 f = stays refl refl (λ h. refl)
    by Two m6 f = stays refl refl (λ h. refl)
    by Two m7 f = stays refl refl (λ h. refl)

pub leaves : (d : Desk) (m : ℕ) → mark_ok m ≡ true → held_by d m ≡ true → Follows m (left_by d m)
leaves d m h f = by d (mark_of m h) f
  where
    by : (d : Desk) {m : ℕ} → Mark m → held_by d m ≡ true → Follows m (left_by d m)
    by One m0 f = absurd (true≢false (sym f))
    by One m1 f = freed
    by One m2 f = absurd (true≢false (sym f))
    by One m3 f = stays refl refl (λ h. refl)
    by One m5 f = freed
    by One m6 f = absurd (true≢false (sym f))
    by One m7 f = stays refl refl (λ h. refl)
    by Two m0 f = absurd (true≢false (sym f))
    by Two m1 f = absurd (true≢false (sym f))
    by Two m2 f = freed
    by Two m3 f = stays refl refl (λ h. refl)
    by Two m5 f = absurd (true≢false (sym f))
    by Two m6 f = freed
    by Two m7 f = stays refl refl (λ h. refl)

pub built-ok : (d : Desk) (mode : Mode) → (mark_ok (built_by d mode) ≡ true) × (is_free (built_by d mode) ≡ false)
    × (mode_in (built_by d mode) ≡ mode)
built-ok One Ported = (refl, refl, refl)
built-ok One Full = (refl, refl, refl)
built-ok Two Ported = (refl, refl, refl)
built-ok Two Full = (refl, refl, refl)

-- A mark is in one mode, its own.
pub own-mode : (mode : Mode) (m : ℕ) → mark_ok m ≡ true → in_mode mode m ≡ true → mode_in m ≡ mode
own-mode mode m h i = by mode (mark_of m h) i
  where
    by : (mode : Mode) {m : ℕ} → Mark m → in_mode mode m ≡ true → mode_in m ≡ mode
    by Ported m0 i = refl
    by Ported m1 i = refl
    by Ported m2 i = refl
    by Ported m3 i = refl
    by Ported m5 i = absurd (true≢false (sym i))
    by Ported m6 i = absurd (true≢false (sym i))
    by Ported m7 i = absurd (true≢false (sym i))
    by Full m0 i = absurd (true≢false (sym i))
    by Full m1 i = absurd (true≢false (sym i))
    by Full m2 i = absurd (true≢false (sym i))
    by Full m3 i = absurd (true≢false (sym i))
    by Full m5 i = refl
    by Full m6 i = refl
    by Full m7 i = refl

pub mode-by : (m : ℕ) → mark_ok m ≡ true → in_mode (mode_in m) m ≡ true
mode-by m h = by (mark_of m h)
  where
    by : {m : ℕ} → Mark m → in_mode (mode_in m) m ≡ true
    by m0 = refl
    by m1 = refl
    by m2 = refl
    by m3 = refl
    by m5 = refl
    by m6 = refl
    by m7 = refl

-- Whoever holds a slot: it is not free.
pub not_free : (d : Desk) (m : ℕ) → mark_ok m ≡ true → held_by d m ≡ true → is_free m ≡ false
not_free d m h f = by d (mark_of m h) f
  where
    by : (d : Desk) {m : ℕ} → Mark m → held_by d m ≡ true → is_free m ≡ false
    by One m0 f = absurd (true≢false (sym f))
    by Two m0 f = absurd (true≢false (sym f))
    by d m1 f = refl
    by d m2 f = refl
    by d m3 f = refl
    by d m5 f = refl
    by d m6 f = refl
    by d m7 f = refl

-- ---- who holds a mark that a call has made
pub shared-holds : (d : Desk) (m : ℕ) → mark_ok m ≡ true → is_free m ≡ false → held_by d (shared_by d m) ≡ true
shared-holds d m h f = by d (mark_of m h) f
  where
    by : (d : Desk) {m : ℕ} → Mark m → is_free m ≡ false → held_by d (shared_by d m) ≡ true
    by d m0 f = absurd (true≢false f)
    by One m1 f = refl
    by One m2 f = refl
    by One m3 f = refl
    by One m5 f = refl
    by One m6 f = refl
    by One m7 f = refl
    by Two m1 f = refl
    by Two m2 f = refl
    by Two m3 f = refl
    by Two m5 f = refl
    by Two m6 f = refl
    by Two m7 f = refl

-- The other desk holds what it held.
pub shared-other : (d : Desk) (m : ℕ) → mark_ok m ≡ true → is_free m ≡ false
    → held_by d (shared_by (other_desk d) m) ≡ held_by d m
shared-other d m h f = by d (mark_of m h) f
  where
    by : (d : Desk) {m : ℕ} → Mark m → is_free m ≡ false → held_by d (shared_by (other_desk d) m) ≡ held_by d m
    by d m0 f = absurd (true≢false f)
    by One m1 f = refl
    by One m2 f = refl
    by One m3 f = refl
    by One m5 f = refl
    by One m6 f = refl
    by One m7 f = refl
    by Two m1 f = refl
    by Two m2 f = refl
    by Two m3 f = refl
    by Two m5 f = refl
    by Two m6 f = refl
    by Two m7 f = refl

pub shared-mode : (d : Desk) (mode : Mode) (m : ℕ) → mark_ok m ≡ true → is_free m ≡ false
    → in_mode mode (shared_by d m) ≡ in_mode mode m
shared-mode d mode m h f = by d mode (mark_of m h) f
  where
    by : (d : Desk) (mode : Mode) {m : ℕ} → Mark m → is_free m ≡ false → in_mode mode (shared_by d m) ≡ in_mode mode m
    by d mode m0 f = absurd (true≢false f)
    by One Ported m1 f = refl
    by One Ported m2 f = refl
    by One Ported m3 f = refl
    by One Ported m5 f = refl
    by One Ported m6 f = refl
    by One Ported m7 f = refl
    by One Full m1 f = refl
    by One Full m2 f = refl
    by One Full m3 f = refl
    by One Full m5 f = refl
    by One Full m6 f = refl
    by One Full m7 f = refl
    by Two Ported m1 f = refl
    by Two Ported m2 f = refl
    by Two Ported m3 f = refl
    by Two Ported m5 f = refl
    by Two Ported m6 f = refl
    by Two Ported m7 f = refl
    by Two Full m1 f = refl
    by Two Full m2 f = refl
    by Two Full m3 f = refl
    by Two Full m5 f = refl
    by Two Full m6 f = refl
    by Two Full m7 f = refl

-- A set in one mode is in that mode alone.
pub mode-alone : (mode other : Mode) (m : ℕ) → mark_ok m ≡ true → in_mode mode m ≡ true
    → in_mode other m ≡ same_mode mode other
mode-alone mode other m h i = by mode other (mark_of m h) i
  where
    by : (mode other : Mode) {m : ℕ} → Mark m → in_mode mode m ≡ true → in_mode other m ≡ same_mode mode other
    by Ported Ported m0 i = refl
    by Ported Ported m1 i = refl
    by Ported Ported m2 i = refl
    by Ported Ported m3 i = refl
    by Ported Ported m5 i = absurd (true≢false (sym i))
    by Ported Ported m6 i = absurd (true≢false (sym i))
    by Ported Ported m7 i = absurd (true≢false (sym i))
    by Ported Full m0 i = refl
    by Ported Full m1 i = refl
    by Ported Full m2 i = refl
    by Ported Full m3 i = refl
    by Ported Full m5 i = absurd (true≢false (sym i))
    by Ported Full m6 i = absurd (true≢false (sym i))
    by Ported Full m7 i = absurd (true≢false (sym i))
    by Full Ported m0 i = absurd (true≢false (sym i))
    by Full Ported m1 i = absurd (true≢false (sym i))
    by Full Ported m2 i = absurd (true≢false (sym i))
    by Full Ported m3 i = absurd (true≢false (sym i))
    by Full Ported m5 i = refl
    by Full Ported m6 i = refl
    by Full Ported m7 i = refl
    by Full Full m0 i = absurd (true≢false (sym i))
    by Full Full m1 i = absurd (true≢false (sym i))
    by Full Full m2 i = absurd (true≢false (sym i))
    by Full Full m3 i = absurd (true≢false (sym i))
    by Full Full m5 i = refl
    by Full Full m6 i = refl
    by Full Full m7 i = refl

pub built-holds : (d : Desk) (mode : Mode) → held_by d (built_by d mode) ≡ true
built-holds One Ported = refl
built-holds One Full = refl
built-holds Two Ported = refl
built-holds Two Full = refl

pub built-other : (d : Desk) (mode : Mode) → held_by d (built_by (other_desk d) mode) ≡ false
built-other One Ported = refl
built-other One Full = refl
built-other Two Ported = refl
built-other Two Full = refl

pub built-mode : (d : Desk) (mode other : Mode) → in_mode other (built_by d mode) ≡ same_mode mode other
built-mode One Ported Ported = refl
built-mode One Ported Full = refl
built-mode One Full Ported = refl
built-mode One Full Full = refl
built-mode Two Ported Ported = refl
built-mode Two Ported Full = refl
built-mode Two Full Ported = refl
built-mode Two Full Full = refl

pub free-held : (d : Desk) → held_by d 0 ≡ false
free-held One = refl
free-held Two = refl

-- Whoever gives a set up no longer holds it.
pub left-own : (d : Desk) (m : ℕ) → mark_ok m ≡ true → held_by d m ≡ true → held_by d (left_by d m) ≡ false
left-own d m h f = by d (mark_of m h) f
  where
    by : (d : Desk) {m : ℕ} → Mark m → held_by d m ≡ true → held_by d (left_by d m) ≡ false
    by One m0 f = absurd (true≢false (sym f))
    by One m1 f = refl
    by One m2 f = absurd (true≢false (sym f))
    by One m3 f = refl
    by One m5 f = refl
    by One m6 f = absurd (true≢false (sym f))
    by One m7 f = refl
    by Two m0 f = absurd (true≢false (sym f))
    by Two m1 f = absurd (true≢false (sym f))
    by Two m2 f = refl
    by Two m3 f = refl
    by Two m5 f = absurd (true≢false (sym f))
    by Two m6 f = refl
    by Two m7 f = refl

-- The other desk holds what it held, in its mode.
pub left_other : (d : Desk) (mode : Mode) (m : ℕ) (b : Bool) → mark_ok m ≡ true → held_by (other_desk d) m ≡ true
    → held_by d (left_by (other_desk d) m) && (in_mode mode (left_by (other_desk d) m) && b)
    ≡ held_by d m && (in_mode mode m && b)
left_other d mode m b h f = by d mode (mark_of m h) f
  where
    by : (d : Desk) (mode : Mode) {m : ℕ} → Mark m → held_by (other_desk d) m ≡ true
        → held_by d (left_by (other_desk d) m) && (in_mode mode (left_by (other_desk d) m) && b)
        ≡ held_by d m && (in_mode mode m && b)
    by One Ported m0 f = absurd (true≢false (sym f))
    by One Ported m1 f = absurd (true≢false (sym f))
    by One Ported m2 f = refl
    by One Ported m3 f = refl
    by One Ported m5 f = absurd (true≢false (sym f))
    by One Ported m6 f = refl
    by One Ported m7 f = refl
    by One Full m0 f = absurd (true≢false (sym f))
    by One Full m1 f = absurd (true≢false (sym f))
    by One Full m2 f = refl
    by One Full m3 f = refl
    by One Full m5 f = absurd (true≢false (sym f))
    by One Full m6 f = refl
    by One Full m7 f = refl
    by Two Ported m0 f = absurd (true≢false (sym f))
    by Two Ported m1 f = refl
    by Two Ported m2 f = absurd (true≢false (sym f))
    by Two Ported m3 f = refl
    by Two Ported m5 f = refl
    by Two Ported m6 f = absurd (true≢false (sym f))
    by Two Ported m7 f = refl
    by Two Full m0 f = absurd (true≢false (sym f))
    by Two Full m1 f = refl
    by Two Full m2 f = absurd (true≢false (sym f))
    by Two Full m3 f = refl
    by Two Full m5 f = refl
    by Two Full m6 f = absurd (true≢false (sym f))
    by Two Full m7 f = refl
