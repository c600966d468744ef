-- What a call on plain numbers gives if every number names something, and if one does not. A refusal keeps what stood
-- there. Assumes nothing.
use mathlib.Core.Path.{◌≡◌, refl}
use mathlib.Core.Bool.{Bool, true, false}
use mathlib.Core.List.{List}
use Prim.Native.Nat.{ℕ, zero, suc, ◌≤◌}
use native.Mathlib.Omega.{arith}
use borrow.Author.Tests.{leb-true}
use lib.Ieee.{Float}
use Rattle.answer_parts.specs.Left.{renews}
use Rattle.quality_mode.specs.Quality.{code_of}
use Rattle.returning_fade.specs.Rules.{rule_code}
use Rattle.quality_codes.specs.Codes.{mode_of, code_ok, rule_of}
use Rattle.quality_codes.specs.declared.Called.{Called}
use Rattle.quality_codes.specs.Calls.{pick_called, pick_ring}
use Rattle.quality_codes.specs.Left.{Begun, unless_refused}

pub served : (b : Bool) (x y : Called) → b ≡ true → x ≡ pick_called b x y
served b x y h = rw h

pub not-served : (b : Bool) (x y : Called) → b ≡ false → y ≡ pick_called b x y
not-served b x y h = rw h

pub ring-served : (b : Bool) (xs ys : List Float) → b ≡ true → xs ≡ pick_ring b xs ys
ring-served b xs ys h = rw h

pub ring-not-served : (b : Bool) (xs ys : List Float) → b ≡ false → ys ≡ pick_ring b xs ys
ring-not-served b xs ys h = rw h

-- An opening that was refused, and one that was not; n is the number that the code found.
pub kept : (m : ℕ) {n : ℕ} (before after : Begun) {xs ys : List Float}
    → n ≡ m → (n ≡ 0 → ⊥) → xs ≡ ys → renews n before xs ≡ renews m (unless_refused m before after) ys
kept zero before after e h x = absurd (h e)
kept (suc k) before after e h x = rw (e, x)

pub given : (m : ℕ) {n : ℕ} (before after : Begun) {w : Begun} {xs ys : List Float}
    → n ≡ m → n ≡ 0 → w ≡ after → xs ≡ ys → renews 0 w xs ≡ renews m (unless_refused m before after) ys
given zero before after e z w x = rw (w, x)
given (suc k) before after e z w x = absurd (omega arith)

-- D1c. A quality that goes in as a number comes out as the same number, so that a refused call leaves both numbers of
-- the state as they were.
pub same_code : (c : ℕ) → code_ok c ≡ true → code_of (mode_of c) ≡ c
same_code zero h = refl
same_code (suc zero) h = refl
same_code (suc (suc zero)) h = refl
same_code (suc (suc (suc zero))) h = refl
same_code (suc (suc (suc (suc k)))) h = let l = leb-true (suc (suc (suc (suc k)))) 3 h in absurd (omega arith)

pub same-rule : (c : ℕ) → c ≤ 1 → rule_code (rule_of c) ≡ c
same-rule zero h = refl
same-rule (suc zero) h = refl
same-rule (suc (suc k)) h = absurd (omega arith)
