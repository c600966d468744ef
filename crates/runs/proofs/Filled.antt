-- What a ring holds after samples were stored in turn since opening: the last `len` of them, each at its number modulo
-- the length, and zeros where none was stored yet. By an invariant of every store. Assumes nothing.
use mathlib.Core.Path.{◌≡◌, refl, sym, ◌∙◌, ap, subst}
use mathlib.Core.Bool.{Bool, true, false}
use mathlib.Core.List.{List, [], ◌∷◌, ◌++◌, append_assoc, append-nil}
use mathlib.Core.Logic.{◌≢◌, ⊎_elim}
use Prim.Native.Nat.{ℕ, ◌+◌, ◌/◌, ◌%◌, ◌<◌, ◌≤◌}
use native.Mathlib.Nat.{div-add-mod', mul-le-mul_right, mod-lt, mod-eq_of_lt, lt_of_not-le, eq-or-lt_of_le}
use native.Mathlib.Omega.{arith}
use borrow.Author.Tests.{ltb-true, leb-true}
use lib.Dec.{leb, ltb}
use lib.IntN.{ℤ, pos, negsuc}
use lib.ListN.{length, get_or, set, length-append, length-set, length-replicate, get_or-replicate, get_or-append}
use lib.Seq.{get_or-set_same, get_or-set_other, get_or-append_seam}
use lib.Ieee.{Float, nan, fin}
use Rattle.ring.specs.Length.{zeros}
use Rattle.ring.specs.Taps.{held, ahead, overwritten, pick, tap_at}
use Rattle.variable_delay.specs.Reader.{stored}
use Rattle.runs.specs.Filled.{stored_from, filled, numbered}

-- xs holds the last of the samples ss.
pub record Holds (len : ℕ) (ss xs : List Float) : Type 0 where
  pub long : length xs ≡ len
  pub last : (j : ℕ) → j < length ss → length ss ≤ j + len → get_or xs (j % len) nan ≡ get_or ss j nan
  pub rest : (k : ℕ) → k < len → length ss ≤ k → get_or xs k nan ≡ fin false 0 (pos 0)

-- Two numbers less than a length apart stand at different places.
pub apart : (j n len : ℕ) → j < n → n < j + len → j % len ≢ n % len
apart j n len h l e =
    let a = div-add-mod' j len in
    let b = div-add-mod' n len in
    let q : j / len < n / len = lt_of_not-le (λ q. omega (arith, mul-le-mul_right len q)) in
    omega (arith, mul-le-mul_right len q)

none : (len : ℕ) → Holds len [] (zeros len)
none len =
    record {
      long = length-replicate len _;
      last = λ j h l. absurd (omega arith);
      rest = λ k h l. get_or-replicate len k _ nan h;
    }

more : (len : ℕ) (ss xs : List Float) (s : Float) → Holds len ss xs → Holds len (ss ++ s ∷ []) (stored (length ss) xs s)
more len ss xs s h =
    let n : length (ss ++ s ∷ []) ≡ length ss + 1 = length-append ss (s ∷ []) in
    let at : stored (length ss) xs s ≡ set xs (length ss % len) s = rw h.long in
    rw at record {
      long = length-set xs _ s ∙ h.long;
      last = λ j l g.
          ⊎_elim
          (λ (e : j ≡ length ss). rw (
            e,
            get_or-append_seam ss s [],
            get_or-set_same xs (length ss % len) s nan (rw h.long (mod-lt (length ss) {m = len} (omega arith))),
          ))
          (λ (q : j < length ss).
          get_or-set_other xs (length ss % len) (j % len) s nan (apart j (length ss) len q (omega arith))
          ∙ h.last j q (omega arith)
          ∙ sym (get_or-append ss (s ∷ []) nan j q))
          (eq-or-lt_of_le {n = j} {m = length ss} (omega arith));
      rest =
          λ k l g. get_or-set_other xs (length ss % len) k s nan
          (λ e. omega (arith, mod-eq_of_lt {n = length ss} {m = len} (omega arith)))
          ∙ h.rest k l (omega arith);
    }

all : (len : ℕ) (ts ss xs : List Float) → Holds len ss xs → Holds len (ss ++ ts) (stored_from (length ss) xs ts)
unfolding stored_from
all len [] ss xs h = rw (append-nil ss) h
all len (t ∷ ts) ss xs h =
    subst (λ (l : List Float). Holds len l (stored_from (length ss + 1) (stored (length ss) xs t) ts))
    (append_assoc ss (t ∷ []) ts)
    (subst (λ (n : ℕ). Holds len (ss ++ t ∷ [] ++ ts) (stored_from n (stored (length ss) xs t) ts))
    (length-append ss (t ∷ []))
    (all len ts (ss ++ t ∷ []) (stored (length ss) xs t) (more len ss xs t h)))

pub filled-holds : (len : ℕ) (ss : List Float) → Holds len ss (filled len ss)
filled-holds len ss = all len ss [] (zeros len) (none len)

pub tap-numbered : (len : ℕ) (ss : List Float) (z : ℤ) → tap_at (filled len ss) (length ss) z ≡ numbered len ss z
tap-numbered len ss (negsuc k) = refl
tap-numbered len ss (pos k) =
    rw (filled-holds len ss).long (go (ltb k (length ss)) (leb (length ss) (k + len)) refl refl)
  where
    go : (a b : Bool) → ltb k (length ss) ≡ a → leb (length ss) (k + len) ≡ b
        → pick a (pick b (held (get_or (filled len ss) (k % len) nan)) overwritten) ahead
        ≡ pick a (pick b (held (get_or ss k nan)) overwritten) ahead
    go true true p q =
        ap held ((filled-holds len ss).last k (ltb-true k (length ss) p) (leb-true (length ss) (k + len) q))
    go true false p q = refl
    go false b p q = refl
