-- W8b. A reading whose held taps avoid the samples that differ reads the same of both rings, where it depends on its
-- taps alone (`Local`), and its absent taps are the same in any case. Assumes nothing.
use mathlib.Core.Path.{◌≡◌, refl, sym, ◌∙◌, ap}
use mathlib.Core.Bool.{Bool, true, false}
use mathlib.Core.List.{List}
use Prim.Native.Nat.{ℕ, suc, ◌+◌, ◌%◌, ◌<◌, ◌≤◌}
use native.Mathlib.Nat.{mod-lt, lt_of_not-le, le_antisymm}
use native.Mathlib.Omega.{arith}
use borrow.Author.Tests.{ltb-true, leb-true, lt-ltb, le-leb}
use lib.Dec.{leb, ltb}
use lib.IntN.{ℤ, pos, negsuc, ◌+ℤ◌}
use lib.ListN.{length, get_or}
use lib.Ieee.{Float, nan}
use Rattle.ring.specs.Taps.{held, ahead, overwritten, pick, tap_at, value_of}
use Rattle.absent_taps.specs.Absent.{absent_at, first_tap}
use Rattle.absent_taps.proofs.Laws.{by_length}
use Rattle.reads.specs.Local.{Alike, Local}
use Rattle.variable_delay.specs.Reader.{Reading}
use Rattle.runs.specs.Filled.{stored_from}
use Rattle.runs.proofs.Filled.{apart}
use Rattle.aging.specs.Damage.{Same, Held, Avoid}
use Rattle.aging.proofs.Rings as rings

-- Two numbers that are both held stand at different places.
one_place : (len count j k : ℕ) → j < count → count ≤ j + len → k < count → count ≤ k + len → j % len ≡ k % len → j ≡ k
one_place len count j k a b c d e =
    le_antisymm (at_most j k a d e) (at_most k j c b (sym e))
  where
    at_most : (u v : ℕ) → u < count → count ≤ v + len → u % len ≡ v % len → u ≤ v
    at_most u v p q e =
        let l : u < suc v = lt_of_not-le {n = suc v} {m = u} (λ l. apart v u len l (omega arith) (sym e)) in omega arith

module _ (before : ℕ) (xs ss ts : List Float) (e : length ss ≡ length ts) where
  abbrev one : List Float
  one = stored_from before xs ss

  abbrev other : List Float
  other = stored_from before xs ts

  abbrev count : ℕ
  count = before + length ss

  tap : (z : ℤ) → ((i : ℕ) → z ≡ pos (before + i) → Held (length xs) ss i → Same ss ts i)
      → tap_at one count z ≡ tap_at other count z
  tap (negsuc k) avoid = refl
  tap (pos k) avoid =
      rw (rings.long before xs ss ts e, rings.long-too before xs ss ts e)
      (go (ltb k count) (leb count (k + length xs)) refl refl)
    where
      go : (a b : Bool) → ltb k count ≡ a → leb count (k + length xs) ≡ b
          → pick a (pick b (held (get_or one (k % length xs) nan)) overwritten) ahead
          ≡ pick a (pick b (held (get_or other (k % length xs) nan)) overwritten) ahead
      go true true p q =
          let l : k < count = ltb-true k count p in
          let g : count ≤ k + length xs = leb-true count (k + length xs) q in
          ap held
          (rings.places before xs ss ts e (k % length xs) (mod-lt k {m = length xs} (omega arith))
          (λ i s h.
          let here = h.stored in
          let kept = h.kept in
          avoid i (ap pos (sym (one_place (length xs) count (before + i) k (omega arith) (omega arith) l g s))) h))
      go true false p q = refl
      go false b p q = refl

  pub alike : (z : ℤ) (n : ℕ) → Avoid before (length xs) ss ts z n → Alike one count other count z n
  alike z n avoid k l = ap value_of (tap (z +ℤ pos k) (avoid k l))

  pub reads : (n : ℕ) (read : Reading) → Local n read → (p : Float)
      → Avoid before (length xs) ss ts (first_tap p n) n → read one count p ≡ read other count p
  reads n read local p avoid = local one other count count p (alike (first_tap p n) n avoid)

  -- W7e. What is told of absent taps does not depend on what the rings hold.
  pub told : (p : Float) (n : ℕ) → absent_at one count p n ≡ absent_at other count p n
  told p n = by_length one other (rings.long before xs ss ts e ∙ sym (rings.long-too before xs ss ts e)) count p n

-- `Held` is ring's definition of a held tap.
module _ (before : ℕ) (xs ss : List Float) where
  pub held-tap : (i : ℕ) → Held (length xs) ss i
      → tap_at (stored_from before xs ss) (before + length ss) (pos (before + i))
      ≡ held (get_or (stored_from before xs ss) ((before + i) % length xs) nan)
  held-tap i h =
      let here = h.stored in
      let kept = h.kept in
      rw (
        rings.long before xs ss ss refl,
        lt-ltb (before + i) (before + length ss) (omega arith),
        le-leb (before + length ss) (before + i + length xs) (omega arith),
      )
