-- A list whose first elements a loop writes by a rule, while it leaves the others. Assumes nothing.
use mathlib.Core.Path.{◌≡◌, refl, sym, ap, ◌∙◌}
use mathlib.Core.List.{List, ◌++◌}
use Prim.Native.Nat.{ℕ, suc, ◌+◌, ◌<◌}
use native.Mathlib.Numerals.{add-one}
use native.Mathlib.Omega.{arith}
use lib.ListN.{length, take, drop, set, length-set, take-append-drop}
use lib.Seq.{drop-drop, drop-set-lt}
use lib.Ieee.{Float}
use Rattle.loop_laws.specs.Loops.{list_of}
use Rattle.loop_laws.proofs.Lists.{nothing, written}

pub record Front (f : ℕ → Float) (lent xs : List Float) (k : ℕ) : Type 0 where
  pub long : length xs ≡ length lent
  pub front : take k xs ≡ list_of f k
  pub rest : drop k xs ≡ drop k lent

pub begun : {f : ℕ → Float} {xs : List Float} → Front f xs xs 0
begun {f} {xs} = record { long = refl; front = nothing f xs; rest = refl }

module _ {f : ℕ → Float} {lent xs : List Float} {k : ℕ} (w : Front f lent xs k) where
  pub one_more : {v : Float} → k < length xs → v ≡ f k → Front f lent (set xs k v) (k + 1)
  one_more {v} h e =
      record {
        long = simp length-set w.long;
        front = written f xs k v h w.front e;
        rest =
            rw add-one (drop-set-lt (suc k) xs k v (omega arith)
            ∙ rw add-one at (sym (drop-drop 1 k xs) ∙ ap (drop 1) w.rest ∙ drop-drop 1 k lent));
      }

  pub ended : xs ≡ list_of f k ++ drop k lent
  ended = sym (take-append-drop k xs) ∙ rw (w.front, w.rest)
