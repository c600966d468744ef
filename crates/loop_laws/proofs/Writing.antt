-- The invariant of a loop that writes a lent list `&mut xs[k]` from the front on, for any rule for an element. Assumes
-- nothing.
use mathlib.Core.Path.{◌≡◌, refl, ap, ◌∙◌}
use mathlib.Core.List.{List}
use Prim.Native.Nat.{ℕ, ◌+◌, ◌≤◌, ◌<◌}
use native.Mathlib.Omega.{arith}
use lib.ListN.{length, take, set, length-set}
use Rattle.loop_laws.specs.Loops.{list_of}
use Rattle.loop_laws.proofs.Lists.{nothing, written, whole}

-- The list is as long as it was lent, and its first k elements are written.
pub record Written {A : Type 0} (f : ℕ → A) (lent xs : List A) (k : ℕ) : Type 0 where
  pub long : length xs ≡ length lent
  pub most : k ≤ length xs
  pub front : take k xs ≡ list_of f k

pub unwritten : {A : Type 0} {f : ℕ → A} {xs : List A} → Written f xs xs 0
unwritten {f = f} {xs} = record { long = refl; most = omega arith; front = nothing f xs }

module _ {A : Type 0} {f : ℕ → A} {lent xs : List A} {k : ℕ} (w : Written f lent xs k) where
  pub written-more : {v : A} → k < length xs → v ≡ f k → Written f lent (set xs k v) (k + 1)
  written-more {v} h e =
      record {
        long = simp length-set w.long;
        most = simp length-set (omega arith);
        front = written f xs k v h w.front e;
      }

  pub all-written : length xs ≤ k → xs ≡ list_of f (length lent)
  all-written h =
      let e : k ≡ length xs = omega (arith, w.most) in
      whole f xs k e w.front ∙ ap (list_of f) (e ∙ w.long)
