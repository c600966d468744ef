-- Whether a bank has a set, by how many whole sets it holds; and how long a set is. Assumes nothing.
use mathlib.Core.Path.{◌≡◌, refl}
use mathlib.Core.Bool.{Bool, true, false, ◌&&◌}
use mathlib.Core.List.{List}
use Prim.Native.Nat.{ℕ, ◌+◌, ◌*◌, ◌/◌, ◌≤◌, ◌<◌}
use native.Mathlib.Nat.{le-div_iff_mul-le, div-lt_iff_lt-mul}
use native.Mathlib.Omega.{arith}
use borrow.Author.Tests.{leb-true, leb-false, lt-ltb, le-ltb}
use lib.Dec.{leb, ltb}
use lib.ListN.{length, length-take, length-drop}
use lib.Ieee.{Float}
use Rattle.bank_choice.specs.declared.Choice.{Choice}
use Rattle.bank_read.specs.Bank.{set_at}
use Rattle.bank_read.specs.Inner.{sets_ok}

-- The same for sets of any length n.
module _ (n : ℕ) (some : 0 < n) where
  has : (k len : ℕ) → ltb k (len / n) ≡ leb ((k + 1) * n) len
  has k len = go (leb ((k + 1) * n) len) refl
    where
      go : (b : Bool) → leb ((k + 1) * n) len ≡ b → ltb k (len / n) ≡ b
      go true e =
          let l : k + 1 ≤ len / n = (le-div_iff_mul-le some).1 (leb-true ((k + 1) * n) len e) in
          lt-ltb k (len / n) (omega arith)
      go false e =
          let m : len / n < k + 1 = (div-lt_iff_lt-mul some).1 (leb-false ((k + 1) * n) len e) in
          le-ltb k (len / n) (omega arith)

pub has-set : (k len : ℕ) → ltb k (len / 1081648) ≡ leb ((k + 1) * 1081648) len
has-set k len = has 1081648 (omega arith) k len

pub set-length : (sets : List Float) (k : ℕ) → (k + 1) * 1081648 ≤ length sets → length (set_at sets k) ≡ 1081648
unfolding set_at
set-length sets k l = simp (length-take, length-drop) (omega arith)

pub both-held : (c : Choice) (n : ℕ) → sets_ok c n ≡ true
    → ((c.safe + 1) * 1081648 ≤ n) × ((c.tighter + 1) * 1081648 ≤ n)
both-held c n h = go (leb ((c.safe + 1) * 1081648) n) (leb ((c.tighter + 1) * 1081648) n) refl refl h
  where
    go : (a b : Bool) → leb ((c.safe + 1) * 1081648) n ≡ a → leb ((c.tighter + 1) * 1081648) n ≡ b → (a && b) ≡ true
        → ((c.safe + 1) * 1081648 ≤ n) × ((c.tighter + 1) * 1081648 ≤ n)
    go true true p q h = (leb-true _ _ p, leb-true _ _ q)
    go true false p q h = let z : ◌≡◌ {A = ℕ} 0 1 = cc in absurd (omega arith)
    go false b p q h = let z : ◌≡◌ {A = ℕ} 0 1 = cc in absurd (omega arith)
