-- W10f. Each refusal of a header is given exactly if its test is the first that fails, and none exactly if all tests
-- hold. By the laws for any table. Assumes nothing.
use mathlib.Core.Path.{◌≡◌, refl}
use mathlib.Core.Logic.{◌↔◌}
use mathlib.Core.Bool.{true}
use mathlib.Core.List.{List}
use Prim.Native.Nat.{ℕ, suc}
use Rattle.refusal_order.specs.Order.{First, number_of, test_of, line_of}
use Rattle.refusal_order.proofs.First.{exactly, none}
use Rattle.long_wav.specs.Reading.{tests, verdict}

module _ (tag_of : List ℕ → ℕ → ℕ) (b : List ℕ) (size : ℕ) where
  pub read-exactly : (n : ℕ)
      → verdict tag_of b size ≡ suc n
      ↔ ((k : ℕ) × (First (tests tag_of b size) k × number_of (line_of (tests tag_of b size) k) ≡ suc n))
  read-exactly n = exactly (tests tag_of b size) n

  pub read_none : verdict tag_of b size ≡ 0 ↔ ((k : ℕ) → test_of (line_of (tests tag_of b size) k) ≡ true)
  read_none = none (tests tag_of b size) refl
