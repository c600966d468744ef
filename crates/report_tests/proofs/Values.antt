-- Every value of a stretch is one of 24 bits, as a loop over an index needs it. Assumes nothing.
use mathlib.Core.Path.{◌≡◌, refl, ap, ◌∙◌}
use mathlib.Core.Bool.{Bool, true, ◌&&◌}
use mathlib.Core.List.{List, [], ◌∷◌, ◌++◌}
use Prim.Native.Nat.{ℕ, ◌+◌, ◌<◌}
use native.Mathlib.Numerals.{add-one}
use lib.IntN.{ℤ, pos}
use lib.ListN.{length, get_or, take}
use lib.Seq.{take-suc}
use Rattle.report_tests.specs.Tests.{in24, all24}
use Rattle.report_tests.proofs.BothTests.{and-true, and_assoc}

all_more : (xs : List ℤ) (x : ℤ) → all24 (xs ++ (x ∷ [])) ≡ (all24 xs && in24 x)
unfolding all24
all_more [] x = and-true (in24 x)
all_more (y ∷ xs) x = ap (λ (b : Bool). in24 y && b) (all_more xs x) ∙ and_assoc (in24 y) (all24 xs) (in24 x)

pub none-24 : (xs : List ℤ) → true ≡ all24 (take 0 xs)
unfolding all24
none-24 xs = refl

pub one-24 : (xs : List ℤ) (i : ℕ) {ok more : Bool} → i < length xs → ok ≡ all24 (take i xs)
    → more ≡ (ok && in24 (get_or xs i (pos 0))) → more ≡ all24 (take (i + 1) xs)
one-24 xs i h p q = q ∙ rw (p, add-one i, take-suc xs i (pos 0) h, all_more (take i xs) (get_or xs i (pos 0)))
