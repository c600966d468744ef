-- `ring::tap_place` meets its contract: one law of `RunStartWays` for each return. Assumes nothing.
use borrow.Author.Rules.{rules}
use mathlib.Core.Path.{◌≡◌, ◌∙◌}
use native.Mathlib.Omega.{arith}
use mir.Syntax.{w64}
use mir.Val.{to_z, of_z}
use mir.ValLaws.{to_z-of_z}
use Rattle.ring.proofs.RunStartWays as held
use Rattle.ring.proofs.taps.tap_place.Statement.{statement}
use Rattle.ring.proofs.taps.tap_place.Tie as tie

-- The index, as the code holds it.
word : (c : tie.Start) → to_z w64 (of_z w64 c.args.index) ≡ c.args.index
word c = to_z-of_z w64 c.args.index c.ranges.index

returns : tie.Need-returns-then-index-lt0
returns c = let t = c.before in c.absent.ensures ∙ held.none_before _ _ _ _ (word t.before) t.if-index-lt0.true

cast-k : tie.Need-overflow_cast-k
cast-k c = held.fits _ c.before.ranges.index c.if-index-lt0.false

returns-2 : tie.Need-returns-then-count-k
returns-2 c =
    let t = c.before.before in
    c.absent-then-count-k.ensures ∙ held.none_ahead _ _ _ _ (word t.before) t.if-index-lt0.false (omega arith)

returns-3 : tie.Need-returns-then-count-k-2
returns-3 c =
    let t = c.before.before.before in
    c.absent-then-count-k-2.ensures ∙ held.none-gone _ _ _ _ (word t.before) t.if-index-lt0.false (omega arith)
    (omega arith)

returns-4 : tie.Need-returns
returns-4 c =
    let t = c.before.before.before in
    held.all-kept _ _ _ _ (word t.before) t.if-index-lt0.false (omega arith) (omega arith) c.place.ensures

pub tap_place_spec : {M : Type 1} → statement M
tap_place_spec =
    tie.close (tie.spec (λ c κs. search rules) returns cast-k (λ c κs. search rules) returns-2 (λ c. search rules)
    (λ c. search rules) (λ c κs. search rules) returns-3 (λ c κs. search rules) returns-4)
