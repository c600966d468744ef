-- `lagrange::lanes::among` meets its contract: each pair gives the weights two more factors. Assumes nothing.
use borrow.Author.Rules.{rules}
use mathlib.Core.Path.{refl, ◌∙◌, subst}
use Prim.Native.Nat.{ℕ, ◌+◌}
use native.Mathlib.Omega.{arith}
use Rattle.lagrange.specs.Eights.{Weights}
use Rattle.lagrange.proofs.EightLanes.{pair}
use Rattle.lagrange.proofs.lanes.among.Statement.{statement}
use Rattle.lagrange.proofs.lanes.among.Tie as tie

after_first : (c : tie.After-first_pair-w2) → let a = c.before.before.before.args in
    Weights a.local a.first (a.first + 2) c.first_pair-w2.result
after_first c =
    let b = c.before in
    let s = b.before.before in
    let a = s.args in
    pair a.local a.first s.requires.0 a.own s.requires.2 0 (omega arith) _ _ refl refl a.w
    (subst (λ (n : ℕ). Weights a.local a.first n a.w) (omega arith) s.requires.3)
    (c.first_pair-w2.ensures ∙ rw (b.before.above-up.ensures, b.below-down.ensures))

after-second : (c : tie.After-second_pair-w4) → let a = c.before.before.before.before.before.args in
    Weights a.local a.first (a.first + 4) c.second_pair-w4.result
after-second c =
    let f = c.before.before in
    let b = f.before in
    let s = b.before.before in
    let a = s.args in
    pair a.local a.first s.requires.0 a.own s.requires.2 2 (omega arith) _ _ refl refl _ (after_first f)
    (c.second_pair-w4.ensures ∙ rw (b.before.above-up.ensures, b.below-down.ensures))

after-third : (c : tie.After-third_pair-w6) → let a = c.before.before.before.before.before.before.before.args in
    Weights a.local a.first (a.first + 6) c.third_pair-w6.result
after-third c =
    let f = c.before.before in
    let b = f.before.before.before in
    let s = b.before.before in
    let a = s.args in
    pair a.local a.first s.requires.0 a.own s.requires.2 4 (omega arith) _ _ refl refl _ (after-second f)
    (c.third_pair-w6.ensures ∙ rw (b.before.above-up.ensures, b.below-down.ensures))

returns : tie.Need-returns-then-pairs-le1
returns c =
    let f = c.before in
    let a = f.before.before.before.args in
    subst (λ (n : ℕ). Weights a.local a.first n f.first_pair-w2.result) (omega arith) (after_first f)

returns-2 : tie.Need-returns-then-pairs-le2
returns-2 c =
    let f = c.before in
    let t = f.before.if-pairs-le1.false in
    let a = f.before.before.before.before.before.args in
    subst (λ (n : ℕ). Weights a.local a.first n f.second_pair-w4.result) (omega arith) (after-second f)

returns-3 : tie.Need-returns-then-pairs-le3
returns-3 c =
    let f = c.before in
    let t = f.before.if-pairs-le2.false in
    let a = f.before.before.before.before.before.before.before.args in
    subst (λ (n : ℕ). Weights a.local a.first n f.third_pair-w6.result) (omega arith) (after-third f)

returns-4 : tie.Need-returns
returns-4 c =
    let t = c.before.if-pairs-le3.false in
    let f = c.before.before in
    let b = f.before.before.before.before.before in
    let s = b.before.before in
    let a = s.args in
    subst (λ (n : ℕ). Weights a.local a.first n c.fourth_pair.result) (omega arith)
    (pair a.local a.first s.requires.0 a.own s.requires.2 6 (omega arith) _ _ refl refl _ (after-third f)
    (c.fourth_pair.ensures ∙ rw (b.before.above-up.ensures, b.below-down.ensures)))

pub among_spec : {M : Type 1} → statement M
among_spec =
    tie.close (tie.spec (λ c κs. search rules) (λ c κs. search rules) (λ c. search rules) (λ c. search rules)
    (λ c κs. search rules) returns (λ c. search rules) (λ c. search rules) (λ c κs. search rules) returns-2
    (λ c. search rules) (λ c. search rules) (λ c κs. search rules) returns-3 (λ c. search rules) (λ c. search rules)
    (λ c κs. search rules) returns-4)
