-- `near_fused::near_fused` meets its contract, by the law of the step; on each path the answer is the definition's.
-- That the code's share of the terms makes the margin large enough is computed (the last `tt`). Assumes nothing.
use borrow.Author.Rules.{rules}
use mathlib.Core.Path.{◌≡◌, sym, ◌∙◌, subst}
use mathlib.Core.Bool.{true}
use lib.Dec.{T}
use lib.Ieee.{Float, nan, of_bits}
use Rattle.near_fused.specs.Parts.{Sure}
use Rattle.near_fused.specs.Step.{inside_of, ordered_of}
use Rattle.near_fused.proofs.Tests.{Ordered, Inside, ordered-is, inside_is, inside-no-nan}
use Rattle.near_fused.proofs.AnyThreeFloats.{fv, answer}
use Rattle.near_fused.proofs.StepWays as equals
use Rattle.near_fused.proofs.near_fused.Statement.{statement}
use Rattle.near_fused.proofs.near_fused.Tie as tie

inside-true : (c : tie.Then-inside) → inside_of c.before.before.args.mu ≡ true
inside-true c = sym c.before.inside.ensures ∙ c.if-inside.true

ordered-true : (c : tie.Then-ordered)
    → ordered_of c.before.before.before.before.args.v c.before.before.before.before.args.c ≡ true
ordered-true c = sym c.before.ordered.ensures ∙ c.if-ordered.true

within : (c : tie.Then-ordered) → Inside c.before.before.before.before.args.mu
within c = inside_is c.before.before.before.before.args.mu (inside-true c.before.before)

numbers : (c : tie.Then-ordered)
    → Ordered c.before.before.before.before.args.v c.before.before.before.before.args.c
numbers c =
    ordered-is c.before.before.before.before.args.v c.before.before.before.before.args.c
    (ordered-true c)

high-requires : tie.Need-high-mh-requires
high-requires c κs = inside-no-nan c.before.before.before.before.args.mu (within c)

high-requires-2 : tie.Need-high-vh-requires
high-requires-2 c κs = (numbers c.before).first

size-requires : tie.Need-size-requires
size-requires c κs = (numbers c.before.before).first

size-requires-2 : tie.Need-size-requires-then-ordered
size-requires-2 c κs = (numbers c.before.before.before).second

returns : tie.Need-returns-then-r-s
unfolding of_bits
returns c =
    let t = c.before.before.before.before.before in
    let s = t.before.before.before.before in
    let e =
    rw (
      c.before.before.before.high-vh.ensures,
      c.before.before.before.before.high-mh.ensures,
      c.before.before.size.ensures,
      c.before.size-then-ordered.ensures,
    ) at c.if-r-s.true in
    let v = subst T (sym s.well_formed.0.1) tt in
    let m = subst T (sym s.well_formed.1.0.1) tt in
    let a = subst T (sym s.well_formed.1.1.0.1) tt in
    rw (
      c.before.before.before.high-vh.ensures,
      c.before.before.before.before.high-mh.ensures,
      c.before.before.size.ensures,
      c.before.size-then-ordered.ensures,
    ) (
      equals.sure s.args.v s.args.mu s.args.c (inside-true t.before.before) (ordered-true t) e,
      record {
        factor = λ f. fv s.args.v s.args.mu s.args.c v m a (within t) _ f;
        is = λ f. answer s.args.v s.args.mu s.args.c v m a (within t) _ f (subst T (sym e) tt) tt;
      },
    )

-- Nothing is promised for a NaN.
nothing : {v mu c : Float} → Sure v mu c nan
nothing = record { factor = λ f. absurd f; is = λ f. absurd f }

returns-2 : tie.Need-returns-then-ordered
returns-2 c =
    let d = c.before in
    let t = d.before.before.before.before.before in
    let a = t.before.before.before.before.args in
    let e =
    rw (
      d.before.before.before.high-vh.ensures,
      d.before.before.before.before.high-mh.ensures,
      d.before.before.size.ensures,
      d.before.size-then-ordered.ensures,
    ) at d.if-r-s.false in
    rw c.none.ensures (
      equals.in-doubt a.v a.mu a.c (inside-true t.before.before) (ordered-true t) e,
      nothing,
    )

returns-3 : tie.Need-returns-then-inside
returns-3 c =
    let o = c.before.before in
    let a = o.before.before.before.args in
    rw c.none-then-inside.ensures (
      equals.no_number a.v a.mu a.c (inside-true o.before)
          (sym o.ordered.ensures ∙ c.before.if-ordered.false),
      nothing,
    )

returns-4 : tie.Need-returns
returns-4 c =
    let i = c.before.before in
    let a = i.before.args in
    rw c.none-2.ensures (
      equals.outside a.v a.mu a.c (sym i.inside.ensures ∙ c.before.if-inside.false),
      nothing,
    )

pub near_fused_spec : {M : Type 1} → statement M
near_fused_spec =
    tie.close (tie.spec (λ c κs. search rules) (λ c κs. search rules) high-requires high-requires-2 size-requires
    size-requires-2 returns (λ c κs. search rules) returns-2 (λ c κs. search rules) returns-3 (λ c κs. search rules)
    returns-4)
