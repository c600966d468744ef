-- W13. Many calls one after the other, of which some may be refused. Definitions only.
use Rattle.std.specs.Prelude.{Bool, true, false, ◌&&◌, List, [], ◌∷◌, ◌++◌, ℤ}
use Rattle.residual.specs.declared.Report.{Report}
use Rattle.residual.specs.declared.Compared.{Compared}
use Rattle.residual.specs.declared.Compared.TheVariants as compared
use Rattle.residual.specs.Refusals.{compared_of}

-- The two stretches that a call compares.
pub record Call : Type 0 where
  pub first : List ℤ
  pub second : List ℤ

abbrev pub answer : Report → Call → Compared
answer r c = compared_of r c.first c.second

-- W13h. The report after an answer: extended, or as it was if the call is refused.
abbrev pub behind : Report → Compared → Report
behind r (compared.Carried s) = s
behind r (compared.Refused k) = r

-- The report after any calls.
unfoldable pub ran : Report → List Call → Report
ran r [] = r
ran r (c ∷ cs) = ran (behind r (answer r c)) cs

-- The calls that were not refused, in their order.
abbrev pub kept_by : Compared → Call → List Call → List Call
kept_by (compared.Carried s) c cs = c ∷ cs
kept_by (compared.Refused k) c cs = cs

unfoldable pub kept : Report → List Call → List Call
kept r [] = []
kept r (c ∷ cs) = kept_by (answer r c) c (kept (behind r (answer r c)) cs)

-- No call is refused.
abbrev pub taken : Compared → Bool
taken (compared.Carried s) = true
taken (compared.Refused k) = false

unfoldable pub all_taken : Report → List Call → Bool
all_taken r [] = true
all_taken r (c ∷ cs) = taken (answer r c) && all_taken (behind r (answer r c)) cs

-- The stretches of all calls joined: those of the first side, and those of the second.
unfoldable pub firsts : List Call → List ℤ
firsts [] = []
firsts (c ∷ cs) = c.first ++ firsts cs

unfoldable pub seconds : List Call → List ℤ
seconds [] = []
seconds (c ∷ cs) = c.second ++ seconds cs
