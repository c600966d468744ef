-- `woven::weave` meets its contract: the loop writes a list by a rule. Assumes nothing.
use native.Mathlib.Omega.{arith}
use Rattle.loop_laws.proofs.Writing.{unwritten, written-more, all-written}
use Rattle.woven.proofs.weave.Goals as goal

pub loop-k-preserved : goal.loop-k-preserved
loop-k-preserved c = written-more c.loop-k.invariant (omega arith) c.woven_at.ensures

pub loop-k-init : goal.loop-k-init
loop-k-init c = unwritten

pub returns : goal.returns
returns c = all-written c.loop-k.invariant (omega arith)
