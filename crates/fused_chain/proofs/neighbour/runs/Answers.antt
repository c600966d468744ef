-- `fused_chain::neighbour::runs` meets its contract: either kind of run makes turns of both chains. Assumes nothing.
use Rattle.fused_chain.proofs.neighbour.runs.Goals as goal

pub returns-then-from-middle : goal.returns-then-from-middle
returns-then-from-middle c = c.plain_runs.ensures

pub returns : goal.returns
returns c = c.biased_runs.ensures
