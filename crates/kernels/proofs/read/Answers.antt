-- `kernels::read` meets its contract, kernel by kernel. Assumes nothing.
use Rattle.kernels.proofs.read.Goals as goal

pub returns-in-Cubic : goal.returns-in-Cubic
returns-in-Cubic c = rw c.in-Cubic.is c.read.ensures

pub returns-in-Lagrange : goal.returns-in-Lagrange
returns-in-Lagrange c = rw c.in-Lagrange.is c.read-in-Lagrange.ensures

pub returns-in-Farrow8 : goal.returns-in-Farrow8
returns-in-Farrow8 c = rw c.in-Farrow8.is c.read-in-Farrow8.ensures

pub returns-in-Sinc : goal.returns-in-Sinc
returns-in-Sinc c = rw c.in-Sinc.is c.read-in-Sinc.ensures
