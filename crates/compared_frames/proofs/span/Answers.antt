-- `compared_frames::span` meets its contract, by what the functions that it calls ensure. Assumes nothing.
use borrow.Author.Rules.{rules}
use Rattle.compared_frames.proofs.span.Goals as goal

pub returns : goal.returns
returns c = cc
