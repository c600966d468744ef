-- `engine_answer_parts::left_by` meets its contract, by the two cases. Assumes nothing.
use Rattle.engine_answer_parts.proofs.left_by.Goals as goal

pub returns-in-Engine : goal.returns-in-Engine
returns-in-Engine c = rw c.in-Engine.is
