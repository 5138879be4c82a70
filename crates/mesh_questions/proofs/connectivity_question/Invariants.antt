-- `connectivity_question` meets its contract. While it walks nothing is refused, and the numbers passed are below the node count. Assumes nothing.
use Rattle.std.proofs.Common.{◌≡◌, Ok, ℕ, ◌<◌, get_or}
use Rattle.mesh_questions.proofs.NodeNumbers.{AllKnown}
use Rattle.mesh_questions.proofs.connectivity_question.Given as goal

abbrev pub invariant-loop-node : goal.invariant-loop-node
invariant-loop-node l = record {
  passed : l.answer ≡ Ok tt;
  known : (j : ℕ) → j < l.node-index → get_or l.node-items j 0 < l.node_count;
}

abbrev pub invariant-walk : goal.invariant-walk
invariant-walk l = record {
  passed : l.answer ≡ Ok tt;
  known : AllKnown l.mesh l.element_index;
}
