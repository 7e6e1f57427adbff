-- The node number falls at each parent, so it is the measure.
use Rattle.next_row.proofs.+toward_node.Given as goal

abbrev pub decreases-toward_node : goal.decreases-toward_node
decreases-toward_node l = l.n
