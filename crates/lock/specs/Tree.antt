-- The tree of nodes, by the fan-out F.
use Rattle.std.specs.Prelude.{ℕ, zero, suc, ◌-◌, ◌/◌, leb}
use Rattle.std.specs.Prelude.{if◌then◌else◌}

-- "the parent of node n above 0 is (n − 1) / F, rounded down"
abbrev pub parent : ℕ → ℕ → ℕ
parent F n = (n - 1) / F

-- The node below c on the path from n to the root: climb from n until the parent is c. The climb recurses on a number
-- that is at least the node's, and the node number falls at each parent.
unfoldable pub toward_in : ℕ → ℕ → ℕ → ℕ → ℕ
toward_in zero F n c = n
toward_in (suc k) F n c = if leb (parent F n) c then n else toward_in k F (parent F n) c

unfoldable pub toward : ℕ → ℕ → ℕ → ℕ
unfolding toward_in
toward F n c = toward_in n F n c
