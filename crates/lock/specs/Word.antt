-- The words of the lock: the root, which counts direct arrivals and arrivals from its nodes and is open or closed, and
-- the nodes, which have one count and are always open.
use Rattle.std.specs.Prelude.{ℕ, ◌+◌, ◌-◌, Bool, ◌&&◌, eqb}
pub use Rattle.lock.specs.declared.Word.{Word}

-- (direct, tree, open) and (direct, tree, closed). A node at n is (0, n, open)
abbrev pub opened : ℕ → ℕ → Word
opened d n = record { direct = d; tree = n; closed = 0 }

abbrev pub closed : ℕ → ℕ → Word
closed d n = record { direct = d; tree = n; closed = 1 }

abbrev pub is_closed : Word → Bool
is_closed v = eqb v.closed 1

-- Document 02, Seven: "Where 01's runs name one number for the root, it is the sum. Decisions on "0" now mean both are
-- 0."
abbrev pub total : Word → ℕ
total v = v.direct + v.tree

abbrev pub is_zero : Word → Bool
is_zero v = eqb (total v) 0

-- "direct 1 and tree 0": who arrived directly is alone
abbrev pub is_sole : Word → Bool
is_sole v = eqb v.direct 1 && eqb v.tree 0

-- "swap writes only if the word equals what was remembered": are two words equal?
abbrev pub same : Word → Word → Bool
same v u = eqb v.direct u.direct && eqb v.tree u.tree && eqb v.closed u.closed

-- "swap count + 1", "swap − 1": the state kept, closed or open. By a node, from below, and directly
abbrev pub up : Word → Word
up v = record { direct = v.direct; tree = v.tree + 1; closed = v.closed }

abbrev pub down : Word → Word
down v = record { direct = v.direct; tree = v.tree - 1; closed = v.closed }

abbrev pub up_direct : Word → Word
up_direct v = record { direct = v.direct + 1; tree = v.tree; closed = v.closed }

abbrev pub down_direct : Word → Word
down_direct v = record { direct = v.direct - 1; tree = v.tree; closed = v.closed }

-- "swap to closed with the count kept"
abbrev pub shut : Word → Word
shut v = closed v.direct v.tree
