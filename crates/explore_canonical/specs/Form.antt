-- What a state goes by of a thread's cells and of the ring.
use Rattle.std.specs.Prelude.{ℕ, zero, suc, ◌+◌, List, [], ◌∷◌, ltb, get_or}
use Rattle.std.specs.Prelude.{if◌then◌else◌}
use Rattle.cells.specs.Layout.{RING}

-- which of its cells a thread uses, by its program counter: 1 the node, 2 the route, 4 the node below, 8 the word seen
abbrev pub used_cells : List ℕ
used_cells =
    0 ∷ 0 ∷ 2 ∷ 2 ∷ 8 ∷ 3 ∷ 11 ∷ 3 ∷ 11 ∷ 1 ∷ 9 ∷ 7 ∷ 15 ∷ 1 ∷ 9 ∷ 0 ∷ 8 ∷ 2 ∷ 2 ∷ 0 ∷ 0 ∷ 0 ∷ 0 ∷ 0 ∷ 8 ∷ 0 ∷ 0 ∷ 0 ∷ 0 ∷ 0 ∷ 8 ∷ 0 ∷ 8 ∷ 8 ∷ 8 ∷ 8 ∷ 2 ∷ 10 ∷ 0 ∷ 8 ∷ 0 ∷ 8 ∷ 8 ∷ 8 ∷ 2 ∷ 0 ∷ 0 ∷ 0 ∷ 0 ∷ 0 ∷ []

abbrev pub uses_at : ℕ → ℕ
uses_at pc = get_or used_cells pc 0

-- a number that is used, or 0
abbrev pub kept : ℕ → ℕ → ℕ
kept zero x = 0
kept (suc u) x = x

-- the number of place i of the ring, or 0 where k is behind the last of n writers
abbrev pub ring_or : List ℕ → ℕ → ℕ → ℕ → ℕ
ring_or l i k n = if ltb k n then get_or l (RING + i) 0 else 0
