-- What a program writes of each stored file that it runs.
use Rattle.std.specs.Prelude.{ℕ, List, [], ◌∷◌, ◌++◌}

-- a line of `run` and the name, and the text behind it
abbrev pub run_text : List ℕ → List ℕ → List ℕ
run_text name text = (114 ∷ 117 ∷ 110 ∷ 32 ∷ []) ++ name ++ (10 ∷ []) ++ text
