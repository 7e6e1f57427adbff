-- A record in pieces, one after the other, as a stream brings it.
use Rattle.std.specs.Prelude.{ℕ, ◌<◌, ◌≡◌, List, [], ◌∷◌, ◌++◌, eqb, length}
use Rattle.std.specs.Prelude.{if◌then◌else◌}
use Rattle.lock.specs.declared.Sizes.{Sizes}
use Rattle.pair.specs.Pair.{Pair}
use Rattle.record_model.specs.Record.{Recorded, Holding, ended, after, hold, count_of, record_refusal, holding_of}
use Rattle.record_model.specs.Sheet.{record_sheet}

abbrev pub joined : List (List Recorded) → List Recorded
joined [] = []
joined (p ∷ ps) = p ++ joined ps

-- each piece is held from where the one before it ended, if all of that was held; else nothing more is
abbrev pub hold_pieces : Sizes → Pair → List (List Recorded) → Holding
hold_pieces z s [] = ended 0 s
hold_pieces z s (p ∷ ps) =
    if eqb (hold z s p).told.held (length p) then after (length p) (hold_pieces z (hold z s p).state ps)
    else hold z s p

-- Pieces compose: however a record is cut, holding its pieces is holding it.
abbrev pub PiecesCompose : Type 0
PiecesCompose = (z : Sizes) (s : Pair) (ps : List (List Recorded)) → hold_pieces z s ps ≡ hold z s (joined ps)

-- Where a row ended a record, the sheet is that of all longer ones too, whose length is right: so it can be printed at
-- the first difference of a stream, whatever comes behind.
abbrev pub FirstEnds : Type 0
FirstEnds =
    (b p : List ℕ) → record_refusal b ≡ 0 → record_refusal (b ++ p) ≡ 0 → (holding_of b).told.held < count_of b
    → record_sheet (b ++ p) ≡ record_sheet b
