-- The journal: an entry for each row taken, and its bytes in the caller's buffer.
use Rattle.std.specs.Prelude.{ℕ, List, [], ◌∷◌, ◌++◌, map, length, take, drop}
pub use Rattle.lock.specs.declared.Entry.{Entry}

abbrev pub entry : ℕ → ℕ → Entry
entry k w = record { kind = k; word = w }

-- "Journal kinds: 0 call begun, 1 word read, 2 swap done, 3 swap failed, 4 held up, 5 plain store, 6 queue mutex taken,
-- 7 mutex released, 8 queue changed or found empty, 9 sleepers woken." Document 02, Seven: 10 upgrade denied, on the
-- root; Twelve: 11, a booking. "Words: 0 the root, n node n, 32 the mutex and queue (kinds 4, 6, 7, 8, 9), 33 none
-- (kind 0)." Kind 11 is on 33 too.
abbrev pub call_begun : Entry
call_begun = entry 0 33

abbrev pub word_read : ℕ → Entry
word_read w = entry 1 w

abbrev pub swap_done : ℕ → Entry
swap_done w = entry 2 w

abbrev pub swap_failed : ℕ → Entry
swap_failed w = entry 3 w

abbrev pub held_up : Entry
held_up = entry 4 32

abbrev pub plain_store : ℕ → Entry
plain_store w = entry 5 w

abbrev pub mutex_taken : Entry
mutex_taken = entry 6 32

abbrev pub mutex_released : Entry
mutex_released = entry 7 32

abbrev pub queue_changed : Entry
queue_changed = entry 8 32

abbrev pub sleepers_woken : Entry
sleepers_woken = entry 9 32

abbrev pub upgrade_denied : Entry
upgrade_denied = entry 10 0

-- who keeps the table makes 11, 12 or 13 of it (till, specs/Settle)
abbrev pub booking_taken : Entry
booking_taken = entry 11 33

-- ---- the bytes

abbrev pub kinds : List Entry → List ℕ
kinds es = map (λ (e : Entry). e.kind) es

abbrev pub words : List Entry → List ℕ
words es = map (λ (e : Entry). e.word) es

-- the bytes b with their first ones replaced by xs
abbrev pub over : List ℕ → List ℕ → List ℕ
over xs b = xs ++ drop (length xs) b

-- "Entry i of its first array says what row i did; the second array, from byte S on, names the word." Every other byte
-- of the caller's journal j is as it was
abbrev pub journal_bytes : ℕ → List Entry → List ℕ → List ℕ
journal_bytes S es j = over (kinds es) (take S j) ++ over (words es) (drop S j)

-- ---- the entries, read back from the bytes

-- two arrays of bytes as entries
abbrev pub entries_of : List ℕ → List ℕ → List Entry
entries_of [] ws = []
entries_of (k ∷ ks) [] = []
entries_of (k ∷ ks) (w ∷ ws) = entry k w ∷ entries_of ks ws

-- the first i entries of a journal j whose second array starts at byte S
abbrev pub entries_in : ℕ → ℕ → List ℕ → List Entry
entries_in S i j = entries_of (take i j) (take i (drop S j))
