-- What is claimed of every run, for any start number: at most one thread holds, threads come to hold in the order in
-- which they took tickets, and tickets are told apart although their numbers wrap.
use Rattle.std.specs.Prelude.{ℕ, ◌+◌, ◌<◌, ◌≡◌, Bool, true, false, not, ◌&&◌, List, [], ◌∷◌, ◌++◌, length, get_or}
use Rattle.std.specs.Prelude.{if◌then◌else◌}
use Rattle.lock.specs.Machine.{Row, taken, refused}
use Rattle.ticket_model.specs.Machine.{Standing, Idle, Waiting, Holding, Thread, Lock, thread_at, past}
use Rattle.ticket_model.specs.Run.{Outcome, step}

-- ---- what happened in a run

abbrev pub is_idle : Standing → Bool
is_idle Idle = true
is_idle Waiting = false
is_idle Holding = false

abbrev pub is_holding : Standing → Bool
is_holding Idle = false
is_holding Waiting = false
is_holding Holding = true

-- the threads that took a ticket, that came to hold and that left, each in the order of their rows
pub record History : Type 0 where
  pub took : List ℕ
  pub held : List ℕ
  pub left : List ℕ

abbrev pub nothing : History
nothing = record { took = []; held = []; left = [] }

abbrev pub joined : History → History → History
joined a b = record { took = a.took ++ b.took; held = a.held ++ b.held; left = a.left ++ b.left }

abbrev pub listed : Bool → ℕ → List ℕ
listed b t = if b then t ∷ [] else []

-- A row took thread t from the standing p to q: it took a ticket where it was idle and is no longer, came to hold where
-- it did not hold and does, and left where it held and does not.
abbrev pub noted : ℕ → Standing → Standing → History
noted t p q =
    record {
      took = listed (is_idle p && not (is_idle q)) t;
      held = listed (not (is_holding p) && is_holding q) t;
      left = listed (is_holding p && not (is_holding q)) t;
    }

abbrev pub recorded : Lock → ℕ → (Lock → History) → Outcome → History
recorded s t rest (taken s' e) = joined (noted t (thread_at s t).standing (thread_at s' t).standing) (rest s')
recorded s t rest (refused n) = nothing

-- of the rows that are taken
unfoldable pub history : ℕ → Lock → List Row → History
unfolding step
history T s [] = nothing
history T s (r ∷ rs) = recorded s r.thread (λ s'. history T s' rs) (step T s r)

-- ---- the claims, of a state

abbrev pub Holds : Lock → ℕ → Type 0
Holds s t = (thread_at s t).standing ≡ Holding

abbrev pub Waits : Lock → ℕ → Type 0
Waits s t = (thread_at s t).standing ≡ Waiting

-- it waits or holds
abbrev pub HasTicket : Lock → ℕ → Type 0
HasTicket s t = (thread_at s t).standing ≡ Idle → ⊥

-- nobody holds
abbrev pub Unheld : Lock → Type 0
Unheld s = (t : ℕ) → Holds s t → ⊥

-- "at most one thread holds"
abbrev pub Exclusive : Lock → Type 0
Exclusive s = (t u : ℕ) → Holds s t → Holds s u → t ≡ u

-- t is one of the threads q
pub record Among (q : List ℕ) (t : ℕ) : Type 0 where
  pub at : ℕ
  pub within : at < length q
  pub here : get_or q at 0 ≡ t

-- "threads come to hold in the order in which they took tickets": of the state s to which the history h led
pub record InOrder (s : Lock) (h : History) : Type 0 where
  -- those that came to hold are the first of those that took tickets, in that order, and behind them is whoever waits,
  -- and nobody else
  pub waiting : List ℕ
  pub order : h.took ≡ h.held ++ waiting
  pub waiters : (t : ℕ) → Waits s t → Among waiting t
  pub others : (t : ℕ) → Among waiting t → Waits s t
  -- a thread holds only when all who took tickets before it have held and left
  pub holder : (t : ℕ) → Holds s t → h.held ≡ h.left ++ t ∷ []
  pub unheld : Unheld s → h.held ≡ h.left
  -- nobody is stranded: while nobody holds, the first to wait has the granted ticket, and so holds as soon as it
  -- compares
  pub first : Unheld s → (t : ℕ) (later : List ℕ) → waiting ≡ t ∷ later → (thread_at s t).own ≡ s.grant

-- the number of threads with a ticket
abbrev pub one : Bool → ℕ
one true = 1
one false = 0

abbrev pub ticket_count : List Thread → ℕ
ticket_count [] = 0
ticket_count (h ∷ hs) = one (not (is_idle h.standing)) + ticket_count hs

pub record Numbered (s : Lock) : Type 0 where
  -- waiting and holding threads' tickets are distinct, and within 64 of the grant
  pub distinct : (t u : ℕ) → HasTicket s t → HasTicket s u → (thread_at s t).own ≡ (thread_at s u).own → t ≡ u
  pub within : (t : ℕ) → HasTicket s t → past (thread_at s t).own s.grant < 64
  -- they are as many as the ticket is past the grant; the next ticket is none of theirs
  pub count : ticket_count s.threads ≡ past s.ticket s.grant
  pub before : (t : ℕ) → HasTicket s t → past (thread_at s t).own s.grant < past s.ticket s.grant
  -- the holder's is the grant
  pub granted : (t : ℕ) → Holds s t → (thread_at s t).own ≡ s.grant

pub record Promises (s : Lock) (h : History) : Type 0 where
  pub exclusive : Exclusive s
  pub in_order : InOrder s h
  pub numbered : Numbered s
