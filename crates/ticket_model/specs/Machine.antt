-- The ticket lock of source document 002 (listing 1.1, lines 3 to 16), as document 02, Eleven, cuts it into rows. A row
-- sees the ticket, the grant and its own thread, and changes nothing else.
use Rattle.std.specs.Prelude.{ℕ, ◌+◌, ◌-◌, ◌%◌, eqb, get_or, replicate}
use Rattle.std.specs.Prelude.{if◌then◌else◌}
pub use Rattle.ticket_model.specs.declared.Standing.{Standing}
pub use Rattle.ticket_model.specs.declared.Standing.TheVariants.{Idle, Waiting, Holding}
pub use Rattle.ticket_model.specs.declared.Thread.{Thread}
pub use Rattle.ticket_model.specs.declared.Lock.{Lock}
pub use Rattle.ticket_model.specs.declared.Made.{Made}

-- ---- numbers

-- "both are 16-bit and wrap from 65,535 to 0": the number after n
abbrev pub next : ℕ → ℕ
next n = (n + 1) % 65536

-- how far n is past g, "counted round the wrap"
abbrev pub past : ℕ → ℕ → ℕ
past n g = (n + (65536 - g)) % 65536

-- ---- the state

abbrev pub thread : Standing → ℕ → Thread
thread p n = record { standing = p; own = n }

abbrev pub idle : Thread
idle = thread Idle 0

-- "Both the ticket and the grant start there". There are 64 threads whatever T is; those from T on are never touched.
abbrev pub fresh : ℕ → Lock
fresh start = record { ticket = start; grant = start; threads = replicate 64 idle }

abbrev pub thread_at : Lock → ℕ → Thread
thread_at s t = get_or s.threads t idle

-- ---- one row: of the ticket n, the grant g and the thread h, whose standing is p

abbrev pub made : ℕ → ℕ → Thread → Made
made n g h = record { answer = 0; ticket = n; grant = g; me = h }

-- "A refused row changes nothing" (document 01)
abbrev pub refuse : ℕ → ℕ → ℕ → Thread → Made
refuse a n g h = record { answer = a; ticket = n; grant = g; me = h }

-- "Order 1 takes the ticket and advances it", of an idle thread; "a waiter's repeated order 1 under 7"
abbrev pub takes : ℕ → ℕ → Thread → Standing → Made
takes n g h Idle = made (next n) g (thread Waiting n)
takes n g h Waiting = refuse 7 n g h
takes n g h Holding = refuse 7 n g h

-- "0 compares own ticket with grant and holds when equal", of a waiter, who waits on where they differ; else 7
abbrev pub compares : ℕ → ℕ → Thread → Standing → Made
compares n g h Idle = refuse 7 n g h
compares n g h Waiting = made n g (thread (if eqb h.own g then Holding else Waiting) h.own)
compares n g h Holding = refuse 7 n g h

-- "2 advances grant", of the holder, who leaves; else 7
abbrev pub leaves : ℕ → ℕ → Thread → Standing → Made
leaves n g h Idle = refuse 7 n g h
leaves n g h Waiting = refuse 7 n g h
leaves n g h Holding = made n (next g) idle

-- 6, "order is none of the above" (document 01)
unfoldable pub obey : ℕ → ℕ → ℕ → Thread → Made
obey o n g h =
    if eqb o 0 then compares n g h h.standing
    else if eqb o 1 then takes n g h h.standing else if eqb o 2 then leaves n g h h.standing else refuse 6 n g h
