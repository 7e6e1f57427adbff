-- From the bench's run of the file, settled, to what is promised of the two files.
use Rattle.lock.proofs.Library.{◌≡◌, refl, sym, ap, subst, ◌∙◌, true, false, List, [], ◌∷◌, ◌++◌, append_assoc}
use Rattle.lock.proofs.Library.{some, ℕ, zero, suc, ◌*◌, ◌-◌, ◌≤◌, ◌<◌, min, arith, length, get_or, take, drop}
use Rattle.lock.proofs.{Library.{length-drop, length-map, take-append-drop, take_all}, Choice.{not-both, there, none-some}}
use Rattle.lock.proofs.{Accepted.{Accepted, accepted-with, threads-long, rows_long}, Given.{Gives, refused-gives}}
use Rattle.lock.proofs.{Entries.bytes-entries, Given.run-gives, Machine.{entries-taken, taken-le, state-taken}}
use Rattle.lock.specs.{declared.Entry.Entry, declared.Sizes.Sizes, declared.Ran.Ran, Journal.{kinds, words, over, entries_in}}
use Rattle.lock.specs.{Journal.journal_bytes, Machine.ResultOf, File.{sizes_of, row_count, threads_of, orders_of, paired}}
use Rattle.lock.specs.{File.{rows_of, stateless}, declared.Refusal.Refusal, Refusal.{number_of, answer_number}}
use Rattle.std.specs.Prelude.{Err}
use Rattle.file.proofs.Checks.{not-zero}
use Rattle.pair.specs.{Pair.{Pair, fresh_pair, Note, written, journal}, Calls.OneCall, Demand.CountedAt, Locking.LocksAt}
use Rattle.pair.{specs.File.{in_journal, tail_of}, proofs.Tail.tail-by}
use Rattle.pair.specs.Pair as pair
use Rattle.till.specs.{Till.{Till, till_of, till_refusal}, Booking.{Ledger, books}, Balanced.Balanced, View.ledger_of}
use Rattle.settling.specs.Settles.{Settleable, Settles}
use Rattle.till.proofs.Good.{good, items-are}
use Rattle.credit_model.specs.{Credit.{Credit, start, row, run}, Above.with_till, Claims.{no_row, state_at, Promises}}
use Rattle.credit_model.specs.File.{credit_refusal, credit, journal_after, not_run}
use Rattle.credit_model.proofs.{Runs.{above, words_are}, Once.promises}
use Rattle.bench.specs.Bench.{pair_in, bench_with, BenchesWith}
use Rattle.credit.specs.Runner.{credit_of, Left, Promised, Credits, WithTail}
use Rattle.credit.proofs.Refusal.{accepted-both, refused_none}

-- ---- refused before the first row

pub denied-credits : (b c j : List ℕ) (d : Refusal) (z : Sizes) (ls : List (List ℕ)) (g : List ℕ)
    → number_of d ≡ credit_refusal b c (length j) → z ≡ sizes_of b
    → Credits b c j j ls g ls g (record { answer = Err d; taken = 0; sizes = z })
unfolding credit journal_after
denied-credits b c j d z ls g e q =
    let n : ℕ = number_of d in
    let ne = not-zero d in
    let r = refused-gives (run (sizes_of b) (till_of c) (start (till_of c)) (rows_of b)) n e ne in
    let none_left : stateless n ≡ true = rw e (refused_none b c (length j) (λ k. ne (e ∙ k))) in
    record {
      answer = r.answer;
      taken = r.taken;
      sizes = q;
      state = rw none_left r.state;
      journal =
          sym (take-append-drop (row_count b) j) ∙ ap (λ (es : List Entry). journal_bytes (row_count b) es j) r.entries;
      promised =
          record {
            rows = λ s h. absurd (none-some s (r.state ∙ h));
            left = λ s h. absurd (none-some s (r.state ∙ h));
            whole = λ h. absurd (ne (r.answer ∙ h));
          };
      printable = λ h. not-both _ none_left h;
      table = λ h. not-both _ none_left h;
      untouched = λ h. (refl, refl);
    }

-- ---- the rows of a file that is accepted

paired-order : (ts os : List ℕ) (q : ℕ) → q < length (paired ts os) → (get_or (paired ts os) q no_row).order ≡ get_or os q 0
paired-order [] os q h = absurd (omega arith)
paired-order (t ∷ ts) [] q h = absurd (omega arith)
paired-order (t ∷ ts) (o ∷ os) zero h = refl
paired-order (t ∷ ts) (o ∷ os) (suc q) h = paired-order ts os q (omega arith)

-- the kinds of a journal replaced: the bytes of entries that have the same words
rekinded : (S : ℕ) (es ys : List Entry) (j : List ℕ) → length ys ≡ length es → words ys ≡ words es
    → kinds ys ++ (drop (length (kinds es)) (take S j) ++ over (words es) (drop S j)) ≡ journal_bytes S ys j
rekinded S es ys j n w =
    let k : length (kinds ys) ≡ length (kinds es) = length-map ys _ ∙ n ∙ sym (length-map es _) in
    rw (w, k) (sym (append_assoc (kinds ys) (drop (length (kinds es)) (take S j)) (over (words es) (drop S j))))

-- ---- accepted, and run

module _ (b c j₀ : List ℕ) (e : credit_refusal b c (length j₀) ≡ 0) where
  abbrev z : Sizes
  z = sizes_of b

  abbrev i : Till
  i = till_of c

  abbrev x : ResultOf Credit Entry
  x = run z i (start i) (rows_of b)

  -- the bench's run of the rows, and its entries
  abbrev below : ResultOf Pair Note
  below = pair.run (with_till i z) fresh_pair (rows_of b)

  abbrev es : List Entry
  es = journal below.entries

  ok : till_refusal c ≡ 0
  ok = (accepted-both b c (length j₀) e).0

  a : Accepted b
  a = (accepted-with b (length j₀) (accepted-both b c (length j₀) e).1).0

  room : 2 * row_count b ≤ length j₀
  room = (accepted-with b (length j₀) (accepted-both b c (length j₀) e).1).1

  -- as many entries as rows taken, and these are rows of the file
  long : length x.entries ≡ x.taken
  unfolding run
  long = entries-taken (row z i) (start i) (rows_of b)

  few : x.taken ≤ row_count b
  unfolding run
  few = omega (arith, rows_long a, taken-le (row z i) (start i) (rows_of b))

  same_taken : x.taken ≡ below.taken
  same_taken = ap (λ (y : ResultOf Credit Entry). y.taken) (above z i (rows_of b))

  long-below : length es ≡ x.taken
  unfolding pair.run
  long-below = length-map below.entries written
      ∙ entries-taken (pair.turn (with_till i z)) fresh_pair (rows_of b) ∙ sym same_taken

  -- a row that books is of an item of the till
  known : (q : ℕ) → q < x.taken → books (get_or (orders_of b) q 0) ≡ true → get_or (orders_of b) q 0 - 96 < length i.items
  unfolding run
  known q lt y =
      let o = paired-order (threads_of b) (orders_of b) q (omega (arith, taken-le (row z i) (start i) (rows_of b))) in
      subst (λ (n : ℕ). n - 96 < length i.items) o
      ((promises z a.range c ok (rows_of b)).charged.known q lt (rw o y))

  module _ (E : ℕ) (items : E ≡ length i.items)
      (j₁ : List ℕ) (ls₀ ls : List (List ℕ)) (r : Ran) (h : BenchesWith (min E 32) b j₀ j₁ ls₀ ls r) where
    -- what the bench gave is its run with the till's items
    benched : Gives below.answer below.taken (some below.state) es (bench_with (min E 32) b (length j₀))
    benched =
        let n : length i.items ≡ min E 32 = omega (arith, (good c ok).items, items-are c) in
        subst (λ (k : ℕ). Gives below.answer below.taken (some below.state) es (bench_with k b (length j₀))) n
        (run-gives (in_journal below) (accepted-both b c (length j₀) e).1)

    took : r.taken ≡ x.taken
    took = h.taken ∙ sym benched.taken ∙ sym same_taken

    answered : answer_number r.answer ≡ x.answer
    answered =
        h.answer ∙ sym benched.answer ∙ sym (ap (λ (y : ResultOf Credit Entry). y.answer) (above z i (rows_of b)))

    not-early : (stateless (answer_number r.answer) ≡ false) × (pair_in ls ≡ below.state)
    not-early = there (stateless (answer_number r.answer)) {x = pair_in ls} {y = below.state} (h.state ∙ sym benched.state)

    -- the journal of the bench: the kinds of its entries, and what is behind them
    abbrev rest : List ℕ
    rest = drop (length (kinds es)) (take (row_count b) j₀) ++ over (words es) (drop (row_count b) j₀)

    journal-below : j₁ ≡ kinds es ++ rest
    journal-below =
        h.journal ∙ ap (λ (ys : List Entry). journal_bytes (row_count b) ys j₀) (sym benched.entries)
        ∙ append_assoc (kinds es)
        (drop (length (kinds es)) (take (row_count b) j₀)) (over (words es) (drop (row_count b) j₀))

    -- ---- with the orders os that the code lends

    module _ (os : List ℕ) (part : os ≡ orders_of b) where
      pub settleable : length j₁ ≡ length j₀ → Settleable c os r.taken j₁
      settleable n =
          rw part
          (record {
            good = ok;
            orders = simp length-drop (omega (arith, took, few, a.exact));
            room = omega (arith, took, few, room);
            known = λ q lt y. known q (omega (arith, took)) y;
          })

      module _ (j g : List ℕ) (s : Settles c os r.taken j₁ j g) where
        abbrev left : Ran
        left = record { answer = r.answer; taken = r.taken; sizes = z }

        s' : Settles c (orders_of b) r.taken j₁ j g
        s' = rw part at s

        counts : length es ≡ r.taken
        counts = long-below ∙ sym took

        within : r.taken ≤ length (threads_of b)
        within = omega (arith, took, few, threads-long a)

        state-is : credit_of i ls g ≡ x.state
        state-is =
            ap (λ (p : Pair). record { locks = p; ledger = ledger_of i g }) not-early.1
            ∙ ap (λ (y : Ledger). record { locks = below.state; ledger = y })
            (s'.table (threads_of b) es rest counts within journal-below)
            ∙ sym (ap (λ (y : ResultOf Credit Entry). y.state) (above z i (rows_of b)))

        journal-is : j ≡ journal_bytes (row_count b) x.entries j₀
        journal-is =
            s'.journal (threads_of b) es rest counts within journal-below
            ∙ ap (λ (y : ResultOf Credit Entry). kinds y.entries ++ rest) (sym (above z i (rows_of b)))
            ∙ rekinded (row_count b) es x.entries j₀ (long ∙ sym long-below) (words_are z i (rows_of b))

        -- the entries of the run, read back from the caller's journal
        read_back : entries_in (row_count b) r.taken j ≡ x.entries
        read_back =
            rw journal-is
            (bytes-entries (row_count b)
            r.taken x.entries j₀ (omega (arith, took, long)) (omega (arith, few, long)) (omega (arith, room))
            ∙ take_all r.taken x.entries (omega (arith, took, long)))

        -- the state handed back is that of the rows taken
        at-end : state_at z i (rows_of b) r.taken ≡ credit_of i ls g
        unfolding run
        at-end = rw took (state-taken (row z i) (start i) (rows_of b)) ∙ sym state-is

        left_is : Left b c j r.taken (credit_of i ls g)
        left_is =
            let p = promises z a.range c ok (rows_of b) in
            record {
              balanced = subst (λ (y : Credit). Balanced i y.ledger) at-end (p.balanced r.taken);
              locks = λ y. subst (λ (u : Credit). LocksAt (with_till i z) y u.locks) at-end
                  (p.locked.each y r.taken);
              one_call = subst (λ (u : Credit). OneCall u.locks) at-end (p.locked.one_call r.taken);
              counted = λ y.
                  subst (λ (u : Credit). CountedAt z y
                  (take r.taken (rows_of b)) (entries_in (row_count b) r.taken j) u.locks) at-end
                  (subst (λ (ys : List Entry). CountedAt z y
                  (take r.taken (rows_of b)) ys (state_at z i (rows_of b) r.taken).locks)
                  (take_all r.taken x.entries (omega (arith, took, long)) ∙ sym read_back)
                  (p.counted y r.taken (omega (arith, took))));
            }

        promised : Promised b c j (credit b c (length j₀))
        unfolding credit
        promised =
            let y = run-gives x e in
            let k : r.taken ≡ (credit b c (length j₀)).taken = took ∙ y.taken in
            record {
              rows = λ s q. subst (λ (n : ℕ). Promises z i (rows_of b) (entries_in (row_count b) n j)) k
                  (subst (Promises z i (rows_of b)) (sym read_back) (promises z a.range c ok (rows_of b)));
              left = λ s q. subst (λ (n : ℕ). Left b c j n s) k
                  (subst (Left b c j r.taken) (state-is ∙ (there false {x = x.state} {y = s} (y.state ∙ q)).1) left_is);
              whole = λ q. sym k ∙ h.taken ∙ h.promises.whole (sym h.answer ∙ answered ∙ y.answer ∙ q);
            }

        pub ran-credits : (g₀ : List ℕ) → Credits b c j₀ j ls₀ g₀ ls g left
        unfolding credit journal_after
        ran-credits g₀ =
            let y = run-gives x e in
            record {
              answer = answered ∙ y.answer;
              taken = took ∙ y.taken;
              sizes = refl;
              state = rw not-early.0 (ap some state-is ∙ y.state);
              journal = journal-is ∙ ap (λ (ys : List Entry). journal_bytes (row_count b) ys j₀) y.entries;
              promised = promised;
              printable = λ q. (ok, s.long);
              table = λ q. s.all;
              untouched = λ q. not-both _ q not-early.0;
            }

-- ---- the runner

module _ (b c j₀ j : List ℕ) (ls₀ : List (List ℕ))
    (g₀ : List ℕ) (ls : List (List ℕ)) (g left : List ℕ) (r : Ran) (h : Credits b c j₀ j ls₀ g₀ ls g r) where
  tail-is : tail_of b (answer_number r.answer) r.taken ≡ not_run b c (length j₀)
  unfolding not_run credit
  tail-is =
      tail-by b (credit_refusal b c (length j₀)) (run (sizes_of b) (till_of c) (start (till_of c)) (rows_of b))
      (credit_of (till_of c) ls g) (refused_none b c (length j₀)) h.answer h.taken h.state

  pub with_tail : left ≡ tail_of b (answer_number r.answer) r.taken → WithTail b c j₀ j ls₀ g₀ ls g left (answer_number r.answer) r.taken
  with_tail e =
      record {
        came = r.answer;
        number = refl;
        credits = subst (λ (z : Sizes). Credits b c j₀ j ls₀ g₀ ls g
            (record { answer = r.answer; taken = r.taken; sizes = z })) h.sizes h;
        tail = e ∙ tail-is;
      }
