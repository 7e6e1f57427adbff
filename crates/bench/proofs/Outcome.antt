-- From the run of the rows to what the bench promises of the file.
use Rattle.lock.proofs.Library.{◌≡◌, refl, sym, ap, subst, ◌∙◌, ◌⊎◌, inl, inr, true, false, List, [], some}
use Rattle.lock.proofs.Library.{ℕ, ◌+◌, ◌-◌, ◌≤◌, zero-le, le_refl, arith, length, take, drop, length-drop, drop-drop}
use Rattle.lock.proofs.{Library.take_all, Machine.state-taken, Accepted.{range-items, Accepted, accepted-with}}
use Rattle.lock.proofs.{Accepted.{threads-long, orders-long, rows_long, refusal-lt}, Demand.idle-at}
use Rattle.lock.proofs.{Given.{no-state, refused-gives, run-gives}, Choice.{not-both, there, none-some}}
use Rattle.lock.specs.{Machine.{GivenOf, runs}, declared.Entry.Entry, declared.Sizes.Sizes, declared.Ran.Ran}
use Rattle.lock.specs.{Journal.{journal_bytes, entries_in}, File.{InRange, sizes_of, row_count, threads_of, orders_of}}
use Rattle.lock.specs.{File.{rows_of, refusal, stateless}, declared.Refusal.Refusal, Refusal.{number_of, answer_number}}
use Rattle.std.specs.Prelude.{Err}
use Rattle.file.proofs.Checks.{not-zero}
use Rattle.pair.specs.{Pair.{turn, Side, first, second, Pair, fresh_pair, run, journal}, Demand.CountedAt}
use Rattle.pair.specs.File.{in_journal, bench, tail_of, not_run}
use Rattle.pair.proofs.{Words.finished-pair, Tail.tail-by}
use Rattle.progress.proofs.Claimed.{rows-claimed, state-claimed}
use Rattle.journal.{specs.Runner.Runnable, proofs.Bytes.bytes-none}
use Rattle.turn.specs.Turn.{pair_in}
use Rattle.bench.specs.{Runner.Runs, Bench.{sizes_with, Promises, BenchesWith, Benches, WithTail}}
use Rattle.bench.proofs.Promise.{counted-bytes}

-- what is promised goes by answer, rows taken and state
promises-as : {E : ℕ} {b j : List ℕ} {g g' : GivenOf Pair Entry} → Promises E b j g
    → g.answer ≡ g'.answer → g.taken ≡ g'.taken → g.state ≡ g'.state → Promises E b j g'
promises-as {E} {b} {j} {g} {g'} p a k s =
    record {
      counted = rw k at p.counted;
      rows = λ q e. p.rows q (s ∙ e);
      left = λ q e. rw k at (p.left q (s ∙ e));
      whole = λ e. sym k ∙ p.whole (a ∙ e);
    }

-- ---- refused before the first row

counted_none : (z : Sizes) (x : Side) → CountedAt z x [] [] fresh_pair
counted_none z first =
    record {
      bounded = λ t w ht hw. zero-le;
      printed = λ t ht. rw (idle-at 64 t);
      summed = λ t ht. zero-le;
      alone = λ t a. refl;
    }
counted_none z second =
    record {
      bounded = λ t w ht hw. zero-le;
      printed = λ t ht. rw (idle-at 64 t);
      summed = λ t ht. zero-le;
      alone = λ t a. refl;
    }

no_rows : (z : Sizes) → (run z fresh_pair []).state ≡ fresh_pair
unfolding run runs
no_rows z = refl

module _ (E : ℕ) (b j : List ℕ) (q : Refusal) (ls : List (List ℕ)) (e : number_of q ≡ refusal b (length j)) where
  none_left : stateless (number_of q) ≡ true
  none_left = no-state (number_of q) (not-zero q) (omega (arith, refusal-lt b (length j)))

  -- whatever the locks were
  pub denied-benches : (z : Sizes) → z ≡ sizes_with E b
      → BenchesWith E b j j ls ls (record { answer = Err q; taken = 0; sizes = z })
  denied-benches z sizes =
      let g = refused-gives (in_journal (run (sizes_with E b) fresh_pair (rows_of b))) (number_of q) e (not-zero q) in
      record {
        answer = g.answer;
        taken = g.taken;
        sizes = sizes;
        state = rw none_left g.state;
        journal =
            sym (bytes-none (row_count b) j) ∙ ap (λ (es : List Entry). journal_bytes (row_count b) es j) g.entries;
        promises =
            record {
              counted = λ x i h.
                  let k : i ≡ 0 = omega (arith, g.taken) in rw (k, no_rows) (counted_none (sizes_with E b) x);
              rows = λ s h. absurd (none-some _ (g.state ∙ h));
              left = λ s h. absurd (none-some _ (g.state ∙ h));
              whole = λ h. absurd (not-zero q (g.answer ∙ h));
            };
        untouched = λ h. refl;
      }

-- ---- accepted, and run

module _ (E : ℕ) (few : E ≤ 32) (b j₀ j : List ℕ) (ls₀ ls : List (List ℕ)) (r : Ran) (e : refusal b (length j₀) ≡ 0)
    (a : Accepted b) (h : Runs (sizes_with E b) (threads_of b) (orders_of b) j₀ j ls r) where
  range : InRange (sizes_with E b)
  range = range-items a.range few

  journal-is : j ≡ journal_bytes (row_count b) (journal (run (sizes_with E b) fresh_pair (rows_of b)).entries) j₀
  journal-is = h.journal ∙ rw (threads-long a)

  has-state : stateless (answer_number r.answer) ≡ false
  has-state = h.late

  counted : (x : Side) (i : ℕ) → i ≤ r.taken
      → CountedAt (sizes_with E b) x
      (take i (rows_of b)) (entries_in (row_count b) i j) (run (sizes_with E b) fresh_pair (take i (rows_of b))).state
  counted x i q =
      rw journal-is
      (counted-bytes (sizes_with E b) x (rows_of b) (row_count b) i j₀ range
      (omega (arith, rows_long a)) (omega (arith, (accepted-with b (length j₀) e).1)) (omega (arith, h.taken)))

  -- the state left is that of the rows taken
  left : (run (sizes_with E b) fresh_pair (take r.taken (rows_of b))).state ≡ pair_in ls
  unfolding run
  left = rw h.taken (state-taken (turn (sizes_with E b)) fresh_pair (rows_of b)) ∙ sym h.state

  promises : Promises E b j
      (record { answer = answer_number r.answer; taken = r.taken; state = some (pair_in ls); entries = [] })
  promises =
      record {
        counted = counted;
        rows = λ s q. rows-claimed (sizes_with E b) range (rows_of b);
        left = λ s q. state-claimed (sizes_with E b) range
            (rows_of b) r.taken _ (left ∙ (there false q).1) (λ x. counted x r.taken (le_refl _));
        whole =
            λ q. h.taken ∙ (finished-pair (sizes_with E b) range (rows_of b)).whole (sym h.answer ∙ q) ∙ rows_long a;
      }

  pub accepted-benches : BenchesWith E b j₀ j ls₀ ls r
  accepted-benches =
      let g = run-gives (in_journal (run (sizes_with E b) fresh_pair (rows_of b))) e in
      record {
        answer = h.answer ∙ g.answer;
        taken = h.taken ∙ g.taken;
        sizes = h.sizes;
        state = rw has-state (ap some h.state ∙ g.state);
        journal = journal-is ∙ ap (λ (es : List Entry). journal_bytes (row_count b) es j₀) g.entries;
        promises =
            promises-as promises (h.answer ∙ g.answer) (h.taken ∙ g.taken) (ap some h.state ∙ g.state);
        untouched = λ q. not-both _ q has-state;
      }

pub sizes-with : {s : Sizes} {n E : ℕ} (b : List ℕ) → s ≡ sizes_of b → n ≡ E
    → ◌≡◌ {A = Sizes} (record { nodes = s.nodes; fan = s.fan; threads = s.threads; items = n }) (sizes_with E b)
sizes-with b p q = rw (p, q)

-- ---- the code's own words: the sizes z and the number of rows n that it read, and the part of the file that it lends

module _ (b : List ℕ) (n : ℕ) (rows : n ≡ row_count b) where
  abbrev part : List ℕ
  part = take (length b - 5) (drop 5 b)

  part-is : part ≡ drop 5 b
  part-is = take_all (length b - 5) (drop 5 b) (simp length-drop (le_refl _))

  threads-part : take n part ≡ threads_of b
  threads-part = rw (part-is, rows)

  orders-part : drop n part ≡ orders_of b
  orders-part = rw (part-is, rows) (drop-drop (row_count b) 5 b)

  module _ (E : ℕ) (few : E ≤ 32)
      (j : List ℕ) (z : Sizes) (sizes : z ≡ sizes_with E b) (e : refusal b (length j) ≡ 0) where
    pub runnable : Runnable z (take n part) (drop n part) j × (length part ≡ n + n)
    runnable =
        let (a, room) = accepted-with b (length j) e in
        let ts = threads-long a in
        let os = orders-long a in (
          rw (threads-part, orders-part, sizes)
              (record {
                range = range-items a.range few;
                few = omega (arith, a.few);
                matched = omega arith;
                room = omega arith;
              }),
          rw part-is (simp length-drop (omega (arith, a.exact))),
        )

    pub ran-benches : (j' : List ℕ) (ls₀ ls : List (List ℕ)) (r : Ran)
        → Runs z (take n part) (drop n part) j j' ls r → BenchesWith E b j j' ls₀ ls r
    ran-benches j' ls₀ ls r h =
        accepted-benches E few b j j' ls₀ ls r e
        (accepted-with b (length j) e).0 (rw (threads-part, orders-part, sizes) at h)

-- ---- the runner

-- the locks that a file which is not refused found do not count
pub benches-from : {E : ℕ} {b j₀ j : List ℕ} {ls₁ ls : List (List ℕ)} {r : Ran} (ls₀ : List (List ℕ))
    → BenchesWith E b j₀ j ls₁ ls r → (refusal b (length j₀) ≡ 0) ⊎ (ls₁ ≡ ls₀) → BenchesWith E b j₀ j ls₀ ls r
unfolding run
benches-from {E} {b} {j₀} {j} {ls₁} {ls} {r} ls₀ h c =
    record {
      answer = h.answer;
      taken = h.taken;
      sizes = h.sizes;
      state = h.state;
      journal = h.journal;
      promises = h.promises;
      untouched = λ q. (elim c [
        | inl e ↦ not-both _ q (there (stateless (answer_number r.answer))
            {x = pair_in ls} {y = (run (sizes_with E b) fresh_pair (rows_of b)).state} (h.state ∙ rw e)).0
        | inr e ↦ h.untouched q ∙ e
      ]);
    }

module _ (b j₀ j : List ℕ) (ls₀ ls : List (List ℕ)) (rest : List ℕ) (r : Ran) (h : Benches b j₀ j ls₀ ls r) where
  tail-is : tail_of b (answer_number r.answer) r.taken ≡ not_run b (length j₀)
  unfolding not_run bench run
  tail-is =
      tail-by b (refusal b (length j₀)) (in_journal (run (sizes_of b) fresh_pair (rows_of b))) (pair_in ls)
      (λ q. no-state _ q (omega (arith, refusal-lt b (length j₀)))) h.answer h.taken h.state

  pub with_tail : rest ≡ tail_of b (answer_number r.answer) r.taken → WithTail b j₀ j ls₀ ls rest (answer_number r.answer) r.taken
  with_tail e = record {
    came = r.answer;
    number = refl;
    benches = subst (λ (z : Sizes). Benches b j₀ j ls₀ ls
        (record { answer = r.answer; taken = r.taken; sizes = z })) h.sizes h;
    tail = e ∙ tail-is;
  }
