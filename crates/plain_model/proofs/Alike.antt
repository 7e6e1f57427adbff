-- Both sheets at rest: one form, and what fills its blanks.
use Rattle.lock.proofs.Library.{ℕ, zero, suc, ◌<◌, ◌≡◌, refl, sym, ap, ap₂, ◌∙◌, List, [], ◌∷◌, ◌++◌, append_assoc}
use Rattle.lock.proofs.Library.{none, some, arith, length, get_or, take, drop}
use Rattle.lock.specs.Sheet.{closed_field, root_line, word_line, queue_line, standing_name, ticket_field, thread_line}
use Rattle.lock.{specs.Queue.groups, specs.Text.text, specs.Text.decimal, specs.Sheet.state_lines}
use Rattle.laws.proofs.Lock.{Word, opened, is_closed, Standing, Thread, standing, Sizes, State, fresh, fresh_thread}
use Rattle.laws.proofs.Lock.{word_at, lines}
use Rattle.pair.specs.{Single.beside, Sheet.pair_lines}
use Rattle.plain_model.specs.Sheet.{plain_root_line, plain_thread_line, plain_lines}
use Rattle.plain_model.specs.Alike.{thread_form, sheet_form, root_numbers, node_lines, AlikeSheets}
use Rattle.plain_model.specs.{Root.is_shut, Plain.Plain, Equal.ticketless, Equal.Same}
use Rattle.plain_model.proofs.{Sight.looks-length, Rest.Rest, Rest.looks-same, Rest.same_of}

-- ---- the lines, texts and numbers being left as they are

root_is : (v : Word)
    → root_line v ≡ text "root " ++ decimal v.direct ++ text " " ++ decimal v.tree ++ closed_field (is_closed v)
unfolding root_line
root_is v = refl

first_word : (n : ℕ) (ws : List Word) → 0 < n → 0 < length ws
    → lines word_line 0 (take n ws) ≡ root_line (get_or ws 0 (opened 0 0)) ++ lines word_line 1 (drop 1 (take n ws))
unfolding lines word_line
first_word zero ws h k = absurd (omega arith)
first_word (suc n) [] h k = absurd (omega arith)
first_word (suc n) (w ∷ ws) h k = refl

tree-thread : (t : ℕ) (h : Thread) → thread_line t h ≡ thread_form ticket_field t h
unfolding thread_line thread_form
tree-thread t h = refl

plain-thread : (t : ℕ) (h : Thread)
    → plain_thread_line t h ≡ text "thread " ++ decimal t ++ (standing_name (standing h.phase) ++ text " - 0\n")
unfolding plain_thread_line
plain-thread t h = refl

tree_is : (z : Sizes) (s : State)
    → state_lines z s
    ≡ lines word_line 0 (take z.nodes s.words)
    ++ queue_line s.mutex (groups s.queue) s.queue.waiting
    ++ lines thread_line 0 (take z.threads s.threads)
unfolding state_lines
tree_is z s = refl

plain-is : (z : Sizes) (p : Plain)
    → plain_lines z (some p)
    ≡ text "root " ++ decimal p.root.count ++ closed_field (is_shut p.root)
    ++ queue_line none (groups p.queue) p.queue.waiting
    ++ lines plain_thread_line 0 (take z.threads p.threads)
unfolding plain_root_line queue_line lines plain_thread_line
plain-is z p = refl

-- ---- the threads' lines

tree-threads : (i : ℕ) (hs : List Thread) → lines thread_line i hs ≡ lines (thread_form ticket_field) i hs
unfolding lines
tree-threads i [] = refl
tree-threads i (h ∷ hs) = ap₂ ◌++◌ (tree-thread i h) (tree-threads (suc i) hs)

name-bare : (x : Standing) → standing_name (ticketless x) ≡ standing_name x
unfolding standing_name
name-bare Standing.Idle = refl
name-bare (Standing.Reading k) = refl
name-bare Standing.Writing = refl
name-bare Standing.Calling = refl
name-bare Standing.Asleep = refl

line-end : text " - 0\n" ≡ text " -" ++ (text " " ++ (decimal 0 ++ text "\n"))
unfolding text decimal
line-end = refl

-- a plain thread's line is that of a thread of the same standing which has not failed, with `-` for its ticket
bare-thread : (t : ℕ) (h g : Thread) → standing g.phase ≡ ticketless (standing h.phase) → h.failures ≡ 0
    → plain_thread_line t g ≡ thread_form (λ x. text " -") t h
unfolding thread_form
bare-thread t h g e f = rw (plain-thread t g, e, name-bare (standing h.phase), f, line-end) (simp append_assoc)

bare-threads : (n i : ℕ) (hs gs : List Thread) → length hs ≡ length gs
    → ((u : ℕ) → standing (get_or gs u fresh_thread).phase ≡ ticketless (standing (get_or hs u fresh_thread).phase))
    → ((u : ℕ) → (get_or hs u fresh_thread).failures ≡ 0)
    → lines plain_thread_line i (take n gs) ≡ lines (thread_form (λ x. text " -")) i (take n hs)
unfolding lines
bare-threads zero i hs gs l e f = refl
bare-threads (suc n) i [] [] l e f = refl
bare-threads (suc n) i [] (g ∷ gs) l e f = absurd (omega arith)
bare-threads (suc n) i (h ∷ hs) [] l e f = absurd (omega arith)
bare-threads (suc n) i (h ∷ hs) (g ∷ gs) l e f =
    ap₂ ◌++◌ (bare-thread i h g (e 0) (f 0))
    (bare-threads n (suc i) hs gs (omega arith) (λ u. e (suc u)) (λ u. f (suc u)))

-- ---- the sheets

-- the bench's lines are those of the first lock, and behind them the second's
pair_is : (z : Sizes) (s : State) → pair_lines z (beside s) ≡ state_lines z s ++ state_lines z fresh
unfolding pair_lines
pair_is z s = refl

pub alike_of : (z : Sizes) (s : State) (p : Plain) → Rest z s p → AlikeSheets z (beside s) p
unfolding sheet_form
alike_of z s p rest =
    record {
      tree = pair_is z s ∙ ap (λ (x : List ℕ). x ++ state_lines z fresh) tree;
      plain = rw (plain-is z p, same.flag, same.queue, same.mutex, threads) (simp append_assoc);
    }
  where
    words : lines word_line 0 (take z.nodes s.words) ≡ root_line (word_at s 0) ++ node_lines z s
    words =
        first_word z.nodes s.words rest.kept.inv.sizes.nodes_least (omega (arith, rest.kept.inv.words))

    tree : state_lines z s ≡ sheet_form (root_numbers s) (node_lines z s) ticket_field z s
    tree =
        rw (tree_is z s, words, root_is (word_at s 0), tree-threads 0 (take z.threads s.threads))
        (simp append_assoc)

    same : Same s p
    same = same_of z s p rest

    long : length s.threads ≡ length p.threads
    long = sym (looks-length s.threads) ∙ ap length (looks-same z s p rest) ∙ looks-length p.threads

    threads : lines plain_thread_line 0 (take z.threads p.threads)
        ≡ lines (thread_form (λ x. text " -")) 0 (take z.threads s.threads)
    threads = bare-threads z.threads 0 s.threads p.threads long same.standings same.unfailed
