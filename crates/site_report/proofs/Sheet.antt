-- The sheet of a site's run, opened by one step; and that it fits.
use Rattle.lock.proofs.Library.{ℕ, suc, ◌+◌, ◌*◌, ◌≤◌, ◌<◌, ◌≡◌, refl, sym, ap, subst, ◌∙◌, List, [], ◌∷◌, ◌++◌}
use Rattle.lock.proofs.Library.{arith, length, length-append, append-nil, take, take_all, length-take, get_or}
use Rattle.lock.proofs.Library.{take-suc}
use Rattle.lock.specs.Text.{text}
use Rattle.lock.specs.Sheet.{lines, answer_line}
use Rattle.lock.specs.Demand.{one}
use Rattle.lock.specs.File.{sizes_of}
use Rattle.lock.specs.declared.Sizes.{Sizes}
use Rattle.text.specs.{declared.Page.Page, Page.{Fits, Adds}, Asked.Asked}
use Rattle.text.proofs.{Lines.{lines-length, Sofar, all}, Shape.answer-length}
use Rattle.text.proofs.Lines as written
use Rattle.text.proofs.Decimal.{digits-length}
use Rattle.site_model.specs.declared.Tally.{Tally}
use Rattle.site_model.specs.Tally.{is_call, is_write_lock, is_read_lock}
use Rattle.site_model.specs.Site.{Going, counted}
use Rattle.site_model.specs.Sheet.{field, line, turns_line, calls_line, rows_line, waits_line, thread_line, cost_lines}
use Rattle.site_model.specs.Sheet.{wait_lines, site_lines, sheet_of, sheet}
use Rattle.site_model.specs.File.{site_of}
use Rattle.site_model.proofs.Replays.{replays}
use Rattle.std.specs.Prelude.{Result, Ok, Err}
use Rattle.lock.specs.declared.Refusal.{Refusal}
use Rattle.lock.specs.Refusal.{number_of, answer_number}
use Rattle.site_turn.specs.declared.SiteState.{SiteState}
use Rattle.site_turn.specs.Turns.{going_of}
use Rattle.site_run.specs.Runs.{Ended, RanSite}
use Rattle.site_run.proofs.Refusal.{accepted}
use Rattle.lock.proofs.Accepted.{neither}
use Rattle.site_report.specs.Sheeted.{SheetsSite}

-- ---- numbers behind each other

module _ (p₀ : Page) (ns : List ℕ) where
  whole : take (length ns) ns ≡ ns
  whole = take_all (length ns) ns (omega arith)

  pub counts-none : Fits p₀ (lines field 0 ns) → Sofar field p₀ (length ns) ns p₀ 0
  counts-none r = written.none field (omega arith) (subst (λ xs. Fits p₀ (lines field 0 xs)) (sym whole) r)

  pub counts_all : {p : Page} {i : ℕ} → Sofar field p₀ (length ns) ns p i → length ns ≤ i → Adds p₀ (lines field 0 ns) p
  counts_all {p} s l = subst (λ xs. Adds p₀ (lines field 0 xs) p) whole (all field s l)

-- ---- calls that threads are in

counted-append : (os : List ℕ) (o : ℕ) → counted is_call (os ++ o ∷ []) ≡ counted is_call os + one (is_call o)
counted-append [] o = omega arith
counted-append (x ∷ os) o = omega (arith, counted-append os o)

pub calls-more : (os : List ℕ) (i n k : ℕ) → i < length os → n ≡ counted is_call (take i os)
    → k ≡ one (is_call (get_or os i 0)) → n + k ≡ counted is_call (take (i + 1) os)
calls-more os i n k l e q =
    let s : i + 1 ≡ suc i = omega arith in
    let t = ap (λ j. counted is_call (take j os)) s ∙ ap (counted is_call) (take-suc os i 0 l)
    ∙ counted-append (take i os) (get_or os i 0) in
    omega (arith, e, q, t)

-- ---- lines

pub costs-are : (y : Tally) (os : List ℕ) {n : ℕ} → n ≡ counted is_call os
    → cost_lines y os
    ≡ (text "turns" ++ lines field 0 ((y.passed + y.holding + y.thinking + y.rows) ∷ y.passed ∷ y.holding
    ∷ y.thinking ∷ []) ++ 10 ∷ [])
    ++ (text "calls" ++ lines field 0 (y.finished ∷ n ∷ []) ++ 10 ∷ [])
    ++ (text "rows" ++ lines field 0 (y.rows ∷ y.failed ∷ y.root ∷ y.held ∷ []) ++ 10 ∷ [])
unfolding cost_lines turns_line calls_line rows_line line
costs-are y os e = rw e

pub waits-are : (y : Tally) (os : List ℕ) {w r : ℕ} → w ≡ counted is_write_lock os → r ≡ counted is_read_lock os
    → wait_lines y os
    ≡ (text "write-locks" ++ lines field 0 (y.writers.got ∷ y.writers.waited ∷ y.writers.longest ∷ w ∷ [])
    ++ 10 ∷ [])
    ++ (text "read-locks" ++ lines field 0 (y.readers.got ∷ y.readers.waited ∷ y.readers.longest ∷ r ∷ [])
    ++ 10 ∷ [])
unfolding wait_lines waits_line line
waits-are y os e f = rw (e, f)

pub thread-is : (fs : List ℕ) (t d : ℕ) → thread_line fs t d ≡ text "thread" ++ lines field 0 (t ∷ d ∷ get_or fs t 0 ∷ []) ++ 10 ∷ []
unfolding thread_line line
thread-is fs t d = refl

-- ---- lengths

field-length : (i n : ℕ) → length (field i n) ≤ 21
field-length i n = omega (arith, digits-length 20 n)

fields-length : (ns : List ℕ) → length (lines field 0 ns) ≤ length ns * 21
fields-length ns = lines-length field 21 field-length 0 ns

costs-length : (y : Tally) (os : List ℕ) → length (cost_lines y os) ≤ 240
unfolding text
costs-length y os =
    rw (costs-are y os refl) (simp length-append (omega (
      arith,
      fields-length ((y.passed + y.holding + y.thinking + y.rows) ∷ y.passed ∷ y.holding ∷ y.thinking ∷ []),
      fields-length (y.finished ∷ counted is_call os ∷ []),
      fields-length (y.rows ∷ y.failed ∷ y.root ∷ y.held ∷ []),
    )))

waits-length : (y : Tally) (os : List ℕ) → length (wait_lines y os) ≤ 200
unfolding text
waits-length y os =
    rw (waits-are y os refl refl) (simp length-append (omega (
      arith,
      fields-length (y.writers.got ∷ y.writers.waited ∷ y.writers.longest ∷ counted is_write_lock os ∷ []),
      fields-length (y.readers.got ∷ y.readers.waited ∷ y.readers.longest ∷ counted is_read_lock os ∷ []),
    )))

thread-length : (fs : List ℕ) (t d : ℕ) → length (thread_line fs t d) ≤ 70
unfolding text
thread-length fs t d =
    rw (thread-is fs t d) (simp length-append (omega (arith, fields-length (t ∷ d ∷ get_or fs t 0 ∷ []))))

threads-length : (fs ds : List ℕ) (n : ℕ) → n ≤ 64 → length (lines (thread_line fs) 0 (take n ds)) ≤ 4480
threads-length fs ds n l =
    omega (arith, lines-length (thread_line fs) 70 (thread-length fs) 0 (take n ds), length-take n ds)

parts-length : (a b c : List ℕ) → length a ≤ 240 → length b ≤ 200 → length c ≤ 4480 → length (a ++ b ++ c) ≤ 4920
parts-length a b c h k l = simp length-append (omega (arith, h, k, l))

site-length : (n : ℕ) (g : Going) → n ≤ 64 → length (site_lines n g) ≤ 4920
unfolding site_lines
site-length n g l =
    parts-length (cost_lines g.tally g.order) (wait_lines g.tally g.order) _ (costs-length g.tally g.order) (waits-length g.tally g.order)
    (threads-length g.failed g.done n l)

pub answer-fits : (a n : ℕ) → length (answer_line a n) ≤ 8192
answer-fits a n = omega (arith, answer-length a n)

pub full-fits : (a n : ℕ) (g : Going) → n ≤ 64 → length (answer_line a g.row ++ site_lines n g) ≤ 8192
full-fits a n g l =
    omega (
      arith,
      length-append (answer_line a g.row) (site_lines n g),
      answer-length a g.row,
      site-length n g l,
    )

-- ---- the sheet of what was run

module _ {b ts : List ℕ} {s₀ s : SiteState} where
  -- a file that was refused
  pub short-is : {r : Refusal} → RanSite b ts s₀ s (Err r) → answer_line (number_of r) 0 ≡ sheet b ts
  unfolding sheet sheet_of
  short-is {r} k = sym (append-nil (answer_line (number_of r) 0)) ∙ ap (sheet_of (sizes_of b).threads) k.ran

  -- one that was run, with the sizes that were read
  module _ {a : Result (Unit {0}) Refusal} (k : RanSite b ts s₀ s (Ok a)) where
    pub ended-is : Ended s
    ended-is = k.ended.1

    module _ {z : Sizes} (e : z ≡ sizes_of b) where
      pub threads-few : z.threads ≤ 64
      threads-few = rw e k.ended.0

      pub full_is : answer_line (answer_number a) s.row ++ site_lines z.threads (going_of s) ≡ sheet b ts
      unfolding sheet sheet_of
      full_is = rw e (ap (sheet_of (sizes_of b).threads) k.ran)

pub sheets : {b ts t₀ t : List ℕ} {len : ℕ} → Asked (sheet b ts) t₀ t len → SheetsSite b ts t₀ t len
sheets {b} {ts} a =
    record {
      asked = a;
      replays = λ e. replays (site_of b) (accepted b (length ts) (neither _ _ e).0).range ts;
    }
