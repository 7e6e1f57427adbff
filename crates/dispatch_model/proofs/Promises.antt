-- All that is claimed of the dispatcher, of every file and both buffers; first of the schedule that comes back: the
-- bench accepts it, reads the steps from it, and prints the dispatcher's lines.
use Rattle.lock.proofs.Library.{ℕ, zero, suc, ◌+◌, ◌*◌, ◌≤◌, ◌≡◌, refl, sym, ap, true, List, [], ◌∷◌, ◌++◌, map, Option}
use Rattle.lock.proofs.Library.{some, arith, eqb, length, length-append, length-map, take_at, drop_at, le-leb, eqb-true}
use Rattle.lock.proofs.Library.{eqb-false, subst}
use Rattle.laws.proofs.Lock.{Sizes, State, fresh, runs, Row, run, InRange}
use Rattle.lock.specs.File.{sizes_of, row_count, threads_of, orders_of, paired, rows_of, sizes_in_range, refusal, file_refusal}
use Rattle.lock.specs.File.{filed}
use Rattle.lock.specs.Sheet.{answer_line}
use Rattle.pair.specs.Pair.{fresh_pair}
use Rattle.pair.specs.Pair as pair
use Rattle.pair.specs.Single.{beside_if, as_pair}
use Rattle.pair.specs.File.{bench}
use Rattle.pair.specs.Sheet.{pair_lines_if, sheet_of, sheet}
use Rattle.pair.proofs.Single.{single, taken-low}
use Rattle.lock.proofs.Choice.{if-both}
use Rattle.dispatch_model.specs.Dispatch.{Chooser, most, dispatch_by, round, dispatch, by_turns, drawn}
use Rattle.dispatch_model.specs.File.{early_refusal, first_refusal, Way, answered_rows, answered_by}
use Rattle.dispatch_model.specs.File.{answered, sheet_by}
use Rattle.dispatch_model.specs.Claims.{Replays, SameSheet, Dispatches, Promises, Draws, DrawPromises}
use Rattle.dispatch_model.proofs.Trace.{Replayed, dispatch_runs}
use Rattle.lock.proofs.Accepted.{accepted, accepted-is}
use Rattle.dispatch_model.proofs.Fair.{dispatch-fair}
use Rattle.dispatch_model.proofs.Passing.{dispatch-round, round-once}
use Rattle.dispatch_model.proofs.Turns.{drawn-in-order, drawn-at-turns}
use Rattle.dispatch_model.proofs.Ends.{dispatch-in-order, dispatch-ends}
use Rattle.dispatch_model.proofs.Stranded.{dispatch-unstranded, drawn-unstranded}
use Rattle.dispatch_model.proofs.Suited.{dispatch-served, dispatch-cleared, drawn-served, drawn-cleared}

-- ---- the file that is made of steps

paired-back : (rs : List Row) → paired (map (λ (r : Row). r.thread) rs) (map (λ (r : Row). r.order) rs) ≡ rs
paired-back [] = refl
paired-back (r ∷ rs) = ap (λ (xs : List Row). r ∷ xs) (paired-back rs)

module _ (z : Sizes) (rs : List Row) where
  abbrev named : List ℕ
  named = map (λ (r : Row). r.thread) rs

  abbrev ordered : List ℕ
  ordered = map (λ (r : Row). r.order) rs

  counted : row_count (filed z rs) ≡ length rs
  counted = omega arith

  long : length (filed z rs) ≡ 5 + 2 * length rs
  long = simp (length-append, length-map) (omega arith)

  threads-back : threads_of (filed z rs) ≡ named
  threads-back = rw counted (take_at named ordered (length rs) (length-map rs _))

  orders-back : orders_of (filed z rs) ≡ ordered
  orders-back = let e : 5 + row_count (filed z rs) ≡ suc (suc (suc (suc (suc (length rs))))) =
      omega (arith, counted) in rw e (drop_at named ordered (length rs) (length-map rs _))

  pub rows_back : rows_of (filed z rs) ≡ rs
  rows_back = rw (threads-back, orders-back) (paired-back rs)

  module _ (r : InRange z) (few : length rs ≤ 4096) where
    sized : sizes_in_range (filed z rs) ≡ true
    sized =
        rw (
          counted,
          le-leb 1 z.nodes r.nodes_least,
          le-leb z.nodes 32 r.nodes,
          le-leb 1 z.fan r.fan_least,
          le-leb z.fan 16 r.fan,
          le-leb 1 z.threads r.threads_least,
          le-leb z.threads 64 r.threads,
          le-leb (length rs) 4096 few,
        )

    pub taken-by-bench : (j : ℕ) → 2 * length rs ≤ j → refusal (filed z rs) j ≡ 0
    taken-by-bench j h =
        accepted (filed z rs) j (omega (arith, long)) sized (omega (arith, long, counted)) (omega (arith, counted))

    -- the bench reads back the sizes without a till; a file's own have none
    sheet-back : (o : Option State)
        → (run z fresh rs).answer ≡ 0 → (run z fresh rs).taken ≡ length rs → o ≡ some (run z fresh rs).state
        → pair.run (sizes_of (filed z rs)) fresh_pair rs ≡ as_pair (run z fresh rs)
        → (j : ℕ) → 2 * length rs ≤ j → sheet (filed z rs) j ≡ answer_line 0 (length rs) ++ pair_lines_if z (beside_if o)
    unfolding sheet sheet_of bench
    sheet-back o a t e p j l = rw (taken-by-bench j l, rows_back, p, a, t, e)

-- ---- the answer to a file

-- where something comes back, the file passed the first checks
pub early-range : (b : List ℕ) (m n : ℕ) → early_refusal b m n ≡ 0 → InRange (sizes_of b)
early-range b m n =
    if-both (λ (x : ℕ). x ≡ 0 → InRange (sizes_of b)) (eqb (file_refusal b) 0)
    (λ e q. (accepted-is b (eqb-true _ 0 e)).range) (λ e q. absurd (eqb-false _ 0 e q))

-- of every chooser
rows-replay : (z : Sizes) (give : Way) {C : Type 0} (ch : Chooser C) (c : C) (rs : List Row)
    → give z rs ≡ dispatch_by ch c z rs → (k : ℕ) → Replays z (answered_rows give z rs k)
unfolding run runs
rows-replay z give ch c rs same zero =
    let h = subst (Replayed z most fresh) (sym same) (dispatch_runs z ch c rs) in
    record {
      few = h.few;
      answer = h.answer;
      taken = h.taken;
      state = ap some (sym h.state);
      both = single z _ (taken-low z fresh (give z rs).steps h.taken);
    }
rows-replay z give ch c rs same (suc k) =
    record { few = omega arith; answer = refl; taken = refl; state = refl; both = single z [] tt }

-- a way that is a chooser's
record Chooses (give : Way) : Type 1 where
  C : Type 0
  ch : Sizes → Chooser C
  c : C
  same : (z : Sizes) (rs : List Row) → give z rs ≡ dispatch_by (ch z) c z rs

module _ (give : Way) (x : Chooses give) (b : List ℕ) (m n : ℕ) (e : early_refusal b m n ≡ 0) where
  replays-by : Replays (sizes_of b) (answered_by give b m n)
  unfolding answered_by
  replays-by = rw e (rows-replay (sizes_of b) give (x.ch (sizes_of b)) x.c (rows_of b) (x.same (sizes_of b) (rows_of b))
      (first_refusal (sizes_of b) (rows_of b)))

  same-sheet-by : SameSheet b (sheet_by give b m n) (answered_by give b m n)
  unfolding sheet_by sheet_of
  same-sheet-by =
      let h = replays-by in
      let a = answered_by give b m n in
      record {
        lines = pair_lines_if (sizes_of b) (beside_if a.state);
        own = refl;
        bench = sheet-back (sizes_of b) a.steps
            (early-range b m n e) h.few a.state h.answer h.taken h.state h.both;
      }

going-round : Chooses dispatch
going-round = record { C = ℕ; ch = λ z. round z.threads; c = 0; same = λ z rs. refl }

at-turns : (ts : List ℕ) → Chooses (drawn ts)
at-turns ts = record { C = List ℕ; ch = λ z. by_turns z.threads; c = ts; same = λ z rs. refl }

-- ---- all claims

rows-dispatched : (z : Sizes)
    → InRange z → (rs : List Row) → first_refusal z rs ≡ 0 → Dispatches z rs (answered_rows dispatch z rs 0)
rows-dispatched z r rs e =
    record {
      round = dispatch-round z r rs e;
      once = round-once z rs _ (dispatch-round z r rs e);
      fair = dispatch-fair z r rs e;
      in_order = dispatch-in-order z rs e r;
      ends = dispatch-ends z rs e r;
      served = dispatch-served z r rs e;
      cleared = dispatch-cleared z r rs e;
      unstranded = dispatch-unstranded z r rs e;
    }

rows-drawn : (ts : List ℕ) (z : Sizes)
    → InRange z → (rs : List Row) → first_refusal z rs ≡ 0 → Draws ts z rs (answered_rows (drawn ts) z rs 0)
rows-drawn ts z r rs e =
    record {
      at_turns = drawn-at-turns ts z rs e r;
      in_order = drawn-in-order ts z rs e r;
      served = λ h. drawn-served z r rs e h ts;
      cleared = λ h. drawn-cleared z r rs e h ts;
      unstranded = drawn-unstranded z ts r rs e;
    }

dispatched : (b : List ℕ) (m n : ℕ) → early_refusal b m n ≡ 0 → first_refusal (sizes_of b) (rows_of b) ≡ 0
    → Dispatches (sizes_of b) (rows_of b) (answered b m n)
unfolding answered_by
dispatched b m n p e = rw (p, e) (rows-dispatched (sizes_of b) (early-range b m n p) (rows_of b) e)

drawn-so : (ts b : List ℕ) (m n : ℕ) → early_refusal b m n ≡ 0 → first_refusal (sizes_of b) (rows_of b) ≡ 0
    → Draws ts (sizes_of b) (rows_of b) (answered_by (drawn ts) b m n)
unfolding answered_by
drawn-so ts b m n p e = rw (p, e) (rows-drawn ts (sizes_of b) (early-range b m n p) (rows_of b) e)

pub promises : (b : List ℕ) (m n : ℕ) → Promises b m n
promises b m n =
    record {
      replays = replays-by dispatch going-round b m n;
      same_sheet = same-sheet-by dispatch going-round b m n;
      dispatches = dispatched b m n;
    }

pub draw-promises : (ts b : List ℕ) (m n : ℕ) → DrawPromises ts b m n
draw-promises ts b m n =
    record {
      replays = replays-by (drawn ts) (at-turns ts) b m n;
      same_sheet = same-sheet-by (drawn ts) (at-turns ts) b m n;
      draws = drawn-so ts b m n;
    }
