-- From the checks and the loop to what the dispatcher promises of a file.
use Rattle.lock.proofs.Library.{ℕ, suc, ◌+◌, ◌-◌, ◌≤◌, zero, ◌<◌, ◌≡◌, refl, ap, ◌∙◌, sym, subst, List, [], ◌∷◌, ◌++◌}
use Rattle.lock.proofs.Library.{map, map-map, append_assoc, arith, length, set, take, drop, length-append, length-set}
use Rattle.lock.proofs.Library.{get_or, drop_of_length-le, length-map, length-drop, drop-drop, drop-cons, take_at}
use Rattle.lock.proofs.Library.{drop_at, length-take-le, ◌≢◌, eqb, ltb, eq-eqb, ne_eqb, eqb-true, eqb-false, lt-ltb}
use Rattle.lock.proofs.Library.{le-ltb, true, false, none, some, ℕ_discrete, dec_lt, ◌*◌}
use Rattle.text.specs.Writing.{Wrote}
use native.Mathlib.Numerals.{add-one}
use Rattle.laws.proofs.Lock.{Sizes, Row, InRange, All, Entry, fresh, OfRow}
use Rattle.lock.specs.Run.{row_refusal}
use Rattle.lock.specs.File.{sizes_in_range, paired, sizes_of, row_count, rows_of, file_refusal, stateless, filed}
use Rattle.dispatch_model.proofs.Order.{Passes, rows_both}
use Rattle.dispatch_model.specs.File.{first_refusal, early_refusal, Way, Answered, answered_rows, answered_by, scheduled}
use Rattle.dispatch_model.specs.File.{schedule_by, sheet_by, sheet_after_by}
use Rattle.lock.specs.declared.Ran.{Ran}
use Rattle.std.specs.Prelude.{Err}
use Rattle.lock.specs.{declared.Refusal.{Refusal}, Refusal.{number_of, answer_number}, File.{ran_after}}
use Rattle.file.proofs.Checks.{not-zero}
use Rattle.lock.specs.Sheet.{no_room, sheet_refusal, buffer_after, length_after}
use Rattle.lock.specs.Journal.{over, journal_bytes}
use Rattle.lock.proofs.Accepted.{Accepted, accepted-is, threads-long, orders-long, shape-lt, first_part as threads-part}
use Rattle.lock.proofs.Accepted.{second-part as orders-part}
use Rattle.lock.proofs.Given.{no-state, row-state}
use Rattle.lock.proofs.Choice.{if-both}
use Rattle.journal.proofs.Bytes.{bytes-none}
use Rattle.dispatch_model.specs.Dispatch.{Chooser, Dispatched, dispatch_by}
use Rattle.dispatch_model.proofs.Order.{Lawful}
use Rattle.dispatch_model.proofs.Ends.{late}
use Rattle.dispatch_model.proofs.Trace.{dispatch_runs}
use Rattle.dispatcher.specs.Rows.{as_entry, Dispatchable, Dispatches}
use Rattle.dispatcher.specs.Store.{stored, Storable}
use Rattle.dispatcher.specs.Answer.{Opens, AnswersBy, SheetedBy}
use Rattle.text.specs.Asked.{Asked}
use Rattle.pair.specs.Pair.{first, second}
use Rattle.pair.specs.Single.{beside_if}
use Rattle.report.specs.Report.{pair_left}
use Rattle.turn.specs.Turn.{cells_of, Begins}
use Rattle.bench.specs.Sheeted.{run_sheet}

-- ---- the bytes of a schedule: its head byte by byte, then two texts behind each other

abbrev pub headed : ℕ → ℕ → ℕ → ℕ → ℕ → List ℕ → List ℕ
headed a b c d e l = set (set (set (set (set l 0 a) 1 b) 2 c) 3 d) 4 e

pub headed-is : (a b c d e : ℕ) (l : List ℕ) → 5 ≤ length l → headed a b c d e l ≡ a ∷ b ∷ c ∷ d ∷ e ∷ drop 5 l
headed-is a b c d e [] h = absurd (omega arith)
headed-is a b c d e (v ∷ []) h = absurd (omega arith)
headed-is a b c d e (v ∷ w ∷ []) h = absurd (omega arith)
headed-is a b c d e (v ∷ w ∷ x ∷ []) h = absurd (omega arith)
headed-is a b c d e (v ∷ w ∷ x ∷ y ∷ []) h = absurd (omega arith)
headed-is a b c d e (v ∷ w ∷ x ∷ y ∷ z ∷ l) h = refl

pub headed-long : (a b c d e : ℕ) (l : List ℕ) → length (headed a b c d e l) ≡ length l
headed-long a b c d e l = simp length-set

-- behind the head nothing else has changed
headed-tail : (a b c d e : ℕ) (l : List ℕ) (k : ℕ) → 5 ≤ length l → 5 ≤ k → drop k (headed a b c d e l) ≡ drop k l
headed-tail a b c d e l k h five =
    let s : k ≡ suc (suc (suc (suc (suc (k - 5))))) = omega arith in
    let t : 5 + (k - 5) ≡ k = omega arith in
    ap (drop k) (headed-is a b c d e l h) ∙ ap (λ (x : ℕ). drop x (a ∷ b ∷ c ∷ d ∷ e ∷ drop 5 l)) s
    ∙ drop-drop (k - 5) 5 l ∙ ap (λ (x : ℕ). drop x l) t

-- the head, and two texts of n bytes behind it
pub stored_is : (a b c d e n : ℕ) (x y l m : List ℕ) {to : ℕ} → length x ≡ n → length y ≡ n → 5 ≤ length l
    → Wrote (headed a b c d e l) 5 (x ++ y) m to
    → m ≡ (a ∷ b ∷ c ∷ d ∷ e ∷ []) ++ x ++ y ++ drop (5 + n + n) l
stored_is a b c d e n x y l m hx hy h w =
    let k : 5 + length (x ++ y) ≡ 5 + n + n = simp length-append (omega arith) in
    w.bytes
    ∙ ap (λ (z : List ℕ). z ++ (x ++ y) ++ drop (5 + length (x ++ y)) (headed a b c d e l))
    (ap (take 5) (headed-is a b c d e l h))
    ∙ ap (λ (j : ℕ). (a ∷ b ∷ c ∷ d ∷ e ∷ []) ++ (x ++ y) ++ drop j (headed a b c d e l)) k
    ∙ ap (λ (z : List ℕ). (a ∷ b ∷ c ∷ d ∷ e ∷ []) ++ (x ++ y) ++ z)
    (headed-tail a b c d e l (5 + n + n) h (omega arith))

-- ---- refusals 5 and 6 of all rows

abbrev pub row : ℕ → ℕ → Row
row t o = record { thread = t; order = o }

-- ---- all rows: the first i are not refused

abbrev pub Passed : Sizes → List ℕ → List ℕ → ℕ → Type 0
Passed z ts os i = first_refusal z (paired ts os) ≡ first_refusal z (paired (drop i ts) (drop i os))

module _ (z : Sizes) (ts os : List ℕ)
    (i : ℕ) (lt : i < length ts) (same : length os ≡ length ts) (h : Passed z ts os i) where
  pub stops : row_refusal z (row (get_or ts i 0) (get_or os i 0)) ≢ 0
      → row_refusal z (row (get_or ts i 0) (get_or os i 0)) ≡ first_refusal z (paired ts os)
  stops n = rw (
    h,
    drop-cons ts i 0 lt,
    drop-cons os i 0 (omega arith),
    ne_eqb (row_refusal z (row (get_or ts i 0) (get_or os i 0))) 0 n,
  )

  pub passes : row_refusal z (row (get_or ts i 0) (get_or os i 0)) ≡ 0 → Passed z ts os (i + 1)
  passes e = rw (
    h,
    add-one,
    drop-cons ts i 0 lt,
    drop-cons os i 0 (omega arith),
    eq-eqb (row_refusal z (row (get_or ts i 0) (get_or os i 0))) 0 e,
  )

pub all_pass : (z : Sizes) (ts os : List ℕ) (i : ℕ)
    → length ts ≤ i → Passed z ts os i → 0 ≡ first_refusal z (paired ts os)
all_pass z ts os i l h = rw (h, drop_of_length-le ts l)

-- ---- every row's thread is there, once the rows are checked

pub all_there : (z : Sizes) (ts os : List ℕ) → length os ≡ length ts
    → All (Passes z) (paired ts os) → (i : ℕ) → i < length ts → get_or ts i 0 < z.threads
all_there z [] os m a i l = absurd (omega arith)
all_there z (t ∷ ts) [] m a i l = absurd (omega arith)
all_there z (t ∷ ts) (o ∷ os) m a zero l = a.0.there
all_there z (t ∷ ts) (o ∷ os) m a (suc i) l = all_there z ts os (omega arith) a.1 i (omega arith)

-- ---- the schedule's bytes

module _ (z : Sizes) (rs : List Row) (g m : List ℕ) (few : length rs ≤ 4096) (both : 8192 ≤ length g) where
  abbrev given : List ℕ
  given = journal_bytes 4096 (map as_entry rs) g

  abbrev ts : List ℕ
  ts = map (λ (r : Row). r.thread) rs

  abbrev os : List ℕ
  os = map (λ (r : Row). r.order) rs

  given_is : given ≡ over ts (take 4096 g) ++ over os (drop 4096 g)
  given_is = rw (map-map (λ (e : Entry). e.kind) as_entry rs, map-map (λ (e : Entry). e.word) as_entry rs)

  half : length (over ts (take 4096 g)) ≡ 4096
  half = let a : length (take 4096 g) ≡ 4096 = length-take-le 4096 g (omega arith) in
      simp (length-append, length-drop, length-map) (omega arith)

  first_part : take (length rs) given ≡ ts
  first_part =
      let e : (over ts (take 4096 g)) ++ over os (drop 4096 g) ≡ ts ++ (drop (length ts) (take 4096 g)
      ++ over os (drop 4096 g)) = append_assoc ts (drop (length ts) (take 4096 g)) (over os (drop 4096 g)) in
      ap (take (length rs)) (given_is ∙ e) ∙ take_at ts _ (length rs) (length-map rs _)

  second-part : take (length rs) (drop 4096 given) ≡ os
  second-part =
      ap (λ (x : List ℕ). take (length rs) (drop 4096 x)) given_is
      ∙ ap (take (length rs)) (drop_at (over ts (take 4096 g)) (over os (drop 4096 g)) 4096 half)
      ∙ take_at os _ (length rs) (length-map rs _)

  filed-long : length (filed z rs) ≡ 5 + length rs + length rs
  filed-long = simp (length-append, length-map) (omega arith)

  pub stored-filed : stored z (length rs) given m ≡ over (filed z rs) m
  stored-filed = rw (first_part, second-part) (ap (λ (k : ℕ). filed z rs ++ drop k m) (sym filed-long))

-- ---- the parts of the file that the code lends

module _ (b : List ℕ) (n : ℕ) (rows : n ≡ row_count b) (a : Accepted b) where
  pub same_rows : paired (take (5 + n - 5) (drop 5 b)) (take (length b - (5 + n)) (drop (5 + n) b)) ≡ rows_of b
  same_rows = rw (threads-part b rows, orders-part b rows)

  pub as_many : length (take (length b - (5 + n)) (drop (5 + n) b)) ≡ length (take (5 + n - 5) (drop 5 b))
  as_many = rw (threads-part b rows, orders-part b rows) (orders-long a ∙ sym (threads-long a))

  not-many : length (take (5 + n - 5) (drop 5 b)) ≤ 4096
  not-many = rw (threads-part b rows) (omega (arith, threads-long a, a.few))

  pub in-file : length b ≡ 5 + 2 * n
  in-file = omega (arith, a.exact, rows)

pub storable : (z : Sizes) (b : List ℕ) (n : ℕ) (g m : List ℕ) → z ≡ sizes_of b → Accepted b → n ≤ 4096
    → 8192 ≤ length g → 8197 ≤ length m → Storable z n g m
storable z b n g m q a few both room = rw q (omega (arith, a.range))

-- ---- before the first step

open-so : (b m₀ : List ℕ) (n : ℕ) → file_refusal b ≡ 0 → 8197 ≤ length m₀ → sheet_refusal n ≡ 0
    → early_refusal b (length m₀) n ≡ 0
open-so b m₀ n ok l k = rw (ok, le-ltb (length m₀) 8197 l, k)

first_so : (b : List ℕ) (z : Sizes) (rs : List Row) (k : ℕ) → z ≡ sizes_of b → rs ≡ rows_of b → k ≡ first_refusal z rs
    → first_refusal (sizes_of b) (rows_of b) ≡ k
first_so b z rs k q same f = rw (← q, ← same) (sym f)

module _ {b m₀ : List ℕ} {n : ℕ} where
  -- refused by 1 to 4 or 9
  turned_down : (k : ℕ) (l : List (List ℕ)) → early_refusal b (length m₀) n ≡ k → k ≢ 0 → Opens b m₀ m₀ n l l k
  turned_down k l e ne =
      record {
        refusal = rw (e, ne_eqb k 0 ne);
        schedule = rw (e, ne_eqb k 0 ne);
        untouched = λ h. refl;
        begins = λ h. absurd (ne (sym e ∙ h));
      }

  pub file-refused : {k : ℕ} {l : List (List ℕ)} → k ≡ file_refusal b → k ≢ 0 → Opens b m₀ m₀ n l l k
  file-refused {k} {l} e ne = turned_down k l (rw (← e, ne_eqb k 0 ne)) ne

  module _ (ok : file_refusal b ≡ 0) where
    pub buffer-refused : {l : List (List ℕ)} → length m₀ < 8197 → Opens b m₀ m₀ n l l 4
    buffer-refused {l} h = turned_down 4 l (rw (ok, lt-ltb (length m₀) 8197 h)) (λ e. omega arith)

    module _ (long : 8197 ≤ length m₀) where
      pub sheet-refused : {k : ℕ} {l : List (List ℕ)} → k ≡ sheet_refusal n → k ≢ 0 → Opens b m₀ m₀ n l l k
      sheet-refused {k} {l} e ne = turned_down k l (rw (ok, le-ltb (length m₀) 8197 long, e)) ne

      -- by a row, or not at all
      module _ (room : sheet_refusal n ≡ 0) {z : Sizes} {rs : List Row} {k : ℕ} {l₀ l : List (List ℕ)} (q : z ≡ sizes_of b)
          (same : rs ≡ rows_of b) (f : k ≡ first_refusal z rs) (fresh : Begins l) where
        pub row-refused : (g : List ℕ) → k ≢ 0 → 8192 ≤ length g → Opens b m₀ (stored z 0 g m₀) n l₀ l k
        row-refused g ne both =
            let early = open-so b m₀ n ok long room in
            let first-is = first_so b z rs k q same f in
            record {
              refusal = rw (early, first-is);
              schedule =
                  rw (early, first-is, ne_eqb k 0 ne) (ap (λ (x : List ℕ). stored z 0 x m₀) (sym (bytes-none 4096 g))
                  ∙ stored-filed z [] g m₀ (omega arith) both ∙ ap (λ (x : Sizes). over (filed x []) m₀) q);
              untouched = λ h. absurd (h early);
              begins = λ h. fresh;
            }

        pub row-free : k ≡ 0 → Opens b m₀ m₀ n l₀ l 0
        row-free e =
            let early = open-so b m₀ n ok long room in
            let first-is = first_so b z rs k q same f in
            record {
              refusal = rw (early, first-is, e);
              schedule = rw (early, first-is, e);
              untouched = λ h. absurd (h early);
              begins = λ h. fresh;
            }

-- ---- the answer

-- of all that is given: the answer is none of those that leave no state
pub record Given (d : Dispatched) : Type 0 where
  pub few : length d.steps ≤ 4096
  pub late : stateless d.answer ≡ false

-- what comes back, by the answer a, in a way to give steps of which P is promised
answers : (give : Way) {P : Type 0} → P → {b m₀ m : List ℕ} {n : ℕ} {l₀ l : List (List ℕ)} {r : Ran} {z : Sizes}
    (a : Answered) → z ≡ sizes_of b → answered_by give b (length m₀) n ≡ a → r.sizes ≡ z
    → answer_number r.answer ≡ a.answer → r.taken ≡ length a.steps
    → pair_left (answer_number r.answer) (cells_of first l) (cells_of second l) ≡ beside_if a.state
    → m ≡ scheduled z a a.state m₀ → (early_refusal b (length m₀) n ≢ 0 → l ≡ l₀)
    → length a.steps ≤ 4096 → AnswersBy give P b m₀ m n l₀ l r
unfolding schedule_by
answers give x {b} {m₀} {n = n} a q e i k t p w u f =
    record {
      sizes = i ∙ q;
      answer = rw e k;
      taken = rw e t;
      state = rw e p;
      schedule = rw (e, ← q) w;
      untouched = u;
      promises = x;
      few = omega arith;
    }

-- 1 to 4 and 9 leave no state, 5 and 6 the fresh one
early-state : (b : List ℕ) (m n : ℕ) → early_refusal b m n ≢ 0 → stateless (early_refusal b m n) ≡ true
early-state b m n =
    if-both P (eqb (file_refusal b) 0)
    (λ e. if-both P (ltb m 8197) (λ k ne. refl) (λ k. if-both P (no_room n) (λ i ne. refl) (λ i ne. absurd (ne refl))))
    (λ e ne. no-state (file_refusal b) ne (omega (arith, shape-lt (length b) (sizes_in_range b) (row_count b))))
  where
    P : ℕ → Type 0
    P k = k ≢ 0 → stateless k ≡ true

first_of : (z : Sizes) (rs : List Row) → first_refusal z rs ≢ 0 → OfRow (first_refusal z rs)
first_of z rs = rows_both z rs (λ k. k ≢ 0 → OfRow k) (λ a n. absurd (n refl)) (λ k o n. o)

module _ {b m₀ m : List ℕ} {n r : ℕ} {l₀ l : List (List ℕ)} (h : Opens b m₀ m n l₀ l r) where
  -- refused before the first step, however steps would be given
  module _ (give : Way) {P : Type 0} (promised : P) {z : Sizes} (q : z ≡ sizes_of b) (x : Refusal) (is : number_of x ≡ r)
    where
      abbrev Refused : Type 0
      Refused = AnswersBy give P b m₀ m n l₀ l (ran_after (Err x) 0 z)

      early-refused : (k : ℕ) → early_refusal b (length m₀) n ≡ k → k ≢ 0 → number_of x ≡ k → Refused
      unfolding answered_by
      early-refused zero e ne i = absurd (ne refl)
      early-refused (suc k) e ne i =
          let some-so : early_refusal b (length m₀) n ≢ 0 = λ i. ne (sym e ∙ i) in
          answers give promised (record { answer = suc k; steps = []; state = none }) q (rw e) refl i refl
          (rw (i, rw e at (early-state b (length m₀) n some-so))) (h.schedule ∙ rw (e, ne_eqb (suc k) 0 ne))
          h.untouched (omega arith)

      late-refused : (k : ℕ) → early_refusal b (length m₀) n ≡ 0 → first_refusal (sizes_of b) (rows_of b) ≡ k → k ≢ 0
          → number_of x ≡ k → Refused
      unfolding answered_by
      late-refused zero e f ne i = absurd (ne refl)
      late-refused (suc k) e f ne i =
          let of_row = subst OfRow f (first_of (sizes_of b) (rows_of b) (λ i. ne (sym f ∙ i))) in
          let fr = h.begins e in
          answers give promised (record { answer = suc k; steps = []; state = some fresh }) q (rw (e, f)) refl i refl
          (rw (i, row-state (suc k) of_row, (fr.each first).state, (fr.each second).state))
          (h.schedule ∙ rw (e, f, ne_eqb (suc k) 0 ne, q)) (λ i. absurd (i e)) (omega arith)

      pub refused-before : Refused
      refused-before = elim (ℕ_discrete (early_refusal b (length m₀) n) 0) [
        | yes e ↦
            let f : r ≡ first_refusal (sizes_of b) (rows_of b) = h.refusal ∙ rw e in
            late-refused r e (sym f) (λ k. not-zero x (is ∙ k)) is
        | no ne ↦
            let f : r ≡ early_refusal b (length m₀) n = h.refusal ∙ rw (ne_eqb (early_refusal b (length m₀) n) 0 ne) in
            early-refused r (sym f) (λ k. not-zero x (is ∙ k)) is
      ]

  -- it is open to steps
  module _ (none_so : r ≡ 0) where
    pub not-early : early_refusal b (length m₀) n ≡ 0
    not-early = elim (ℕ_discrete (early_refusal b (length m₀) n) 0) [
      | yes e ↦ e
      | no x ↦ sym (rw (ne_eqb (early_refusal b (length m₀) n) 0 x) at h.refusal) ∙ none_so
    ]

    known : first_refusal (sizes_of b) (rows_of b) ≡ 0
    known = sym (rw not-early at h.refusal) ∙ none_so

    ok : file_refusal b ≡ 0
    ok =
        if-both (λ (x : ℕ). x ≡ 0 → file_refusal b ≡ 0) (eqb (file_refusal b) 0)
        (λ e q. eqb-true _ 0 e) (λ e q. absurd (eqb-false _ 0 e q)) not-early

    pub good : Accepted b
    good = accepted-is b ok

    pub still : m ≡ m₀
    still = h.schedule ∙ rw (not-early, known)

    pub room : 8197 ≤ length m
    room = rw still (elim (dec_lt (length m₀) 8197) [
      | yes k ↦ let x : ◌≡◌ {A = ℕ} 4 0 = rw (ok, lt-ltb (length m₀) 8197 k) at not-early in absurd (omega arith)
      | no k ↦ omega arith
    ])

    module _ {z : Sizes} (q : z ≡ sizes_of b) {k : ℕ} (rows : k ≡ row_count b) where
      abbrev named : List ℕ
      named = take (5 + k - 5) (drop 5 b)

      abbrev ordered : List ℕ
      ordered = take (length b - (5 + k)) (drop (5 + k) b)

      known-rows : first_refusal z (paired named ordered) ≡ 0
      known-rows = rw (q, same_rows b k rows good) known

      pub dispatchable : (g : List ℕ) → 8192 ≤ length g → Dispatchable z named ordered g × Begins l
      dispatchable g both = (
        record {
          range = rw q good.range;
          few = not-many b k rows good;
          matched = as_many b k rows good;
          room = both;
          known = known-rows;
        },
        h.begins not-early,
      )

      -- what is known of all that a lawful chooser gives, which begins with c
      pub given_so : {C : Type 0} {ch : Chooser C} {Right : C → Type 0} (law : Lawful z.threads ch Right) (c : C)
          → (InRange z → Right c) → Given (dispatch_by ch c z (paired named ordered))
      given_so law c i =
          let r : InRange z = rw q good.range in
          record {
            few = (dispatch_runs z _ c (paired named ordered)).few;
            late = late z law (paired named ordered) known-rows r c (i r);
          }

      -- all was given
      module _ (give : Way) (x : Given (give z (paired named ordered))) (g₀ g : List ℕ) {l' : List (List ℕ)} {y : Ran}
          (both : 8192 ≤ length g₀) (d : Dispatches (give z (paired named ordered)) z g₀ g l' y) where
        pub stores : 8192 ≤ length g → Storable z y.taken g m
        stores i = storable z b y.taken g m q good (omega (arith, d.taken, x.few)) i room

        pub was-given : {P : Type 0} → P → AnswersBy give P b m₀ (stored z y.taken g m) n l₀ l' y
        unfolding answered_by
        was-given promised =
            answers give promised (answered_rows give z (paired named ordered) 0) q
            (rw (not-early, ← q, ← (same_rows b k rows good), known-rows)) d.sizes d.answer d.taken
            (rw (d.answer, x.late) (ap some d.state))
            (rw (still, d.taken, d.steps) (stored-filed z (give z (paired named ordered)).steps g₀ m₀
            x.few both))
            (λ i. absurd (i not-early)) x.few

-- ---- the sheet

same_text : (give : Way) {P : Type 0} (b m₀ m : List ℕ) (n : ℕ) (l₀ l : List (List ℕ)) (r : Ran)
    → AnswersBy give P b m₀ m n l₀ l r
    → run_sheet r l ≡ sheet_by give b (length m₀) n
unfolding sheet_by
same_text give b m₀ m n l₀ l r h = rw (h.state, h.sizes, h.answer, h.taken)

-- the schedule's own number of steps, of a buffer that had none
few-steps : (give : Way) (b m₀ : List ℕ) (n : ℕ) → length (answered_by give b (length m₀) n).steps ≤ 4096
    → row_count m₀ ≤ 4096
    → row_count (schedule_by give b m₀ n) ≤ 4096
unfolding schedule_by
few-steps give b m₀ n h k =
    let a = answered_by give b (length m₀) n in
    elim a.state as (λ o. row_count (scheduled (sizes_of b) a o m₀) ≤ 4096) [ none ↦ k | some s ↦ omega arith ]

pub sheeted : (give : Way) {P : Type 0} (b m₀ m t₀ t : List ℕ) (l₀ l : List (List ℕ)) (r : Ran) (n : ℕ)
    → AnswersBy give P b m₀ m (length t₀) l₀ l r
    → Asked (run_sheet r l) t₀ t n → SheetedBy give P b m₀ m t₀ t n
unfolding sheet_after_by
sheeted give b m₀ m t₀ t l₀ l r n h a =
    let same = same_text give b m₀ m (length t₀) l₀ l r h in
    record {
      schedule = h.schedule;
      sheet = a.buffer ∙ ap (λ (x : List ℕ). buffer_after x t₀) same;
      long = a.long ∙ ap (λ (x : List ℕ). length_after x t₀) same;
      promises = h.promises;
      within = a.within;
      few = λ k. rw h.schedule (few-steps give b m₀ (length t₀) (omega (arith, h.taken, h.few)) k);
    }

-- ---- what is promised of a way to give steps

module _ {give : Way} {P : Type 0} {b m₀ m : List ℕ} where
  pub promised : {n : ℕ} {ls₀ ls : List (List ℕ)} {r : Ran} → AnswersBy give (Unit {0}) b m₀ m n ls₀ ls r → P
      → AnswersBy give P b m₀ m n ls₀ ls r
  promised h p =
      record {
        sizes = h.sizes;
        answer = h.answer;
        taken = h.taken;
        state = h.state;
        schedule = h.schedule;
        untouched = h.untouched;
        promises = p;
        few = h.few;
      }

  pub sheet-promised : {t₀ t : List ℕ} {len : ℕ} → SheetedBy give (Unit {0}) b m₀ m t₀ t len → P
      → SheetedBy give P b m₀ m t₀ t len
  sheet-promised h p =
      record {
        schedule = h.schedule;
        sheet = h.sheet;
        long = h.long;
        promises = p;
        within = h.within;
        few = h.few;
      }
