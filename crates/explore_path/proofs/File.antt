-- The file that the sizes and the rows make, and when it is written.
use lib.ListN.{get_or-append, get_or-map, length-map}
use lib.Seq.{get_or-append-add, get_or-drop}
use Rattle.lock.proofs.Library.{ℕ, zero, suc, ◌+◌, ◌-◌, ◌*◌, ◌/◌, ◌%◌, ◌≤◌, ◌<◌, ◌≡◌, refl, sym, ap, ◌∙◌, List, [], ◌∷◌}
use Rattle.lock.proofs.Library.{◌++◌, arith, dec_lt, length, get_or, set, drop, map, length-append, length-drop}
use Rattle.lock.proofs.Library.{ext_get_or, Bool, true, false, lt-ltb, le-ltb, ltb-true}
use Rattle.lock.proofs.{Choice.clash, Accepted.within-true}
use Rattle.std.specs.Prelude.{if◌then◌else◌}
use Rattle.lock.specs.{Machine.Row, File.{within, filed}, Journal.over}
use Rattle.explore_store.specs.Store.{depth_at}
use Rattle.explore_search.specs.Search.{path_in, path_to, sizes_for}
use Rattle.explore_path.specs.Schedule.{no_row, RowsFrom, is_there, schedule_of, Schedules}
use Rattle.explore_path.proofs.Rows.{length-path}

-- ---- the tests

both_true : (b x : Bool) → (if b then x else false) ≡ true → (b ≡ true) × (x ≡ true)
both_true true x e = (refl, e)
both_true false x e = clash cc

pub record There (n f t : ℕ) (st : List ℕ) (i : ℕ) : Type 0 where
  pub nodes : n ≤ 8
  pub fan : f ≤ 16
  pub threads : t ≤ 8
  pub record-there : i < length st / 8

pub there : (n f t : ℕ) (st : List ℕ) (i : ℕ) → is_there n f t st i ≡ true → There n f t st i
there n f t st i e =
    let a = both_true (within 1 8 n) _ e in
    let b = both_true (within 1 16 f) _ a.1 in
    let c = both_true (within 1 8 t) _ b.1 in
    record {
      nodes = (within-true 1 8 n a.0).1;
      fan = (within-true 1 16 f b.0).1;
      threads = (within-true 1 8 t c.0).1;
      record-there = ltb-true _ _ c.1;
    }

module _ (n f t : ℕ) (st : List ℕ) (i : ℕ) (out : List ℕ) where
  nothing : schedule_of n f t st i (length out) ≡ [] → Schedules n f t st i out out 0
  nothing e = record { bytes = rw e; told = rw e }

  pub not_there : is_there n f t st i ≡ false → Schedules n f t st i out out 0
  not_there e = nothing (rw e)

  module _ (h : is_there n f t st i ≡ true) (s : ℕ) (d : s ≡ depth_at st i) where
    pub too_long : 4096 < s → Schedules n f t st i out out 0
    too_long l = nothing (rw (h, ← d, lt-ltb 4096 s l))

    pub no_room : s ≤ 4096 → length out < 5 + 2 * s → Schedules n f t st i out out 0
    no_room l r = nothing (rw (h, ← d, le-ltb 4096 s l, lt-ltb (length out) (5 + 2 * s) r))

    file-is : s ≤ 4096 → 5 + 2 * s ≤ length out → schedule_of n f t st i (length out) ≡ filed (sizes_for n f t) (path_to st i)
    file-is l r = rw (h, ← d, le-ltb 4096 s l, le-ltb (length out) (5 + 2 * s) r)

-- ---- the bytes

-- five stores at the front
front : (out : List ℕ) (n f t a b : ℕ) → 5 ≤ length out
    → set (set (set (set (set out 0 n) 1 f) 2 t) 3 a) 4 b ≡ n ∷ f ∷ t ∷ a ∷ b ∷ drop 5 out
front [] n f t a b h = absurd (omega arith)
front (_ ∷ []) n f t a b h = absurd (omega arith)
front (_ ∷ _ ∷ []) n f t a b h = absurd (omega arith)
front (_ ∷ _ ∷ _ ∷ []) n f t a b h = absurd (omega arith)
front (_ ∷ _ ∷ _ ∷ _ ∷ []) n f t a b h = absurd (omega arith)
front (_ ∷ _ ∷ _ ∷ _ ∷ _ ∷ os) n f t a b h = refl

module _ (n f t s : ℕ) (rs : List Row) (e : length rs ≡ s) (out out' : List ℕ) (room : 5 + 2 * s ≤ length out) where
  abbrev threads : List ℕ
  threads = map (λ (r : Row). r.thread) rs

  abbrev orders : List ℕ
  orders = map (λ (r : Row). r.order) rs

  abbrev file : List ℕ
  file = n ∷ f ∷ t ∷ s % 256 ∷ s / 256 ∷ (threads ++ orders)

  length-threads : length threads ≡ s
  length-threads = length-map rs _ ∙ e

  length-rows : length (threads ++ orders) ≡ 2 * s
  length-rows = length-append threads orders ∙ (let a = length-threads in let b = length-map rs (λ (r : Row). r.order) in omega arith)

  pub length-file : length file ≡ 5 + 2 * s
  length-file = let a = length-rows in omega arith

  -- number j of the rows' two columns, and of what is behind them
  thread-at : (j : ℕ) → j < s → get_or (threads ++ orders ++ drop (5 + 2 * s) out) j 0 ≡ (get_or rs j no_row).thread
  thread-at j h =
      get_or-append (threads ++ orders) _ 0 j (let a = length-rows in omega arith)
      ∙ get_or-append threads orders 0 j (let a = length-threads in omega arith)
      ∙ get_or-map (λ (r : Row). r.thread) rs j no_row

  order-at : (j : ℕ) → j < s → get_or (threads ++ orders ++ drop (5 + 2 * s) out) (s + j) 0 ≡ (get_or rs j no_row).order
  order-at j h =
      get_or-append (threads ++ orders) _ 0 (s + j) (let a = length-rows in omega arith)
      ∙ ap (λ (k : ℕ). get_or (threads ++ orders) (k + j) 0) (sym length-threads)
      ∙ get_or-append-add threads orders j 0
      ∙ get_or-map (λ (r : Row). r.order) rs j no_row

  behind-at : (j : ℕ) → get_or (threads ++ orders ++ drop (5 + 2 * s) out) (2 * s + j) 0 ≡ get_or out (5 + 2 * s + j) 0
  behind-at j =
      ap (λ (k : ℕ). get_or (threads ++ orders ++ drop (5 + 2 * s) out) (k + j) 0) (sym length-rows)
      ∙ get_or-append-add (threads ++ orders) _ j 0 ∙ get_or-drop (5 + 2 * s) out j 0

  module _ (st : List ℕ) (i : ℕ) (path : rs ≡ path_in st s i)
      (w : RowsFrom st i s 0 (set (set (set (set (set out 0 n) 1 f) 2 t) 3 (s % 256)) 4 (s / 256)) out') where
    abbrev fronted : List ℕ
    fronted = n ∷ f ∷ t ∷ s % 256 ∷ s / 256 ∷ drop 5 out

    is_front : set (set (set (set (set out 0 n) 1 f) 2 t) 3 (s % 256)) 4 (s / 256) ≡ fronted
    is_front = front out n f t (s % 256) (s / 256) (omega arith)

    old : (q : ℕ) → q < 5 → get_or out' q 0 ≡ get_or fronted q 0
    old q h = w.before q h ∙ ap (λ (l : List ℕ). get_or l q 0) is_front

    abbrev rest : List ℕ
    rest = threads ++ orders ++ drop (5 + 2 * s) out

    of-rows : (j : ℕ) → get_or out' (5 + j) 0 ≡ get_or rest j 0
    of-rows j = elim (dec_lt j s) [
      | yes a ↦ w.threads j (omega arith) a ∙ ap (λ (l : List Row). (get_or l j no_row).thread) (sym path) ∙ sym (thread-at j a)
      | no a ↦ elim (dec_lt j (2 * s)) [
        | yes b ↦
            let c : 5 + j ≡ 5 + s + (j - s) = omega arith in
            let d : j ≡ s + (j - s) = omega arith in
            ap (λ (k : ℕ). get_or out' k 0) c ∙ w.orders (j - s) (omega arith) (omega arith)
            ∙ ap (λ (l : List Row). (get_or l (j - s) no_row).order) (sym path) ∙ sym (order-at (j - s) (omega arith))
            ∙ ap (λ (k : ℕ). get_or rest k 0) (sym d)
        | no b ↦
            let d : j ≡ 2 * s + (j - 2 * s) = omega arith in
            let c : suc (suc (suc (suc (suc j)))) ≡ 5 + j = omega arith in
            let g : 5 + j ≡ 5 + 2 * s + (j - 2 * s) = omega arith in
            w.behind (5 + j) (omega arith) ∙ ap (λ (l : List ℕ). get_or l (5 + j) 0) is_front
            ∙ ap (λ (k : ℕ). get_or fronted k 0) (sym c) ∙ get_or-drop 5 out j 0 ∙ ap (λ (k : ℕ). get_or out k 0) g
            ∙ sym (behind-at (j - 2 * s)) ∙ ap (λ (k : ℕ). get_or rest k 0) (sym d)
      ]
    ]

    byte_at : (q : ℕ) → get_or out' q 0 ≡ get_or (n ∷ f ∷ t ∷ s % 256 ∷ s / 256 ∷ rest) q 0
    byte_at zero = old 0 (omega arith)
    byte_at (suc zero) = old 1 (omega arith)
    byte_at (suc (suc zero)) = old 2 (omega arith)
    byte_at (suc (suc (suc zero))) = old 3 (omega arith)
    byte_at (suc (suc (suc (suc zero)))) = old 4 (omega arith)
    byte_at (suc (suc (suc (suc (suc j))))) =
        let c : suc (suc (suc (suc (suc j)))) ≡ 5 + j = omega arith in
        ap (λ (k : ℕ). get_or out' k 0) c ∙ of-rows j

    length_front : length fronted ≡ length out
    length_front = let d = length-drop 5 out in omega arith

    pub is-over : out' ≡ over file out
    is-over =
        let k : length file ≡ 5 + 2 * s = length-file in
        ext_get_or 0 out' (over file out)
        (w.long ∙ ap length is_front ∙ length_front ∙ sym (length-append file (drop (length file) out)
        ∙ (let d = length-drop (length file) out in omega arith)))
        (λ q h. byte_at q ∙ ap (λ (m : ℕ). get_or (file ++ drop m out) q 0) (sym k))

-- all of it
pub written : (n f t : ℕ) (st : List ℕ) (i : ℕ) (out out' : List ℕ) → is_there n f t st i ≡ true
    → (s : ℕ) → s ≡ depth_at st i → s ≤ 4096 → 5 + 2 * s ≤ length out
    → RowsFrom st i s 0 (set (set (set (set (set out 0 n) 1 f) 2 t) 3 (s % 256)) 4 (s / 256)) out'
    → Schedules n f t st i out out' (5 + 2 * s)
unfolding path_to
written n f t st i out out' h s d l room w =
    let rs = path_in st s i in
    let e = length-path st s i in
    let path : path_to st i ≡ rs = ap (λ (k : ℕ). path_in st k i) (sym d) in
    let is : schedule_of n f t st i (length out) ≡ filed (sizes_for n f t) rs =
    file-is n f t st i out h s d l room ∙ ap (filed (sizes_for n f t)) path in
    let same : filed (sizes_for n f t) rs ≡ n ∷ f ∷ t ∷ s % 256 ∷ s / 256
    ∷ (map (λ (r : Row). r.thread) rs ++ map (λ (r : Row). r.order) rs) = rw e in
    let whole = is ∙ same in
    record {
      bytes = is-over n f t s rs e out out' room st i refl w ∙ ap (λ (xs : List ℕ). over xs out) (sym whole);
      told = sym (length-file n f t s rs e out out' room) ∙ ap length (sym whole);
    }
