-- The dispatcher's loop, on the side of the code: what it keeps, and what each way through its body has to show.
use Prim.{tt}
use Rattle.lock.proofs.Library.{ℕ, ◌≤◌, ◌<◌, suc, ◌+◌, ◌≡◌, sym, ap, subst, ◌∙◌, refl, false, Bool, true, List, [], ◌∷◌}
use Rattle.lock.proofs.Library.{◌++◌, map, append-nil, map-append, arith, dec_lt, ℕ_discrete, leb, ltb, length}
use Rattle.lock.proofs.Library.{get_or, set, Option, none, length-set, length-map, eq-eqb, ne_eqb, leb-true, leb-false}
use Rattle.laws.proofs.Lock.{Sizes, State, fresh, Outcome, taken, refused, fresh_thread, thread_at, Row, step}
use Rattle.std.specs.Prelude.{if◌then◌else◌}
use Rattle.laws.proofs.Lock.{Entry, Standing, Thread, standing, All}
use Rattle.cells.specs.View.{state_of, phase_of, node, route, below, seen, pc}
use Rattle.pair.specs.Pair.{first, second, Pair, written, turned, turn}
use Rattle.pair.specs.Single.{beside, Low}
use Rattle.pair.proofs.Single.{single-turn, low-order}
use Rattle.journal.specs.Came.{Came}
use Rattle.turn.specs.Turn.{cells_of, pair_in, Turned, Begins, Place}
use Rattle.dispatch_model.proofs.Order.{Lawful, Wanted, Offers, on, anew, offers}
use Rattle.lock.specs.Journal.{journal_bytes}
use Rattle.lock.specs.File.{paired}
use Rattle.lock.proofs.Choice.{clash}
use Rattle.laws.specs.Sleeping.{bit_at}
use Rattle.laws.proofs.Runs.{same_at}
use Rattle.cells.proofs.Parts.{thread-is}
use Rattle.cells.proofs.Standings.{calling-at, asleep-at}
use Rattle.turn.proofs.Both.{placed, place-within}
use Rattle.journal.proofs.Bytes.{bytes-none, bytes-more}
use Rattle.dispatch_model.specs.Dispatch.{wants_of, Wants, now_wants, Dispatched, ended, Offer, offer}
use Rattle.dispatch_model.specs.Dispatch.{Chooser, dispatch_by}
use Rattle.dispatch_model.specs.Code.{Linked, Marked, next_row, able_in}
use Rattle.dispatch_model.proofs.Round.{Able, Chosen}
use Rattle.dispatch_model.proofs.Sets.{some?, digit, Wanting, Moving, able-is, wanting-next, moving-after}
use Rattle.dispatch_model.proofs.Sofar as so
use Rattle.dispatch_model.proofs.Sofar.{before, Sofar}
use Rattle.dispatch_model.proofs.Source.{Places, places-begun, wants-some, places-next, still-wants, first-own}
use Rattle.laws.proofs.Cases.{dec-both}
use Rattle.dispatch_step.specs.{declared.{Sets.Sets, Step.Step}, Steps.{drawn_order, drawn_heads, wanting_after, step_of}}
use Rattle.dispatch_step.specs.Steps.{able_after, woken_by, Steppable, Stepped}
use Rattle.std.specs.Prelude.{Some, Result, Ok, Err}
use Rattle.lock.specs.{declared.Refusal.{Refusal}, Refusal.{number_of, answer_number}, File.{ran_after}}
use Rattle.dispatcher.specs.Choosing.{Gives, Chooses}
use Rattle.dispatcher.specs.Rows.{as_entry, Dispatchable, Dispatches}
use Rattle.dispatch_step.proofs.Hand.{in-hand, able-by, outside}

-- ---- a row of the two locks, with an order of the first: a step of the first lock, and the second stays fresh

-- a call that is wanted is the first lock's
pub wanted-low : (z : Sizes) (o : ℕ) → Wanted z o → o ≤ 128
wanted-low z o h = elim (dec_lt o 128) [
  | yes l ↦ omega arith
  | no l ↦ let none_so = sym h.known ∙ low-order z o (omega arith) in clash cc
]

-- what the code gives, told apart: the kind of its entry, the number of its refusal
abbrev kind_in : Result Entry ℕ → ℕ
kind_in (Ok d) = d.kind
kind_in (Err n) = 0

abbrev number_in : Result Entry ℕ → ℕ
number_in (Ok d) = 0
number_in (Err n) = n

abbrev case-of : Result Entry ℕ → ℕ
case-of (Ok d) = 0
case-of (Err n) = 1

module _ (z : Sizes) (r : Row) (ls ls' : List (List ℕ)) (low : Low r) (free : state_of (cells_of second ls) ≡ fresh) where
  abbrev s : State
  s = state_of (cells_of first ls)

  -- the outcome of the first lock's step, and what the code gives
  abbrev pub At-first : Outcome → Result Entry Refusal → Type 0
  At-first (taken s' e) (Ok d) = (pair_in ls' ≡ beside s') × (d.kind ≡ e.kind)
  At-first (refused n) (Err x) = (pair_in ls' ≡ beside s) × (number_of x ≡ n)
  At-first (taken s' e) (Err x) = ⊥
  At-first (refused n) (Ok d) = ⊥

  pair_is : pair_in ls ≡ beside s
  pair_is = rw free

  turn_is : turn z (pair_in ls) r ≡ turned (beside s) first false (step z s r)
  turn_is = ap (λ (p : Pair). turn z p r) pair_is ∙ single-turn z s r low

  pub at_first : {m : Result Entry Refusal} → Turned z r ls ls' m → At-first (step z s r) m
  at_first {m} h = from (step z s r) m (subst (Came written (pair_in ls) (pair_in ls') m) turn_is h.comes)
    where
      from : (q : Outcome) (m : Result Entry Refusal)
          → Came written (pair_in ls) (pair_in ls') m (turned (beside s) first false q) → At-first q m
      from (taken s' e) (Ok d) c = (c.left, ap kind_in c.is)
      from (refused n) (Err x) c = (c.left ∙ pair_is, ap number_in c.is)
      from (taken s' e) (Err x) c = clash (sym (ap case-of c.is))
      from (refused n) (Ok d) c = clash (ap case-of c.is)

-- ---- what the loop keeps

-- of a chooser that began with c₀ and keeps c
pub record Going (z : Sizes) {C : Type 0} {ch : Chooser C} {Right : C → Type 0}
    (law : Lawful z.threads ch Right) (c₀ : C) (ts os j₀ j : List ℕ) (ls : List (List ℕ)) (at : Sets)
    (heads : List ℕ) (c : C) (i : ℕ) : Type 0 where
  pub given : List Row
  pub wants : Wants
  pub sofar : Sofar z law c₀ (paired ts os) given (state_of (cells_of first ls)) wants c i
  pub place : Place z ls i
  -- no call is the second lock's
  pub free : state_of (cells_of second ls) ≡ fresh
  pub long : length j ≡ length j₀
  pub steps : j ≡ journal_bytes 4096 (map as_entry given) j₀
  pub places : Places ts os heads wants
  pub wanted : Wanting z.threads at.wanting wants
  pub moving : Moving z.threads at.able (state_of (cells_of first ls)) wants

-- ---- the start

abbrev begun : ℕ → Sets
begun wanting = record { able = wanting; wanting = wanting }

pub going-begun : (z : Sizes) {C : Type 0} {ch : Chooser C} {Right : C → Type 0} (law : Lawful z.threads ch Right)
    (c₀ : C) → Right c₀ → (ts os j : List ℕ) (ls : List (List ℕ)) (wanting : ℕ) (heads later : List ℕ)
    → Dispatchable z ts os j → Begins ls
    → Linked ts heads later 0 → Marked z.threads wanting heads (length ts)
    → Going z law c₀ ts os j j ls (begun wanting) heads c₀ 0
unfolding standing
going-begun z law c₀ right ts os j ls wanting heads later d b links marks =
    let one = b.each first in
    let places = places-begun ts os d.matched heads links.heads_long links.head in
    let small = d.range.threads in
    let bits : (u : ℕ) → u < z.threads → bit_at wanting u ≡ digit (some? (wants_of u (paired ts os)))
    = λ u i. marks.has u i
    ∙ ap (λ (b : Bool). digit b) (sym (wants-some ts os d.matched heads _ places u (omega arith))) in
    record {
      given = [];
      wants = λ u. wants_of u (paired ts os);
      sofar = rw one.state (so.begun z law c₀ (paired ts os) d.range d.known right);
      place = placed d.range b;
      free = (b.each second).state;
      long = refl;
      steps = sym (bytes-none 4096 j);
      places = places;
      wanted = record { within = marks.within; has = bits };
      moving = record { within = marks.within; has = λ u i. rw (one.state, same_at 64 u fresh_thread) (bits u i) };
    }

module _ {z : Sizes} {C : Type 0} {ch : Chooser C} {Right : C → Type 0} {law : Lawful z.threads ch Right}
    {c₀ : C} {ts os j₀ j : List ℕ} {ls : List (List ℕ)} {at : Sets} {heads : List ℕ} {c : C} {i : ℕ}
    (d : Dispatchable z ts os j₀)
    (g : Going z law c₀ ts os j₀ j ls at heads c i) where
  abbrev everything : Dispatched
  everything = dispatch_by ch c₀ z (paired ts os)

  abbrev l : List ℕ
  l = cells_of first ls

  -- ---- the end

  -- what was given so far is all, whatever the numbers of the locks are now
  ends : (a : Result (Unit {0}) Refusal) {ls' : List (List ℕ)} → pair_in ls' ≡ beside (state_of l)
      → everything ≡ before g.given (ended (answer_number a) (state_of l) g.wants)
      → Dispatches everything z j₀ j ls' (ran_after a i z)
  ends a p e =
      let all : everything.steps ≡ g.given =
      ap (λ (x : Dispatched). x.steps) e ∙ append-nil g.given in
      record {
        answer = sym (ap (λ (x : Dispatched). x.answer) e);
        taken = rw all (sym g.sofar.long);
        sizes = refl;
        state = p ∙ ap beside (sym (ap (λ (x : Dispatched). x.state) e));
        steps = g.steps ∙ ap (λ (xs : List Row). journal_bytes 4096 (map as_entry xs) j₀) (sym all);
      }

  same-pair : pair_in ls ≡ beside (state_of l)
  same-pair = rw g.free

  pub spent : i ≡ 4096 → Dispatches everything z j₀ j ls (ran_after (Ok tt) 4096 z)
  spent e =
      subst (λ (n : ℕ). Dispatches everything z j₀ j ls (ran_after (Ok tt) n z)) e
      (ends (Ok tt) same-pair (so.full z law c₀ (paired ts os) g.sofar e))

  pub none-chosen : i < 4096 → ch.choose (offer (state_of l) g.wants) c ≡ none
      → Dispatches everything z j₀ j ls (ran_after (Ok tt) i z)
  none-chosen lt q = ends (Ok tt) same-pair (so.nobody z law c₀ (paired ts os) g.sofar lt q)

  -- the set of those that are offered a step
  pub able-set : Able z.threads at.able (offer (state_of l) g.wants)
  able-set = able-is z.threads at.able (state_of l) g.wants d.range.threads g.moving

  -- ---- a step

  module _ (lt : i < 4096) {t : ℕ} (its-turn : Chosen ch z.threads (offer (state_of l) g.wants) c t) where
    -- what the chooser keeps after it
    abbrev c' : C
    c' = ch.after (offer (state_of l) g.wants) c (record { thread = t; gets = its-turn.gets })

    -- what is wanted after its step
    abbrev wants' : Wants
    wants' = now_wants t its-turn.gets.later g.wants

    pub in-sets : t < 64
    in-sets = let a = its-turn.there in let b = d.range.threads in omega arith

    -- the standing of the thread, by its program counter
    stands-so : (thread_at (state_of l) t).phase ≡ phase_of (pc l t) (node l t) (route l t) (below l t) (seen l t)
    stands-so = ap (λ (h : Thread). h.phase) (thread-is l t in-sets)

    abbrev stands : Standing
    stands = standing (thread_at (state_of l) t).phase

    offered-so : Offers stands (g.wants t) its-turn.gets
    unfolding offer
    offered-so = offers stands (g.wants t) its-turn.gets its-turn.offers-it

    -- inside a call it goes on; a sleeper is not able to move
    goes_on : 3 ≤ pc l t → its-turn.gets ≡ record { order = 0; later = g.wants t }
    goes_on h = elim offered-so [
      | on c e ↦ e
      | anew n m e ↦ absurd (dec-both (ℕ_discrete (pc l t) 49)
          (λ k. m (ap standing stands-so ∙ asleep-at (pc l t) (node l t) (route l t) (below l t) (seen l t) k))
          (λ k. n (ap standing stands-so ∙ calling-at (pc l t) (node l t) (route l t) (below l t) (seen l t)
          (λ e. omega arith) (λ e. omega arith) (λ e. omega arith) k)))
    ]

    -- outside it begins its next call
    next-call : pc l t < 3 → g.wants t ≡ its-turn.gets.order ∷ its-turn.gets.later
    next-call h = elim offered-so [
      | on c e ↦
          absurd (outside (pc l t) (node l t) (route l t) (below l t) (seen l t) h (sym (ap standing stands-so) ∙ c))
      | anew n m e ↦ e
    ]

    at_row : pc l t < 3 → get_or heads t 0 < length ts
    at_row e = (places-next ts os d.matched heads g.wants g.places t _ _ _ in-sets (next-call e) refl).1

    pub steppable : {later : List ℕ} → Steppable z os later heads ls t
    steppable =
        record {
          place = place-within (omega arith) g.place;
          drawable = record {
            there = in-sets;
            few = omega (arith, d.few, d.matched);
            call = λ e. omega (arith, at_row e, d.matched);
          };
        }

    -- the order that is drawn, with the places and wants after it
    record Drawn (order : ℕ) (heads' : List ℕ) : Type 0 where
      pub ordered : its-turn.gets.order ≡ order
      pub low : order ≤ 128
      pub places : Places ts os heads' wants'
      pub some_left : some? its-turn.gets.later ≡ ltb (get_or heads' t 0) (length os)
      pub wanted : Wanting z.threads (wanting_after at.wanting t order (ltb (get_or heads' t 0) (length os))) wants'

    -- by the place of its next call
    left_by : (heads' : List ℕ) → Places ts os heads' wants'
        → some? its-turn.gets.later ≡ ltb (get_or heads' t 0) (length os)
    left_by heads' p =
        let more = wants-some ts os d.matched heads' wants' p t in-sets in
        rw d.matched (rw (eq-eqb t t refl) at more)

    -- it goes on
    drawn-on : 3 ≤ pc l t → Drawn 0 heads
    drawn-on e =
        let h = goes_on e in
        let same = still-wants t its-turn.gets.later g.wants (ap (λ (y : Offer). y.later) h) in
        let places : Places ts os heads wants'
        = record {
          long = g.places.long;
          wants = λ u k. same u ∙ g.places.wants u k;
          first = g.places.first;
          within = g.places.within;
        } in
        record {
          ordered = ap (λ (y : Offer). y.order) h;
          low = omega arith;
          places = places;
          some_left = left_by heads places;
          wanted = record { within = g.wanted.within; has = λ u k. rw (same u) (g.wanted.has u k) };
        }

    module _ {later heads₀ : List ℕ} (links : Linked ts heads₀ later 0) where
      drawn-anew : pc l t < 3 → Drawn (get_or os (get_or heads t 0) 0) (set heads t (get_or later (get_or heads t 0) 0))
      drawn-anew e =
          let n = get_or later (get_or heads t 0) 0 in
          let own : get_or ts (get_or heads t 0) 0 ≡ t = first-own t ts (get_or heads t 0) (at_row e)
          (g.places.first t in-sets) in
          let link : n ≡ next_row t ts (suc (get_or heads t 0))
          = rw own at (links.link (get_or heads t 0) (omega arith) (at_row e)) in
          let h = places-next ts os d.matched heads g.wants g.places t n _ _ in-sets (next-call e) link in
          let checked : All (Wanted z) (its-turn.gets.order ∷ its-turn.gets.later) = subst (All (Wanted z))
          (next-call e) (g.sofar.steady.checked t) in
          let is : Wanted z (get_or os (get_or heads t 0) 0) = rw h.0 checked.0 in
          let left = left_by (set heads t n) h.2 in
          record {
            ordered = sym h.0;
            low = wanted-low z _ is;
            places = h.2;
            some_left = left;
            wanted = rw (ne_eqb (get_or os (get_or heads t 0) 0) 0 is.begins)
                (wanting-next z.threads at.wanting t g.wants its-turn.gets.later _ its-turn.there
                (sym left) g.wanted);
          }

      drawn : Drawn (drawn_order l t os heads) (drawn_heads l t later heads)
      drawn = from (leb 3 (pc l t)) refl
        where
          from : (b : Bool) → leb 3 (pc l t) ≡ b → Drawn (if b then 0 else get_or os (get_or heads t 0) 0)
              (if b then heads else set heads t (get_or later (get_or heads t 0) 0))
          from true q = drawn-on (leb-true 3 (pc l t) q)
          from false q = drawn-anew (leb-false 3 (pc l t) q)

      abbrev order : ℕ
      order = drawn_order l t os heads

      abbrev made_row : Row
      made_row = record { thread = t; order = order }

      -- what the step comes to, and its row: a refusal ends it, and a row that is taken may wake the group in hand
      module _ {heads' : List ℕ} (ls' : List (List ℕ)) (drew : heads' ≡ drawn_heads l t later heads) where
        abbrev l' : List ℕ
        l' = cells_of first ls'

        abbrev more : Bool
        more = ltb (get_or heads' t 0) (length os)

        now : Drawn order heads'
        now = rw drew drawn

        -- where the chooser keeps k
        abbrev pub After : C → Result Step Refusal → Type 0
        After k (Ok r) = Going z law c₀ ts os j₀ (set (set j i t) (4096 + i) r.order) ls' r.sets heads' k (i + 1)
        After k (Err x) = Dispatches everything z j₀ j ls' (ran_after (Err x) i z)

        after : (x : Outcome) (m : Result Entry Refusal) → step z (state_of l) made_row ≡ x
            → At-first z made_row ls ls' now.low g.free x m → Turned z made_row ls ls' m
            → After c' (step_of t at order more l l' m)
        after (refused n) (Err x) q c h =
            ends (Err x) c.0 (so.stops z law c₀ (paired ts os) g.sofar lt _ its-turn.up_next (number_of x) (rw
            now.ordered (q ∙ ap (λ (k : ℕ). refused k) (sym c.1))))
        after (taken s' e) (Err x) q c h = absurd c
        after (refused n) (Ok b) q c h = absurd c
        after (taken s' e) (Ok y) q c h =
            let left : state_of l' ≡ s' = ap (λ (p : Pair). p.one) c.0 in
            let p : step z (state_of l) made_row ≡ taken (state_of l') e = q ∙ ap (λ (s : State). taken s e) (sym left) in
            let moved = moving-after (seen l t) z (state_of l) (state_of l') t order e g.wants its-turn.gets.later
            at.able (wanting_after at.wanting t order more) g.sofar.steady.inv its-turn.there
            (in-hand z l t order in-sets) p now.wanted g.moving in
            let own : able_in (standing (thread_at (state_of l') t).phase) more
            ≡ able_in (standing (phase_of (pc l' t) 0 0 0 0)) more
            = ap (λ (x : Thread). able_in (standing x.phase) more) (thread-is l' t in-sets)
            ∙ able-by (pc l' t) (node l' t) (route l' t) (below l' t) (seen l' t) more in
            record {
              given = g.given ++ made_row ∷ [];
              wants = wants';
              sofar =
                  subst (λ (o : ℕ). Sofar z law c₀
                  (paired ts os) (g.given ++ record { thread = t; order = o } ∷ []) (state_of l')
                  wants' c' (i + 1)) now.ordered
                  (so.more z law c₀ (paired ts os) g.sofar lt _ its-turn.up_next (state_of l') e (rw
                  now.ordered p));
              place = let k : suc i ≡ i + 1 = omega arith in subst (Place z ls') k (h.keeps i g.place);
              free = ap (λ (p : Pair). p.two) c.0;
              long = simp length-set g.long;
              steps =
                  rw g.steps (bytes-more 4096 i j₀ (map as_entry g.given) t order
                  (length-map g.given as_entry ∙ g.sofar.long) lt d.room
                  ∙ ap (λ (es : List Entry). journal_bytes 4096 es j₀)
                  (sym (map-append as_entry g.given (made_row ∷ []))));
              places = now.places;
              wanted = now.wanted;
              moving =
                  subst (λ (b : Bool). Moving z.threads
                  (able_after at.able (woken_by y.kind (seen l t)) (wanting_after at.wanting t order more) t b)
                  (state_of l') wants')
                  (ap (able_in (standing (thread_at (state_of l') t).phase)) now.some_left ∙ own) (rw c.1 moved);
            }

        pub after-step : {r : Result Step Refusal} → Stepped z os later heads heads' ls ls' t at r → After c' r
        after-step h =
            subst (After c') (sym h.is)
            (after (step z (state_of l) made_row) h.made refl
            (at_first z made_row ls ls' now.low g.free h.turned) h.turned)

-- ---- as the code asks whose turn it is

module _ {z : Sizes} {C : Type 0} {ch : Chooser C} {Right : C → Type 0} {law : Lawful z.threads ch Right}
    {c₀ : C} {ts os j₀ j : List ℕ} {ls : List (List ℕ)} {at : Sets} {heads : List ℕ} {c : C} {i : ℕ}
    (d : Dispatchable z ts os j₀)
    (g : Going z law c₀ ts os j₀ j ls at heads c i) where
  pub nobody-next : i < 4096 → ((f : ℕ → Option Offer) → Able z.threads at.able f → ch.choose f c ≡ none)
      → Dispatches (dispatch_by ch c₀ z (paired ts os)) z j₀ j ls (ran_after (Ok tt) i z)
  nobody-next lt x = none-chosen d g lt (x (offer (state_of (cells_of first ls)) g.wants) (able-set d g))

  pub next-one : {c' : C} {t : ℕ} → Chooses ch z.threads at.able c c' (Some t)
      → Gives ch z.threads (offer (state_of (cells_of first ls)) g.wants) c c' (Some t)
  next-one x = x (offer (state_of (cells_of first ls)) g.wants) (able-set d g)

  pub next-step : {c' : C} {t : ℕ} (lt : i < 4096) (x : Chooses ch z.threads at.able c c' (Some t))
      {later heads₀ : List ℕ} (links : Linked ts heads₀ later 0) {heads' : List ℕ} {ls' : List (List ℕ)}
      {r : Result Step Refusal} (h : Stepped z os later heads heads' ls ls' t at r)
      → After d g lt (next-one x).0 links ls' h.drew c' r
  next-step lt x links {ls' = ls'} {r} h =
      let y = next-one x in
      subst (λ (k : C). After d g lt y.0 links ls' h.drew k r) (sym y.1) (after-step d g lt y.0 links ls' h.drew h)
