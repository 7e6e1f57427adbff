-- A record that is refused; one that begins; and one more piece of it.
use Rattle.lock.proofs.Library.{◌≡◌, refl, sym, ap, ap₂, subst, ◌∙◌, ◌≢◌, List, some, ℕ, zero, suc, ◌+◌, ◌-◌, ◌*◌, ◌/◌}
use Rattle.lock.proofs.Library.{◌≤◌, arith, length, take, drop, true, false, le-leb, lt-leb}
use Rattle.lock.proofs.Library.{take-append-drop, length-take-le, ◌++◌}
use Rattle.lock.proofs.Accepted.{neither, first_some}
use Rattle.lock.specs.{Bound.most_steps, declared.Sizes.Sizes, File.{sizes_of, within, or_else}}
use Rattle.turn.{specs.Turn.{pair_in, Place}, proofs.Both.{begins-fresh, placed}}
use Rattle.turn.specs.Turn as turn
use Rattle.record_model.specs.Record.{Holding, hold, rows_from, count_of, recorded_in, head_refusal, length_refusal}
use Rattle.record_model.specs.Record.{Told, record_refusal, verdict, holding_of, told_only, told_after, after}
use Rattle.record_model.specs.Runs.{Claimed}
use Rattle.record_model.proofs.{Runs.claimed-of, File.{Accepted, accepted, head-accepted, verdict-of, sizes-more}}
use Rattle.record_model.proofs.File.{refusal-more, head_more, count-more, holding-behind}
use Rattle.record_hold.specs.Holds.{held_from, HoldsPiece, verdict_in, HoldsRecord, Stands, Begins, More}
use Rattle.record_hold.proofs.Refusal.{refusal-most}

-- ---- whether there is a state

state-there : (a : ℕ) → (a ≢ 0 → 5 ≤ a) → within 1 3 a ≡ false
state-there zero h = refl
state-there (suc a) h =
    let k = h (λ e. omega arith) in rw (lt-leb (suc a) 3 (omega arith), le-leb 1 (suc a) (omega arith))

state-none : (a : ℕ) → a ≢ 0 → a ≤ 3 → within 1 3 a ≡ true
state-none zero ne h = absurd (ne refl)
state-none (suc a) ne h = rw (le-leb (suc a) 3 h, le-leb 1 (suc a) (omega arith))

-- ---- refused

module _ (b : List ℕ) (a : ℕ) (e : a ≡ record_refusal b) (ne : a ≢ 0) where
  refused-verdict : (n : ℕ) → n ≡ record_refusal b → n ≢ 0 → (ls : List (List ℕ)) → verdict_in (told_only n) ls ≡ verdict b
  unfolding verdict
  refused-verdict zero q m ls = absurd (m refl)
  refused-verdict (suc n) q m ls = rw (state-none (suc n) m (omega (arith, refusal-most b)), ← q)

  pub refused-record : (ls : List (List ℕ)) → HoldsRecord b ls ls (told_only a)
  refused-record ls = record {
    verdict = refused-verdict a e ne ls;
    whole = λ x. absurd (ne x);
    claims = λ x. absurd (ne (e ∙ x));
    untouched = λ _. refl;
  }

-- ---- the first three bytes

module _ (b : List ℕ) (fine : head_refusal b ≡ 0) where
  abbrev head : List ℕ
  head = take 3 b

  head-long : length head ≡ 3
  head-long = length-take-le 3 b (head-accepted b fine).0

  joined : head ++ drop 3 b ≡ b
  joined = take-append-drop 3 b

  head-sizes : sizes_of head ≡ sizes_of b
  head-sizes = sym (sizes-more head (drop 3 b) (omega (arith, head-long))) ∙ ap sizes_of joined

  head-fine : head_refusal head ≡ 0
  head-fine = sym (head_more head (drop 3 b) (omega (arith, head-long))) ∙ ap head_refusal joined ∙ fine

  no-count : count_of head ≡ 0
  no-count = omega (arith, head-long)

  pub head-stands : {ls : List (List ℕ)} → turn.Begins ls → Stands head (sizes_of b) 0 ls
  unfolding hold rows_from
  head-stands new =
      let long : length head - 3 ≡ 0 = omega (arith, head-long) in
      record {
        fine = ap (λ x. or_else x (length_refusal (length head - 3))) head-fine ∙ ap length_refusal long;
        sizes = sym head-sizes;
        count = sym no-count;
        held = rw no-count;
        state = begins-fresh new ∙ rw no-count;
        place = placed (head-accepted b fine).1 new;
      }

pub begin-refused : (b : List ℕ) (a : ℕ) → a ≡ head_refusal b → a ≢ 0 → (ls : List (List ℕ))
    → Begins b ls ls (told_only a)
begin-refused b a e ne ls = record {
  told = ap told_only e;
  refused = λ _. refused-record b a (first_some (length_refusal (length b - 3)) e ne) ne ls;
  stands = λ x. absurd (ne x);
}

pub begin-fresh : (b : List ℕ) → head_refusal b ≡ 0 → {ls₀ ls : List (List ℕ)} → turn.Begins ls
    → Begins b ls₀ ls (told_only 0)
begin-fresh b fine new = record {
  told = ap told_only (sym fine);
  refused = λ ne. absurd (ne refl);
  stands = λ _. head-stands b fine new;
}

-- its rows are to come
module _ {b : List ℕ} {ls₀ ls : List (List ℕ)} {r : Told} (k : Begins b ls₀ ls r) where
  pub begun : {z : Sizes} → z ≡ sizes_of b → r.answer ≡ 0 → Stands (take 3 b) z 0 ls
  begun own e = subst (λ y. Stands (take 3 b) y 0 ls) (sym own) (k.stands e)

-- ---- one more piece

module _ {b : List ℕ} {z : Sizes} {m : ℕ} {ls₀ : List (List ℕ)} (s : Stands b z m ls₀) (p : List ℕ) where
  own : Accepted b
  own = accepted b s.fine

  more-sizes : z ≡ sizes_of (b ++ p)
  more-sizes = s.sizes ∙ sym (sizes-more b p own.long)

  -- the bytes behind the first three, all rows so far and the piece
  pub more-refusal : record_refusal (b ++ p) ≡ length_refusal (8 * m + length p)
  more-refusal =
      let h = (neither (head_refusal b) (length_refusal (length b - 3)) s.fine).0 in
      let n : length b - 3 ≡ 8 * m = omega (arith, s.count, own.even, own.long) in
      refusal-more b p own.long h ∙ ap (λ x. length_refusal (x + length p)) n

  pub more-refused : (a : ℕ) → a ≡ length_refusal (8 * m + length p) → a ≢ 0 → More b p z m ls₀ ls₀ (told_only a)
  more-refused a e ne = record {
    sizes = more-sizes;
    count = λ x. absurd (ne x);
    holds = refused-record (b ++ p) a (e ∙ sym more-refusal) ne ls₀;
    next = λ x. absurd (ne x);
  }

  module _ (fine : length_refusal (8 * m + length p) ≡ 0) {ls : List (List ℕ)} {r : Told}
      (k : HoldsPiece z p (length p / 8) m ls₀ ls r) where
    -- the piece is held from where the bytes before it led to
    all-is : holding_of (b ++ p) ≡ after m (held_from z p (length p / 8) ls₀)
    all-is =
        holding-behind b p own.long own.even s.held
        ∙ ap (λ n. after n (hold (sizes_of b) (holding_of b).state (rows_from p 0 (length p / 8)))) (sym s.count)
        ∙ ap₂ (λ y x. after m (hold y x (rows_from p 0 (length p / 8)))) (sym s.sizes) (sym s.state)

    all_told : told_after m r ≡ (holding_of (b ++ p)).told
    all_told = ap (told_after m) k.told ∙ sym (ap (λ (h : Holding). h.told) all-is)

    all-state : pair_in ls ≡ (holding_of (b ++ p)).state
    all-state = k.state ∙ sym (ap (λ (h : Holding). h.state) all-is)

    all-fine : record_refusal (b ++ p) ≡ 0
    all-fine = more-refusal ∙ fine

    all-count : m + length p / 8 ≡ count_of (b ++ p)
    all-count = ap (λ x. x + length p / 8) s.count ∙ sym (count-more b p own.long own.even)

    all_held : r.answer ≡ 0 → m + r.held ≡ count_of (b ++ p)
    all_held e = ap (λ x. m + x) (k.whole e) ∙ all-count

    pub more-held : More b p z m ls₀ ls (told_after m r)
    more-held = record {
      sizes = more-sizes;
      count = λ e. ap (λ x. m + x) (k.whole e);
      holds = record {
        verdict =
            rw (state-there r.answer k.late)
            (ap₂ (λ (t : Told) x. record { told = t; state = some x }) all_told all-state
            ∙ sym (verdict-of (b ++ p) all-fine));
        whole = all_held;
        claims = λ _.
            subst (λ n. Claimed (sizes_of (b ++ p)) (take n (recorded_in (b ++ p))) (pair_in ls))
            (sym (ap (λ (t : Told). t.held) all_told))
            (subst (λ x. Claimed (sizes_of (b ++ p)) (take (holding_of (b ++ p)).told.held (recorded_in (b ++ p))) x)
            (sym all-state) (claimed-of (b ++ p) all-fine));
        untouched = λ ne. absurd (ne all-fine);
      };
      next = λ e. record {
        fine = all-fine;
        sizes = more-sizes;
        count = all_held e;
        held = sym (ap (λ (t : Told). t.held) all_told) ∙ all_held e;
        state = all-state;
        place = subst (λ n. Place z ls (m + n)) (sym (k.whole e)) (k.place e);
      };
    }

-- what the code asks on the way
pub stands-few : {b : List ℕ} {z : Sizes} {m : ℕ} {ls : List (List ℕ)} → Stands b z m ls → m ≤ most_steps
stands-few {b} s = omega (arith, s.count, (accepted b s.fine).few)
