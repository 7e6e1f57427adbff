-- A row of a record: what the bench's row gives, compared with what the record has of it.
use Rattle.lock.proofs.Library.{◌≡◌, refl, sym, ap, subst, ◌∙◌, ◌≢◌, not, ◌&&◌, ◌||◌, List, ℕ, zero, suc}
use Rattle.lock.proofs.Library.{◌≤◌, arith, get_or, eqb}
use Rattle.lock.proofs.Choice.{if-both, clash}
use Rattle.std.specs.Prelude.{Result, Ok, Err, Option}
use Rattle.lock.specs.{declared.{Entry.Entry, Sizes.Sizes}}
use Rattle.lock.specs.Machine.{Row, OutcomeOf, taken, refused}
use Rattle.pair.specs.Pair.{Pair, fresh_pair, Note, written}
use Rattle.file.proofs.Checks.{not-zero}
use Rattle.journal.specs.Came.{Came}
use Rattle.turn.specs.Turn.{pair_in, Turned}
use Rattle.record_model.specs.Record.{NONE, value_in, difference, four_at, Recorded, Holding, ended, judged}
use Rattle.record_model.specs.Record.{held_by, recorded_at}
use Rattle.record_model.specs.{declared.{Effect.Effect, Reason.Reason}, Told.{value_number, reason_number, compared}}
use Rattle.record_model.specs.declared.Reason.TheVariants.{Refused, EntryDiffers, ValueDiffers}
use Rattle.record_hold.specs.Holds.{going, Compares, HoldsRow}

-- ---- what a row came to

module _ {s s' : Pair} where
  taken-row : {d : Entry} (o : OutcomeOf Pair Note) → Came written s s' (Ok d) o → (r : Recorded) (rest : Pair → Holding)
      → held_by s r rest o
      ≡ judged (difference r.kind r.word r.value d.kind d.word (value_in s' d.word)) s d (value_in s' d.word) (rest s')
  taken-row {d} (taken s'' m) c r rest =
      let e : d ≡ written m = (let q = c.is in cc) in rw (e, c.left)
  taken-row (refused n) c r rest = clash (let q = c.is in cc)

-- no answer of a record that ended is 0
pub reason-there : (x : Reason) → reason_number x ≢ 0
reason-there (Refused q) e = not-zero q e
reason-there (EntryDiffers d) e = omega (arith, e)
reason-there (ValueDiffers d) e = omega (arith, e)

-- ---- compared

-- a difference is 11 or 12
difference-high : (k w v k' w' v' : ℕ) → difference k w v k' w' v' ≢ 0 → 11 ≤ difference k w v k' w' v'
difference-high k w v k' w' v' =
    if-both (λ x. x ≢ 0 → 11 ≤ x) (not (eqb k k' && eqb w w')) (λ _ n. omega arith)
    (λ _. if-both (λ x. x ≢ 0 → 11 ≤ x) (eqb v NONE || eqb v v') (λ _ n. absurd (n refl)) (λ _ n. omega arith))

-- the answer is the difference
answer-is : (d e : Effect) (x : Reason) → Compares d e (Err x)
    → reason_number x ≡ difference d.entry.kind d.entry.word (value_number d.value) e.entry.kind e.entry.word
    (value_number e.value)
answer-is d e x c = by _ (c fresh_pair (ended 0 fresh_pair))
  where
    by : (n : ℕ) → going (Err x) fresh_pair (ended 0 fresh_pair)
        ≡ judged n fresh_pair e.entry (value_number e.value) (ended 0 fresh_pair) → reason_number x ≡ n
    by zero q = ap (λ (h : Holding). h.told.answer) q
    by (suc n) q = ap (λ (h : Holding). h.told.answer) q

compared-high : (d e : Effect) (r : Result (Unit {0}) Reason) → Compares d e r → (compared r).answer ≢ 0
    → 11 ≤ (compared r).answer
compared-high d e (Ok u) c ne = absurd (ne refl)
compared-high d e (Err x) c ne =
    let q = answer-is d e x c in
    subst (λ n. 11 ≤ n) (sym q) (difference-high d.entry.kind d.entry.word (value_number d.value) e.entry.kind
    e.entry.word (value_number e.value) (λ z. ne (q ∙ z)))

-- ---- the row

abbrev own_row : List ℕ → Row
own_row b = record { thread = get_or b 0 0; order = get_or b 1 0 }

module _ {z : Sizes} {b : List ℕ} {ls ls' : List (List ℕ)} where
  pub row-compared : {a : Entry} → Turned z (own_row b) ls ls' (Ok a)
      → (v : Option ℕ) → value_number v ≡ value_in (pair_in ls') a.word
      → (d : Effect) → d.entry ≡ record { kind = get_or b 2 0; word = get_or b 3 0 }
      → value_number d.value ≡ four_at b 4
      → (r : Result (Unit {0}) Reason) → Compares d (record { entry = a; value = v }) r → HoldsRow z b ls ls' r
  row-compared {a} k v value d entry four r c =
      record {
        row = λ rest.
            taken-row _ k.comes (recorded_at b 0) rest
            ∙ sym (c (pair_in ls) (rest (pair_in ls')) ∙ rw (entry, four, value));
        late = λ ne. omega (arith, compared-high d (record { entry = a; value = v }) r c ne);
        state = λ ne low. absurd (omega (arith, compared-high d (record { entry = a; value = v }) r c ne, low));
        place = k.keeps;
      }
