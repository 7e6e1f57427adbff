-- From the run of a ticket file to its sheet, and to what is promised of it.
use Rattle.lock.proofs.Library.{ℕ, ◌≡◌, refl, sym, subst, ◌∙◌, List, Option, some}
use Rattle.lock.specs.Refusal.{answer_number}
use Rattle.lock.{specs.File.stateless, proofs.Choice.{clash, if-both}}
use Rattle.text.specs.Asked.{Asked}
use Rattle.ticket_model.specs.{declared.Lock.Lock, File.{thread_count, ticket_run}, Sheet.{sheet_of, sheet}}
use Rattle.ticket_lock.specs.{declared.Ran.Ran, Runner.{Tickets, Promised}}
use Rattle.ticket_report.specs.Report.{sheet_of_run, Sheeted}

sheet-of : (b : List ℕ) → sheet b
    ≡ sheet_of (thread_count b) (ticket_run b).answer (ticket_run b).taken (ticket_run b).state
unfolding sheet
sheet-of b = refl

pub sheet-is : {b : List ℕ} {r : Ran} → Tickets b r → sheet_of_run r ≡ sheet b
sheet-is {b} {r} h = rw (h.state, h.threads, h.answer, h.taken) (sym (sheet-of b))

-- the state that the sheet prints is the one that the run left
pub sheeted : {b t₀ t : List ℕ} {r : Ran} {n : ℕ} → Tickets b r → Asked (sheet b) t₀ t n → Sheeted b t₀ t n
sheeted {b} {r = r} h a =
    record {
      asked = a;
      promised = λ s q. if-both (λ (o : Option Lock). o ≡ some s → Promised b s) (stateless (answer_number r.answer))
          (λ e k. clash cc)
          (λ e k. let same : r.lock ≡ s = cc in subst (Promised b) same (h.promised e)) (h.state ∙ q);
    }
