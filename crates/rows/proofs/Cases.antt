-- What the code gives agrees with an outcome in two ways alone: an entry, where the row was taken, or a refusal, where it
-- was refused with its number.
use Rattle.lock.proofs.Library.{ℕ, ◌≡◌, subst}
use Rattle.lock.proofs.Choice.{clash}
use Rattle.std.specs.Prelude.{Result, Ok, Err}
use Rattle.lock.specs.{declared.{Entry.Entry, Refusal.Refusal}, Machine.{OutcomeOf, taken, refused}, Refusal.number_of}
use Rattle.rows.specs.Outcome.{given, numbered}

pub by-outcome : {S E : Type 0} (write : E → Entry) (P : Result Entry Refusal → OutcomeOf S E → Type 0)
    → ((s : S) (e : E) (d : Entry) → d ≡ write e → P (Ok d) (taken s e))
    → ((r : Refusal) → P (Err r) (refused (number_of r)))
    → (m : Result Entry Refusal) (q : OutcomeOf S E) → numbered m ≡ given write q → P m q
by-outcome write P f g (Ok d) (taken s e) h = f s e d cc
by-outcome write P f g (Ok d) (refused n) h = clash cc
by-outcome write P f g (Err r) (taken s e) h = clash cc
by-outcome write P f g (Err r) (refused n) h =
    let same : number_of r ≡ n = cc in subst (λ (k : ℕ). P (Err r) (refused k)) same (g r)
