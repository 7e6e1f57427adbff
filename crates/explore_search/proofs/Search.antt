-- What is said of one lock as a machine, said of its own definitions.
use Rattle.lock.proofs.Library.{ℕ, ◌+◌, List}
use Rattle.lock.specs.{declared.Sizes.Sizes, State.{State, fresh, Outcome, taken, refused}, Run.{run, step}}
use Rattle.explore_machine.specs.Closed.{one_lock}
use Rattle.explore_machine.specs.Closed.{Has as HasOf, HasAfter as HasAfterOf, Closed as ClosedOf, Leads as LeadsOf}
use Rattle.explore_model.specs.Closed.{Has, HasAfter, Closed, Leads}
use Rattle.explore_model.proofs.Closed.{complete}
use Rattle.explore_store.specs.Store.{state_in}
use Rattle.explore_subject.specs.Search.{one, Figures, Explores as ExploresOf}
use Rattle.explore_search.specs.Search.{Explores}

module _ (z : Sizes) (f : ℕ → State) (d : ℕ → ℕ) (n : ℕ) where
  has : (k : ℕ) (s : State) → HasOf (one_lock z) f d n k s → Has f d n k s
  has k s h = record { place = h.place; within = h.within; soon = h.soon; alike = h.alike }

  has-after : (k : ℕ) (x : Outcome) → HasAfterOf (one_lock z) f d n k x → HasAfter f d n k x
  has-after k (taken s e) h = has k s h
  has-after k (refused a) h = tt

  closed : ClosedOf (one_lock z) f d n → Closed z f d n
  closed c = record { starts = has 0 fresh c.starts; steps = λ i l r. has-after (d i + 1) (step z (f i) r) (c.steps i l r) }

leads : {z : Sizes} {rs : List _} {s : State} → LeadsOf (one_lock z) rs s → Leads z rs s
unfolding run
leads l = record { all = l.all; there = l.there }

pub explores : (z : Sizes) {st : List ℕ} {r : Figures} → ExploresOf (one z) st r → Explores z st r
unfolding state_in
explores z e = record {
  known = e.known;
  room = e.room;
  leads = λ i l. leads (e.leads i l);
  depth = e.depth;
  ordered = e.ordered;
  deepest = e.deepest;
  closed = λ a. closed z _ _ _ (e.closed a);
  complete = λ a. complete (closed z _ _ _ (e.closed a));
}
