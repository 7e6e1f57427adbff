-- The calls of the threads below u are finished, where they are over.
use Rattle.site_model.specs.Site.{finished}
use Rattle.site_turn.specs.Turns.{Ends}
use Rattle.site_turn.proofs.SiteState.finish_all.Given as goal

abbrev pub invariant-loop-u : goal.invariant-loop-u
invariant-loop-u l =
    Ends (finished l.pace.hold l.pace.think l.u) l.initial.self l.self
