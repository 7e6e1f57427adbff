-- The orders before this one are counted.
use Rattle.lock.proofs.Library.{◌≤◌, ◌≡◌, take}
use Rattle.site_model.specs.Site.{counted}
use Rattle.site_model.specs.Tally.{is_call}
use Rattle.site_report.proofs.calls_in.Given as goal

abbrev pub invariant-loop-own : goal.invariant-loop-own
invariant-loop-own l =
    (l.calls ≤ l.own-index) × (l.calls ≡ counted is_call (take l.own-index l.order))
