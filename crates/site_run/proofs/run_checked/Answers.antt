-- The fresh lock, linked calls and empty arrays are what a site's run begins with.
use Rattle.lock.proofs.Library.{refl, length}
use Rattle.site_run.proofs.Start.{shape-good, calls-few, calls-same, callers-there, started, the-site, same-site}
use Rattle.site_run.proofs.run_checked.Goals as goal

pub link_rows-requires : goal.link_rows-requires
link_rows-requires c =
    let b = c.args.site.now in
    let n = length c.args.turns.now in (
      refl,
      refl,
      rw c.calls_of.ensures.0 (calls-few b n (shape-good b n c.requires)),
      rw c.calls_of.ensures.0 (callers-there b n c.requires),
    )

pub invariant_of-plan : goal.invariant_of-plan
invariant_of-plan c =
    let b = c.args.site.now in
    let n = length c.args.turns.now in
    let e = c.calls_of.ensures in
    record {
      few = rw e.0 (calls-few b n (shape-good b n c.requires));
      same = rw (e.0, e.1) (calls-same b n (shape-good b n c.requires));
      linked = c.link_rows.ensures;
    }

pub run_turns-requires : goal.run_turns-requires
run_turns-requires c =
    let e = c.calls_of.ensures in
    rw c.new.ensures
    (started c.args.site.now c.requires (the-site c.args.site.now c.sizes_of.ensures c.pace_of.ensures e.0 e.1) c.fresh.ensures)

pub returns : goal.returns
returns c =
    let e = c.calls_of.ensures in
    same-site (the-site c.args.site.now c.sizes_of.ensures c.pace_of.ensures e.0 e.1) c.run_turns.ensures
