-- The readers in the thread's hand wake, and it reads with them.
use Rattle.lock.proofs.Library.{refl}
use Rattle.lock.specs.Call.{op}
use Rattle.lock.specs.declared.Phase.TheVariants.{Reading}
use Rattle.lock.specs.State.{with_threads, woken}
use Rattle.cells.specs.View.{seen, state_of, Leaves}
use Rattle.waking.proofs.Waking.{woken-leaves}
use Rattle.rows.proofs.Rows.{comes, wakens}
use Rattle.convert.proofs.downgrade_wake.Goals as goal

pub goes_reading-requires : goal.goes_reading-requires
goes_reading-requires c =
    let awake = woken-leaves 2 (λ c b v. refl) c.requires.shaped c.wake_all.ensures in
    (awake.shaped, c.requires.there)

pub returns : goal.returns
unfolding op
returns c =
    let awake : Leaves c.wake_all.new.l (with_threads (state_of c.args.l.now) (woken (Reading 0) (seen c.args.l.now c.args.t) (state_of c.args.l.now).threads)) =
    woken-leaves 2 (λ c b v. refl) c.requires.shaped c.wake_all.ensures in
    comes (wakens _ _ _ _ _ refl) (rw awake.state at c.goes_reading.ensures) c.did.ensures
