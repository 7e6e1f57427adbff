-- All wake, and the waker is idle.
use Rattle.waking.proofs.Waking.{woken-leaves}
use Rattle.rows.proofs.hands_over.Goals as goal

pub goes_to-requires : goal.goes_to-requires
goes_to-requires c =
    let awake = woken-leaves c.args.pc (λ d b v. c.requires.2 d b v c.args.members) c.requires.0 c.wake_all.ensures in
    (awake.shaped, c.requires.1)

pub returns : goal.returns
returns c =
    let awake = woken-leaves c.args.pc (λ d b v. c.requires.2 d b v c.args.members) c.requires.0 c.wake_all.ensures in
    rw awake.state at c.goes_to.ensures
