-- The sizes and the room numbers are those of the definition (proofs/Checks).
use Rattle.till.proofs.Checks.{sizes-fit, sizes-bad}
use Rattle.till.proofs.is_till.Goals as goal

pub returns-then-sizes_fit : goal.returns-then-sizes_fit
returns-then-sizes_fit c =
    sizes-fit c.args.till.now c.rooms_of-rooms.ensures.0 c.items_of.ensures.0
    c.sizes_fit.ensures c.if-sizes_fit.true c.rooms_fit.ensures

pub returns-else-sizes_fit : goal.returns-else-sizes_fit
returns-else-sizes_fit c =
    sizes-bad c.args.till.now c.rooms_of-rooms.ensures.0 c.items_of.ensures.0
    c.sizes_fit.ensures c.if-sizes_fit.false
