-- Both were compared.
use Rattle.pair.specs.Pair.{first, second}
use Rattle.explore_pair.proofs.fit_both.Goals as goal

pub fits-requires : goal.fits-requires
fits-requires c = c.requires.1 first

pub fits-requires-then-fits : goal.fits-requires-then-fits
fits-requires-then-fits c = c.requires.1 second
