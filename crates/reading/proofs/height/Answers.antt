-- `reading::height` meets its contract: an accepted direction gives what `height_of` asks.
use Rattle.laws.specs.Heights.{height_fits}
use Rattle.reading.proofs.height.Goals as goal

pub height_of-requires : goal.height_of-requires
height_of-requires c = height_fits c.args.v c.requires
