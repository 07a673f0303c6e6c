-- `replay::world::World::play_all` ends: each entry takes some of the stored bytes. The measure is what is left of them.
use Rattle.std.proofs.Common.{length}
use Rattle.replay.proofs.world.World.play_all.Given as goal

abbrev pub decreases-loop-from : goal.decreases-loop-from
decreases-loop-from l = length l.from.rest.now
