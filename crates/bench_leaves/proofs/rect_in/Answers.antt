-- `bench_leaves::rect_in` meets its contract, by its tests. Assumes nothing.
use Rattle.std.proofs.Common.{arith}
use Rattle.bench_leaves.proofs.Leaves.{memory_small, fits}
use Rattle.bench_leaves.proofs.rect_in.Goals as goal

pub memory_length-requires : goal.memory_length-requires
memory_length-requires c =
    memory_small _ c.small-g.ensures

pub returns : goal.returns
returns c =
    rw (← c.small-g.ensures) (
      record { across = omega arith; down = omega arith },
      fits _ c.small-g.ensures _ _ c.if-mem-memory_length.false c.memory_length.ensures,
    )
