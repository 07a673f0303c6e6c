-- `bench_leaves::leaf_refresh` meets its contract: its leaf has what it asks. Assumes nothing.
use Rattle.std.proofs.Common.{◌∙◌}
use Rattle.bench_leaves.proofs.Leaves.{memory_small, glass_small, two_rows, all-visible, fits}
use Rattle.bench_leaves.proofs.leaf_refresh.Goals as goal

pub memory_length-requires : goal.memory_length-requires
memory_length-requires c =
    memory_small _ c.small-g.ensures

pub glass_length-requires : goal.glass_length-requires
glass_length-requires c =
    glass_small _ c.small-g.ensures

pub refresh-requires : goal.refresh-requires
refresh-requires c =
    let e = c.small-g.ensures in (
      two_rows _ e,
      record {
        fits = fits _ e _ _ c.if-mem-memory_length.false c.memory_length.ensures;
        size = c.if-glass-glass_length.false ∙ c.glass_length.ensures;
        visible = all-visible _ e;
      },
    )
