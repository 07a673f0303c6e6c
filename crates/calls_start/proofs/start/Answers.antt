-- `calls_start::start` meets its contract: 1, or all of the memory erased; every download is gone. Assumes nothing.
use borrow.Author.Rules.{rules}
use mathlib.Core.Path.{◌≡◌, sym, ◌∙◌}
use lib.ListN.{length}
use Rattle.paper.specs.Panel.{memory_length}
use Rattle.calls_start.proofs.Starts.{start_refused, start_accepted}
use Rattle.calls_start.proofs.start.Goals as goal

pub initial_state-t-requires : goal.initial_state-t-requires
initial_state-t-requires c =
    c.requires.1

pub memory_length-requires : goal.memory_length-requires
memory_length-requires c =
    c.requires.0.small

pub returns-then-mem-memory_length : goal.returns-then-mem-memory_length
returns-then-mem-memory_length c =
    start_refused _ _ _ _ _ (λ e. c.if-mem-memory_length.true (e ∙ sym c.memory_length.ensures)) c.initial_state-t.ensures
    c.erase_all.ensures

pub erase-spans-requires : goal.erase-spans-requires
erase-spans-requires c =
    let whole : let a = c.args in length a.mem.now ≡ memory_length a.g = c.if-mem-memory_length.false ∙ c.memory_length.ensures in
    let u = c.requires.0 in
    (record { size = whole; small = u.small }, (u.columns_small, u.rows_small))

pub returns : goal.returns
returns c =
    let whole : let a = c.args in length a.mem.now ≡ memory_length a.g = c.if-mem-memory_length.false ∙ c.memory_length.ensures in
    start_accepted _ _ _ _ _ _ _ whole c.initial_state-t.ensures c.erase-spans.ensures.1
    c.erase-spans.ensures.0 c.erase_all.ensures
