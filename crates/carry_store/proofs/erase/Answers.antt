-- `carry_store::erase` meets its contract. Assumes nothing.
use Rattle.paper.specs.Downloads.{faces}
use Rattle.carry_store.proofs.Erased.{stores_erase}
use Rattle.carry_store.proofs.erase.Goals as goal

pub returns : goal.returns
returns c font =
    let a = c.args in
    stores_erase a.g (faces font a.store.now) a.s a.a a.code c.ends.ensures c.requires
    c.erase_one-answer.ensures.0 c.erase_one-answer.ensures.1
