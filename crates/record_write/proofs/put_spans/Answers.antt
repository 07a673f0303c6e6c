-- `put_spans` meets its contract: the spans' bytes are put at the end. Assumes nothing.
use borrow.Author.Rules.{rules}
use Rattle.record_write.proofs.Laid.{known, ended}
use Rattle.record_write.proofs.put_spans.Goals as goal

pub returns : goal.returns
returns c =
    ended (search rules) (known c.spans_bytes.ensures c.put.ensures)
