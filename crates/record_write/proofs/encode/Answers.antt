-- `encode` meets its contract: the settings, the windows and what follows them are all its bytes. Assumes nothing.
use mathlib.Core.Path.{refl}
use borrow.Author.Rules.{rules}
use Rattle.record_bytes.specs.Bytes.{state_length, encoded, windows_bytes}
use Rattle.record_write.proofs.Laid.{known, after, whole, encoded-length}
use Rattle.record_write.proofs.encode.Goals as goal

pub returns : goal.returns
unfolding encoded windows_bytes
returns c =
    whole state_length (search rules) (encoded-length c.args.s)
    (after refl (known c.settings_bytes.ensures c.put.ensures)
    (after refl c.put_windows.ensures c.put_tail.ensures))
