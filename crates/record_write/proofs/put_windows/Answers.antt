-- `put_windows` meets its contract: a window's bytes after the other's. Assumes nothing.
use mathlib.Core.Path.{refl}
use Rattle.record_bytes.specs.Bytes.{windows_bytes}
use Rattle.record_write.proofs.Laid.{known, after}
use Rattle.record_write.proofs.put_windows.Goals as goal

pub returns : goal.returns
unfolding windows_bytes
returns c =
    after refl (known c.window_bytes.ensures c.put.ensures)
    (after refl (known c.window_bytes-2.ensures c.put-2.ensures)
    (after refl (known c.window_bytes-3.ensures c.put-3.ensures)
    (known c.window_bytes-4.ensures c.put-4.ensures)))
