-- `glyphs::columns_at` meets its contract, by its test: a download's columns stand in its place. Assumes nothing.
use Prim.Native.Nat.{◌+◌, ◌*◌}
use native.Mathlib.Omega.{arith}
use borrow.Author.Tests.{ne_eqb}
use Rattle.glyphs.proofs.Parts.{part_bytes}
use Rattle.glyphs.proofs.columns_at.Goals as goal

pub returns : goal.returns
returns c =
    let a = c.args in
    rw (ne_eqb _ _ c.if-own-k-eq5.false) (part_bytes 7 (9 * a.k + 2) a.own.now (omega arith))
