-- Where a define goes when a download of it has come whole. Assumes nothing.
use mathlib.Core.Path.{◌≡◌}
use mathlib.Core.Bool.{Bool}
use mathlib.Core.List.{List, []}
use Prim.Native.Nat.{ℕ, ◌<◌, ◌≤◌}
use borrow.Author.Tests.{lt-ltb, le-ltb}
use Rattle.paper.specs.declared.Batch.{Batch}
use Rattle.paper.specs.declared.Half.TheVariants.{Nothing, GlyphWidth}
use Rattle.paper.specs.declared.Outcome.TheVariants.{Unfinished}
use Rattle.paper.specs.declared.State.{State}
use Rattle.paper.specs.Reading.{next_code}
use Rattle.paper.specs.Settings.{with_half}
use Rattle.paper.specs.Carry.{means, noted, define_answer, glyph_ends}

module _ (ds : List ℕ) (s : State) (d : Batch) (n : Bool) where
  -- a define that has a code left goes on with it
  pub goes_on : d.code < d.last
      → glyph_ends ds s d n ≡ means (with_half s (GlyphWidth (next_code d) (noted ds s.hold d n))) Unfinished []
  unfolding glyph_ends
  goes_on l = rw (lt-ltb d.code d.last l)

  -- and is read to its end with its last
  pub is_read : d.last ≤ d.code → glyph_ends ds s d n ≡ means (with_half s Nothing) (define_answer s.hold (noted ds s.hold d n)) []
  unfolding glyph_ends
  is_read l = rw (le-ltb d.code d.last l)
