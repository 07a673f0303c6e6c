-- What drawing asks of the settings, from settings in their domains. Assumes nothing.
use mathlib.Core.Path.{◌≡◌, refl}
use mathlib.Core.Bool.{true}
use mathlib.Core.List.{List}
use Prim.Native.Nat.{ℕ, ◌≤◌}
use lib.ListN.{length}
use Rattle.paper.specs.declared.Module.{Module}
use Rattle.paper.specs.declared.Settings.{Settings}
use Rattle.paper.specs.Panel.{font_length}
use Rattle.paper.specs.Bounds.{settings_ok}
use Rattle.glyphs.specs.Cell.{cell_of}
use Rattle.text_cells.specs.Inked.{Inked}
use Rattle.paper.specs.Settings.{in_enlargement}
use Rattle.paper.specs.Reading.{between}
use Rattle.laws_bytes.proofs.Tests.{both_of, between_facts}
use Rattle.laws_state.proofs.Settings.{domains}

-- a whole font, a code that it has, and accepted settings are all that drawing asks
pub inks : (g : Module) (font : List ℕ) (v : Settings) (code : ℕ) → length font ≡ font_length g → settings_ok g v ≡ true → 0x20 ≤ code
    → Inked g font (cell_of g v.width v.style) code
unfolding in_enlargement
inks g font v code l o h =
    let f = both_of (between 1 4 v.style.across) (between 1 2 v.style.down) (domains g v o).enlargement in
    record {
      whole = l;
      has = h;
      cell =
          record {
            columns = refl;
            rows = refl;
            across_some = (between_facts 1 4 v.style.across f.0).0;
            down = (between_facts 1 2 v.style.down f.1).1;
          };
    }
