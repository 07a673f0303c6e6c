-- Where a loop over characters has come to: what it holds at each turn, and a turn more; and the loop over a line, which is marked once.
-- Assumes nothing.
use mathlib.Core.Path.{◌≡◌, refl, sym, ap, ap₂, ◌∙◌}
use mathlib.Core.Bool.{true, false, false≢true, ◌&&◌}
use mathlib.Core.List.{List}
use Prim.Native.Nat.{ℕ, ◌+◌, ◌*◌, ◌-◌, ◌<◌, ◌≤◌}
use native.Mathlib.Omega.{arith}
use lib.ListN.{length, get_or, get_or-eq_default}
use lib.Dec.{leb}
use borrow.Author.Tests.{leb-true, le-leb}
use Rattle.paper.specs.declared.Module.{Module}
use Rattle.paper.specs.declared.Span.{Span}
use Rattle.paper.specs.declared.Style.{Style}
use Rattle.paper.specs.Downloads.{Faces, glyph_of}
use Rattle.paper.specs.Strokes.{rect_at, mark_rect}
use Rattle.paper.specs.Cells.{cell_width, cell_height}
use Rattle.paper.specs.Moves.{to, character_of}
use Rattle.laws_state.specs.Room.{InMemory, Room}
use Rattle.laws_state.specs.Runs.{written_on}
use Rattle.laws_state.proofs.Moves.{character_kept}
use Rattle.laws_state.proofs.Runs.{within_kept, within_room}
use Rattle.laws_state.proofs.Taken.{characters_more}
use Rattle.laws_memory.proofs.Tests.{lt_cases, eq_cases, and_parts}
use Rattle.moves.specs.declared.Spot.{Spot}
use Rattle.moves.specs.Does.{Does, spot}
use Rattle.cells.specs.Drawn.{drawn}
use Rattle.runs_line.specs.Went.{under, drawn_to, pen_at, Went}
use Rattle.laws_glass.proofs.Marks.{mark_at, mark_none, mark_beside}
use Rattle.runs_line.proofs.Lines.{drawn_in_line}

-- what a character did is what it does to a sheet
on_sheet_lem : (g : Module) (font : Faces) (w : ℕ) (y : Style) (b : ℕ) (q r : Spot) (n n' : List ℕ)
    → Does g q.spans n r n' (character_of g font w y b q.view) → under r n' ≡ written_on g font w y (under q n) b
on_sheet_lem g font w y b q r n n' d = rw (d.view, d.spans, d.mem)

-- what the test for a character more in a line says
pub room_for : (piece : List ℕ) (i to end : ℕ) → (leb 0x20 (get_or piece i 0) && leb to end) ≡ true
    → (i < length piece) × (0x20 ≤ get_or piece i 0) × (to ≤ end)
room_for piece i to end t =
    let f = and_parts (leb 0x20 (get_or piece i 0)) (leb to end) t in
    let b = leb-true 0x20 (get_or piece i 0) f.0 in
    (lt_cases i (length piece) (λ l. l) (λ h. absurd (omega (arith, b, get_or-eq_default piece 0 h))), b, leb-true to end f.1)

module _ (g : Module) (font : Faces) (w : ℕ) (y : Style) (p : Spot) (m piece : List ℕ) (from : ℕ) where
  -- nothing drawn yet
  pub went_begin : InMemory g p.view → from < length piece → Went g font w y p m piece from (drawn_to p from) m
  went_begin i l =
      record {
        low = omega arith;
        high = omega arith;
        size = refl;
        within = record { left = refl; top = refl; width = refl; height = refl; x = i.x; y = i.y };
        done = refl;
      }

  module _ (q : Spot) (n : List ℕ) (i : ℕ) (k : Went g font w y p m piece from (drawn_to q i) n) where
    -- a character more
    pub went_next : {r : Spot} {n' : List ℕ} → Room g p.view (cell_width g w y) (cell_height y) → i < length piece → 0x20 ≤ get_or piece i 0
        → Does g q.spans n r n' (character_of g font w y (get_or piece i 0) q.view) → length n' ≡ length n
        → Went g font w y p m piece from (drawn_to r (i + 1)) n'
    went_next {r} {n'} room l b d e =
        record {
          low = omega (arith, k.low);
          high = omega arith;
          size = e ∙ k.size;
          within =
              rw d.view
              (within_kept p.view q.view (character_of g font w y (get_or piece i 0) q.view) k.within
              (character_kept g font w y (get_or piece i 0) q.view (within_room g p.view q.view _ _ room k.within)));
          done = characters_more g font w y piece i (under q n) {h' = under r n'} l b (on_sheet_lem g font w y (get_or piece i 0) q r n n' d) ∙ k.done;
        }

  -- ---- a line, marked once

  -- the column of memory where the line begins
  abbrev start : ℕ
  start = p.view.left + p.view.x

  -- the line so far: drawn as far as column a, which is the spot's as long as nothing was drawn
  pub record Lining (l : ℕ) (n : List ℕ) (a i : ℕ) : Type 0 where
    pub went : Went g font w y p m piece from (drawn_to (pen_at p l a) i) n
    pub on : p.view.left + p.view.x ≤ a
    pub begun : i ≡ from → a ≡ p.view.left + p.view.x

  -- nothing drawn, nothing marked
  pen_begin : (l : ℕ) → pen_at p l start ≡ p
  pen_begin l =
      ap₂ (λ (x : ℕ) (ps : List Span). spot (to p.view x p.view.y) ps) (omega arith)
      (mark_at p.spans refl refl (omega arith) refl ∙ mark_none start (p.view.top + p.view.y) l p.spans)

  pub lining_begin : (l : ℕ) → InMemory g p.view → from < length piece → Lining l m start from
  lining_begin l i h = record { went = rw (pen_begin l) (went_begin i h); on = omega arith; begun = λ e. refl }

  module _ (l : ℕ) (n : List ℕ) (a i : ℕ) (k : Lining l n a i) where
    -- the cell at column a, marked after the line, is the line a cell longer
    longer : mark_rect (rect_at (p.view.left + (a - p.view.left)) (p.view.top + p.view.y) (cell_width g w y) l) (pen_at p l a).spans
        ≡ (pen_at p l (a + cell_width g w y)).spans
    longer =
        mark_at (pen_at p l a).spans (omega (arith, k.on)) refl refl refl
        ∙ mark_beside start (p.view.top + p.view.y) (a - p.view.left - p.view.x) (cell_width g w y) l p.spans
        ∙ mark_at p.spans refl refl (omega (arith, k.on)) refl

    -- a cell more
    pub lining_next : {n' : List ℕ} → Room g p.view (cell_width g w y) (cell_height y) → l ≡ cell_height y → i < length piece
        → 0x20 ≤ get_or piece i 0 → a + 2 * cell_width g w y ≤ p.view.left + p.view.width → p.view.y + l ≤ p.view.height
        → n' ≡ drawn g (glyph_of g font (get_or piece i 0)) w y (rect_at a (p.view.top + p.view.y) (cell_width g w y) l) n
        → length n' ≡ length n → Lining l n' (a + cell_width g w y) (i + 1)
    lining_next room e h b across down d s =
        record {
          went =
              went_next (pen_at p l a) n i k.went room h b
              (drawn_in_line g (pen_at p l a).spans n font w y (get_or piece i 0) (to p.view (a - p.view.left) p.view.y)
              (omega (arith, k.on)) (rw (← e) down)
              (ap (λ (x : ℕ). spot (to p.view x p.view.y) (pen_at p l (a + cell_width g w y)).spans) (omega (arith, k.on)))
              (sym longer
              ∙ ap (λ (h : ℕ). mark_rect (rect_at (p.view.left + (a - p.view.left)) (p.view.top + p.view.y) (cell_width g w y) h) (pen_at p l a).spans) e)
              (d ∙ ap₂ (λ (x h : ℕ). drawn g (glyph_of g font (get_or piece i 0)) w y (rect_at x (p.view.top + p.view.y) (cell_width g w y) h) n)
              (omega (arith, k.on)) e)) s;
          on = omega (arith, k.on);
          begun = λ f. absurd (omega (arith, k.went.low));
        }

    -- where it ends it has begun
    pub lining_end : (c : ℕ) → 0x20 ≤ get_or piece from 0 → p.view.x + 2 * c ≤ p.view.width
        → (leb 0x20 (get_or piece i 0) && leb (a + 2 * c) (p.view.left + p.view.width)) ≡ false → from < i
    lining_end c b h t =
        eq_cases from i
        (λ e. absurd (false≢true (sym t
        ∙ rw (← e, k.begun (sym e), le-leb 0x20 (get_or piece from 0) b, le-leb (start + 2 * c) (p.view.left + p.view.width) (omega arith)))))
        (λ n. omega (arith, k.went.low))
