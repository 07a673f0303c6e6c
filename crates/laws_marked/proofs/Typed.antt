-- Which codes characters have does not matter to the state: any codes leave what as many times 41h leave. Assumes nothing.
use mathlib.Core.Path.{◌≡◌, refl, sym, ap, ap₂, ◌∙◌}
use mathlib.Core.Bool.{Bool, true, false, cond}
use mathlib.Core.List.{List, [], ◌∷◌}
use Prim.Native.Nat.{ℕ, suc, ◌+◌, ◌≤◌}
use native.Mathlib.Omega.{arith}
use lib.Dec.{leb, eqb}
use lib.ListN.{length, replicate}
use borrow.Author.Tests.{le-leb}
use Rattle.paper.specs.declared.Module.{Module}
use Rattle.paper.specs.declared.Style.{Style}
use Rattle.paper.specs.declared.Span.{Span}
use Rattle.paper.specs.declared.View.{View}
use Rattle.paper.specs.declared.Half.{Half}
use Rattle.paper.specs.declared.Half.TheVariants.{Nothing}
use Rattle.paper.specs.declared.Command.TheVariants.{Character}
use Rattle.paper.specs.declared.Outcome.TheVariants.{TooLarge}
use Rattle.paper.specs.declared.State.{State}
use Rattle.paper.specs.Downloads.{Faces, faces, in_force}
use Rattle.paper.specs.Numbers.{is_carried}
use Rattle.paper.specs.Strokes.{grown_by, mark_from, mark_all}
use Rattle.paper.specs.Reading.{read_first, read_of}
use Rattle.paper.specs.Settings.{with_half, with_spans, with_view, at_cursor, view_of}
use Rattle.paper.specs.Cells.{cell_width, cell_height, draw_stroke}
use Rattle.paper.specs.Moves.{Moved, and_then, ht_of, draw_tab, blank_tab, character_of}
use Rattle.paper.specs.Carry.{Meaning, asks, exceeds, moves, carried_out, answers, command_of, take_of, byte_means, leaves, command_store, take_store, byte_store}
use Rattle.paper.specs.Calls.{settled, Feeding, faces_now, next, run}
use Rattle.laws_memory.proofs.Spans.{marks_append}
use Rattle.laws_state.proofs.Tests.{by_cond}
use Rattle.laws_marked.specs.Marked.{Characters}

-- two moves that leave the cursor and the spans alike
record Alike (t u : Moved) : Type 0 where
  view : t.view ≡ u.view
  spans : (ps : List Span) → mark_all ps t.strokes ≡ mark_all ps u.strokes

-- picked by one test
by_test : (t : Bool) {a b c d : Moved} → Alike a c → Alike b d → Alike (cond t a b) (cond t c d)
by_test true l r = l
by_test false l r = r

-- after one move
then_alike : (t : Moved) (f h : View → Moved) → ((v : View) → Alike (f v) (h v)) → Alike (and_then t f) (and_then t h)
then_alike t f h a =
    record {
      view = (a t.view).view;
      spans = λ ps.
          rw (marks_append ps t.strokes (f t.view).strokes, marks_append ps t.strokes (h t.view).strokes)
          ((a t.view).spans (mark_all ps t.strokes));
    }

module _ (g : Module) (font : Faces) where
  module _ (w : ℕ) (y : Style) (c d : ℕ) where
    -- a cell is as large whatever its code
    cell_marks : (v : View) (r : ℕ) (ps : List Span)
        → mark_from (draw_stroke g font w y c v).rect r ps ≡ mark_from (draw_stroke g font w y d v).rect r ps
    unfolding grown_by
    cell_marks v r [] = refl
    cell_marks v r (p ∷ ps) =
        ap (λ (l : List Span). grown_by (draw_stroke g font w y c v).rect r p ∷ l) (cell_marks v (suc r) ps)

    -- draw, HT
    draw_alike : (v : View) → Alike (draw_tab g font w y c v) (draw_tab g font w y d v)
    unfolding draw_tab
    draw_alike v =
        record {
          view = refl;
          spans = λ ps.
              ap (λ (l : List Span). mark_all l (ht_of g v (cell_width g w y) (cell_height y)).strokes) (cell_marks v 0 ps);
        }

    -- a character
    character_alike : (v : View) → Alike (character_of g font w y c v) (character_of g font w y d v)
    unfolding character_of
    character_alike v =
        by_test (leb (v.x + cell_width g w y) v.width) (draw_alike v)
        (by_test (eqb v.mode 3)
        (then_alike (ht_of g v (cell_width g w y) (cell_height y)) (draw_tab g font w y c) (draw_tab g font w y d) draw_alike)
        (then_alike (blank_tab g w y v) (draw_tab g font w y c) (draw_tab g font w y d) draw_alike))

module _ (g : Module) (font : Faces) where
  -- the state that moves alike leave
  settled_alike : (s : State) (t u : Moved) → Alike t u → settled (moves s t) ≡ settled (moves s u)
  settled_alike s t u a =
      ap (λ (v : View). with_spans (with_view s v) (mark_all (with_view s v).spans t.strokes)) a.view
      ∙ ap (with_spans (with_view s u.view)) (a.spans (with_view s u.view).spans)

  -- the state that a character leaves
  command_alike : (s : State) (c d : ℕ) → settled (command_of g font s (Character c)) ≡ settled (command_of g font s (Character d))
  unfolding command_of asks carried_out
  command_alike s c d = go (exceeds g s) where
    typing : ℕ → Moved
    typing n = character_of g (in_force s.settings.switch font) s.settings.width s.settings.style n (view_of g s)

    go : (t : Bool) → settled (cond t (answers s TooLarge) (moves s (typing c))) ≡ settled (cond t (answers s TooLarge) (moves s (typing d)))
    go true = refl
    go false = settled_alike s (typing c) (typing d) (character_alike g (in_force s.settings.switch font) s.settings.width s.settings.style c d (view_of g s))

  -- nothing is half read after it
  command_half : (s : State) (c : ℕ) → s.half ≡ Nothing → (command_of g font s (Character c)).state.half ≡ Nothing
  unfolding command_of asks carried_out at_cursor
  command_half s c e =
      by_cond (λ (t : Meaning). t.state.half ≡ Nothing) (exceeds g s) (λ _. e)
      (λ _. by_cond (λ (q : State). q.half ≡ Nothing) (eqb s.selected 0) (λ _. e) (λ _. e))

  -- it stores nothing
  command_store_lem : (s : State) (c : ℕ) → command_store g font s (Character c) ≡ font.store
  unfolding command_store leaves
  command_store_lem s c = same (is_carried (command_of g font s (Character c)).outcome) where
    same : (t : Bool) → cond t font.store font.store ≡ font.store
    same true = refl
    same false = refl

  -- a byte of 20h and above is a character
  reads : (s : State) (c : ℕ) → s.half ≡ Nothing → 0x20 ≤ c → byte_means g font s c ≡ command_of g font (with_half s Nothing) (Character c)
  unfolding byte_means take_of read_of read_first
  reads s c e h = ap (λ (p : Half). take_of g font s (read_of g p c)) e ∙ rw (le-leb 0x20 c h)

  keeps : (s : State) (c : ℕ) → s.half ≡ Nothing → 0x20 ≤ c → byte_store g font s c ≡ font.store
  unfolding byte_store take_store read_of read_first
  keeps s c e h =
      ap (λ (p : Half). take_store g font s (read_of g p c)) e ∙ rw (le-leb 0x20 c h) (command_store_lem (with_half s Nothing) c)

module _ (g : Module) (font : List ℕ) where
  -- any codes leave the state that as many times 41h leave
  pub runs_alike : (f h : Feeding) (codes : List ℕ) → f.answer.state ≡ h.answer.state → f.store ≡ h.store
      → f.answer.state.half ≡ Nothing → Characters codes
      → (run g font f codes).answer.state ≡ (run g font h (replicate (length codes) 0x41)).answer.state
  unfolding next
  runs_alike f h [] e d n i = e
  runs_alike f h (c ∷ codes) e d n i =
      let s = f.answer.state in
      let here = faces_now font f in
      let read = reads g here s c n i.0 in
      runs_alike (next g font f c) (next g font h 0x41) codes
      (ap settled read ∙ command_alike g here (with_half s Nothing) c 0x41
      ∙ ap settled (sym (reads g here s 0x41 n (omega arith)))
      ∙ ap₂ (λ (q : State) (ds : List ℕ). settled (byte_means g (faces font ds) q 0x41)) e d)
      (keeps g here s c n i.0 ∙ sym (keeps g here s 0x41 n (omega arith))
      ∙ ap₂ (λ (q : State) (ds : List ℕ). byte_store g (faces font ds) q 0x41) e d)
      (ap (λ (t : Meaning). t.state.half) read ∙ command_half g here (with_half s Nothing) c refl)
      i.1
