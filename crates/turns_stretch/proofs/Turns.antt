-- A turn of the loop over a piece: what a run came to is what feeding its bytes one by one comes to. Assumes nothing.
use mathlib.Core.Path.{◌≡◌, refl, sym, ap, ◌∙◌}
use mathlib.Core.Bool.{true}
use mathlib.Core.List.{List}
use Prim.Native.Nat.{ℕ, ◌+◌, ◌-◌, ◌<◌, ◌≤◌}
use native.Mathlib.Omega.{arith}
use lib.ListN.{length, get_or, drop, length-drop}
use borrow.Author.Tests.{le-leb}
use Rattle.paper.specs.declared.Module.{Module}
use Rattle.paper.specs.declared.Fed.{Fed}
use Rattle.paper.specs.declared.Outcome.TheVariants.{Carried}
use Rattle.paper.specs.declared.State.{State}
use Rattle.paper.specs.declared.View.{View}
use Rattle.paper.specs.Downloads.{Faces, faces, in_force}
use Rattle.paper.specs.Bounds.{state_ok}
use Rattle.carry_state.proofs.Facts.{selected_small}
use Rattle.paper.specs.Settings.{with_spans, view_of}
use Rattle.paper.specs.Calls.{feeding, next}
use Rattle.laws_state.specs.Room.{Usable}
use Rattle.laws_state.specs.Runs.{Reaches, Sheet, sheet, Written, written, characters_of, on_sheet, Within}
use Rattle.laws_state.proofs.Views.{view-place}
use Rattle.laws_state.proofs.Sheets.{view-same}
use Rattle.laws_state.proofs.Reached.{reaches_next}
use Rattle.laws_state.proofs.Runs.{penned, penned_within, character_next, characters_reached}
use Rattle.laws_state.proofs.Taken.{from_here}
use Rattle.laws_state.specs.Told.{fed}
use Rattle.turns_stretch.specs.Desk.{Drawable}

-- ---- characters

module _ (g : Module) (font : List ℕ) (u : Usable g) (f : Fed) (m ds piece : List ℕ) (i : ℕ) where
  -- what it draws from
  abbrev pub own : Faces
  own = in_force f.state.settings.switch (faces font ds)

  -- the sheet of a state
  abbrev pub begun : Sheet
  begun = sheet (view_of g f.state) f.state.spans m

  -- it is the state's
  begun-same : on_sheet f.state begun ≡ f.state
  begun-same = ap (λ (q : State). with_spans q f.state.spans) (view-same g f.state)

  begun_within : state_ok g f.state ≡ true → Within (view_of g f.state) (view_of g f.state)
  begun_within ok =
      let p = view-place g u f.state ok in
      record { left = refl; top = refl; width = refl; height = refl; x = p.x; y = p.y }

  -- a run of characters from there on
  pub characters-turn : (h : Sheet) (at : ℕ) → state_ok g f.state ≡ true → Drawable g f.state (get_or piece i 0) → i < length piece
      → i < at → at ≤ length piece
      → written h (drop at piece) ≡ characters_of g own f.state.settings.width f.state.settings.style begun (drop i piece)
      → Reaches g font (fed f m ds) (drop i piece)
      (feeding f.refusal (on_sheet f.state h) (f.carried + (at - i)) f.answered Carried h.mem ds) (drop at piece)
  characters-turn h at ok d l some end e = rw (from_here piece i l) (reaches_next b first (rw (← same) at rest)) where
    s : State
    s = f.state

    b : ℕ
    b = get_or piece i 0

    one : Sheet
    one = penned g font ds u s ok d.free d.room f.refusal f.answered begun b

    same : written h (drop at piece) ≡ characters_of g own s.settings.width s.settings.style one (drop (i + 1) piece)
    same = e ∙ rw (from_here piece i l, le-leb 0x20 b d.has)

    first : next g font (fed f m ds) b ≡ feeding f.refusal (on_sheet s one) (f.carried + 1) f.answered Carried one.mem ds
    first =
        sym (ap (λ (q : State). next g font (feeding f.refusal q f.carried f.answered f.outcome m ds) b) begun-same)
        ∙ character_next g font ds u s ok d.free d.room f.refusal f.answered begun f.carried f.outcome b (begun_within ok) (le-leb 0x20 b d.has)

    lengths : f.carried + (at - i) + length (drop at piece) ≡ (f.carried + 1) + length (drop (i + 1) piece)
    lengths = omega (arith, length-drop at piece, length-drop (i + 1) piece)

    rest : let t = characters_of g own s.settings.width s.settings.style one (drop (i + 1) piece) in
        Reaches g font (feeding f.refusal (on_sheet s one) (f.carried + 1) f.answered Carried one.mem ds) (drop (i + 1) piece)
        (feeding f.refusal (on_sheet s t.on) (f.carried + (at - i)) f.answered Carried t.on.mem ds) t.rest
    rest =
        characters_reached g font ds u s ok d.free d.room f.refusal f.answered (drop (i + 1) piece) one (f.carried + 1) (f.carried + (at - i))
        (penned_within g font ds u s ok d.free d.room f.refusal f.answered begun b (begun_within ok))
        (ap (λ (t : Written). f.carried + (at - i) + length t.rest) (sym same) ∙ lengths)

-- ---- what the runs ask

-- what `settle` asks of a cursor in the range
pub settles_within : (g : Module) (s : State) (v : View) → Usable g → state_ok g s ≡ true → Within (view_of g s) v
    → (s.selected ≤ 4) × (v.left + v.x < 65536) × (v.top + v.y < 65536)
settles_within g s v u ok i =
    let p = view-place g u s ok in
    (selected_small g s ok, omega arith, omega arith)
