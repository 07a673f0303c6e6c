-- An image's bytes fed together: what feeding them one by one comes to. Assumes nothing.
use mathlib.Core.Path.{◌≡◌, sym, ap}
use mathlib.Core.Bool.{true, false}
use mathlib.Core.List.{List, ◌∷◌}
use Prim.Native.Nat.{ℕ, ◌+◌, ◌<◌, ◌≤◌}
use native.Mathlib.Nat.{add-zero}
use lib.ListN.{length, get_or, drop}
use lib.Dec.{ltb, eqb}
use borrow.Author.Tests.{ltb-true}
use Rattle.paper.specs.declared.Module.{Module}
use Rattle.paper.specs.declared.Fed.{Fed}
use Rattle.paper.specs.declared.Half.{Half}
use Rattle.paper.specs.declared.Half.TheVariants.{Nothing, ImageData}
use Rattle.paper.specs.declared.Outcome.TheVariants.{Unfinished, Carried}
use Rattle.paper.specs.declared.State.{State}
use Rattle.paper.specs.Bounds.{half_ok, state_ok}
use Rattle.paper.specs.Reading.{between}
use Rattle.laws_bytes.proofs.Tests.{both_of, between_facts}
use Rattle.laws_state.proofs.Parts.{parts}
use Rattle.paper.specs.Settings.{with_half, with_spans, view_of}
use Rattle.paper.specs.Calls.{feeding}
use Rattle.laws_state.specs.Runs.{Reaches, Image, image, stored, image_bytes_of, outcome_at, done_at, on_image}
use Rattle.laws_state.proofs.Runs.{image_bytes_reached}
use Rattle.laws_state.proofs.Taken.{from_here}
use Rattle.laws_state.specs.Told.{fed}

module _ (g : Module) (font : List ℕ) (f : Fed) (m ds piece : List ℕ) (i width height column row : ℕ) where
  -- a run of an image's bytes from there on
  image-bytes-turn : (j : Image) (at : ℕ) → f.state.half ≡ ImageData width height column row → column < width → i < length piece
      → stored j (drop at piece)
      ≡ image_bytes_of g (view_of g f.state) f.state.settings.style width height (image f.state.spans m column row) (drop i piece)
      → Reaches g font (fed f m ds) (drop i piece)
      (feeding f.refusal (on_image f.state width height j) (f.carried + done_at width j) f.answered (outcome_at width j) j.mem ds) (drop at piece)
  image-bytes-turn j at e c l k = rw (from_here piece i l) (rw (← same) at (rw starts at rest)) where
    begun_here : Image
    begun_here = image f.state.spans m column row

    starts : with_half f.state (ImageData width height column row) ≡ f.state
    starts = ap (λ (q : Half). with_half f.state q) (sym e)

    same : stored j (drop at piece)
        ≡ image_bytes_of g (view_of g f.state) f.state.settings.style width height begun_here (get_or piece i 0 ∷ drop (i + 1) piece)
    same = rw (from_here piece i l) at k

    rest : let t = image_bytes_of g (view_of g f.state) f.state.settings.style width height begun_here (get_or piece i 0 ∷ drop (i + 1) piece) in
        Reaches g font (feeding f.refusal (with_half f.state (ImageData width height column row)) f.carried f.answered f.outcome m ds) (get_or piece i 0 ∷ drop (i + 1) piece)
        (feeding f.refusal (on_image f.state width height t.on) (f.carried + done_at width t.on) f.answered (outcome_at width t.on) t.on.mem ds) t.rest
    rest = image_bytes_reached g font ds f.state f.refusal f.answered width height f.outcome (get_or piece i 0) (drop (i + 1) piece) begun_here f.carried c

  -- the image is whole
  pub image_bytes_whole_turn : (j : Image) (at : ℕ) → f.state.half ≡ ImageData width height column row → column < width → i < length piece
      → stored j (drop at piece)
      ≡ image_bytes_of g (view_of g f.state) f.state.settings.style width height (image f.state.spans m column row) (drop i piece)
      → eqb j.column width ≡ true
      → Reaches g font (fed f m ds) (drop i piece)
      (feeding f.refusal (with_half (with_spans f.state j.spans) Nothing) (f.carried + 1) f.answered Carried j.mem ds) (drop at piece)
  image_bytes_whole_turn j at e c l k z = rw z at (image-bytes-turn j at e c l k)

  -- the image goes on
  pub image-bytes-part-turn : (j : Image) (at : ℕ) → f.state.half ≡ ImageData width height column row → column < width → i < length piece
      → stored j (drop at piece)
      ≡ image_bytes_of g (view_of g f.state) f.state.settings.style width height (image f.state.spans m column row) (drop i piece)
      → eqb j.column width ≡ false
      → Reaches g font (fed f m ds) (drop i piece)
      (feeding f.refusal (with_half (with_spans f.state j.spans) (ImageData width height j.column j.row)) f.carried f.answered Unfinished j.mem ds) (drop at piece)
  image-bytes-part-turn j at e c l k z = rw (z, add-zero f.carried) at (image-bytes-turn j at e c l k)

-- the next byte's place is one of the image's, which is no higher than the memory
pub image_bounds : (g : Module) (s : State) (width height column row : ℕ) → state_ok g s ≡ true → s.half ≡ ImageData width height column row
    → (column < width) × (row < height) × (height ≤ g.rows)
unfolding half_ok
image_bounds g s width height column row ok e =
    let h : half_ok g (ImageData width height column row) ≡ true = rw e at (parts g s ok).half in
    let a = both_of (between 1 g.columns width) _ h in
    let b = both_of (between 1 g.rows height) _ a.1 in
    let c = both_of (ltb column width) (ltb row height) b.1 in
    (ltb-true column width c.0, ltb-true row height c.1, (between_facts 1 g.rows height b.0).1)
