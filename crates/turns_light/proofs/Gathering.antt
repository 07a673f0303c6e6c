-- A command's bytes read together, and then taken: what feeding them one by one comes to. Assumes nothing.
use mathlib.Core.Path.{◌≡◌, refl, sym, ap}
use mathlib.Core.Bool.{true}
use mathlib.Core.List.{List, ◌∷◌}
use Prim.Native.Nat.{ℕ, ◌+◌, ◌<◌, ◌≤◌}
use native.Mathlib.Nat.{add-zero}
use native.Mathlib.Omega.{arith}
use lib.ListN.{length, get_or, drop, length-drop}
use Rattle.paper.specs.declared.Module.{Module}
use Rattle.paper.specs.declared.Half.{Half}
use Rattle.paper.specs.declared.Reading.{Reading}
use Rattle.paper.specs.declared.Reading.TheVariants.{More, Whole, ImageByte, ImageEnd, GlyphEnd, Cancels, UnknownCode}
use Rattle.paper.specs.declared.Outcome.{Outcome}
use Rattle.paper.specs.declared.Outcome.TheVariants.{Unfinished}
use Rattle.paper.specs.declared.Refusal.{Refusal}
use Rattle.paper.specs.declared.State.{State}
use Rattle.paper.specs.Numbers.{outcome_number, carried_by, answered_by}
use Rattle.paper.specs.Downloads.{Faces, faces}
use Rattle.paper.specs.Reading.{read_of}
use Rattle.paper.specs.Settings.{with_half, view_of}
use Rattle.paper.specs.Carry.{glyph_ends, take_of, byte_means, take_store, byte_store}
use Rattle.paper.specs.Calls.{Feeding, feeding, counted, next}
use Rattle.laws_bytes.specs.Readings.{reading_ok}
use Rattle.laws_bytes.proofs.Readings.{reads_ok}
use Rattle.laws_state.specs.Runs as reached
use Rattle.laws_state.specs.Runs.{Reaches}
use Rattle.laws_state.proofs.Reached.{reaches_next}
use Rattle.laws_state.proofs.Taken.{from_here}
use Rattle.turns_light.specs.Turns.{Gathers, here, byte}

module _ {g : Module} where
  -- one byte more
  pub gathers_more : {q : Reading} {bs : List ℕ} {h : Half} {r : Reading} (b : ℕ) {rest : List ℕ} → Gathers g q bs (More h) (b ∷ rest) → read_of g h b ≡ r
      → Gathers g q bs r rest
  gathers_more b here e = byte e here
  gathers_more b (byte f p) e = byte f (gathers_more b p e)

  -- the byte of a piece that is next
  pub gathers_read : {q : Reading} {bs : List ℕ} {h : Half} {r : Reading} (piece : List ℕ) (i : ℕ) → i < length piece
      → Gathers g q bs (More h) (drop i piece) → r ≡ read_of g h (get_or piece i 0) → Gathers g q bs r (drop (i + 1) piece)
  gathers_read piece i l p e = gathers_more (get_or piece i 0) (rw (from_here piece i l) at p) (sym e)

  -- bounds hold on
  pub gathers_ok : {q r : Reading} {bs rest : List ℕ} → Gathers g q bs r rest → reading_ok g q ≡ true → reading_ok g r ≡ true
  unfolding reading_ok
  gathers_ok here k = k
  gathers_ok (byte {h} {b = b} e p) k = gathers_ok p (rw (← e) (reads_ok g h b k))

-- what is half read does not matter for what a reading does
half_aside : (g : Module) (font : Faces) (s : State) (h : Half) (q : Reading) → take_of g font (with_half s h) q ≡ take_of g font s q
unfolding take_of view_of glyph_ends
half_aside g font s h (More p) = refl
half_aside g font s h (Whole c) = refl
half_aside g font s h (ImageByte column row b p) = refl
half_aside g font s h (ImageEnd column row b) = refl
half_aside g font s h (GlyphEnd d n c) = refl
half_aside g font s h Cancels = refl
half_aside g font s h UnknownCode = refl

-- nor for the downloads that it leaves
store_aside : (g : Module) (font : Faces) (s : State) (h : Half) (q : Reading) → take_store g font (with_half s h) q ≡ take_store g font s q
unfolding take_store
store_aside g font s h (More p) = refl
store_aside g font s h (Whole c) = refl
store_aside g font s h (ImageByte column row b p) = refl
store_aside g font s h (ImageEnd column row b) = refl
store_aside g font s h (GlyphEnd d n c) = refl
store_aside g font s h Cancels = refl
store_aside g font s h UnknownCode = refl

module _ (g : Module) (font : List ℕ) (r : Refusal) (c a : ℕ) (m ds : List ℕ) where
  -- what a reading comes to
  abbrev pub taken : State → Outcome → Reading → Feeding
  taken s o q = counted g (feeding r s c a o m ds) (take_of g (faces font ds) s q) (take_store g (faces font ds) s q)

  -- a byte that leaves the command half read
  half_next : (s : State) (o : Outcome) (b : ℕ) (h : Half) → read_of g s.half b ≡ More h
      → next g font (feeding r s c a o m ds) b ≡ feeding r (with_half s h) c a Unfinished m ds
  unfolding next byte_means byte_store take_of take_store outcome_number carried_by answered_by
  half_next s o b h e = rw (e, add-zero c, add-zero a)

  -- the bytes after a first one, gathered and then taken
  taken_on : (s : State) (o : Outcome) (b : ℕ) {q t : Reading} {bs rest : List ℕ} → read_of g s.half b ≡ q → Gathers g q bs t rest
      → Reaches g font (feeding r s c a o m ds) (b ∷ bs) (taken s o t) rest
  unfolding next byte_means byte_store
  taken_on s o b e here = reaches_next b (ap (taken s o) e) reached.here
  taken_on s o b {t = t} e (byte {h} {b = d} f p) =
      rw (← half_aside g (faces font ds) s h t, ← store_aside g (faces font ds) s h t) (reaches_next b (half_next s o b h e) (taken_on (with_half s h) Unfinished d f p))

  -- THE LAW: bytes gathered and then taken come to what they come to one by one
  pub taken_reached : (s : State) (o : Outcome) {q : Reading} (piece : List ℕ) (i at : ℕ) → i < length piece → i < at → at ≤ length piece
      → Gathers g (More s.half) (drop i piece) q (drop at piece)
      → Reaches g font (feeding r s c a o m ds) (drop i piece) (taken s o q) (drop at piece)
  taken_reached s o piece i at l k e p =
      rw (from_here piece i l) (go (rw (from_here piece i l) at p) (omega (arith, length-drop at piece, length-drop (i + 1) piece)))
    where
      go : {q : Reading} {b : ℕ} {bs rest : List ℕ} → Gathers g (More s.half) (b ∷ bs) q rest → length rest ≤ length bs
          → Reaches g font (feeding r s c a o m ds) (b ∷ bs) (taken s o q) rest
      go here n = absurd (omega arith)
      go {b = b} (byte f p) n = taken_on s o b f p
