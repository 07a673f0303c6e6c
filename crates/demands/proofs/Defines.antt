-- Demand 2, a define read to its end: 18 is given exactly if afterwards one of its codes is not stored. Assumes nothing.
use mathlib.Core.Path.{◌≡◌, sym, ap, ◌∙◌}
use mathlib.Core.Bool.{Bool, true, false, not}
use mathlib.Core.List.{List}
use Prim.Native.Nat.{ℕ, ◌+◌}
use native.Mathlib.Omega.{arith}
use lib.Dec.{leb, ltb}
use borrow.Author.Tests.{leb-true, ltb-false, not-true}
use Rattle.paper.specs.declared.Module.{Module}
use Rattle.paper.specs.declared.Batch.{Batch}
use Rattle.paper.specs.declared.Columns.{Columns}
use Rattle.paper.specs.declared.Reading.TheVariants.{GlyphEnd}
use Rattle.paper.specs.declared.State.{State}
use Rattle.paper.specs.Downloads.{put_in, Faces}
use Rattle.paper.specs.Reading.{read_of}
use Rattle.paper.specs.Bounds.{batch_ok, all_stored, accepted}
use Rattle.paper.specs.Carry.{is_held, byte_means, byte_store}
use Rattle.laws_bytes.proofs.Tests.{both_of}
use Rattle.laws_bytes.proofs.Readings.{reads_ok, glyph_end_facts}
use Rattle.laws_downloads.proofs.Notes.{note_kept, note_says}
use Rattle.laws_state.proofs.Parts.{parts}
use Rattle.laws_state.proofs.Notes.{reads_note}
use Rattle.laws_state.proofs.Downloads.{define_code}
use Rattle.laws_state.proofs.Records.{accepted_parts, outside-define}
use Rattle.demands.specs.Demands.{some_dropped, DefineEnds}
use Rattle.demands.proofs.Outcomes.{ends_own, byte-answers}

-- the last code of a define that has no code after it
at_last : (d : Batch) → batch_ok d ≡ true → ltb d.code d.last ≡ false → d.code ≡ d.last
unfolding batch_ok
at_last d h e =
    let codes = both_of (leb d.first d.code) _ (both_of (leb 0x20 d.first) _ h).1 in
    let l = leb-true d.code d.last codes.1 in
    let m = ltb-false d.code d.last e in
    omega arith

module _ (g : Module) (font : Faces) (s : State) (b : ℕ) (d : Batch) (n : Bool) (c : Columns) (ok : accepted g s font.store ≡ true)
    (free : is_held s.hold ≡ false) (read : read_of g s.half b ≡ GlyphEnd d n c) (last : ltb d.code d.last ≡ false) where
  -- its note, with its last code, says whether all are stored
  says : some_dropped font.store d n ≡ not (all_stored (byte_store g font s b) d.first (d.last + 1))
  says =
      let ds = font.store in
      let p = accepted_parts g s ds ok in
      let batch-ok = (define_code g d n (glyph_end_facts g d n c (rw read at (reads_ok g s.half b (parts g s p.0).half))).0).1 in
      let note = rw read at (reads_note g ds s.half b (outside-define ds s.hold s.half p.2 free)) in
      let there : byte_store g font s b ≡ put_in ds d.code c =
      (byte-answers g font s b).stored d n c read ∙ rw free in
      note_says _ _ _ (note_kept ds d n c p.1 batch-ok note)
      ∙ ap (λ (k : ℕ). not (all_stored (put_in ds d.code c) d.first (k + 1))) (at_last d batch-ok last)
      ∙ ap (λ (es : List ℕ). not (all_stored es d.first (d.last + 1))) (sym there)

  pub define_ends : DefineEnds d (byte_means g font s b) (byte_store g font s b)
  define_ends =
      let a = (byte-answers g font s b).number_18 in (
        λ e. not-true _ (sym says ∙ (ends_own d n c _ (rw read at (a.0 e))).1.1),
        λ e. a.1 (d, n, c, read, last, (free, says ∙ ap not e)),
      )
