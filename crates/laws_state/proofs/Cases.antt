-- What a byte comes to: nothing written, an image byte, or a command carried out. A law of all three is a law of every byte.
-- Assumes nothing.
use mathlib.Core.Path.{◌≡◌, refl}
use mathlib.Core.Bool.{true, false, ◌&&◌}
use mathlib.Core.List.{List, []}
use Prim.Native.Nat.{ℕ}
use lib.Dec.{ltb}
use Rattle.paper.specs.declared.Module.{Module}
use Rattle.paper.specs.declared.Half.{Half}
use Rattle.paper.specs.declared.Half.TheVariants.{Nothing}
use Rattle.paper.specs.declared.Command.{Command}
use Rattle.paper.specs.declared.Reading.{Reading}
use Rattle.paper.specs.declared.Reading.TheVariants.{More, Whole, ImageByte, ImageEnd, GlyphEnd, Cancels, UnknownCode}
use Rattle.paper.specs.declared.Outcome.{Outcome}
use Rattle.paper.specs.declared.Outcome.TheVariants.{Unfinished, Carried, OutOfDomain, Cancelled, Unknown, NotCarried, WindowHeld, TooLarge, NotDefined, NotStored}
use Rattle.paper.specs.declared.State.{State}
use Rattle.paper.specs.Downloads.{Faces}
use Rattle.paper.specs.Reading.{read_of}
use Rattle.paper.specs.Settings.{with_half, view_of}
use Rattle.paper.specs.Bounds.{half_ok}
use Rattle.paper.specs.Carry.{Meaning, means, asked_of, is_held, carried_out, answers, command_of, image_strokes, noted, glyph_ends, take_of, byte_means}
use Rattle.laws_bytes.specs.Readings.{command_ok, reading_ok}
use Rattle.laws_bytes.proofs.Readings.{next_ok, reads_ok, glyph_end_facts}
use Rattle.laws_bytes.proofs.Tests.{both_of}
use Rattle.laws_state.proofs.Tests.{by_cond}

-- a command to which none of 14, 15, 11, 17, 16 and 19 is answered
pub record Allowed (g : Module) (ds : List ℕ) (s : State) (c : Command) : Type 0 where
  pub carried : (asked_of g ds s c).not_carried ≡ false
  pub owner : ((asked_of g ds s c).owners_only && is_held s.hold) ≡ false
  pub domain : (asked_of g ds s c).out_of_domain ≡ false
  pub defined : (asked_of g ds s c).not_defined ≡ false
  pub room : (asked_of g ds s c).too_large ≡ false
  pub stored : (asked_of g ds s c).not_stored ≡ false

module _ (g : Module) (font : Faces) (P : Meaning → Type 0) where
  -- a command is answered, or it is carried out
  pub by_command : (s : State) (c : Command) → ((o : Outcome) → P (answers s o)) → (Allowed g font.store s c → P (carried_out g font s c))
      → P (command_of g font s c)
  unfolding command_of
  by_command s c answered done =
      let a = asked_of g font.store s c in
      by_cond P a.not_carried (λ _. answered NotCarried)
      (λ e14. by_cond P (a.owners_only && is_held s.hold) (λ _. answered WindowHeld)
      (λ e15. by_cond P a.out_of_domain (λ _. answered OutOfDomain)
      (λ e11. by_cond P a.not_defined (λ _. answered NotDefined)
      (λ e17. by_cond P a.too_large (λ _. answered TooLarge)
      (λ e16. by_cond P a.not_stored (λ _. answered NotStored)
      (λ e19.
      done
      (record { carried = e14; owner = e15; domain = e11; defined = e17; room = e16; stored = e19 })))))))

  -- by what is half read afterwards: nothing is written, an image byte is, or a command that is allowed is carried out
  module _ (s : State) (quiet : (p : Half) (o : Outcome) → half_ok g p ≡ true → P (means (with_half s p) o []))
      (image : (p : Half) (o : Outcome) (column row b : ℕ) → half_ok g p ≡ true
      → P (means (with_half s p) o (image_strokes (view_of g s) s.settings.style column row b)))
      (done : (c : Command) → command_ok c ≡ true → Allowed g font.store (with_half s Nothing) c
      → P (carried_out g font (with_half s Nothing) c)) where
    -- whatever is read
    by_reading : (r : Reading) → reading_ok g r ≡ true → P (take_of g font s r)
    unfolding take_of glyph_ends reading_ok half_ok
    by_reading (More p) h = quiet p Unfinished h
    by_reading (Whole c) h = by_command (with_half s Nothing) c (λ o. quiet Nothing o refl) (done c h)
    by_reading (ImageByte column row b next) h =
        let f = both_of (ltb column g.columns) _ h in
        image next Unfinished column row b (both_of (ltb row g.rows) (half_ok g next) f.1).1
    by_reading (ImageEnd column row b) h = image Nothing Carried column row b refl
    by_reading (GlyphEnd d n c) h =
        let f = glyph_end_facts g d n c h in
        by_cond P (ltb d.code d.last) (λ l. quiet _ Unfinished (next_ok g d n (noted font.store s.hold d n) f.0 l))
        (λ _. quiet Nothing _ refl)
    by_reading Cancels h = quiet Nothing Cancelled refl
    by_reading UnknownCode h = quiet Nothing Unknown refl

    -- every byte
    pub by_byte : (b : ℕ) → half_ok g s.half ≡ true → P (byte_means g font s b)
    unfolding byte_means
    by_byte b h = by_reading (read_of g s.half b) (reads_ok g s.half b h)

  -- the same of a state of which nothing is known
  module _ (s : State) (quiet : (p : Half) (o : Outcome) → P (means (with_half s p) o []))
      (image : (p : Half) (o : Outcome) (column row b : ℕ)
      → P (means (with_half s p) o (image_strokes (view_of g s) s.settings.style column row b)))
      (done : (c : Command) → P (carried_out g font (with_half s Nothing) c)) where
    -- whatever is read
    any_reading : (r : Reading) → P (take_of g font s r)
    unfolding take_of glyph_ends
    any_reading (More p) = quiet p Unfinished
    any_reading (Whole c) = by_command (with_half s Nothing) c (quiet Nothing) (λ _. done c)
    any_reading (ImageByte column row b next) = image next Unfinished column row b
    any_reading (ImageEnd column row b) = image Nothing Carried column row b
    any_reading (GlyphEnd d n c) =
        by_cond P (ltb d.code d.last) (λ _. quiet _ Unfinished) (λ _. quiet Nothing _)
    any_reading Cancels = quiet Nothing Cancelled
    any_reading UnknownCode = quiet Nothing Unknown

    -- every byte
    pub any-byte : (b : ℕ) → P (byte_means g font s b)
    unfolding byte_means
    any-byte b = any_reading (read_of g s.half b)
