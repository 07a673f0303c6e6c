-- No byte and no call changes how many windows and spans there are. Assumes nothing.
use mathlib.Core.Path.{◌≡◌, refl, ap, ◌∙◌}
use Rattle.std.specs.Prelude.{Option, None, Some}
use mathlib.Core.List.{List, [], ◌∷◌}
use Prim.Native.Nat.{ℕ, ◌-◌}
use lib.Dec.{eqb}
use lib.ListN.{length, length-set, length-replicate}
use Rattle.paper.specs.declared.Module.{Module}
use Rattle.paper.specs.declared.Cursor.{Cursor}
use Rattle.paper.specs.declared.Window.{Window}
use Rattle.paper.specs.declared.Half.TheVariants.{Nothing}
use Rattle.paper.specs.declared.Held.{Held}
use Rattle.paper.specs.declared.Refusal.TheVariants.{Accepted}
use Rattle.paper.specs.declared.Answer.{Answer}
use Rattle.paper.specs.declared.Command.{Command}
use Rattle.paper.specs.declared.Command.TheVariants.{Character, Back, Tab, LineFeed, Home, Clear, Return, Select, Initialise, Mode, Set, Enlarge, CursorSet, Define, Cancel, Uncarried, Erase}
use Rattle.paper.specs.declared.State.{State}
use Rattle.paper.specs.Downloads.{Faces}
use Rattle.paper.specs.Strokes.{no_span}
use Rattle.paper.specs.Settings.{initial_state, with_half, with_selected, no_window, window_at, defined, cancelled, with_cursor, at_cursor, in_mode}
use Rattle.paper.specs.Carry.{Meaning, carried_out, byte_means}
use Rattle.paper.specs.Cells.{erase_stroke}
use Rattle.paper.specs.Calls.{is_accepted, start_refusal, Starting, start_call, feed_refusal, Feeding, faces_now, next, run, fed_nothing, feed_call, hold_refusal, held_by, hold_call, release_refusal, put_back, released, release_call, refresh_refusal, Refreshing, emptied, refresh_call, settled}
use Rattle.laws_state.specs.Sized.{Sized}
use Rattle.laws_state.proofs.Tests.{by_cond}
use Rattle.laws_memory.proofs.Spans.{marks_length}
use Rattle.laws_state.proofs.Cases.{any-byte}

-- state r has the spans of s, and four windows if s has
record Alike (s r : State) : Type 0 where
  spans : r.spans ≡ s.spans
  windows : length s.windows ≡ 4 → length r.windows ≡ 4

-- what changes neither
alike : (s r : State) → r.spans ≡ s.spans → r.windows ≡ s.windows → Alike s r
alike s r p w = record { spans = p; windows = λ n. ap length w ∙ n }

module _ (s : State) where
  -- a window put into its place, and any selected
  set_alike : (k j : ℕ) (w : Window) → Alike s (with_selected (defined s k w) j)
  set_alike k j w = record { spans = refl; windows = λ n. length-set s.windows (k - 1) w ∙ n }

  -- the current window's cursor elsewhere
  at_alike : (k : Cursor) → Alike s (at_cursor s k)
  unfolding at_cursor
  at_alike k =
      by_cond (Alike s) (eqb s.selected 0) (λ _. alike s _ refl refl)
      (λ _. set_alike s.selected s.selected (with_cursor (window_at s.windows s.selected) k))

  -- a window cancelled
  cancelled_alike : (k : ℕ) → Alike s (cancelled s k)
  unfolding cancelled
  cancelled_alike k =
      by_cond (Alike s) (eqb s.selected k) (λ _. set_alike k 0 no_window) (λ _. set_alike k s.selected no_window)

  -- every command
  carried_alike : (g : Module) (font : Faces) (c : Command) → Alike s (carried_out g font s c).state
  unfolding carried_out in_mode initial_state
  carried_alike g font (Character b) = at_alike _
  carried_alike g font Back = at_alike _
  carried_alike g font Tab = at_alike _
  carried_alike g font LineFeed = at_alike _
  carried_alike g font Home = at_alike _
  carried_alike g font Clear = at_alike _
  carried_alike g font Return = at_alike _
  carried_alike g font (Select k) = alike s _ refl refl
  carried_alike g font Initialise = record { spans = refl; windows = λ n. refl }
  carried_alike g font (Mode n) = at_alike _
  carried_alike g font (Set key n) = alike s _ refl refl
  carried_alike g font (Enlarge x y) = alike s _ refl refl
  carried_alike g font (CursorSet x y) = at_alike _
  carried_alike g font (Define k left top width height) = set_alike k s.selected _
  carried_alike g font (Cancel k) = cancelled_alike k
  carried_alike g font Uncarried = alike s s refl refl
  carried_alike g font (Erase k code) = alike s s refl refl

module _ (g : Module) (font : Faces) where
  -- every byte
  byte_alike : (s : State) (b : ℕ) → Alike (with_half s Nothing) (byte_means g font s b).state
  byte_alike s b =
      let s₀ = with_half s Nothing in
      any-byte g font (λ (t : Meaning). Alike s₀ t.state) s (λ p o. alike s₀ _ refl refl)
      (λ p o column row c. alike s₀ _ refl refl) (carried_alike s₀ g font) b

  -- a byte's own strokes are all that its spans grow by
  pub byte_spans : (s : State) (b : ℕ) → (byte_means g font s b).state.spans ≡ s.spans
  byte_spans s b = (byte_alike s b).spans

  -- a byte leaves as many windows and spans
  pub byte_sized : (s : State) (b : ℕ) → Sized g s → Sized g (settled (byte_means g font s b))
  byte_sized s b z =
      let t = byte_means g font s b in
      record {
        windows = (byte_alike s b).windows z.windows;
        spans = marks_length t.state.spans t.strokes ∙ ap length (byte_spans s b) ∙ z.spans;
      }

-- and so does a piece
pub run_sized : (g : Module) (font : List ℕ) (f : Feeding) (bs : List ℕ) → Sized g f.answer.state → Sized g (run g font f bs).answer.state
unfolding next
run_sized g font f [] z = z
run_sized g font f (b ∷ bs) z = run_sized g font (next g font f b) bs (byte_sized g (faces_now font f) f.answer.state b z)

-- ---- the calls, refused or not

module _ (g : Module) where
  -- the initial state
  pub initial_sized : Sized g (initial_state g)
  unfolding initial_state
  initial_sized = record { windows = refl; spans = length-replicate g.rows no_span }

  -- start
  pub start_sized : (m ds : List ℕ) → Sized g (start_call g m ds).answer.state
  unfolding start_call
  start_sized m ds =
      let z = initial_sized in
      by_cond (λ (q : Starting). Sized g q.answer.state) (is_accepted (start_refusal g m))
      (λ _.
      record { windows = z.windows; spans = marks_length (initial_state g).spans (erase_stroke g ∷ []) ∙ z.spans })
      (λ _. z)

  module _ (s : State) (ds : List ℕ) (z : Sized g s) where
    -- feed
    pub feed_sized : (font m piece : List ℕ) → Sized g (feed_call g font s ds m piece).answer.state
    unfolding feed_call
    feed_sized font m piece =
        by_cond (λ (q : Feeding). Sized g q.answer.state) (is_accepted (feed_refusal g font s ds m))
        (λ _. run_sized g font (fed_nothing Accepted s ds m) piece z) (λ _. z)

    -- hold
    pub hold_sized : (k : ℕ) → Sized g (hold_call g s ds k).state
    unfolding hold_call held_by
    hold_sized k =
        by_cond (λ (q : Answer). Sized g q.state) (is_accepted (hold_refusal g s ds k))
        (λ _. record { windows = z.windows; spans = z.spans }) (λ _. z)

    -- what release puts back
    back_sized : (h : Option Held) → Sized g (put_back s h)
    back_sized None = z
    back_sized (Some x) = record { windows = z.windows; spans = z.spans }

    -- release
    pub release_sized : Sized g (release_call g s ds).state
    unfolding release_call released
    release_sized =
        by_cond (λ (q : Answer). Sized g q.state) (is_accepted (release_refusal g s ds)) (λ _. back_sized s.hold) (λ _. z)

    -- refresh
    pub refresh_sized : (m glass : List ℕ) → Sized g (refresh_call g s ds m glass).answer.state
    unfolding refresh_call emptied
    refresh_sized m glass =
        by_cond (λ (q : Refreshing). Sized g q.answer.state) (is_accepted (refresh_refusal g s ds m glass))
        (λ _. record { windows = z.windows; spans = length-replicate g.rows no_span }) (λ _. z)
