-- What the C calls owe beyond their definitions, for any module: bytes that are no accepted state's record are answered 8; and with two
-- rows, for each of which a record has a span, after every call the record stands for the state and the downloads that the paper's call
-- gives, so calls in a row are the paper's calls in a row. Assumes nothing.
use Prim.Native.Nat.{ℕ}
use mathlib.Core.Path.{◌≡◌, refl, sym, ◌∙◌}
use mathlib.Core.Bool.{Bool, true, false, cond}
use mathlib.Core.List.{List}
use lib.ListN.{length, take}
use lib.Dec.{eqb}
use borrow.Author.Tests.{eq-eqb}
use Rattle.paper.specs.declared.Module.{Module}
use Rattle.paper.specs.declared.Refusal.{Refusal}
use Rattle.paper.specs.declared.State.{State}
use Rattle.paper.specs.Panel.{panel, font_length, memory_length, glass_length}
use Rattle.paper.specs.Numbers.{refusal_number, outcome_number}
use Rattle.paper.specs.Bounds.{accepted}
use Rattle.paper.specs.Calls.{is_accepted, start_call, feed_refusal, feed_call, hold_refusal, hold_call, release_refusal, release_call, refresh_refusal, refresh_call}
use Rattle.laws_state.specs.Sized.{Sized}
use Rattle.laws_state.proofs.Sized.{start_sized, feed_sized, hold_sized, release_sized, refresh_sized}
use Rattle.record_bytes.specs.Bytes.{state_length, record_length, record_of}
use Rattle.record_read.specs.Record.{state_in, store_in}
use Rattle.record_read.proofs.Back.{record_sized, state_back, store_back, other_bytes}
use Rattle.face.specs.Face.{record_after, start_c, fed, feeding, feed_c, calling, hold_c, release_c, moved, refreshing, refresh_c}
use Rattle.face.proofs.Left.{Left, feed_left, feed_store_left, hold_left, release_left, refresh_left}

-- ---- other bytes are answered 8

-- bytes that are no record of an accepted state and its downloads
abbrev pub NoState : Module → List ℕ → Type 0
NoState g l = (s : State) (ds : List ℕ) → accepted g s ds ≡ true → l ≡ record_of s ds → ⊥

module _ (g : Module) (l : List ℕ) (h : length l ≡ record_length) (none : NoState g l) where
  never : accepted g (state_in l) (store_in l) ≡ false
  never = other_bytes g l none

  pub feed_8 : (m font piece : List ℕ) → length m ≡ memory_length g → length font ≡ font_length g
      → feed_c g l m font piece ≡ feeding (fed 8 9 0 0) l m
  unfolding feed_c feed_call feed_refusal is_accepted refusal_number outcome_number record_after
  feed_8 m font piece e f =
      rw (eq-eqb (length l) record_length h, eq-eqb (length m) (memory_length g) e, eq-eqb (length font) (font_length g) f, never)

  pub hold_8 : (k : ℕ) → hold_c g l k ≡ calling 8 l
  unfolding hold_c hold_call hold_refusal is_accepted refusal_number record_after
  hold_8 k = rw (eq-eqb (length l) record_length h, never)

  pub release_8 : release_c g l ≡ calling 8 l
  unfolding release_c release_call release_refusal is_accepted refusal_number record_after
  release_8 = rw (eq-eqb (length l) record_length h, never)

  pub refresh_8 : (m glass : List ℕ) → length m ≡ memory_length g → length glass ≡ glass_length g → refresh_c g l m glass ≡ refreshing (moved 8 0) l glass
  unfolding refresh_c refresh_call refresh_refusal is_accepted refusal_number record_after
  refresh_8 m glass e f = rw (eq-eqb (length l) record_length h, eq-eqb (length m) (memory_length g) e, eq-eqb (length glass) (glass_length g) f, never)

-- ---- the record afterwards, where the module has two rows

-- a record stands for a state and its downloads
pub record Stands (l : List ℕ) (s : State) (ds : List ℕ) : Type 0 where
  pub state : state_in l ≡ s
  pub store : store_in l ≡ ds

module _ (g : Module) (two : g.rows ≡ 2) where
  -- a state has then as many windows and spans as in the 112 by 16 module
  as_panel : (s : State) → Sized g s → Sized panel s
  unfolding panel
  as_panel s z = record { windows = z.windows; spans = z.spans ∙ two }

  -- and so has the state of a record
  sized : (l : List ℕ) → Sized g (state_in l)
  unfolding panel
  sized l = let z = record_sized (take state_length l) in record { windows = z.windows; spans = z.spans ∙ sym two }

  -- a record that is written stands for what it is made of
  made_stands : (s : State) (ds : List ℕ) → Sized g s → Stands (record_of s ds) s ds
  made_stands s ds z = record { state = state_back s ds (as_panel s z); store = store_back s ds }

  -- and the record that a call leaves for what the call gave
  left_stands : (l : List ℕ) (r : Refusal) (s : State) (ds : List ℕ) → Sized g s → Left (state_in l) r s → Left (store_in l) r ds
      → Stands (record_after (refusal_number r) s ds l) s ds
  unfolding record_after is_accepted
  left_stands l r s ds z h k = go (eqb (refusal_number r) 0) h k where
    go : (b : Bool) → (b ≡ false → s ≡ state_in l) → (b ≡ false → ds ≡ store_in l) → Stands (cond b (record_of s ds) l) s ds
    go true h k = made_stands s ds z
    go false h k = record { state = sym (h refl); store = sym (k refl) }

  module _ (l : List ℕ) (h : length l ≡ record_length) where
    pub start_stands : (m : List ℕ)
        → let c = start_call g m (store_in l) in Stands (start_c g l m).state c.answer.state c.store
    unfolding start_c
    start_stands m = rw (eq-eqb (length l) record_length h) (made_stands _ _ (start_sized g m (store_in l)))

    pub feed_stands : (m font piece : List ℕ)
        → let c = feed_call g font (state_in l) (store_in l) m piece in Stands (feed_c g l m font piece).state c.answer.state c.store
    unfolding feed_c
    feed_stands m font piece =
        rw (eq-eqb (length l) record_length h)
        (left_stands l _ _ _ (feed_sized g (state_in l) (store_in l) (sized l) font m piece) (feed_left g (state_in l) (store_in l) font m piece)
        (feed_store_left g (state_in l) (store_in l) font m piece))

    -- the other three leave the downloads
    pub hold_stands : (k : ℕ) → Stands (hold_c g l k).state (hold_call g (state_in l) (store_in l) k).state (store_in l)
    unfolding hold_c
    hold_stands k =
        rw (eq-eqb (length l) record_length h)
        (left_stands l _ _ _ (hold_sized g (state_in l) (store_in l) (sized l) k) (hold_left g (state_in l) (store_in l) k) (λ _. refl))

    pub release_stands : Stands (release_c g l).state (release_call g (state_in l) (store_in l)).state (store_in l)
    unfolding release_c
    release_stands =
        rw (eq-eqb (length l) record_length h)
        (left_stands l _ _ _ (release_sized g (state_in l) (store_in l) (sized l)) (release_left g (state_in l) (store_in l)) (λ _. refl))

    pub refresh_stands : (m glass : List ℕ)
        → Stands (refresh_c g l m glass).state (refresh_call g (state_in l) (store_in l) m glass).answer.state (store_in l)
    unfolding refresh_c
    refresh_stands m glass =
        rw (eq-eqb (length l) record_length h)
        (left_stands l _ _ _ (refresh_sized g (state_in l) (store_in l) (sized l) m glass) (refresh_left g (state_in l) (store_in l) m glass) (λ _. refl))
