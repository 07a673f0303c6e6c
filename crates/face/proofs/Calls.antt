-- A call's steps (the record read, the call for the module, its number, the record written) give what the definition of the call says.
-- A feed writes the downloads where they stand, and only then the state; a refresh writes the spans alone. Assumes nothing.
use Prim.Native.Nat.{ℕ}
use mathlib.Core.Path.{◌≡◌, refl, sym, ap, ap₂, subst, ◌∙◌}
use mathlib.Core.Bool.{Bool, true, false, cond, not}
use mathlib.Core.List.{List, ◌++◌}
use lib.ListN.{length, take, take-append-drop}
use lib.Dec.{eqb}
use borrow.Author.Tests.{eq-eqb, ne_eqb, not-false}
use Rattle.paper.specs.declared.Answer.{Answer}
use Rattle.paper.specs.declared.Fed.{Fed}
use Rattle.paper.specs.declared.Module.{Module}
use Rattle.paper.specs.declared.Refreshed.{Refreshed}
use Rattle.paper.specs.declared.Refusal.{Refusal}
use Rattle.paper.specs.declared.Refusal.TheVariants.{Accepted}
use Rattle.paper.specs.declared.State.{State}
use Rattle.paper.specs.Panel.{memory_length, glass_length}
use Rattle.paper.specs.Strokes.{no_spans, refreshed, shown_all}
use Rattle.paper.specs.Numbers.{refusal_number, outcome_number}
use Rattle.paper.specs.Bounds.{accepted}
use Rattle.paper.specs.Calls as paper
use Rattle.paper.specs.Calls.{is_not, is_accepted, start_call, Feeding, feed_call, hold_call, release_call, Refreshing, emptied, refresh_refusal, refresh_call}
use Rattle.laws_state.specs.Told as told
use Rattle.laws_state.proofs.Tests.{by_cond}
use Rattle.record_bytes.specs.Bytes.{state_length, record_length, spans_into, encoded, record_of}
use Rattle.record_write.proofs.Laid.{spans_into_lem}
use Rattle.record_read.specs.Record.{state_in, store_in}
use Rattle.record_read.proofs.Back.{accepted_record, state_part}
use Rattle.face.specs.Face.{wrong_length, record_after, state_after, spans_after, starting, starting_c, start_c, fed, feeding, feeding_c, feed_c, calling, calling_c, hold_c, release_c, moved, refreshing, refreshing_c, refresh_c}
use Rattle.face.proofs.Parts.{with_store, store_put, store_in_lem}
use Rattle.face.proofs.Left.{Left, feed_store_left}

-- ---- a refresh changes the spans alone

-- of what a refresh gave: its spans written into the record give the record that it leaves
abbrev SpansOnly : List ℕ → Refreshing → Type 0
SpansOnly l q =
    spans_after (refusal_number q.answer.refusal) q.answer.state.spans l
    ≡ state_after (refusal_number q.answer.refusal) q.answer.state l

module _ (g : Module) (l m glass : List ℕ) where
  abbrev s : State
  s = state_in l

  abbrev ds : List ℕ
  ds = store_in l

  -- an accepted record is its state's own, and before the spans the state with both empty has the same bytes
  emptied-only : accepted g s ds ≡ true → spans_into (take state_length l) (no_spans g) ++ ds ≡ record_of (emptied g s) ds
  unfolding emptied
  emptied-only h =
      let own : take state_length l ≡ encoded s = ap (take state_length) (accepted_record g l h) ∙ state_part s ds in
      ap (λ (x : List ℕ). spans_into x (no_spans g) ++ ds) own ∙ ap (λ (x : List ℕ). x ++ ds) (spans_into_lem s (no_spans g))

  -- what a refresh with this refusal gives
  abbrev by : Refusal → Refreshing
  by r =
      cond (is_accepted r)
      (paper.refreshing Accepted (emptied g s) (shown_all g s.spans) (refreshed g m s.spans glass))
      (paper.refreshing r s 0 glass)

  abbrev By : Refusal → Type 0
  By r = SpansOnly l (by r)

  -- one that is refused leaves the record, and one that is not was given an accepted record
  spans_only : SpansOnly l (refresh_call g s ds m glass)
  unfolding refresh_call refresh_refusal is_accepted emptied refusal_number spans_after record_after
  spans_only =
      by_cond By (is_not (memory_length g) m) (λ _. refl)
      (λ _. by_cond By (is_not (glass_length g) glass) (λ _. refl)
      (λ _. by_cond By (not (accepted g s ds)) (λ _. refl) (λ h. emptied-only (not-false (accepted g s ds) h))))

-- ---- a feed writes the downloads in their place

-- a call with refusal r gave these downloads, and the record has them; where it was refused they are those that were there
store_kept : (l ds : List ℕ) (r : Refusal) (s : State) → length l ≡ record_length → Left (store_in l) r ds
    → state_after (refusal_number r) s (with_store l ds) ≡ record_after (refusal_number r) s ds l
unfolding record_after is_accepted
store_kept l ds r s h left = go (eqb (refusal_number r) 0) left where
  go : (b : Bool) → (b ≡ false → ds ≡ store_in l)
      → cond b (record_of s (store_in (with_store l ds))) (with_store l ds) ≡ cond b (record_of s ds) l
  go true k = ap (record_of s) (store_in_lem l h ds)
  go false k = store_put l h ds ∙ ap (λ (x : List ℕ). take state_length l ++ x) (k refl) ∙ take-append-drop state_length l

module _ (g : Module) (l : List ℕ) where
  -- ---- a record of another length

  module _ (h : length l ≡ record_length → ⊥) where
    pub start_length : (m : List ℕ) → starting wrong_length l m ≡ start_c g l m
    unfolding start_c
    start_length m = rw (ne_eqb (length l) record_length h)

    pub feed_length : (m font piece : List ℕ) → feeding (fed wrong_length 9 0 0) l m ≡ feed_c g l m font piece
    unfolding feed_c
    feed_length m font piece = rw (ne_eqb (length l) record_length h)

    pub hold_length_lem : (k : ℕ) → calling wrong_length l ≡ hold_c g l k
    unfolding hold_c
    hold_length_lem k = rw (ne_eqb (length l) record_length h)

    pub release_length : calling wrong_length l ≡ release_c g l
    unfolding release_c
    release_length = rw (ne_eqb (length l) record_length h)

    pub refresh_length : (m glass : List ℕ) → refreshing (moved wrong_length 0) l glass ≡ refresh_c g l m glass
    unfolding refresh_c
    refresh_length m glass = rw (ne_eqb (length l) record_length h)

  -- ---- one of the right length: n is the number answered, l' the record afterwards; ds is what was lent as the downloads

  module _ (h : length l ≡ record_length) (n : ℕ) (l' ds : List ℕ) (e : ds ≡ store_in l) where
    pub start_told : (m m' ds' : List ℕ) (a : Answer) → told.started a m' ds' ≡ start_call g m ds → n ≡ refusal_number a.refusal
        → l' ≡ record_of a.state ds' → starting n l' m' ≡ start_c g l m
    unfolding start_c
    start_told m m' ds' a call f w = rw (eq-eqb (length l) record_length h, f, w, ← e) (ap starting_c call)

    module _ (s : State) (r : s ≡ state_in l) where
      pub feed_told : (m font piece m' ds' : List ℕ) (a : Fed) (o : ℕ) → told.fed a m' ds' ≡ feed_call g font s ds m piece
          → n ≡ refusal_number a.refusal → l' ≡ state_after n a.state (with_store l ds') → o ≡ outcome_number a.outcome
          → feeding (fed n o a.carried a.answered) l' m' ≡ feed_c g l m font piece
      unfolding feed_c
      feed_told m font piece m' ds' a o call f w k =
          let same = call ∙ ap₂ (λ (x : State) (y : List ℕ). feed_call g font x y m piece) r e in
          let left = subst (λ (q : Feeding). Left (store_in l) q.answer.refusal q.store) (sym same) (feed_store_left g (state_in l) (store_in l) font m piece) in
          rw (eq-eqb (length l) record_length h, w, f, k, store_kept l ds' a.refusal a.state h left) (ap (feeding_c l) same)

      pub hold_told : (k : ℕ) (a : Answer) → a ≡ hold_call g s ds k → n ≡ refusal_number a.refusal
          → l' ≡ state_after n a.state l → calling n l' ≡ hold_c g l k
      unfolding hold_c
      hold_told k a call f w =
          rw (eq-eqb (length l) record_length h, w, f)
          (ap (calling_c l) (call ∙ ap₂ (λ (x : State) (y : List ℕ). hold_call g x y k) r e))

      pub release_told : (a : Answer) → a ≡ release_call g s ds → n ≡ refusal_number a.refusal
          → l' ≡ state_after n a.state l → calling n l' ≡ release_c g l
      unfolding release_c
      release_told a call f w =
          rw (eq-eqb (length l) record_length h, w, f) (ap (calling_c l) (call ∙ ap₂ (release_call g) r e))

      pub refresh_told : (m glass glass' : List ℕ) (a : Refreshed) → told.refreshed a glass' ≡ refresh_call g s ds m glass
          → n ≡ refusal_number a.refusal → l' ≡ spans_after n a.state.spans l
          → refreshing (moved n a.moved) l' glass' ≡ refresh_c g l m glass
      unfolding refresh_c
      refresh_told m glass glass' a call f w =
          let same = call ∙ ap₂ (λ (x : State) (y : List ℕ). refresh_call g x y m glass) r e in
          let only = subst (SpansOnly l) (sym same) (spans_only g l m glass) in
          rw (eq-eqb (length l) record_length h, w, f, only) (ap (refreshing_c l) same)
