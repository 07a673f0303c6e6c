-- Number 8 is given exactly if a clause of its row holds: `number-8`. Assumes nothing.
use mathlib.Core.Path.{◌≡◌, refl, sym, ap, ◌∙◌}
use Rattle.std.specs.Prelude.{Option, None, Some}
use mathlib.Core.Bool.{Bool, true, false, cond, ◌&&◌, ◌||◌, true≢false}
use mathlib.Core.List.{List, [], ◌∷◌}
use mathlib.Core.Logic.{◌↔◌, ◌≢◌, ◌⊎◌, inl, inr}
use Prim.Native.Nat.{ℕ, zero, suc, ◌+◌, ◌<◌, ◌≤◌}
use native.Mathlib.Omega.{arith}
use lib.Dec.{leb, ltb, eqb}
use lib.ListN.{get_or}
use borrow.Author.Tests.{leb-true, leb-false, ltb-true, ltb-false, eqb-true, eqb-false, eq-eqb, ne_eqb}
use Rattle.paper.specs.declared.Module.{Module}
use Rattle.paper.specs.declared.Settings.{Settings}
use Rattle.paper.specs.declared.Cursor.{Cursor}
use Rattle.paper.specs.declared.Window.{Window}
use Rattle.paper.specs.declared.Span.{Span}
use Rattle.paper.specs.declared.Held.{Held}
use Rattle.paper.specs.declared.State.{State}
use Rattle.paper.specs.Downloads.{width_at}
use Rattle.paper.specs.Strokes.{no_span, span_of}
use Rattle.paper.specs.Reading.{between}
use Rattle.paper.specs.Settings.{in_domain, in_enlargement, no_window, is_defined, selectable, fits, hold_of}
use Rattle.paper.specs.Bounds.{settings_ok, cursor_ok, is_blank, window_ok, windows_ok, hold_ok, span_ok, spans_ok, half_ok, state_ok, store_ok, define_ok, accepted}
use Rattle.laws_bytes.specs.Beginnings.{Fits}
use Rattle.laws_bytes.proofs.Tests.{never, both_of, between_facts, between_true}
use Rattle.laws_bytes.proofs.Beginnings.{begins_ok, ok_begins}
use Rattle.laws_state.specs.Parts.{Parts}
use Rattle.laws_state.proofs.Tests.{neither}
use Rattle.laws_state.proofs.Parts.{parts, cursor_facts, fits_facts, window_at_lem, selected_facts, HeldWell, hold_facts}
use Rattle.laws_downloads.proofs.Stored.{store_length_lem}
use Rattle.laws_number8.proofs.Tests.{fails, not_both, not-between}
use Rattle.laws_number8.proofs.Store.{store_out, define_out, once, taken_code, taken_width, used, free_note, missing_full, none_missing}
use Rattle.laws_number8.specs.Row.{window, Defined, Outside, NoMode, OutOfDomain, charset, codes, caret, brightness, reverse, speed, mixing, width, across, down, write, switch, span, last_of, Breaks, window_leaves, window_of_no_size, cursor_outside, base_cursor_outside, setting_out, mode_out, base_mode_out, saved_setting_out, undefined_selected, undefined_held, undefined_saved, held_not_selected, span_wrong, half_impossible, places_missing, code_twice, code_low, width_other, column_unused, define_missing, note_missing, note_wrong}

-- ---- settings

-- a setting is outside its domain if their test fails
settings_out : (g : Module) (v : Settings) → settings_ok g v ≡ false → OutOfDomain g v
unfolding settings_ok in_domain in_enlargement
settings_out g v =
    fails (leb v.charset 13) (λ e. charset (leb-false v.charset 13 e))
    (fails (leb v.codes 5 || (between 16 19 v.codes || (g.tables && eqb v.codes 0xFF)))
    (λ e.
    let n = neither (leb v.codes 5) _ e in
    let m = neither (between 16 19 v.codes) _ n.1 in
    codes (leb-false v.codes 5 n.0) (not-between 16 19 v.codes m.0)
    (λ q. not_both m.1 q.0 (eq-eqb v.codes 0xFF q.1)))
    (fails (leb v.caret 1) (λ e. caret (leb-false v.caret 1 e))
    (fails (between g.dimmest g.brightest v.brightness || (g.finer && between 0x10 0x18 v.brightness))
    (λ e.
    let n = neither (between g.dimmest g.brightest v.brightness) _ e in
    brightness (not-between g.dimmest g.brightest v.brightness n.0)
    (λ q. not_both n.1 q.0 (between_true 0x10 0x18 v.brightness q.1 q.2)))
    (fails (leb v.speed 31) (λ e. speed (leb-false v.speed 31 e))
    (fails (leb v.width 1) (λ e. width (leb-false v.width 1 e))
    (fails (leb v.write 1) (λ e. write (leb-false v.write 1 e))
    (fails (leb v.switch 1) (λ e. switch (leb-false v.switch 1 e))
    (fails (leb v.style.reverse 1) (λ e. reverse (leb-false v.style.reverse 1 e))
    (fails (leb v.style.mixing 3) (λ e. mixing (leb-false v.style.mixing 3 e))
    (fails (between 1 4 v.style.across) (λ e. across (not-between 1 4 v.style.across e))
    (λ e. down (not-between 1 2 v.style.down e))))))))))))

-- a number that a test lets pass
below : (n hi : ℕ) → leb n hi ≡ true → ¬ (hi < n)
below n hi e o = let l = leb-true n hi e in omega arith

inside : (lo hi n : ℕ) → between lo hi n ≡ true → ¬ ((n < lo) ⊎ (hi < n))
inside lo hi n e (inl o) = let f = between_facts lo hi n e in omega arith
inside lo hi n e (inr o) = let f = between_facts lo hi n e in omega arith

-- the test of every setting
abbrev InDomains : Module → Settings → Type 0
InDomains g v =
    (leb v.charset 13 ≡ true)
    × ((leb v.codes 5 || (between 16 19 v.codes || (g.tables && eqb v.codes 0xFF))) ≡ true)
    × (leb v.caret 1 ≡ true)
    × ((between g.dimmest g.brightest v.brightness || (g.finer && between 0x10 0x18 v.brightness)) ≡ true)
    × (leb v.speed 31 ≡ true)
    × (leb v.width 1 ≡ true)
    × (leb v.write 1 ≡ true)
    × (leb v.switch 1 ≡ true)
    × (leb v.style.reverse 1 ≡ true)
    × (leb v.style.mixing 3 ≡ true)
    × (between 1 4 v.style.across ≡ true)
    × (between 1 2 v.style.down ≡ true)

in_domains : (g : Module) (v : Settings) → settings_ok g v ≡ true → InDomains g v
unfolding settings_ok in_domain in_enlargement
in_domains g v h =
    let a = both_of (leb v.charset 13) _ h in
    let b = both_of (leb v.codes 5 || (between 16 19 v.codes || (g.tables && eqb v.codes 0xFF))) _ a.1 in
    let c = both_of (leb v.caret 1) _ b.1 in
    let d = both_of (between g.dimmest g.brightest v.brightness || (g.finer && between 0x10 0x18 v.brightness)) _ c.1 in
    let e = both_of (leb v.speed 31) _ d.1 in
    let f = both_of (leb v.width 1) _ e.1 in
    let i = both_of (leb v.write 1) _ f.1 in
    let o = both_of (leb v.switch 1) _ i.1 in
    let j = both_of (leb v.style.reverse 1) _ o.1 in
    let k = both_of (leb v.style.mixing 3) _ j.1 in
    let l = both_of (between 1 4 v.style.across) (between 1 2 v.style.down) k.1 in
    (a.0, b.0, c.0, d.0, e.0, f.0, i.0, o.0, j.0, k.0, l.0, l.1)

-- the parts of a domain of several: what passes none of them is outside
in_either : (s t : Bool) → (s || t) ≡ true → ¬ (s ≡ true) → ¬ (t ≡ true) → ⊥
in_either true t e n m = n refl
in_either false t e n m = m e

-- none is outside if they all pass
settings_in : (g : Module) (v : Settings) → InDomains g v → ¬ OutOfDomain g v
settings_in g v t (charset o) = below v.charset 13 t.0 o
settings_in g v t (codes o p n) =
    in_either (leb v.codes 5) _ t.1 (λ e. below v.codes 5 e o)
    (λ h. in_either (between 16 19 v.codes) _ h (λ e. inside 16 19 v.codes e p)
    (λ e. let f = both_of g.tables _ e in n (f.0, eqb-true v.codes 0xFF f.1)))
settings_in g v t (caret o) = below v.caret 1 t.2 o
settings_in g v t (brightness o n) =
    in_either (between g.dimmest g.brightest v.brightness) _ t.3
    (λ e. inside g.dimmest g.brightest v.brightness e o)
    (λ e.
    let f = both_of g.finer _ e in
    let b = between_facts 0x10 0x18 v.brightness f.1 in
    n (f.0, b.0, b.1))
settings_in g v t (reverse o) = below v.style.reverse 1 t.8 o
settings_in g v t (speed o) = below v.speed 31 t.4 o
settings_in g v t (mixing o) = below v.style.mixing 3 t.9 o
settings_in g v t (width o) = below v.width 1 t.5 o
settings_in g v t (across o) = inside 1 4 v.style.across t.10 o
settings_in g v t (down o) = inside 1 2 v.style.down t.11 o
settings_in g v t (write o) = below v.write 1 t.6 o
settings_in g v t (switch o) = below v.switch 1 t.7 o

-- ---- windows and cursors

-- the record of no window, and of no span, field by field
zeros : {l t w h x y m : ℕ} → l ≡ 0 → t ≡ 0 → w ≡ 0 → h ≡ 0 → x ≡ 0 → y ≡ 0 → m ≡ 0
    → record { left = l; top = t; width = w; height = h; cursor = record { x = x; y = y; mode = m } } ≡ no_window
zeros a b c d e f i = rw (a, b, c, d, e, f, i)

empty : {f e : ℕ} → f ≡ 0 → e ≡ 0 → span_of f e ≡ no_span
empty a b = rw (a, b)

-- a record is that of no window exactly if the test says so
blank_none : (w : Window) → is_blank w ≡ true → w ≡ no_window
unfolding is_blank
blank_none w h =
    let a = both_of (eqb w.left 0) _ h in
    let b = both_of (eqb w.top 0) _ a.1 in
    let c = both_of (eqb w.width 0) _ b.1 in
    let d = both_of (eqb w.height 0) _ c.1 in
    let e = both_of (eqb w.cursor.x 0) _ d.1 in
    let f = both_of (eqb w.cursor.y 0) (eqb w.cursor.mode 0) e.1 in
    zeros (eqb-true w.left 0 a.0) (eqb-true w.top 0 b.0) (eqb-true w.width 0 c.0)
    (eqb-true w.height 0 d.0) (eqb-true w.cursor.x 0 e.0) (eqb-true w.cursor.y 0 f.0)
    (eqb-true w.cursor.mode 0 f.1)

-- and a span nothing
nothing_none : (p : Span) → (eqb p.first 0 && eqb p.end 0) ≡ true → p ≡ no_span
nothing_none p h =
    let f = both_of (eqb p.first 0) (eqb p.end 0) h in
    empty (eqb-true p.first 0 f.0) (eqb-true p.end 0 f.1)

not_blank : (w : Window) → is_blank w ≡ false → w ≢ no_window
unfolding is_blank
not_blank w h e = true≢false (sym (ap is_blank e) ∙ h)

-- a cursor is outside its window, or has no mode, if its test fails
cursor_out : {P : Type 0} (columns rows : ℕ) (k : Cursor) → (Outside columns rows k → P) → (NoMode k → P)
    → cursor_ok columns rows k ≡ false → P
unfolding cursor_ok
cursor_out columns rows k o n =
    fails (ltb k.x columns) (λ e. o (inl (ltb-false k.x columns e)))
    (fails (ltb k.y rows) (λ e. o (inr (ltb-false k.y rows e))) (λ e. n (not-between 1 3 k.mode e)))

-- and neither if it passes
cursor-inside : (columns rows : ℕ) (k : Cursor) → cursor_ok columns rows k ≡ true → ¬ Outside columns rows k
cursor-inside columns rows k h (inl o) = let f = cursor_facts columns rows k h in omega (arith, f.0, o)
cursor-inside columns rows k h (inr o) = let f = cursor_facts columns rows k h in omega (arith, f.1, o)

cursor_mode : (columns rows : ℕ) (k : Cursor) → cursor_ok columns rows k ≡ true → ¬ NoMode k
cursor_mode columns rows k h (inl o) = let f = cursor_facts columns rows k h in omega (arith, f.2, o)
cursor_mode columns rows k h (inr o) = let f = cursor_facts columns rows k h in omega (arith, f.3, o)

module _ (g : Module) (s : State) (ds : List ℕ) where
  -- a clause holds of a user window whose test fails
  window_out : (k : ℕ) → 1 ≤ k → k ≤ 4 → window_ok g (window s k) ≡ false → Breaks g s ds
  unfolding window_ok fits
  window_out k l h e =
      let w = window s k in
      let n = neither (is_blank w) _ e in
      let d : Defined s k = record { first = l; last = h; some = not_blank w n.0 } in
      fails (fits g w.left w.top w.width w.height)
      (fails (leb 1 w.width) (λ q. let m = leb-false 1 w.width q in window_of_no_size k d (inl (omega arith)))
      (fails (leb 1 w.height) (λ q. let m = leb-false 1 w.height q in window_of_no_size k d (inr (omega arith)))
      (fails (leb (w.left + w.width) g.columns) (λ q. window_leaves k d (inl (leb-false (w.left + w.width) g.columns q)))
      (λ q. window_leaves k d (inr (leb-false (w.top + w.height) g.rows q))))))
      (cursor_out w.width w.height w.cursor (cursor_outside k d) (mode_out k d)) n.1

  -- of one of the four
  windows_out : windows_ok g s.windows ≡ false → Breaks g s ds
  unfolding windows_ok
  windows_out =
      fails (window_ok g (window s 1)) (window_out 1 (omega arith) (omega arith))
      (fails (window_ok g (window s 2)) (window_out 2 (omega arith) (omega arith))
      (fails (window_ok g (window s 3)) (window_out 3 (omega arith) (omega arith))
      (window_out 4 (omega arith) (omega arith))))

  -- a window that can't be selected is not defined, or its record is none of a window
  not-selectable : (k : ℕ) → selectable s.windows k ≡ false → (k ≢ 0 → ¬ Defined s k → Breaks g s ds) → Breaks g s ds
  unfolding selectable
  not-selectable k e undefined = go (eqb k 0) (leb k 4) (is_defined (window s k)) (is_blank (window s k)) refl refl refl refl e where
    go : (z i d b : Bool) → eqb k 0 ≡ z → leb k 4 ≡ i → is_defined (window s k) ≡ d → is_blank (window s k) ≡ b
        → cond z true (i && d) ≡ false → Breaks g s ds
    go true i d b z_is i_is d_is b_is q = absurd (true≢false q)
    go false false d b z_is i_is d_is b_is q =
        undefined (eqb-false k 0 z_is) (λ f. let m = leb-false k 4 i_is in let l = f.last in omega arith)
    go false true true b z_is i_is d_is b_is q = absurd (true≢false q)
    go false true false true z_is i_is d_is b_is q =
        undefined (eqb-false k 0 z_is) (λ f. f.some (blank_none (window s k) b_is))
    go false true false false z_is i_is d_is b_is q =
        let n = eqb-false k 0 z_is in
        let l = leb-true k 4 i_is in
        let w = ltb-false 0 (window s k).width d_is in
        window_of_no_size k (record { first = omega arith; last = l; some = not_blank (window s k) b_is }) (inl (omega arith))

  -- one that can be is
  selectable-defined : (k : ℕ) → k ≢ 0 → selectable s.windows k ≡ true → Defined s k
  selectable-defined k n e =
      let f = selected_facts s.windows k e (ne_eqb k 0 n) in
      record { first = f.0; last = f.1; some = λ q. let w = ltb-true 0 (window s k).width f.2 in wide q w }
    where
      wide : window s k ≡ no_window → ¬ (0 < (window s k).width)
      wide q w = let z : (window s k).width ≡ 0 = ap (λ (v : Window). v.width) q in omega arith

-- ---- spans

-- a row's span is wrong if the test of all fails
spans_out : {P : Type 0} (g : Module) (ps : List Span)
    → ((y : ℕ) → span_ok g (get_or ps y no_span) ≡ false → P) → spans_ok g ps ≡ false → P
spans_out g [] f e = absurd (true≢false e)
spans_out g (p ∷ ps) f e = fails (span_ok g p) (λ q. f 0 q) (λ q. spans_out g ps (λ y. f (suc y)) q) e

-- and each is right if it passes
spans_in : (g : Module) (ps : List Span) (y : ℕ) → spans_ok g ps ≡ true → span_ok g (get_or ps y no_span) ≡ true
unfolding span_ok
spans_in g [] y e = refl
spans_in g (p ∷ ps) zero e = (both_of (span_ok g p) (spans_ok g ps) e).0
spans_in g (p ∷ ps) (suc y) e = spans_in g ps y (both_of (span_ok g p) (spans_ok g ps) e).1

-- a span is wrong if its test fails
span_out : (g : Module) (p : Span) → span_ok g p ≡ false → (p ≢ no_span) × ((last_of p < p.first) ⊎ (g.columns ≤ last_of p))
unfolding span_ok
span_out g p e =
    let n = neither (eqb p.first 0 && eqb p.end 0) _ e in
    let some : ¬ ((p.first ≡ 0) × (p.end ≡ 0)) = λ z. true≢false (sym (rw (z.0, z.1)) ∙ n.0) in (
      λ q. some (ap (λ (r : Span). r.first) q, ap (λ (r : Span). r.end) q),
      fails (ltb p.first p.end) (λ h. ordered (ltb-false p.first p.end h) some)
          (λ h. let m = leb-false p.end g.columns h in inr (omega arith)) n.1,
    )
  where
    ordered : p.end ≤ p.first → ¬ ((p.first ≡ 0) × (p.end ≡ 0)) → (last_of p < p.first) ⊎ (g.columns ≤ last_of p)
    ordered l n = go p.first refl where
      go : (f : ℕ) → p.first ≡ f → (last_of p < p.first) ⊎ (g.columns ≤ last_of p)
      go zero q = absurd (n (q, omega arith))
      go (suc f) q = inl (omega arith)

-- and right if it passes
span_in : (g : Module) (p : Span) → span_ok g p ≡ true → p ≢ no_span → ¬ ((last_of p < p.first) ⊎ (g.columns ≤ last_of p))
unfolding span_ok
span_in g p e n o = go (eqb p.first 0 && eqb p.end 0) refl e o where
  go : (t : Bool) → (eqb p.first 0 && eqb p.end 0) ≡ t → (t || (ltb p.first p.end && leb p.end g.columns)) ≡ true
      → ¬ ((last_of p < p.first) ⊎ (g.columns ≤ last_of p))
  go true q h o = n (nothing_none p q)
  go false q h (inl o) =
      let f = both_of (ltb p.first p.end) (leb p.end g.columns) h in
      let l = ltb-true p.first p.end f.0 in
      omega arith
  go false q h (inr o) =
      let f = both_of (ltb p.first p.end) (leb p.end g.columns) h in
      let l = leb-true p.end g.columns f.1 in
      let m = ltb-true p.first p.end f.0 in
      omega arith

-- ---- all of it

module _ (g : Module) (s : State) (ds : List ℕ) where
  -- a clause on the state holds if its test fails
  state_broken : state_ok g s ≡ false → Breaks g s ds
  unfolding state_ok half_ok hold_ok
  state_broken =
      fails (settings_ok g s.settings) (λ e. setting_out (settings_out g s.settings e))
      (fails (windows_ok g s.windows) (windows_out g s ds)
      (fails (cursor_ok g.columns g.rows s.base) (cursor_out g.columns g.rows s.base base_cursor_outside base_mode_out)
      (fails (selectable s.windows s.selected)
      (λ e. not-selectable g s ds s.selected e (λ n d. undefined_selected n d))
      (fails (hold_ok g s.windows s.selected s.hold) (hold_out s.hold refl)
      (fails (half_ok g s.half) (λ e. half_impossible (λ b. true≢false (sym (begins_ok g b.begins) ∙ e)))
      (spans_out g s.spans (λ y e. let o = span_out g (span s y) e in span_wrong y o.0 o.1)))))))
    where
      hold_out : (h : Option Held) → s.hold ≡ h → hold_ok g s.windows s.selected h ≡ false → Breaks g s ds
      hold_out None q = λ e. absurd (true≢false e)
      hold_out (Some x) q =
          fails (leb 1 x.window)
          (λ e. let m = leb-false 1 x.window e in undefined_held x.window x.selected x.settings q (λ d. let l = d.first in omega arith))
          (fails (eqb x.window s.selected) (λ e. held_not_selected x.window x.selected x.settings q (eqb-false x.window s.selected e))
          (fails (selectable s.windows x.window) (λ e. not-selectable g s ds x.window e (λ _ d. undefined_held x.window x.selected x.settings q d))
          (fails (selectable s.windows x.selected) (λ e. not-selectable g s ds x.selected e (λ n d. undefined_saved x.window x.selected x.settings q n d))
          (λ e. saved_setting_out x.window x.selected x.settings q (settings_out g x.settings e)))))

  -- a clause holds if the test fails
  broken : accepted g s ds ≡ false → Breaks g s ds
  unfolding accepted
  broken =
      fails (state_ok g s) state_broken
      (fails (store_ok ds) (store_out g s ds) (define_out g s ds s.hold refl s.half refl))

  -- none does if it passes
  module _ (p : Parts g s) (ok : store_ok ds ≡ true) (note : define_ok ds s.hold s.half ≡ true) where
    -- a defined window is where it may be
    window_in : (k : ℕ) → Defined s k
        → (fits g (window s k).left (window s k).top (window s k).width (window s k).height ≡ true)
        × (cursor_ok (window s k).width (window s k).height (window s k).cursor ≡ true)
    unfolding window_ok
    window_in k d = go (is_blank (window s k)) refl (window_at_lem g s.windows k p.windows d.first d.last) where
      w : Window
      w = window s k

      inside : Bool
      inside = fits g w.left w.top w.width w.height

      go : (t : Bool) → is_blank w ≡ t → (t || (inside && cursor_ok w.width w.height w.cursor)) ≡ true
          → (inside ≡ true) × (cursor_ok w.width w.height w.cursor ≡ true)
      go true q e = absurd (d.some (blank_none w q))
      go false q e = both_of inside (cursor_ok w.width w.height w.cursor) e

    fits_in : (k : ℕ) → Defined s k
        → (1 ≤ (window s k).width) × (1 ≤ (window s k).height) × ((window s k).left + (window s k).width ≤ g.columns)
        × ((window s k).top + (window s k).height ≤ g.rows)
    fits_in k d = fits_facts g _ _ _ _ (window_in k d).0

    -- what is held
    held_in : (k back : ℕ) (v : Settings) → s.hold ≡ hold_of k back v → HeldWell g s.windows s.selected k back v
    held_in k back v q = hold_facts g s.windows s.selected k back v (rw q at p.hold)

    none : Fits s.half → ¬ Breaks g s ds
    none f (window_leaves k d (inl o)) = let i = fits_in k d in omega arith
    none f (window_leaves k d (inr o)) = let i = fits_in k d in omega arith
    none f (window_of_no_size k d (inl o)) = let i = fits_in k d in omega arith
    none f (window_of_no_size k d (inr o)) = let i = fits_in k d in omega arith
    none f (cursor_outside k d o) = cursor-inside _ _ (window s k).cursor (window_in k d).1 o
    none f (base_cursor_outside o) = cursor-inside g.columns g.rows s.base p.base o
    none f (setting_out o) = settings_in g s.settings (in_domains g s.settings p.settings) o
    none f (mode_out k d o) = cursor_mode _ _ (window s k).cursor (window_in k d).1 o
    none f (base_mode_out o) = cursor_mode g.columns g.rows s.base p.base o
    none f (saved_setting_out k back v q o) = settings_in g v (in_domains g v (held_in k back v q).4) o
    none f (undefined_selected n u) = u (selectable-defined g s ds s.selected n p.selected)
    none f (undefined_held k back v q u) =
        let h = held_in k back v q in
        let l = h.0 in
        u (selectable-defined g s ds k (λ z. omega arith) h.2)
    none f (undefined_saved k back v q n u) = u (selectable-defined g s ds back n (held_in k back v q).3)
    none f (held_not_selected k back v q n) = n (held_in k back v q).1
    none f (span_wrong y n o) = span_in g (span s y) (spans_in g s.spans y p.spans) n o
    none f (half_impossible n) = n (ok_begins g s.half p.half f)
    none f (places_missing n) = n (store_length_lem ds ok)
    none f (code_twice i k a b l q) = once ds ok i k a b l q
    none f (code_low k t l) = let h = taken_code ds ok k t in omega arith
    none f (width_other k t n m) = in_either (eqb (width_at ds k) 7) _ (taken_width ds ok k t) (λ e. m (eqb-true (width_at ds k) 7 e))
        (λ e. n (eqb-true (width_at ds k) 5 (both_of (eqb (width_at ds k) 5) _ e).0))
    none f (column_unused k t n c) = in_either (eqb (width_at ds k) 7) _ (taken_width ds ok k t) (λ e. n (eqb-true (width_at ds k) 7 e))
        (λ e. used ds k c (both_of (eqb (width_at ds k) 5) _ e).1)
    none f (define_missing d n c h i m u) = true≢false (sym (missing_full ds d n (free_note s ds note h i) c m).1 ∙ u)
    none f (note_missing d c h i m) = true≢false (sym (missing_full ds d false (free_note s ds note h i) c m).0)
    none f (note_wrong d h i n) = true≢false (none_missing ds d true (free_note s ds note h i) n)

-- number 8 is given exactly if a clause of its row holds, for every record whose half-read numbers fit their types
pub number_8 : (g : Module) (s : State) (ds : List ℕ) → Fits s.half → (accepted g s ds ≡ false) ↔ Breaks g s ds
unfolding accepted
number_8 g s ds f = (
  broken g s ds,
  λ b. never (accepted g s ds)
      (λ e.
      let t = both_of (state_ok g s) _ e in
      let u = both_of (store_ok ds) _ t.1 in
      none g s ds (parts g s t.0) u.0 u.1 f b),
)
