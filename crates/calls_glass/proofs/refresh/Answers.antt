-- `calls_glass::refresh` meets its contract: 1, 3, 8 in this order, or the glass brought in step. Assumes nothing.
use borrow.Author.Rules.{rules}
use mathlib.Core.Path.{◌≡◌, sym, ap, ap₂, ◌∙◌}
use mathlib.Core.List.{List}
use Prim.Native.Nat.{ℕ}
use native.Mathlib.Omega.{arith}
use lib.ListN.{length}
use Rattle.paper.specs.declared.Refreshed.{Refreshed}
use Rattle.paper.specs.declared.Span.{Span}
use Rattle.paper.specs.declared.Refusal.TheVariants.{Accepted}
use Rattle.paper.specs.Panel.{memory_length, glass_length}
use Rattle.paper.specs.Strokes.{no_spans}
use Rattle.paper.specs.Settings.{with_spans}
use Rattle.paper.specs.Calls.{refreshing, emptied}
use Rattle.laws_state.specs.Told.{refreshed}
use Rattle.calls_glass.proofs.Glass.{glass_small, refresh_memory, refresh_glass, refresh_broken, refresh_accepted}
use Rattle.calls_glass.proofs.refresh.Goals as goal

pub memory_length-requires : goal.memory_length-requires
memory_length-requires c =
    c.requires.0.small

-- ---- what each way gives

pub returns-then-mem-memory_length : goal.returns-then-mem-memory_length
returns-then-mem-memory_length c =
    let a = c.args in
    ap (λ (x : Refreshed). refreshed x a.glass.now) c.moves.ensures
    ∙ refresh_memory a.g a.s a.store.now a.mem.now a.glass.now
    (λ e. c.if-mem-memory_length.true (e ∙ sym c.memory_length.ensures))

pub glass_length-requires : goal.glass_length-requires
glass_length-requires c =
    glass_small _ c.requires.0

pub returns-then-glass-glass_length : goal.returns-then-glass-glass_length
returns-then-glass-glass_length c =
    let memory_whole : let a = c.args in length a.mem.now ≡ memory_length a.g = c.if-mem-memory_length.false ∙ c.memory_length.ensures in
    let a = c.args in
    ap (λ (x : Refreshed). refreshed x a.glass.now) c.moves-then-glass-glass_length.ensures
    ∙ refresh_glass a.g a.s a.store.now a.mem.now a.glass.now memory_whole
    (λ e. c.if-glass-glass_length.true (e ∙ sym c.glass_length.ensures))

pub refresh-moved-requires : goal.refresh-moved-requires
refresh-moved-requires c =
    let memory_whole : let a = c.args in length a.mem.now ≡ memory_length a.g = c.if-mem-memory_length.false ∙ c.memory_length.ensures in
    let glass_whole : let a = c.args in length a.glass.now ≡ glass_length a.g = c.if-glass-glass_length.false ∙ c.glass_length.ensures in
    let u = c.requires.0 in (
      omega (arith, c.requires.1),
      record {
        fits = record { size = memory_whole; small = u.small };
        size = glass_whole;
        visible = omega (arith, u.visible_part);
      },
    )

pub returns-then-is_accepted : goal.returns-then-is_accepted
unfolding emptied
returns-then-is_accepted c =
    let memory_whole : let a = c.args in length a.mem.now ≡ memory_length a.g = c.if-mem-memory_length.false ∙ c.memory_length.ensures in
    let glass_whole : let a = c.args in length a.glass.now ≡ glass_length a.g = c.if-glass-glass_length.false ∙ c.glass_length.ensures in
    let a = c.args in
    let e = c.refresh-moved.ensures in
    ap (λ (x : Refreshed). refreshed x c.refresh-moved.new.glass) c.moves-then-is_accepted.ensures
    ∙ ap (λ (ps : List Span). refreshing Accepted (with_spans a.s ps) c.refresh-moved.result c.refresh-moved.new.glass) c.no_spans.ensures
    ∙ ap₂ (λ (n : ℕ) (x : List ℕ). refreshing Accepted (with_spans a.s (no_spans a.g)) n x) e.1 e.0
    ∙ refresh_accepted a.g a.s a.store.now a.mem.now a.glass.now memory_whole glass_whole
    (sym c.is_accepted.ensures ∙ c.if-is_accepted.true)

pub returns : goal.returns
returns c =
    let memory_whole : let a = c.args in length a.mem.now ≡ memory_length a.g = c.if-mem-memory_length.false ∙ c.memory_length.ensures in
    let glass_whole : let a = c.args in length a.glass.now ≡ glass_length a.g = c.if-glass-glass_length.false ∙ c.glass_length.ensures in
    let a = c.args in
    ap (λ (x : Refreshed). refreshed x a.glass.now) c.moves-2.ensures
    ∙ refresh_broken a.g a.s a.store.now a.mem.now a.glass.now memory_whole glass_whole
    (sym c.is_accepted.ensures ∙ c.if-is_accepted.false)
