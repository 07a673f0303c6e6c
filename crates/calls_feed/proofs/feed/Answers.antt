-- `calls_feed::feed` meets its contract: 1, 2, 8 in this order, or the whole piece. Assumes nothing.
use borrow.Author.Rules.{rules}
use mathlib.Core.Path.{◌≡◌, sym, ap, ◌∙◌}
use native.Mathlib.Omega.{arith}
use lib.ListN.{length}
use Rattle.paper.specs.declared.Fed.{Fed}
use Rattle.paper.specs.Panel.{memory_length, font_length}
use Rattle.laws_state.specs.Told.{fed}
use Rattle.laws_state.proofs.Records.{accepted_parts}
use Rattle.calls_feed.proofs.Feeds.{feed_memory, feed_font, feed_broken, feed_accepted}
use Rattle.calls_feed.proofs.feed.Goals as goal

pub memory_length-requires : goal.memory_length-requires
memory_length-requires c =
    c.requires.0.small

-- ---- what each way gives

pub returns-then-mem-memory_length : goal.returns-then-mem-memory_length
returns-then-mem-memory_length c =
    let a = c.args in
    ap (λ (x : Fed). fed x a.mem.now a.store.now) c.fed_nothing.ensures
    ∙ feed_memory a.g a.font.now a.s a.store.now a.mem.now a.piece.now
    (λ e. c.if-mem-memory_length.true (e ∙ sym c.memory_length.ensures))

pub font_length-requires : goal.font_length-requires
font_length-requires c =
    omega (arith, c.requires.0.glyph_small)

pub returns-then-font-font_length : goal.returns-then-font-font_length
returns-then-font-font_length c =
    let memory_whole : let a = c.args in length a.mem.now ≡ memory_length a.g = c.if-mem-memory_length.false ∙ c.memory_length.ensures in
    let a = c.args in
    ap (λ (x : Fed). fed x a.mem.now a.store.now) c.fed_nothing-then-font-font_length.ensures
    ∙ feed_font a.g a.font.now a.s a.store.now a.mem.now a.piece.now memory_whole
    (λ e. c.if-font-font_length.true (e ∙ sym c.font_length.ensures))

pub feed_all-requires : goal.feed_all-requires
feed_all-requires c =
    let memory_whole : let a = c.args in length a.mem.now ≡ memory_length a.g = c.if-mem-memory_length.false ∙ c.memory_length.ensures in
    let font_whole : let a = c.args in length a.font.now ≡ font_length a.g = c.if-font-font_length.false ∙ c.font_length.ensures in
    let a = c.args in (
      record {
        usable = c.requires.0;
        two_rows = c.requires.1;
        state_is_ok = (accepted_parts a.g a.s a.store.now (sym c.is_accepted.ensures ∙ c.if-is_accepted.true)).0;
        fits = record { size = memory_whole; small = c.requires.0.small };
      },
      font_whole,
    )

pub returns-then-is_accepted : goal.returns-then-is_accepted
returns-then-is_accepted c =
    let memory_whole : let a = c.args in length a.mem.now ≡ memory_length a.g = c.if-mem-memory_length.false ∙ c.memory_length.ensures in
    let font_whole : let a = c.args in length a.font.now ≡ font_length a.g = c.if-font-font_length.false ∙ c.font_length.ensures in
    let a = c.args in
    c.feed_all.ensures
    ∙ feed_accepted a.g a.font.now a.s a.store.now a.mem.now a.piece.now memory_whole font_whole
    (sym c.is_accepted.ensures ∙ c.if-is_accepted.true)

pub returns : goal.returns
returns c =
    let memory_whole : let a = c.args in length a.mem.now ≡ memory_length a.g = c.if-mem-memory_length.false ∙ c.memory_length.ensures in
    let font_whole : let a = c.args in length a.font.now ≡ font_length a.g = c.if-font-font_length.false ∙ c.font_length.ensures in
    let a = c.args in
    ap (λ (x : Fed). fed x a.mem.now a.store.now) c.fed_nothing-2.ensures
    ∙ feed_broken a.g a.font.now a.s a.store.now a.mem.now a.piece.now memory_whole font_whole
    (sym c.is_accepted.ensures ∙ c.if-is_accepted.false)
