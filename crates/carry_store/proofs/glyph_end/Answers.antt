-- `glyph_end` meets its contract: the next code's width is awaited, or the define is answered. Assumes nothing.
use mathlib.Core.Path.{ap, ap₂, ◌∙◌}
use mathlib.Core.Bool.{Bool}
use Rattle.paper.specs.declared.Half.TheVariants.{Nothing, GlyphWidth}
use Rattle.paper.specs.declared.Outcome.{Outcome}
use Rattle.paper.specs.Reading.{next_code}
use Rattle.paper.specs.Settings.{with_half}
use Rattle.paper.specs.Carry.{take_of, take_store}
use Rattle.carry_state.specs.Says.{done}
use Rattle.carry_state.proofs.Answers.{says, ends_at}
use Rattle.downloads_answer.specs.Answers.{noted_if, answer_if, stored_if}
use Rattle.carry_store.proofs.Stored.{goes_on, is_read}
use Rattle.carry_store.proofs.glyph_end.Goals as goal

pub returns-then-code-batch : goal.returns-then-code-batch
unfolding take_of take_store
returns-then-code-batch c g font =
    let a = c.args in
    let ds = a.store.now in
    let note = c.store_one-dropped.ensures.0
    ∙ ap (λ (t : Bool). noted_if t ds a.batch.code a.noted) c.is_held-held.ensures in
    record {
      says = says
          (ends_at c.ends.ensures (ap (λ (t : Bool). with_half a.s (GlyphWidth (next_code a.batch) t)) note))
          (goes_on ds a.s a.batch a.noted c.if-code-batch.true);
      store = c.store_one-dropped.ensures.1
          ∙ ap (λ (t : Bool). stored_if t ds a.batch.code a.columns) c.is_held-held.ensures;
    }

pub returns : goal.returns
unfolding take_of take_store
returns c g font =
    let a = c.args in
    let ds = a.store.now in
    let note = c.store_one-dropped.ensures.0
    ∙ ap (λ (t : Bool). noted_if t ds a.batch.code a.noted) c.is_held-held.ensures in
    let answer = c.define_answer-answer.ensures
    ∙ ap₂ answer_if c.is_held-held.ensures note in
    record {
      says = says (c.ends-2.ensures ∙ ap (λ (o : Outcome). done (with_half a.s Nothing) o) answer)
          (is_read ds a.s a.batch a.noted c.if-code-batch.false);
      store = c.store_one-dropped.ensures.1
          ∙ ap (λ (t : Bool). stored_if t ds a.batch.code a.columns) c.is_held-held.ensures;
    }
