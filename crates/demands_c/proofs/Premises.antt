-- What the theorems for C assume can be had: for each premise one record that meets it, with nothing assumed in turn; that of
-- `demand-3-C` is `demand-3-met-C`. Assumes nothing.
use mathlib.Core.Path.{◌≡◌, refl, sym, ap, ap₂, ◌∙◌}
use mathlib.Core.Bool.{true, true≢false}
use mathlib.Core.List.{List}
use Prim.Native.Nat.{ℕ}
use lib.ListN.{length}
use Rattle.paper.specs.Panel.{panel}
use Rattle.paper.specs.Settings.{in_domain}
use Rattle.paper.specs.Bounds.{settings_ok, accepted}
use Rattle.paper.specs.Calls.{start_call}
use Rattle.laws_downloads.proofs.Kept.{none_length}
use Rattle.laws_state.proofs.Views.{panel_usable}
use Rattle.laws_state.proofs.Calls.{start_keeps}
use Rattle.laws_state.proofs.Parts.{parts}
use Rattle.laws_state.proofs.Records.{accepted_parts}
use Rattle.laws_state.proofs.Sized.{start_sized}
use Rattle.demands.specs.Demands.{some_memory, some_downloads}
use Rattle.demands.proofs.Demands.{demand_1_start}
use Rattle.record_bytes.specs.Bytes.{record_length, encoded, record_of}
use Rattle.record_write.proofs.Laid.{record_length_lem}
use Rattle.record_parts.specs.Parts.{settings_at}
use Rattle.record_read.specs.Record.{state_in, store_in}
use Rattle.record_read.proofs.Back.{state_back, store_back}
use Rattle.face.proofs.Laws.{NoState}
use Rattle.demands_c.specs.Demands.{some_record}

-- demand_2_c, with `fed-met` of crates/demands; demand_3_paper_c; face/proofs/Laws start_stands to refresh_stands, whose two rows are
-- `panel-rows` of Records
pub record_met : let c = start_call panel some_memory some_downloads in let l = record_of c.answer.state c.store in
    (length l ≡ record_length) × (accepted panel (state_in l) (store_in l) ≡ true)
record_met =
    let c = start_call panel some_memory some_downloads in
    let s = c.answer.state in (
      record_length_lem s c.store (ap length (demand_1_start some_memory some_downloads).downloads ∙ none_length some_downloads),
      ap₂ (accepted panel) (state_back s c.store (start_sized panel some_memory some_downloads)) (store_back s c.store)
          ∙ start_keeps panel panel_usable some_memory some_downloads refl,
    )

-- face/proofs/Laws feed_8, hold_8, release_8, refresh-8: no setting is AAh
pub no_state_met : (length some_record ≡ record_length) × NoState panel some_record
unfolding encoded settings_ok in_domain
no_state_met = (
  refl,
  λ s ds h e.
      true≢false
      (sym (parts panel s (accepted_parts panel s ds h).0).settings
      ∙ ap (settings_ok panel) (ap (λ (l : List ℕ). settings_at l 0) (sym e))),
)
