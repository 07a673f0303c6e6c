-- The panel of marked case 11 from C: started, fed, held and refreshed, it is in step. Assumes nothing.
use mathlib.Core.Path.{◌≡◌, refl, ap, ap₂, ◌∙◌}
use mathlib.Core.List.{List}
use Prim.Native.Nat.{ℕ}
use native.Mathlib.Omega.{arith}
use lib.ListN.{length, length-drop}
use borrow.Author.Tests.{eq-eqb}
use Rattle.paper.specs.Panel.{panel, memory_length, glass_length, font_length}
use Rattle.paper.specs.Downloads.{store_length}
use Rattle.paper.specs.Calls.{Feeding, start_call, feed_call, hold_call, Refreshing, refresh_call}
use Rattle.laws_downloads.proofs.Kept.{none_length}
use Rattle.laws_marked.specs.Marked.{window_one}
use Rattle.demands.specs.Events.{StateRecord, state_record}
use Rattle.demands.specs.Demands.{window_fed, window_held}
use Rattle.demands.proofs.Demands.{demand_1_start, demand_3_begun}
use Rattle.record_bytes.specs.Bytes.{state_length, record_length}
use Rattle.record_write.proofs.Laid.{record_length_lem}
use Rattle.record_read.specs.Record.{state_in, store_in}
use Rattle.face.specs.Face.{StartingC, starting_c, start_c, FeedingC, CallingC, calling_c, hold_c, RefreshingC}
use Rattle.face.proofs.Laws.{start_stands, feed_stands, hold_stands, refresh_stands}
use Rattle.demands_c.specs.Plays.{record_in}
use Rattle.demands_c.specs.Demands.{window_fed_c, BegunInStepC}
use Rattle.demands_c.proofs.Records.{panel-rows}
use Rattle.demands_c.proofs.Plays.{record_size, feed_is, feed_size, refresh_is, stands_for}

module _ (l : List ℕ) (h : length l ≡ record_length) where
  start_is : (m : List ℕ) → start_c panel l m ≡ starting_c (start_call panel m (store_in l))
  unfolding start_c
  start_is m = rw (eq-eqb (length l) record_length h)

  -- the downloads that start leaves are as many bytes as there were
  store_size : length (store_in l) ≡ store_length
  store_size = omega (arith, h, length-drop state_length l)

  start_size : (m : List ℕ) → length (start_c panel l m).state ≡ record_length
  start_size m =
      ap (λ (a : StartingC). length a.state) (start_is m)
      ∙ record_length_lem (start_call panel m (store_in l)).answer.state (start_call panel m (store_in l)).store
      (ap length (demand_1_start m (store_in l)).downloads ∙ none_length (store_in l) ∙ store_size)

  hold_is : (k : ℕ) → hold_c panel l k ≡ calling_c l (hold_call panel (state_in l) (store_in l) k)
  unfolding hold_c
  hold_is k = rw (eq-eqb (length l) record_length h)

  hold_size : (k : ℕ) → length (hold_c panel l k).state ≡ record_length
  hold_size k =
      ap (λ (a : CallingC). length a.state) (hold_is k)
      ∙ record_size _ (hold_call panel (state_in l) (store_in l) k).state (store_in l) l h refl

module _ (font l m glass : List ℕ) (h : length l ≡ record_length) where
  abbrev a : StartingC
  a = start_c panel l m

  abbrev f : FeedingC
  f = window_fed_c font l m

  abbrev held : CallingC
  held = hold_c panel f.state 1

  -- document 01's feed
  abbrev fed : Feeding
  fed = window_fed font m (store_in l)

  f_size : length f.state ≡ record_length
  f_size = feed_size a.state (start_size l h m) a.mem font window_one

  -- the feed's state, downloads and memory are those of document 01's calls
  paper_fed : feed_call panel font (state_in a.state) (store_in a.state) a.mem window_one ≡ fed
  paper_fed =
      ap₂ (λ (q : StateRecord) (n : List ℕ). feed_call panel font q.state q.downloads n window_one)
      (stands_for (start_stands panel panel-rows l h m))
      (ap (λ (q : StartingC). q.mem) (start_is l h m))

  fed_mem : f.mem ≡ fed.mem
  fed_mem =
      ap (λ (q : FeedingC). q.mem) (feed_is a.state (start_size l h m) a.mem font window_one)
      ∙ ap (λ (q : Feeding). q.mem) paper_fed

  fed_record : record_in f.state ≡ state_record fed.answer.state fed.store
  fed_record =
      stands_for (feed_stands panel panel-rows a.state (start_size l h m) a.mem font window_one)
      ∙ ap (λ (q : Feeding). state_record q.answer.state q.store) paper_fed

  -- and so are those of the hold and of the refresh
  held_record : record_in held.state ≡ state_record (hold_call panel fed.answer.state fed.store 1).state fed.store
  held_record =
      stands_for (hold_stands panel panel-rows f.state f_size 1)
      ∙ ap (λ (q : StateRecord). state_record (hold_call panel q.state q.downloads 1).state q.downloads) fed_record

  paper_held : refresh_call panel (state_in held.state) (store_in held.state) f.mem glass ≡ window_held font m (store_in l) glass
  paper_held =
      ap₂ (λ (q : StateRecord) (n : List ℕ). refresh_call panel q.state q.downloads n glass) held_record fed_mem

  pub begun_in_step_c : length font ≡ font_length panel → length m ≡ memory_length panel → length glass ≡ glass_length panel → BegunInStepC font l m glass
  begun_in_step_c fonts memory size =
      let z = hold_size f.state f_size 1 in
      let r = refresh_is held.state z f.mem glass in
      let stands = refresh_stands panel panel-rows held.state z f.mem glass in
      let s = stands.state ∙ ap (λ (q : Refreshing). q.answer.state) paper_held in
      let d = stands.store ∙ ap (λ (q : StateRecord). q.downloads) held_record in
      let g = ap (λ (q : RefreshingC). q.glass) r ∙ ap (λ (q : Refreshing). q.glass) paper_held in
      rw (s, d, g, fed_mem) (demand_3_begun font m (store_in l) glass fonts memory (store_size l h) size)
