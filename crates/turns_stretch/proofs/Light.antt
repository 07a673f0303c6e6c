-- A stretch of characters, moves and styles: how far it has come, and one step more. Assumes nothing.
use mathlib.Core.Path.{◌≡◌, refl, sym, ap, ap₂, ◌∙◌}
use mathlib.Core.Bool.{Bool, true, false, cond, ◌&&◌, ◌||◌, false≢true}
use mathlib.Core.List.{List}
use Prim.Native.Nat.{ℕ, zero, suc, ◌+◌, ◌-◌, ◌<◌, ◌≤◌}
use native.Mathlib.Nat.{add-zero}
use native.Mathlib.Omega.{arith}
use lib.ListN.{length, get_or, drop}
use lib.Dec.{leb, ltb, eqb}
use borrow.Author.Tests.{lt-leb, ltb-true, ltb-false, eqb-true}
use Rattle.paper.specs.declared.Module.{Module}
use Rattle.paper.specs.declared.Command.{Command}
use Rattle.paper.specs.declared.Command.TheVariants.{Back, Tab, LineFeed, Home, Clear, Return, Set}
use Rattle.paper.specs.declared.Fed.{Fed}
use Rattle.paper.specs.declared.Half.{Half}
use Rattle.paper.specs.declared.Half.TheVariants.{Nothing, Unit, Value}
use Rattle.paper.specs.declared.Key.{Key}
use Rattle.paper.specs.declared.Key.TheVariants.{Reverse, Mixing}
use Rattle.paper.specs.declared.Outcome.{Outcome}
use Rattle.paper.specs.declared.Outcome.TheVariants.{Carried}
use Rattle.paper.specs.declared.Reading.TheVariants.{More, Whole}
use Rattle.paper.specs.declared.Refusal.{Refusal}
use Rattle.paper.specs.declared.Settings.{Settings}
use Rattle.paper.specs.declared.Span.{Span}
use Rattle.paper.specs.declared.State.{State}
use Rattle.paper.specs.declared.Style.{Style}
use Rattle.paper.specs.declared.View.{View}
use Rattle.paper.specs.Downloads.{Faces, faces, in_force}
use Rattle.paper.specs.Strokes.{apply_all, mark_all}
use Rattle.paper.specs.Numbers.{outcome_number, carried_by, answered_by}
use Rattle.paper.specs.Reading.{between, read_first, read_move, read_unit, read_of}
use Rattle.paper.specs.Settings.{in_domain, make_style, with_half, with_settings, with_setting, with_spans, with_style, with_view, cursor_in, view_of}
use Rattle.paper.specs.Bounds.{state_ok}
use Rattle.paper.specs.Cells.{cell_width, cell_height}
use Rattle.paper.specs.Moves.{Moved}
use Rattle.paper.specs.Carry.{not_carried_value, is_write, asks, exceeds, width_now, height_now, moves, carried_out, command_of, take_of, byte_means, leaves, take_store, byte_store}
use Rattle.paper.specs.Calls.{feeding, counted, next}
use Rattle.carry_state.proofs.Answers.{store_same}
use Rattle.laws_bytes.proofs.Tests.{both_of, between_facts}
use Rattle.laws_state.specs.Room.{Usable, Room, Kept}
use Rattle.laws_state.specs.Runs as reached
use Rattle.laws_state.specs.Runs.{Reaches, sheet, written, characters_of, Within}
use Rattle.laws_state.proofs.Moves.{ht_kept, back_kept, feed_kept, home_kept, return_kept, clear_kept}
use Rattle.laws_state.proofs.Reached.{reaches_next, reaches_on, reaches_state, reaches_counts}
use Rattle.laws_state.proofs.Runs.{within_on, within_kept}
use Rattle.laws_state.proofs.Sheets.{at_spans, sheet_twice, view-same}
use Rattle.laws_state.proofs.Taken.{from_here}
use Rattle.laws_state.proofs.Tests.{by_cond}
use Rattle.laws_state.proofs.Views.{view-place}
use Rattle.moves.specs.declared.Spot.{Spot}
use Rattle.moves.specs.Does.{Does, spot}
use Rattle.runs_line.specs.declared.Drawn.{Drawn}
use Rattle.runs_line.specs.Went.{under}
use Rattle.runs.specs.Runs.{Ran}
use Rattle.strides.specs.Strides.{step_of, is_styling, styled_by, is_light}
use Rattle.laws_state.specs.Told.{fed}
use Rattle.turns_light.specs.Turns.{Gathers, here}
use Rattle.turns_stretch.specs.Desk.{restyled, on_desk}
use Rattle.turns_stretch.proofs.Turns.{characters-turn}
use Rattle.turns_light.proofs.Gathering.{gathers_read, taken, taken_reached}
use Rattle.turns_stretch.proofs.Desk.{settings_aside, styled_exceeds, desk_view, desk_settings, desk_half, desk_exceeds, desk_room}

-- ---- a move that comes as a byte

-- what holds of 8 to 13 holds of each number between them
by_six : (P : ℕ → Type 0) → P 8 → P 9 → P 10 → P 11 → P 12 → P 13 → (b : ℕ) → between 0x08 0x0D b ≡ true → P b
by_six P p8 p9 p10 p11 p12 p13 b e = let f = between_facts 0x08 0x0D b e in ap_to (go (b - 8) (omega arith)) (omega arith) where
  ap_to : {a : ℕ} → P a → a ≡ b → P b
  ap_to p h = rw (← h) p

  go : (k : ℕ) → k < 6 → P (8 + k)
  go zero l = p8
  go (suc zero) l = p9
  go (suc (suc zero)) l = p10
  go (suc (suc (suc zero))) l = p11
  go (suc (suc (suc (suc zero)))) l = p12
  go (suc (suc (suc (suc (suc zero))))) l = p13
  go (suc (suc (suc (suc (suc (suc k)))))) l = absurd (omega arith)

-- a move keeps its range
step_kept : (g : Module) (v : View) (c l b : ℕ) → Room g v c l → Kept v (step_of g v c l b)
unfolding step_of
step_kept g v c l b i =
    by_cond (Kept v) (eqb b 0x08) (λ _. back_kept g v c l i)
    (λ _. by_cond (Kept v) (eqb b 0x09) (λ _. ht_kept g v c l i)
    (λ _. by_cond (Kept v) (eqb b 0x0A) (λ _. feed_kept g v c l i)
    (λ _. by_cond (Kept v) (eqb b 0x0B) (λ _. home_kept v g i.place)
    (λ _. by_cond (Kept v) (eqb b 0x0C) (λ _. clear_kept v g i.place) (λ _. return_kept v g i.place)))))

module _ (g : Module) (font : Faces) (s : State) (n : s.half ≡ Nothing) where
  -- a byte that is a command, while nothing is half read
  byte_command : (c : Command) (b : ℕ) → read_of g Nothing b ≡ Whole c → byte_means g font s b ≡ command_of g font s c
  unfolding byte_means take_of
  byte_command c b e =
      ap (λ (p : Half). take_of g font s (read_of g p b)) n ∙ ap (take_of g font s) e ∙ ap (λ (p : Half). command_of g font (with_half s p) c) (sym n)

  -- one that leaves the downloads alone
  byte_store_lem : (c : Command) (b : ℕ) → read_of g Nothing b ≡ Whole c → leaves c font.store ≡ font.store → byte_store g font s b ≡ font.store
  unfolding byte_store take_store
  byte_store_lem c b e same =
      ap (λ (p : Half). take_store g font s (read_of g p b)) n ∙ ap (take_store g font s) e ∙ sym (store_same g font (with_half s Nothing) c same)

  -- a move, while a cell has room
  move_means : (b : ℕ) → between 0x08 0x0D b ≡ true → exceeds g s ≡ false
      → byte_means g font s b ≡ moves s (step_of g (view_of g s) (width_now g s) (height_now s) b)
  unfolding read_of read_first read_move command_of asks carried_out step_of
  move_means b l e =
      by_six (λ (b : ℕ). byte_means g font s b ≡ moves s (step_of g (view_of g s) (width_now g s) (height_now s) b))
      (byte_command Back 8 refl ∙ rw e) (byte_command Tab 9 refl ∙ rw e) (byte_command LineFeed 10 refl ∙ rw e)
      (byte_command Home 11 refl) (byte_command Clear 12 refl) (byte_command Return 13 refl) b l

  -- and that it leaves the downloads alone
  move_store : (b : ℕ) → between 0x08 0x0D b ≡ true → byte_store g font s b ≡ font.store
  unfolding read_of read_first read_move leaves
  move_store b l =
      by_six (λ (b : ℕ). byte_store g font s b ≡ font.store)
      (byte_store_lem Back 8 refl refl) (byte_store_lem Tab 9 refl refl) (byte_store_lem LineFeed 10 refl refl)
      (byte_store_lem Home 11 refl refl) (byte_store_lem Clear 12 refl refl) (byte_store_lem Return 13 refl refl) b l

module _ (g : Module) (font ds : List ℕ) (s : State) (n : s.half ≡ Nothing) where
  -- it is counted
  move_next : (r : Refusal) (c a : ℕ) (o : Outcome) (m : List ℕ) (b : ℕ) → between 0x08 0x0D b ≡ true → exceeds g s ≡ false
      → let t = step_of g (view_of g s) (width_now g s) (height_now s) b in
      next g font (feeding r s c a o m ds) b
      ≡ feeding r (with_spans (with_view s t.view) (mark_all s.spans t.strokes)) (c + 1) a Carried (apply_all g m t.strokes) ds
  unfolding next outcome_number carried_by answered_by
  move_next r c a o m b l e =
      let t = step_of g (view_of g s) (width_now g s) (height_now s) b in
      ap₂ (counted g (feeding r s c a o m ds)) (move_means g (faces font ds) s n b l e) (move_store g (faces font ds) s n b l)
      ∙ ap₂ (λ (ps : List Span) (k : ℕ). feeding r (with_spans (with_view s t.view) (mark_all ps t.strokes)) (c + 1) k Carried (apply_all g m t.strokes) ds)
      (at_spans s (cursor_in s t.view)) (add-zero a)

-- ---- reverse and mixing

-- the key by its byte
abbrev key_by : ℕ → Key
key_by k = cond (eqb k 0x72) Reverse Mixing

-- what stands at i, where a reverse or a mixing does
record Styled (g : Module) (piece : List ℕ) (i : ℕ) : Type 0 where
  pub all : i + 3 ≤ length piece
  pub opens : get_or piece i 0 ≡ 0x1F
  pub names : read_unit (get_or piece (i + 1) 0) ≡ More (Value (key_by (get_or piece (i + 1) 0)))
  pub domain : in_domain g (key_by (get_or piece (i + 1) 0)) (get_or piece (i + 2) 0) ≡ true

-- one of two tests
either : (g : Module) (k n : ℕ) (t : Bool) → eqb k 0x72 ≡ t → ((t && leb n 1) || (eqb k 0x77 && leb n 3)) ≡ true
    → (read_unit k ≡ More (Value (key_by k))) × (in_domain g (key_by k) n ≡ true)
unfolding read_unit in_domain
either g k n true e h = rw (eqb-true k 0x72 e) (refl, one (leb n 1) h) where
  one : (t : Bool) → (t || (eqb k 0x77 && leb n 3)) ≡ true → t ≡ true
  one true h = refl
  one false h = absurd (false≢true (rw (eqb-true k 0x72 e) at h))
either g k n false e h =
    let f = both_of (eqb k 0x77) (leb n 3) h in
    rw (eqb-true k 0x77 f.0) (refl, f.1)

styled_facts : (g : Module) (piece : List ℕ) (i : ℕ) → is_styling piece i ≡ true → Styled g piece i
unfolding is_styling
styled_facts g piece i h = go (ltb (length piece - i) 3) refl h where
  k : ℕ
  k = get_or piece (i + 1) 0

  n : ℕ
  n = get_or piece (i + 2) 0

  go : (t : Bool) → ltb (length piece - i) 3 ≡ t
      → cond t false (eqb (get_or piece i 0) 0x1F && ((eqb k 0x72 && leb n 1) || (eqb k 0x77 && leb n 3))) ≡ true → Styled g piece i
  go true e h = absurd (false≢true h)
  go false e h =
      let l = ltb-false (length piece - i) 3 e in
      let f = both_of (eqb (get_or piece i 0) 0x1F) _ h in
      let d = either g k n (eqb k 0x72) refl f.1 in
      record { all = omega arith; opens = eqb-true _ 0x1F f.0; names = d.0; domain = d.1 }

-- they are gathered
styled_gathers : (g : Module) (piece : List ℕ) (i : ℕ) → Styled g piece i
    → Gathers g (More Nothing) (drop i piece) (Whole (Set (key_by (get_or piece (i + 1) 0)) (get_or piece (i + 2) 0))) (drop (i + 3) piece)
unfolding read_of read_first
styled_gathers g piece i d =
    let all = d.all in
    let k = get_or piece (i + 1) 0 in
    let v = get_or piece (i + 2) 0 in
    let p0 : Gathers g (More Nothing) (drop i piece) (More Unit) (drop (i + 1) piece) =
    gathers_read {h = Nothing} piece i (omega arith) here (rw d.opens) in
    let p1 : Gathers g (More Nothing) (drop i piece) (More (Value (key_by k))) (drop (i + 1 + 1) piece) =
    gathers_read {h = Unit} piece (i + 1) (omega arith) p0 (sym d.names) in
    let p2 : Gathers g (More Nothing) (drop i piece) (Whole (Set (key_by k) v)) (drop (i + 1 + 1 + 1) piece) =
    gathers_read {h = Value (key_by k)} piece (i + 1 + 1) (omega arith) p1 (rw second) in
    rw third at p2
  where
    second : i + 1 + 1 ≡ i + 2
    second = omega arith

    third : i + 1 + 1 + 1 ≡ i + 3
    third = omega arith

module _ (g : Module) (font : List ℕ) (r : Refusal) (s : State) (c a : ℕ) (o : Outcome) (m ds : List ℕ) (n : s.half ≡ Nothing) where
  -- a setting in its domain that changes the style is carried out
  set-counted : (k v : ℕ) → in_domain g (key_by k) v ≡ true
      → taken g font r c a m ds s o (Whole (Set (key_by k) v))
      ≡ feeding r (with_settings s (with_setting s.settings (key_by k) v)) (c + 1) a Carried m ds
  unfolding take_of take_store leaves command_of asks carried_out not_carried_value is_write outcome_number carried_by answered_by
  set-counted k v e = first ∙ second (eqb k 0x72) e where
    first : taken g font r c a m ds s o (Whole (Set (key_by k) v)) ≡ counted g (feeding r s c a o m ds) (command_of g (faces font ds) s (Set (key_by k) v)) ds
    first =
        ap₂ (λ (p : Half) (es : List ℕ). counted g (feeding r s c a o m ds) (command_of g (faces font ds) (with_half s p) (Set (key_by k) v)) es) (sym n)
        (sym (store_same g (faces font ds) (with_half s Nothing) (Set (key_by k) v) refl))

    second : (t : Bool) → in_domain g (cond t Reverse Mixing) v ≡ true
        → counted g (feeding r s c a o m ds) (command_of g (faces font ds) s (Set (cond t Reverse Mixing) v)) ds
        ≡ feeding r (with_settings s (with_setting s.settings (cond t Reverse Mixing) v)) (c + 1) a Carried m ds
    second true e = rw (e, add-zero a)
    second false e = rw (e, add-zero a)

  -- THE LAW of a style: its three bytes, one by one
  style_turn : (piece : List ℕ) (i : ℕ) → Styled g piece i
      → Reaches g font (feeding r s c a o m ds) (drop i piece)
      (feeding r (with_settings s (with_setting s.settings (key_by (get_or piece (i + 1) 0)) (get_or piece (i + 2) 0))) (c + 1) a Carried m ds) (drop (i + 3) piece)
  style_turn piece i d =
      let all = d.all in
      rw (set-counted (get_or piece (i + 1) 0) (get_or piece (i + 2) 0) d.domain) at
      (taken_reached g font r c a m ds s o {q = Whole (Set (key_by (get_or piece (i + 1) 0)) (get_or piece (i + 2) 0))} piece i (i + 3) (omega arith) (omega arith) (omega arith)
      (rw n (styled_gathers g piece i d)))

-- the settings with the style so changed
styled_settings : (v : Settings) (y : Style) (k n : ℕ) → with_setting (with_style v y) (key_by k) n ≡ with_style v (styled_by y k n)
unfolding with_setting styled_by
styled_settings v y k n = go (eqb k 0x72) where
  go : (t : Bool) → with_setting (with_style v y) (cond t Reverse Mixing) n
      ≡ with_style v (cond t (make_style n y.mixing y.across y.down) (make_style y.reverse n y.across y.down))
  go true = refl
  go false = refl

-- ---- how far a stretch has come

-- from a place of the piece to i: all so far is in the spot and the style, a cell still has room, and the state is left for the end
pub record Lit (g : Module) (font ds piece : List ℕ) (f : Fed) (m : List ℕ) (from : ℕ) (p : Spot) (y : Style) (c : ℕ) (o : Outcome) (i : ℕ) (m' : List ℕ) : Type 0 where
  pub low : from ≤ i
  pub high : i ≤ length piece
  pub size : length m' ≡ length m
  pub within : Within (view_of g f.state) p.view
  pub room : exceeds g (restyled f.state y) ≡ false
  pub reached : Reaches g font (fed f m ds) (drop from piece) (feeding f.refusal (on_desk f.state y p) c f.answered o m' ds) (drop i piece)

module _ {g : Module} {font ds piece : List ℕ} {f : Fed} {m : List ℕ} {from : ℕ} (u : Usable g) (free : f.state.half ≡ Nothing)
    {p : Spot} {y : Style} {c : ℕ} {o : Outcome} {i : ℕ} {m₁ : List ℕ} (k : Lit g font ds piece f m from p y c o i m₁) where
  abbrev s : State
  s = f.state

  -- the state that it would be settled to
  abbrev now_at : State
  now_at = on_desk s y p

  pub lit_ok : state_ok g f.state ≡ true → state_ok g now_at ≡ true
  lit_ok ok = reaches_state u k.reached ok

  pub lit-counts : c + f.answered + length (drop i piece) ≤ f.carried + f.answered + length (drop from piece)
  lit-counts = reaches_counts k.reached

  -- one stretch more, from the state that it would be settled to
  on_from : {q : Spot} {z : Style} {d j : ℕ} {m₂ : List ℕ} → from ≤ j → j ≤ length piece → length m₂ ≡ length m₁
      → Within (view_of g f.state) q.view → exceeds g (restyled f.state z) ≡ false
      → Reaches g font (feeding f.refusal now_at c f.answered o m₁ ds) (drop i piece)
      (feeding f.refusal (on_desk f.state z q) d f.answered Carried m₂ ds) (drop j piece)
      → Lit g font ds piece f m from q z d Carried j m₂
  on_from low high size within room more =
      record { low = low; high = high; size = size ∙ k.size; within = within; room = room; reached = reaches_on k.reached more }

  -- characters
  pub lit-characters : (r : Drawn) (m₂ : List ℕ) → state_ok g f.state ≡ true → i < length piece → 0x20 ≤ get_or piece i 0 → length m₂ ≡ length m₁
      → Ran g (in_force f.state.settings.switch (faces font ds)) f.state.settings.width y p m₁ piece i r m₂
      → Lit g font ds piece f m from r.spot y (c + (r.at - i)) Carried r.at m₂
  lit-characters r m₂ ok l has size ran =
      on_from (omega (arith, k.low, ran.some)) ran.end size (within_on k.within ran.within) k.room
      (rw (sheet_twice (restyled s y) p.view r.spot.view p.spans r.spot.spans) at
      (characters-turn g font u F m₁ ds piece i (under r.spot m₂) r.at (lit_ok ok)
      (record { free = desk_half g u s y p k.within free; has = has; room = desk_exceeds g u s y p k.within k.room })
      l ran.some ran.end same))
    where
      F : Fed
      F = record { refusal = f.refusal; state = now_at; carried = c; answered = f.answered; outcome = o }

      same : written (under r.spot m₂) (drop r.at piece)
          ≡ characters_of g (in_force now_at.settings.switch (faces font ds)) now_at.settings.width now_at.settings.style (sheet (view_of g now_at) now_at.spans m₁) (drop i piece)
      same =
          ran.done
          ∙ sym (ap₂ (λ (v : Settings) (w : View). characters_of g (in_force v.switch (faces font ds)) v.width v.style (sheet w p.spans m₁) (drop i piece))
          (desk_settings g u s y p k.within) (desk_view g u s y p k.within))

  -- a move
  pub lit_move : (q : Spot) (m₂ : List ℕ) → state_ok g f.state ≡ true → i < length piece → between 0x08 0x0D (get_or piece i 0) ≡ true → length m₂ ≡ length m₁
      → Does g p.spans m₁ q m₂ (step_of g p.view (cell_width g f.state.settings.width y) (cell_height y) (get_or piece i 0))
      → Lit g font ds piece f m from q y (c + 1) Carried (i + 1) m₂
  lit_move q m₂ ok l has size did =
      on_from (omega (arith, k.low)) (omega arith) size
      (rw did.view (within_kept (view_of g s) p.view t k.within (step_kept g p.view _ _ b (desk_room g u s y p k.within (lit_ok ok) k.room))))
      k.room
      (rw (from_here piece i l) (reaches_next b first reached.here))
    where
      b : ℕ
      b = get_or piece i 0

      t : Moved
      t = step_of g p.view (cell_width g s.settings.width y) (cell_height y) b

      first : next g font (feeding f.refusal now_at c f.answered o m₁ ds) b ≡ feeding f.refusal (on_desk s y q) (c + 1) f.answered Carried m₂ ds
      first =
          move_next g font ds now_at (desk_half g u s y p k.within free) f.refusal c f.answered o m₁ b has (desk_exceeds g u s y p k.within k.room)
          ∙ ap₂ (λ (v : Settings) (w : View).
          let j = step_of g w (cell_width g v.width v.style) (cell_height v.style) b in
          feeding f.refusal (with_spans (with_view now_at j.view) (mark_all p.spans j.strokes)) (c + 1) f.answered Carried (apply_all g m₁ j.strokes) ds)
          (desk_settings g u s y p k.within) (desk_view g u s y p k.within)
          ∙ ap (λ (z : State). feeding f.refusal z (c + 1) f.answered Carried (apply_all g m₁ t.strokes) ds)
          (sheet_twice (restyled s y) p.view t.view p.spans (mark_all p.spans t.strokes))
          ∙ rw (did.view, did.spans, did.mem)

  -- reverse or mixing
  pub lit_style : is_styling piece i ≡ true
      → Lit g font ds piece f m from p (styled_by y (get_or piece (i + 1) 0) (get_or piece (i + 2) 0)) (c + 1) Carried (i + 3) m₁
  lit_style has =
      on_from (omega (arith, k.low)) (styled_facts g piece i has).all refl k.within (styled_exceeds g s y n v ∙ k.room)
      (rw same at (style_turn g font f.refusal now_at c f.answered o m₁ ds (desk_half g u s y p k.within free) piece i (styled_facts g piece i has)))
    where
      n : ℕ
      n = get_or piece (i + 1) 0

      v : ℕ
      v = get_or piece (i + 2) 0

      same : with_settings now_at (with_setting now_at.settings (key_by n) v) ≡ on_desk s (styled_by y n v) p
      same =
          ap (λ (z : Settings). with_settings now_at (with_setting z (key_by n) v)) (desk_settings g u s y p k.within)
          ∙ ap (λ (z : Settings). with_settings now_at z) (styled_settings s.settings y n v)
          ∙ settings_aside (restyled s y) (with_style s.settings (styled_by y n v)) p.view p.spans

-- it begins with the state's own spot and style
pub lit_begin : (g : Module) (font ds piece : List ℕ) (f : Fed) (m : List ℕ) (from : ℕ) (p : Spot) → Usable g → state_ok g f.state ≡ true
    → exceeds g f.state ≡ false → from ≤ length piece → p ≡ spot (view_of g f.state) f.state.spans
    → Lit g font ds piece f m from p f.state.settings.style f.carried f.outcome from m
lit_begin g font ds piece f m from p u ok room l e = rw e
    (record { low = omega arith; high = l; size = refl; within = begun; room = room; reached = rw same reached.here })
  where
    s : State
    s = f.state

    begun : Within (view_of g f.state) (view_of g f.state)
    begun = let q = view-place g u f.state ok in record { left = refl; top = refl; width = refl; height = refl; x = q.x; y = q.y }

    same : on_desk f.state f.state.settings.style (spot (view_of g f.state) f.state.spans) ≡ f.state
    same = ap (λ (q : State). with_spans q f.state.spans) (view-same g f.state)

-- where it ends it has taken something
pub light_some : (piece : List ℕ) (from i : ℕ) → from ≤ i → is_light piece from ≡ true → is_light piece i ≡ false → from < i
light_some piece from i l t e = go (ltb from i) refl where
  go : (z : Bool) → ltb from i ≡ z → from < i
  go true h = ltb-true from i h
  go false h =
      let k = ltb-false from i h in
      let n : i ≡ from = omega arith in
      absurd (false≢true (sym (rw n at e) ∙ t))

-- what is neither a character nor a move is a style
pub light_style : (piece : List ℕ) (i : ℕ) → is_light piece i ≡ true → get_or piece i 0 < 0x20 → between 0x08 0x0D (get_or piece i 0) ≡ false → is_styling piece i ≡ true
unfolding is_light
light_style piece i h l e = rw (lt-leb 0x20 (get_or piece i 0) l, e) at h

-- which stands whole in the piece
pub style_whole : (g : Module) (piece : List ℕ) (i : ℕ) → is_styling piece i ≡ true → i + 3 ≤ length piece
style_whole g piece i h = (styled_facts g piece i h).all
