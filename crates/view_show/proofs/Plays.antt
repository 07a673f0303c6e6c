-- Three calls, one after the other, show what the definitions of the three show. Assumes nothing.
use mathlib.Core.Path.{◌≡◌, ap, ◌∙◌}
use mathlib.Core.Bool.{Bool}
use mathlib.Core.List.{List}
use Prim.Native.Nat.{ℕ}
use Rattle.paper.specs.declared.Answer.{Answer}
use Rattle.paper.specs.declared.Fed.{Fed}
use Rattle.paper.specs.declared.Refreshed.{Refreshed}
use Rattle.paper.specs.Panel.{panel}
use Rattle.paper.specs.Calls.{Starting, Feeding, Refreshing, start_call, feed_call, refresh_call}
use Rattle.laws_state.specs.Told.{started, fed, refreshed}
use Rattle.view_show.specs.declared.Counts.{Counts}
use Rattle.view_show.specs.Shown.{Shows, fed_fresh, shown_fresh}

-- the counts of a feed and a refresh
abbrev counts : Fed → Refreshed → Bool → Counts
counts f r half = record { telegrams = 0; carried = f.carried; answered = f.answered; moved = r.moved; half = half }

pub plays : (font m ds stream glass : List ℕ) {m₁ m₂ ds₁ ds₂ glass' : List ℕ} {a : Answer} {f : Fed} {r : Refreshed} (half : Bool)
    → started a m₁ ds₁ ≡ start_call panel m ds
    → fed f m₂ ds₂ ≡ feed_call panel font a.state ds₁ m₁ stream
    → refreshed r glass' ≡ refresh_call panel f.state ds₂ m₂ glass
    → Shows (fed_fresh panel font m ds stream) (shown_fresh panel font m ds stream glass) (counts f r half) glass'
unfolding fed_fresh shown_fresh
plays font m ds stream glass {m₂ = m₂} {ds₂ = ds₂} {glass' = glass'} {f = f} {r = r} half begun taken brought =
    let fed_is : fed f m₂ ds₂ ≡ fed_fresh panel font m ds stream =
    taken ∙ ap (λ (x : Starting). feed_call panel font x.answer.state x.store x.mem stream) begun
    in
    let shown_is : refreshed r glass' ≡ shown_fresh panel font m ds stream glass =
    brought ∙ ap (λ (x : Feeding). refresh_call panel x.answer.state x.store x.mem glass) fed_is
    in
    record {
      carried = ap (λ (x : Feeding). x.answer.carried) fed_is;
      answered = ap (λ (x : Feeding). x.answer.answered) fed_is;
      moved = ap (λ (x : Refreshing). x.answer.moved) shown_is;
      same = ap (λ (x : Refreshing). x.glass) shown_is;
    }
