-- What is shown of a stream: document 01's start, one feed and one refresh, by their definitions. Assumes nothing.
use Rattle.std.specs.Prelude.{ℕ, List, ◌≡◌}
use Rattle.paper.specs.declared.Module.{Module}
use Rattle.paper.specs.Calls.{Feeding, Refreshing, start_call, feed_call, refresh_call}
use Rattle.view_show.specs.declared.Counts.{Counts}

-- the stream, fed to a panel that was started with a memory and room for downloads
unfoldable pub fed_fresh : Module → List ℕ → List ℕ → List ℕ → List ℕ → Feeding
fed_fresh g font m ds stream = let a = start_call g m ds in feed_call g font a.answer.state a.store a.mem stream

-- the refresh after it
unfoldable pub shown_fresh : Module → List ℕ → List ℕ → List ℕ → List ℕ → List ℕ → Refreshing
shown_fresh g font m ds stream glass =
    let f = fed_fresh g font m ds stream in refresh_call g f.answer.state f.store f.mem glass

-- the counts and the glass are theirs
pub record Shows (f : Feeding) (r : Refreshing) (c : Counts) (glass : List ℕ) : Type 0 where
  pub carried : c.carried ≡ f.answer.carried
  pub answered : c.answered ≡ f.answer.answered
  pub moved : c.moved ≡ r.answer.moved
  pub same : glass ≡ r.glass
