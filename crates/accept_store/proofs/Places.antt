-- Nothing is stored: then every place is accepted. Assumes nothing.
use mathlib.Core.Path.{◌≡◌}
use mathlib.Core.Bool.{true}
use mathlib.Core.List.{List}
use Prim.Native.Nat.{ℕ}
use lib.ListN.{length}
use Rattle.paper.specs.Downloads.{store_length}
use Rattle.paper.specs.Bounds.{is_free, store_ok}
use Rattle.laws_downloads.proofs.Tests.{below_at}
use Rattle.laws_downloads.proofs.Stored.{store_all, place_free}
use Rattle.accept_store.specs.Tests.{all_free}

pub free_ok : (ds : List ℕ) → length ds ≡ store_length → all_free ds ≡ true → store_ok ds ≡ true
free_ok ds n free = store_all ds n (λ k l. place_free ds k (below_at (is_free ds) 16 free k l))
