-- `downloads_write::place_for` meets its contract. Assumes nothing.
use mathlib.Core.Path.{◌≡◌}
use borrow.Author.Rules.{rules}
use Rattle.std.proofs.Common.{MatchOption, Some}
use Rattle.downloads_write.proofs.Written.{place_of, own_or_free}
use Rattle.downloads_write.proofs.place_for.Goals as goal

pub returns : goal.returns
returns c =
    let h : MatchOption c.place.result (c.or_else.result ≡ place_of c.args.ds.now 0) (λ k. c.or_else.result ≡ Some k) = search rules in
    own_or_free c.args.ds.now c.args.code _ _ c.place.ensures h
