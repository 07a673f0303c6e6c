-- `find` meets its contract. Assumes nothing.
use borrow.Author.Tests.{le-leb}
use mathlib.Core.Path.{◌≡◌, refl, sym, ap, ◌∙◌}
use mathlib.Core.List.{List}
use Prim.Native.Nat.{ℕ}
use native.Mathlib.Omega.{arith}
use Rattle.paper.specs.declared.Received.{Received}
use Rattle.paper.specs.Telegrams.{first_good, search_from, receive_call}
use Rattle.laws_telegrams.proofs.Good.{good-framed}
use Rattle.laws_telegrams.proofs.Search.{first_from, search_end, search_found, search_passed, search_first}
use Rattle.telegrams.proofs.find.Goals as goal

module _ (address : ℕ) (piece : List ℕ) (from : ℕ) (whole : search_from address piece from ≡ search_from address piece 0) where
  -- from the first good one on
  at_first : {p : ℕ} → p ≡ first_good piece from → search_from address piece p ≡ search_from address piece 0
  at_first e = ap (search_from address piece) e ∙ sym (search_first address piece from) ∙ whole

pub found-telegram-requires : goal.found-telegram-requires
found-telegram-requires c =
    c.in-Some.ensures.found.1

pub bounds-piece-place : goal.bounds-piece-place
bounds-piece-place c =
    let f = good-framed _ _ c.in-Some.ensures.found.1 in omega arith

pub returns-then-is_ours : goal.returns-then-is_ours
unfolding receive_call
returns-then-is_ours c =
    let f = c.in-Some.ensures.found in
    rw (le-leb c.args.address 15 (omega arith))
    (c.found-telegram.ensures
    ∙ sym (search_found _ _ _ f.1 (sym c.is_ours.ensures ∙ c.if-is_ours.true))
    ∙ at_first _ _ _ c.loop-place.invariant f.0)

pub loop-place-smaller : goal.loop-place-smaller
loop-place-smaller c =
    let f = c.in-Some.ensures.found in
    let a = ap (λ (r : Received). r.after) c.found-telegram.ensures in
    let i = good-framed _ _ f.1 in
    omega (arith, a, i.inside, f.0, first_from c.args.piece.now c.loop-place.from)

pub loop-place-preserved : goal.loop-place-preserved
loop-place-preserved c =
    let f = c.in-Some.ensures.found in
    ap (λ (r : Received). search_from c.args.address c.args.piece.now r.after) c.found-telegram.ensures
    ∙ sym (search_passed _ _ _ f.1 (sym c.is_ours.ensures ∙ c.if-is_ours.false))
    ∙ at_first _ _ _ c.loop-place.invariant f.0

pub returns : goal.returns
unfolding receive_call
returns c =
    rw (le-leb c.args.address 15 (omega arith))
    (sym (search_end _ _ _ c.in_default.ensures.none) ∙ at_first _ _ _ c.loop-place.invariant refl)
