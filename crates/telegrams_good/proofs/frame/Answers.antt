-- `frame` meets its contract: every place that it passes was looked at. Assumes nothing.
use mathlib.Core.Bool.{true, false}
use Rattle.std.proofs.Common.{◌≡◌, arith, rules, tests}
use Rattle.std.proofs.lemmas.Iterator.{first_from_Range, serves_from_Range}
use Rattle.paper.specs.Telegrams.{framed}
use Rattle.telegrams_good.proofs.Turns.{framed_first}
use Rattle.telegrams_good.proofs.frame.Goals as goal

pub find-requires : goal.find-requires
find-requires c = record { can = tt; finite = tt; callable = serves_from_Range (λ x q k. search (rules, tests)) (λ x low high. search rules) }

pub returns : goal.returns
returns c =
    let s = c.args.piece.now in
    let f = framed_first s c.args.from c.find.result
    (first_from_Range _ _ _ _ (λ p. framed s p ≡ true) (λ p. framed s p ≡ false) c.find.ensures.ran
    (λ x q k. grind (arith, tests))
    (λ x q k. (search rules, grind (arith, tests)))) in
    record { found = f.0; none = f.1 }
