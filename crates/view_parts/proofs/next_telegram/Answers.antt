-- `view_parts::next_telegram` is safe and meets its contract: the first good place lies no earlier, and in the link.
use Rattle.std.proofs.Common.{◌≡◌, ◌≤◌, ◌<◌, true, length, arith, rules}
use Rattle.std.proofs.lemmas.Result.{IfOk-weaker}
use Rattle.paper.specs.Telegrams.{first_good, good}
use Rattle.laws_telegrams.proofs.Search.{first_from}
use Rattle.laws_telegrams.proofs.Good.{good-framed}
use Rattle.view_parts.specs.declared.Part.{Part}
use Rattle.view_parts.proofs.next_telegram.Goals.{In-Some}
use Rattle.view_parts.proofs.next_telegram.Goals as goal

-- the place found lies no earlier than where the search began
from_there : (g : _) (c : In-Some g) → c.args.place ≤ c.in-Some.at
from_there g c =
    let first : c.in-Some.at ≡ first_good c.args.link.now c.args.place = search rules in
    let f = first_from c.args.link.now c.args.place in omega (arith, first, f)

pub slice_bounds-write_stretch-count-2 : goal.slice_bounds-write_stretch-count-2
slice_bounds-write_stretch-count-2 g c = from_there g c

pub slice_bounds-write_stretch-start-2 : goal.slice_bounds-write_stretch-start-2
slice_bounds-write_stretch-start-2 g c = omega (arith, from_there g c)

pub slice_bounds-write_stretch-end-2 : goal.slice_bounds-write_stretch-end-2
slice_bounds-write_stretch-end-2 g c =
    let found : good c.args.link.now c.in-Some.at ≡ true = search rules in
    let f = good-framed _ _ found in omega arith

pub returns : goal.returns
returns g c =
    let first : c.in-Some.at ≡ first_good c.args.link.now c.args.place = search rules in
    let f = first_from c.args.link.now c.args.place in
    let from : c.args.place ≤ c.in-Some.at = omega (arith, first, f) in
    IfOk-weaker _ _ (λ (p : Part). (p.end ≤ length c.args.link.now) × (c.args.place < p.after))
    (λ p t. (t.0, omega (arith, t.1, from))) c.telegram_at.ensures
