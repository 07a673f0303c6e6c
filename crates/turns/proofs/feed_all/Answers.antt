-- `turns::feed_all` meets its contract. The loop's invariant: from the whole piece it has come, byte by byte, to what is left of it.
-- Assumes nothing.
use borrow.Author.Rules.{rules}
use mathlib.Core.Path.{◌≡◌, refl, sym, ap, ◌∙◌}
use mathlib.Core.List.{List, []}
use Prim.Native.Nat.{ℕ, zero-le, ◌<◌, ◌≤◌, ◌-◌}
use native.Mathlib.Omega.{arith}
use lib.ListN.{length, drop, length-drop, drop_of_length-le}
use Rattle.paper.specs.declared.Fed.{Fed}
use Rattle.paper.specs.declared.State.{State}
use Rattle.paper.specs.declared.Refusal.TheVariants.{Accepted}
use Rattle.paper.specs.Bounds.{state_ok}
use Rattle.paper.specs.Calls.{run, fed_nothing}
use Rattle.laws_state.specs.Runs.{Reaches, here}
use Rattle.laws_state.proofs.Reached.{reaches_on, reaches_run, reaches_state, reaches_length, reaches_counts}
use Rattle.laws_state.specs.Told.{fed}
use Rattle.turns.proofs.feed_all.Goals as goal

pub loop-i-init : goal.loop-i-init
loop-i-init c =
    (zero-le, refl, here)

pub feed_some-t-requires : goal.feed_some-t-requires
feed_some-t-requires c =
    let len_small : length c.args.piece.now < 18446744073709551616 = omega arith in
    let a = c.args in
    let r = c.requires.0 in
    let inv = c.loop-i.invariant in
    let e = c.fed_nothing-f.ensures ∙ ap (λ (s : State). (fed_nothing Accepted s [] []).answer) c.apart.ensures in
    record {
      ready =
          record {
            usable = r.usable;
            two_rows = r.two_rows;
            state_is_ok = reaches_state r.usable inv.2 (ap (λ (f : Fed). state_ok a.g f.state) e ∙ r.state_is_ok);
            fits = record { size = inv.1 ∙ r.fits.size; small = r.fits.small };
          };
      font_whole = c.requires.1;
      inside = omega arith;
      countable =
          omega (
            arith,
            len_small,
            reaches_counts inv.2,
            length-drop c.loop-i.i a.piece.now,
            ap (λ (f : Fed). f.carried) e,
            ap (λ (f : Fed). f.answered) e,
          );
    }

pub loop-i-smaller : goal.loop-i-smaller
loop-i-smaller c =
    omega (arith, c.feed_some-t.ensures.some, c.feed_some-t.ensures.end)

pub loop-i-preserved : goal.loop-i-preserved
loop-i-preserved c =
    let inv = c.loop-i.invariant in
    let t = c.feed_some-t.ensures in
    (t.end, c.feed_some-t.auto.mem ∙ inv.1, reaches_on inv.2 t.reached)

pub shape_of-mem : goal.shape_of-mem
shape_of-mem c =
    c.loop-i.invariant.1

pub shape_of-store : goal.shape_of-store
shape_of-store c =
    reaches_length c.loop-i.invariant.2

pub returns : goal.returns
returns c =
    let a = c.args in
    let inv = c.loop-i.invariant in
    let e = c.fed_nothing-f.ensures ∙ ap (λ (s : State). (fed_nothing Accepted s [] []).answer) c.apart.ensures in
    sym (ap (λ (l : List ℕ). run a.g a.font.now (fed c.loop-i.f c.loop-i.mem c.loop-i.store) l) (drop_of_length-le a.piece.now {i = c.loop-i.i} (omega arith)))
    ∙ sym (reaches_run inv.2)
    ∙ ap (λ (f : Fed). run a.g a.font.now (fed f a.mem.now a.store.now) a.piece.now) e
