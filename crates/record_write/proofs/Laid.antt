-- A state's parts, put one after the other, are the state's bytes; other spans change their end alone. Assumes nothing.
use Prim.Native.Nat.{ℕ, ◌+◌, ◌-◌}
use Rattle.std.specs.Prelude.{Option, None, Some}
use mathlib.Core.Path.{◌≡◌, refl, sym, ap, ◌∙◌}
use mathlib.Core.List.{List, ◌++◌, append_assoc}
use lib.ListN.{length, take, length-append, length-take}
use lib.Seq.{take_all}
use native.Mathlib.Omega.{arith}
use native.Mathlib.Nat.{zero-add, add_assoc}
use Rattle.paper.specs.declared.Settings.{Settings}
use Rattle.paper.specs.declared.Cursor.{Cursor}
use Rattle.paper.specs.declared.Window.{Window}
use Rattle.paper.specs.declared.Span.{Span}
use Rattle.paper.specs.declared.Half.{Half}
use Rattle.paper.specs.declared.Held.{Held}
use Rattle.paper.specs.declared.State.{State}
use Rattle.paper.specs.Downloads.{store_length}
use Rattle.paper.specs.Settings.{make_state, with_spans}
use Rattle.record_bytes.specs.Bytes.{hold_length, at_base, state_length, record_length, hold_bytes, windows_bytes, spans_into, tail_bytes, encoded, record_of}
use Rattle.record_write.specs.Parts.{Put}

-- ---- part by part

-- the bytes of a part are known
pub known : {at : ℕ} {l r b x : List ℕ} → b ≡ x → Put at l r b → Put at l r x
known e p = rw e at p

-- a part, and what stands right after it
pub after : {at next : ℕ} {l m r a b : List ℕ} → at + length a ≡ next → Put at l m a → Put next m r b → Put at l r (a ++ b)
after {at} {next} {l} {m} {r} {a} {b} e p q =
    record { said = rw (length-append, ← add_assoc, e, q.said, ← e, p.said, append_assoc) }

-- all of them
pub whole : {l r x : List ℕ} (n : ℕ) → length r ≡ n → length x ≡ n → Put 0 l r x → r ≡ x
whole {l} {r} {x} n e f p = sym (take_all (length x) r (omega arith)) ∙ rw zero-add at p.said

-- a part that ends them: what was before it, and the part
pub ended : {at : ℕ} {l r x : List ℕ} → length r ≡ at + length x → Put at l r x → r ≡ take at l ++ x
ended {at} {l} {r} {x} e p = sym (take_all (at + length x) r (omega arith)) ∙ p.said

-- and back
pub ends : {at : ℕ} {l r x : List ℕ} → r ≡ take at l ++ x → Put at l r x
ends {at} {l} {r} {x} e =
    let n : length r ≡ length (take at l) + length x = ap length e ∙ length-append (take at l) x in
    record { said = take_all (at + length x) r (omega (arith, n, length-take at l)) ∙ e }

-- ---- lengths

pub hold_length_lem : (h : Option Held) → length (hold_bytes h) ≡ hold_length
unfolding hold_bytes
hold_length_lem None = refl
hold_length_lem (Some x) = refl

tail_length : (s : State) → length (tail_bytes s) ≡ state_length - at_base
unfolding tail_bytes
tail_length s = rw (length-append (hold_bytes s.hold), hold_length_lem s.hold)

pub encoded-length : (s : State) → length (encoded s) ≡ state_length
unfolding encoded windows_bytes
encoded-length s = rw (tail_length s)

pub record_length_lem : (s : State) (ds : List ℕ) → length ds ≡ store_length → length (record_of s ds) ≡ record_length
record_length_lem s ds e = rw (length-append (encoded s) ds, encoded-length s, e)

-- ---- the spans

-- what stands after the hold is found by taking the hold apart
spans_last : (v : Settings) (ws : List Window) (k : Cursor) (n : ℕ) (h : Option Held) (p : Half) (ps qs : List Span)
    → spans_into (encoded (make_state v ws k n h p ps)) qs ≡ encoded (make_state v ws k n h p qs)
unfolding encoded windows_bytes tail_bytes hold_bytes
spans_last v ws k n None p ps qs = refl
spans_last v ws k n (Some x) p ps qs = refl

-- a state's bytes with other spans are those of the state with these
pub spans_into_lem : (s : State) (ps : List Span) → spans_into (encoded s) ps ≡ encoded (with_spans s ps)
spans_into_lem s ps = spans_last s.settings s.windows s.base s.selected s.hold s.half s.spans ps
