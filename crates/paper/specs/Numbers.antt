-- Document 01, "Numbers given back": the number of each refusal and of each outcome, and what an outcome counts as.
-- When each is given stands with the rule that gives it: refusals in Calls, outcomes in Reading and Carry. Assumes nothing.
use Rattle.std.specs.Prelude.{ℕ, Bool, cond, leb, eqb}
use Rattle.paper.specs.declared.Outcome.{Outcome}
use Rattle.paper.specs.declared.Outcome.TheVariants.{Unfinished, Carried, OutOfDomain, Cancelled, Unknown, NotCarried, WindowHeld, TooLarge, NotDefined, Dropped, NotStored}
use Rattle.paper.specs.declared.Refusal.{Refusal}
use Rattle.paper.specs.declared.Refusal.TheVariants.{Accepted, MemoryLength, FontLength, GlassLength, NoSuchWindow, UndefinedWindow, HeldAlready, NotHeld, BrokenState, NoSuchAddress, NoTelegram}

-- "Refused calls": 0 stands for a call that was not refused; by document 02, order 4, also 20 and 21
unfoldable pub refusal_number : Refusal → ℕ
refusal_number Accepted = 0
refusal_number MemoryLength = 1
refusal_number FontLength = 2
refusal_number GlassLength = 3
refusal_number NoSuchWindow = 4
refusal_number UndefinedWindow = 5
refusal_number HeldAlready = 6
refusal_number NotHeld = 7
refusal_number BrokenState = 8
refusal_number NoSuchAddress = 20
refusal_number NoTelegram = 21

-- "Outcomes in the stream": "9 when that byte finished nothing, 10 when it finished a command that was carried out; else 11 to
-- 17", and by document 02, order 2, 18 and 19
unfoldable pub outcome_number : Outcome → ℕ
outcome_number Unfinished = 9
outcome_number Carried = 10
outcome_number OutOfDomain = 11
outcome_number Cancelled = 12
outcome_number Unknown = 13
outcome_number NotCarried = 14
outcome_number WindowHeld = 15
outcome_number TooLarge = 16
outcome_number NotDefined = 17
outcome_number Dropped = 18
outcome_number NotStored = 19

-- a command that was carried out
abbrev pub is_carried : Outcome → Bool
is_carried o = eqb (outcome_number o) 10

-- "two counts: commands carried out, and commands answered 11 to 17": what an outcome adds to the first
unfoldable pub carried_by : Outcome → ℕ
carried_by o = cond (is_carried o) 1 0

-- and to the second, to which "18 and 19 belong" too
unfoldable pub answered_by : Outcome → ℕ
answered_by o = cond (leb 11 (outcome_number o)) 1 0
