-- What a download that has come whole and an erase come to, by whether a window is held. Assumes nothing.
use Rattle.std.specs.Prelude.{Bool, cond, not, ◌&&◌, ◌||◌, List, ℕ}
use Rattle.paper.specs.declared.Columns.{Columns}
use Rattle.paper.specs.declared.Outcome.{Outcome}
use Rattle.paper.specs.declared.Outcome.TheVariants.{Carried, OutOfDomain, WindowHeld, Dropped, NotStored}
use Rattle.paper.specs.Numbers.{is_carried}
use Rattle.paper.specs.Downloads.{is_stored, is_dropped, put_in, erased}
use Rattle.paper.specs.Carry.{erasable}

-- the paper's `noted` and `defineAnswer`, and the downloads after a download has come whole: `held` for the hold
abbrev pub noted_if : Bool → List ℕ → ℕ → Bool → Bool
noted_if held ds code n = n || (not held && is_dropped ds code)

abbrev pub answer_if : Bool → Bool → Outcome
answer_if held dropped = cond held WindowHeld (cond dropped Dropped Carried)

abbrev pub stored_if : Bool → List ℕ → ℕ → Columns → List ℕ
stored_if held ds code c = cond held ds (put_in ds code c)

-- what an erase is answered, and the downloads that it leaves
abbrev pub erase_answer : Bool → List ℕ → ℕ → ℕ → Outcome
erase_answer held ds a code =
    cond held WindowHeld (cond (not (erasable a code)) OutOfDomain (cond (is_stored ds code) Carried NotStored))

abbrev pub erased_if : Bool → List ℕ → ℕ → ℕ → List ℕ
erased_if held ds a code = cond (is_carried (erase_answer held ds a code)) (erased ds code) ds
