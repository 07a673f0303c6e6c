-- `state_settings::with_setting` meets its contract: each arm is the paper's clause for its key. Assumes nothing.
use Rattle.paper.specs.Settings.{with_setting}
use Rattle.state_settings.proofs.with_setting.Goals as goal

pub returns-in-Charset : goal.returns-in-Charset
unfolding with_setting
returns-in-Charset c =
    rw c.in-Charset.is

pub returns-in-Codes : goal.returns-in-Codes
unfolding with_setting
returns-in-Codes c =
    rw c.in-Codes.is

pub returns-in-Caret : goal.returns-in-Caret
unfolding with_setting
returns-in-Caret c =
    rw c.in-Caret.is

pub returns-in-Brightness : goal.returns-in-Brightness
unfolding with_setting
returns-in-Brightness c =
    rw c.in-Brightness.is

pub returns-in-Reverse : goal.returns-in-Reverse
unfolding with_setting
returns-in-Reverse c =
    rw c.in-Reverse.is

pub returns-in-Speed : goal.returns-in-Speed
unfolding with_setting
returns-in-Speed c =
    rw c.in-Speed.is

pub returns-in-Mixing : goal.returns-in-Mixing
unfolding with_setting
returns-in-Mixing c =
    rw c.in-Mixing.is

pub returns-in-Width : goal.returns-in-Width
unfolding with_setting
returns-in-Width c =
    rw c.in-Width.is

pub returns-in-Write : goal.returns-in-Write
unfolding with_setting
returns-in-Write c =
    rw c.in-Write.is

pub returns-in-Switch : goal.returns-in-Switch
unfolding with_setting
returns-in-Switch c =
    rw c.in-Switch.is
