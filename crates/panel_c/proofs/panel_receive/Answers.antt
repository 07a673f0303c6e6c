-- `panel_receive` meets its contract: it is `face_link`'s. Assumes nothing.
use Rattle.panel_c.proofs.panel_receive.Goals as goal

pub returns : goal.returns
returns c =
    c.receive.ensures
