-- What characters are drawn from, in the paper's words. Assumes nothing.
use Rattle.paper.specs.Downloads.{faces}
use Rattle.paper.specs.Downloads as paper
use Rattle.glyphs.specs.declared.Faces.{Faces}

abbrev pub faces_of : Faces → paper.Faces
faces_of f = faces f.font.now f.own.now
