-- Which case is half read, for the two that a turn asks after. Assumes nothing.
use Rattle.std.specs.Prelude.{Bool, eqb}
use denote.Enum.Declared.{tag_of}
use Rattle.paper.specs.contracts.Half.{the_type}
use Rattle.paper.specs.declared.Half.{Half}
use Rattle.paper.specs.declared.Half.TheVariants.{Nothing, ImageData}

-- two of the same case, whatever they hold
abbrev same_case : Half → Half → Bool
same_case h p = eqb (tag_of the_type h) (tag_of the_type p)

-- nothing is half read
unfoldable pub is_nothing : Half → Bool
is_nothing h = same_case h Nothing

-- an image's data
unfoldable pub is_image : Half → Bool
is_image h = same_case h (ImageData 0 0 0 0)
