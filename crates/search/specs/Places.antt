-- A place of an element as one of a face.
use Rattle.std.specs.Prelude.{Float}
use Rattle.definition.specs.declared.Best.{Best}
use Rattle.definition.specs.declared.Reference.{Reference}

-- a place of the element, at the coordinate s of a face
abbrev pub on_face : Float → Best Reference → Best Float
on_face s b = record { at = s; point = b.point; square = b.square }
