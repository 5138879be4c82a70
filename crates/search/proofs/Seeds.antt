-- Where no step is allowed the ends are the seeds, and the seeds of a face are references of the element. Assumes nothing.
use mathlib.Core.Path.{◌≡◌, refl}
use mathlib.Core.List.{[], ◌∷◌}
use Prim.Native.Nat.{ℕ}
use Rattle.std.specs.Prelude.{map}
use Rattle.std.specs.List.{fold}
use Rattle.definition.specs.Binary64.{plus0, one, minus_one}
use Rattle.definition.specs.Mapping.{point_at}
use Rattle.definition.specs.Search.{stepped, walked, placed, nearer, best_of, reference, element_seeds, element_best, face_point, face_seeds, face_best}
use Rattle.definition.specs.declared.Best.{Best}
use Rattle.definition.specs.declared.Point.{Point}
use Rattle.definition.specs.declared.Reference.{Reference}
use Rattle.definition.specs.declared.GatheredElement.{GatheredElement}
use Rattle.search.specs.Places.{on_face}

module _ (e : GatheredElement) (t : Point) where
  -- the element search, from the places of its seeds
  pub element_at_seeds : fold nearer (placed (point_at e) t (reference plus0 plus0)) (map (placed (point_at e) t) element_seeds) ≡ element_best e t 0
  unfolding element_best best_of element_seeds walked stepped
  element_at_seeds = refl

  -- the search of face f, from the places of its middle and its ends
  pub face_at_seeds : (f : ℕ) (middle low high : Reference) → face_point e f plus0 ≡ point_at e middle → face_point e f minus_one ≡ point_at e low → face_point e f one ≡ point_at e high →
      (let place : Reference → Best Reference = placed (point_at e) t in
      fold nearer (on_face plus0 (place middle)) (on_face minus_one (place low) ∷ on_face plus0 (place middle) ∷ on_face one (place high) ∷ []) ≡ face_best e f t 0)
  unfolding face_best best_of face_seeds walked stepped placed
  face_at_seeds f middle low high m l h = rw (m, l, h)
