-- The elements and the faces of a mesh, each with what its search finds. Assumes nothing.
use mathlib.Core.Path.{◌≡◌}
use mathlib.Core.List.{[], ◌∷◌}
use Prim.Native.Nat.{ℕ, zero, suc, ◌+◌, ◌*◌, ◌/◌, ◌%◌, ◌<◌}
use native.Mathlib.Omega.{arith}
use lib.ListN.{get_or}
use lib.Ieee.{Float}
use Rattle.definition.specs.Mesh.{Mesh, gathered}
use Rattle.definition.specs.Search.{element_best, face_best}
use Rattle.definition.specs.declared.Best.{Best}
use Rattle.definition.specs.declared.Point.{Point}
use Rattle.definition.specs.declared.Reference.{Reference}
use Rattle.search.specs.declared.places.ElementBests.{ElementBests}

module _ (m : Mesh) (limit : ℕ) (t : Point) where
  abbrev pub element_at : ℕ → Best Reference
  element_at i = element_best (gathered m i) t limit

  -- face 4 × e + f is face f of element e
  abbrev pub face_at : ℕ → Best Float
  face_at k = face_best (gathered m (k / 4)) (k % 4) t limit

  -- what the searches of element i and of its faces find
  abbrev pub IsFound : ℕ → ElementBests → Type 0
  IsFound i found =
      (let e = gathered m i in
      (found.element ≡ element_best e t limit) × (found.faces ≡ face_best e 0 t limit ∷ face_best e 1 t limit ∷ face_best e 2 t limit ∷ face_best e 3 t limit ∷ []))

  -- face f of element i is number 4 × i + f
  pub face_found : (i f : ℕ) (found : ElementBests) (d : Best Float) → f < 4 → IsFound i found → get_or found.faces f d ≡ face_at (4 * i + f)
  face_found i f found d l h = rw h.1 (by f l)
    where
      at : (f : ℕ) → f < 4 → face_best (gathered m i) f t limit ≡ face_at (4 * i + f)
      at f l =
          let e : (4 * i + f) / 4 ≡ i = omega arith in
          let r : (4 * i + f) % 4 ≡ f = omega arith in
          rw (e, r)

      by : (f : ℕ) → f < 4 → get_or (face_best (gathered m i) 0 t limit ∷ face_best (gathered m i) 1 t limit ∷ face_best (gathered m i) 2 t limit ∷ face_best (gathered m i) 3 t limit ∷ []) f d ≡ face_at (4 * i + f)
      by zero l = at 0 l
      by (suc zero) l = at 1 l
      by (suc (suc zero)) l = at 2 l
      by (suc (suc (suc zero))) l = at 3 l
      by (suc (suc (suc (suc f)))) l = absurd (omega arith)
