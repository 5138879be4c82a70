-- The mesh: "One mesh view holds the node list and the connectivity: two f64 a node, F u32 an element, F the family, 4 or 9." "Element and node numbers start at 0."
use Rattle.std.specs.Prelude.{Bool, false, cond, ◌||◌, List, [], ◌∷◌, ℕ, ◌+◌, ◌*◌, ◌/◌, eqb, ltb, length, get_or, take, drop, replicate, Float}
use Rattle.definition.specs.Lists.{each, over, count_of}
use Rattle.definition.specs.Binary64.{plus0}
use Rattle.definition.specs.Elements.{nodes_of}
use Rattle.definition.specs.Mapping.{first, second}
use Rattle.definition.specs.declared.Point.{Point}
use Rattle.definition.specs.declared.GatheredElement.{GatheredElement}

-- `QuadMeshView2d`, with the family beside: `nodes_rz` and `elements`
pub record Mesh : Type 0 where
  pub family : ℕ
  pub nodes : List Float
  pub elements : List ℕ

-- `num_nodes`, `num_elements`, and the number of points in a list of pairs
abbrev pub pair_count : List Float → ℕ
pair_count l = length l / 2

abbrev pub node_count : Mesh → ℕ
node_count m = pair_count m.nodes

abbrev pub element_count : Mesh → ℕ
element_count m = length m.elements / nodes_of m.family

-- node or point i of a list of pairs
abbrev pub pair_at : List Float → ℕ → Point
pair_at l i = record { x = first l i; y = second l i }

-- `element_nodes`: the part of the connectivity that is element e's row
unfoldable pub element_nodes : Mesh → ℕ → List ℕ
element_nodes m e = take (nodes_of m.family) (drop (nodes_of m.family * e) m.elements)

-- the node at local place j of element e
abbrev pub node_of : Mesh → ℕ → ℕ → ℕ
node_of m e j = get_or (element_nodes m e) j 0

-- `element_coords`: the gathered element
unfoldable pub gathered : Mesh → ℕ → GatheredElement
gathered m e =
    record {
      count = nodes_of m.family;
      xy = over (each (λ j. first m.nodes (node_of m e j) ∷ second m.nodes (node_of m e j) ∷ []) (nodes_of m.family)) (replicate 18 plus0);
    }

-- how many different numbers a list has
unfoldable pub is_in : ℕ → List ℕ → Bool
is_in v [] = false
is_in v (w ∷ ws) = eqb v w || is_in v ws

unfoldable pub distinct : List ℕ → ℕ
distinct [] = 0
distinct (v ∷ vs) = cond (is_in v vs) 0 1 + distinct vs

-- "The count of elements with fewer than F distinct nodes replaces the Rust's warning."
unfoldable pub repeated_count : Mesh → ℕ
repeated_count m = count_of (λ e. ltb (distinct (element_nodes m e)) (nodes_of m.family)) (element_count m)
