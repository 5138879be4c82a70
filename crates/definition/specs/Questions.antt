-- "A call asks those that concern it. The first "no" returns the number and a place: the element for 8, the point for 14 to 17, the record for a job file's own questions, else 0."
use Rattle.std.specs.Prelude.{Result, Ok, Err, Bool, not, cond, ◌&&◌, ◌||◌, List, [], ◌∷◌, ℕ, ◌/◌, ◌%◌, leb, ltb, eqb, length, Float}
use Rattle.std.specs.Float.Ieee.{le}
use Rattle.definition.specs.Lists.{each, every}
use Rattle.definition.specs.Binary64.{plus0, epsilon}
use Rattle.definition.specs.Elements.{nodes_of}
use Rattle.definition.specs.Mapping.{det_j, point_at, jacobian_at}
use Rattle.definition.specs.Mesh.{Mesh, node_count, element_count, pair_count, node_of}
use Rattle.definition.specs.declared.Reference.{Reference}
use Rattle.definition.specs.declared.GatheredElement.{GatheredElement}
use Rattle.definition.specs.declared.Refusal.{Refusal}
use Rattle.definition.specs.declared.NumberedRefusal.{NumberedRefusal}
use Rattle.definition.specs.declared.QuestionKind.{QuestionKind}
use Rattle.definition.specs.declared.QuestionKind.TheVariants.{FamilyKnown, NodesWhole, ElementsWhole, IterationsFew, PointsWhole, MaterialsWhole, Room, NodeNumbers, SomeNode, SomeElement, NumbersMatch, MaterialsMatch, PairsMatch, ElementKnown, MaterialKnown, NotInverted, OffAxis, MarkKnown, HeadFirst, BodyWhole, WithinLimits}
use Rattle.definition.specs.declared.Structural2dFormulation.{Structural2dFormulation}
use Rattle.definition.specs.declared.Structural2dFormulation.TheVariants.{Axisymmetric, PlaneStrain}

-- ---- how questions are put

pub record Question : Type 0 where
  pub number : ℕ
  pub place : ℕ
  pub holds : Bool

abbrev pub ask : ℕ → ℕ → Bool → Question
ask n p ok = record { number = n; place = p; holds = ok }

-- what a call comes to: the value that it answers, or the number and the place of the first question whose answer is no
pub data Outcome (A : Type 0) : Type 0 where
  accepted : A → Outcome A
  refused : (number place : ℕ) → Outcome A

unfoldable pub asked : {A : Type 0} → List Question → A → Outcome A
asked [] v = accepted v
asked (q ∷ qs) v = cond q.holds (asked qs v) (refused q.number q.place)

-- an outcome, and what comes after an acceptance: the first no is the answer
abbrev pub onward : {A B : Type 0} → Outcome A → Outcome B → Outcome B
onward (accepted v) o = o
onward (refused number place) o = refused number place

-- the number that document 01 gives a question
abbrev pub number_of : QuestionKind → ℕ
number_of FamilyKnown = 1
number_of NodesWhole = 2
number_of ElementsWhole = 3
number_of IterationsFew = 4
number_of PointsWhole = 5
number_of MaterialsWhole = 6
number_of Room = 7
number_of NodeNumbers = 8
number_of SomeNode = 9
number_of SomeElement = 10
number_of NumbersMatch = 11
number_of MaterialsMatch = 12
number_of PairsMatch = 13
number_of ElementKnown = 14
number_of MaterialKnown = 15
number_of NotInverted = 16
number_of OffAxis = 17
number_of MarkKnown = 18
number_of HeadFirst = 19
number_of BodyWhole = 20
number_of WithinLimits = 21

-- what a call returns, in document 01's words
abbrev pub outcome : {A : Type 0} → Result A Refusal → Outcome A
outcome (Ok v) = accepted v
outcome (Err r) = refused (number_of r.question) r.place

-- the same of a result that names the question by its number
abbrev pub numbered_outcome : {A : Type 0} → Result A NumberedRefusal → Outcome A
numbered_outcome (Ok v) = accepted v
numbered_outcome (Err r) = refused r.question r.place

-- ---- the questions, each with its number and its place

-- whole records of `size` numbers, at most 1,000,000 of them
abbrev pub whole : ℕ → ℕ → Bool
whole size len = eqb (len % size) 0 && leb (len / size) 1000000

-- "Is the family 4 or 9? (1)"
abbrev pub is_family : ℕ → Bool
is_family family = eqb family 4 || eqb family 9

abbrev pub family_known : Mesh → Question
family_known m = ask 1 0 (is_family m.family)

-- "Is the node list's length even, at most 1,000,000 nodes? (2)"
abbrev pub nodes_whole : Mesh → Question
nodes_whole m = ask 2 0 (whole 2 (length m.nodes))

-- "Is the connectivity whole elements, at most 1,000,000? (3)"
abbrev pub elements_whole : Mesh → Question
elements_whole m = ask 3 0 (whole (nodes_of m.family) (length m.elements))

-- "Iterations at most 1,000? (4)"
abbrev pub iterations_few : ℕ → Question
iterations_few iterations = ask 4 0 (leb iterations 1000)

-- "Are point pairs whole, and points and element numbers at most 1,000,000 each? (5)"
abbrev pub points_whole : List Float → Question
points_whole points = ask 5 0 (whole 2 (length points))

abbrev pub references_whole : List Float → List ℕ → Question
references_whole references elements = ask 5 0 (whole 2 (length references) && leb (length elements) 1000000)

-- "Is the material table whole sixteens, at most 1,000,000 materials, and, if pairs are given, their list even? (6)"
abbrev pub materials_whole : List Float → Bool → List Float → Question
materials_whole table given pairs = ask 6 0 (whole 16 (length table) && (not given || eqb (length pairs % 2) 0))

-- "Does each output hold the worst case? (7)"
abbrev pub room : Bool → Question
room enough = ask 7 0 enough

-- "Is every node number below the node count? (8)", of one element after the other
unfoldable pub node_numbers : Mesh → List Question
node_numbers m = each (λ e. ask 8 e (every (λ j. ltb (node_of m e j) (node_count m)) (nodes_of m.family)) ∷ []) (element_count m)

-- "For the query: any node? (9) Any element? (10)"
abbrev pub some_node : Mesh → Question
some_node m = ask 9 0 (ltb 0 (node_count m))

abbrev pub some_element : Mesh → Question
some_element m = ask 10 0 (ltb 0 (element_count m))

-- "For operators: as many element numbers as reference points? (11)"
abbrev pub numbers_match : List ℕ → List Float → Question
numbers_match elements references = ask 11 0 (eqb (length elements) (pair_count references))

-- "As many material numbers as elements? (12)"
abbrev pub materials_match : List ℕ → Mesh → Question
materials_match materials m = ask 12 0 (eqb (length materials) (element_count m))

-- "If pairs are given, as many pairs as elements? (13)"
abbrev pub pairs_match : Bool → List Float → Mesh → Question
pairs_match given pairs m = ask 13 0 (not given || eqb (pair_count pairs) (element_count m))

-- "Then for each point in turn: element number in the mesh? (14)"
abbrev pub element_known : Mesh → ℕ → ℕ → Question
element_known m p e = ask 14 p (ltb e (element_count m))

-- "Material number in the table? (15)"
abbrev pub material_known : List Float → ℕ → ℕ → Question
material_known table p material = ask 15 p (ltb material (length table / 16))

-- "For strain and stress: is the Jacobian determinant not ≤ 0? (16) .. NaN passes both."
abbrev pub not_inverted : GatheredElement → ℕ → Reference → Question
not_inverted e p r = ask 16 p (not (le (det_j (jacobian_at e r)) plus0))

-- "Axisymmetric: is the radius not ≤ 2^-52? (17) NaN passes both."
abbrev pub off_axis : Structural2dFormulation → GatheredElement → ℕ → Reference → List Question
off_axis Axisymmetric e p r = ask 17 p (not (le (point_at e r).x epsilon)) ∷ []
off_axis (PlaneStrain thickness) e p r = []
