-- Names to put on an `unfolding` line, each for a group of definitions that a computed row has to open. They say nothing of themselves.
use lib.Count.{count_trailing_zeros}
use lib.Ieee.{add, sub, neg, mul, div, lt, le, eq, round, sum, units, odd, size, span, climb, is_nan, of_bits, of_fields, to_bits}
use Rattle.definition.specs.Lists.{each, over, every, count_of}
use Rattle.definition.specs.Binary64.{squared_distance, max_of, min_of, clamp_of, magnitude}
use Rattle.definition.specs.Root.{isqrt, root_units, root_of}
use Rattle.definition.specs.Elements.{shape4, shape9, grad_ref4, grad_ref9, lagrange_low, lagrange_mid, lagrange_high, slope_low, slope_mid, slope_high, nodes_of, shape_of, grad_ref_of, face_reference_of}
use Rattle.definition.specs.Mapping.{map_point, jacobian_of, det_j, inv_j, grad_phys, face_tangent, point_at, jacobian_at}
use Rattle.definition.specs.Search.{stepped, walked, placed, nearer, best_of, gradient_xi, gradient_eta, hessian00, hessian01, hessian10, hessian11, hessian_det, next_reference, ended_element, element_step, element_seeds, element_best, closest_reference_point, face_point, tangent_square, next_s, ended_face, face_step, face_seeds, face_best, closest_face_point}
use Rattle.definition.specs.Mesh.{element_nodes, gathered, is_in, distinct, repeated_count}
use Rattle.definition.specs.Choice.{pick, point_answer}
use Rattle.definition.specs.Questions.{asked, node_numbers}
use Rattle.definition.specs.Query.{query_room, query_questions, inside_count, queried, answers_over}
use Rattle.definition.specs.Rows.{kept, point_triplets, basis_at, strain_entry, material_of, four_terms, product_of, strain_to_local, stress_to_global, rotated, oriented_material, stress_entry}
use Rattle.definition.specs.Operators.{operated, triplets_over, triplet_room, operator_of, interpolation_questions, interpolation, strain_questions, strain, stress_questions, stress}
use Rattle.definition.specs.Job.{mark_of, mark_at, record_bytes, little, pair_bits, row_of, taken, record_questions, read_from, read_job, own_lists, digits, decimal_from, decimal, hexadecimal, line, refusal_line, counts_line, point_line, listing}

-- binary64 and lists
unfoldable pub arithmetic : Unit {0}
unfolding add sub neg mul div lt le eq round sum units odd size span climb count_trailing_zeros is_nan of_bits of_fields to_bits squared_distance max_of min_of clamp_of magnitude each over every count_of
arithmetic = tt

-- elements and the map of a gathered element
unfoldable pub mapping : Unit {0}
unfolding arithmetic shape4 shape9 grad_ref4 grad_ref9 lagrange_low lagrange_mid lagrange_high slope_low slope_mid slope_high nodes_of shape_of grad_ref_of face_reference_of map_point jacobian_of det_j inv_j grad_phys face_tangent point_at jacobian_at element_nodes gathered
mapping = tt

-- the searches, their roots and the choice
unfoldable pub searching : Unit {0}
unfolding mapping isqrt root_units root_of stepped walked placed nearer best_of gradient_xi gradient_eta hessian00 hessian01 hessian10 hessian11 hessian_det next_reference ended_element element_step element_seeds element_best closest_reference_point face_point tangent_square next_s ended_face face_step face_seeds face_best closest_face_point pick point_answer
searching = tt

-- the questions and what a query answers
unfoldable pub querying : Unit {0}
unfolding searching is_in distinct repeated_count asked node_numbers query_room query_questions inside_count queried answers_over
querying = tt

-- the operators
unfoldable pub operating : Unit {0}
unfolding mapping asked node_numbers kept point_triplets basis_at strain_entry material_of four_terms product_of strain_to_local stress_to_global rotated oriented_material stress_entry operated triplets_over triplet_room operator_of interpolation_questions interpolation strain_questions strain stress_questions stress
operating = tt

-- job files and listings
unfoldable pub listing_of_jobs : Unit {0}
unfolding querying mark_of mark_at record_bytes little pair_bits row_of taken record_questions read_from read_job own_lists digits decimal_from decimal hexadecimal line refusal_line counts_line point_line listing
listing_of_jobs = tt
