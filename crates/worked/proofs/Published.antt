-- Values of the published Rust, computed by the definitions: searches on skew elements and a stress operator with a rotated material, at numbers where every operation rounds.
-- They hold the order of the operations. The Rust was run unchanged on the same inputs; docs/DECISIONS.md says how. Assumes nothing.
use mathlib.Core.Path.{◌≡◌, refl}
use mathlib.Core.Bool.{true, false}
use mathlib.Core.List.{List, [], ◌∷◌, ◌++◌}
use Prim.Native.Nat.{ℕ}
use lib.ListN.{replicate}
use lib.Ieee.{Float, binary64, round}
use Rattle.definition.specs.Lists.{each}
use Rattle.definition.specs.Elements.{shape_of}
use Rattle.definition.specs.Mapping.{inv_j, point_at, jacobian_at}
use Rattle.definition.specs.Search.{reference, element_step, face_step, closest_face_point}
use Rattle.definition.specs.Mesh.{Mesh, gathered}
use Rattle.definition.specs.Rows.{basis_at}
use Rattle.definition.specs.Operators.{StressCall, TripletLists, operated, triplet_lists, stress}
use Rattle.definition.specs.declared.Reference.{Reference}
use Rattle.definition.specs.declared.Step.TheVariants.{More}
use Rattle.definition.specs.declared.Structural2dFormulation.TheVariants.{Axisymmetric}
use Rattle.definition.proofs.Computing.{mapping, searching, operating}
use Rattle.definition.proofs.Written.{bits, at}

-- n tenths, and n tenths below zero, each the nearest binary64
abbrev tenths : ℕ → Float
tenths n = round binary64 false n 10

abbrev below : ℕ → Float
below n = round binary64 true n 10

abbrev corners : List Float
corners = tenths 1 ∷ tenths 2 ∷ tenths 23 ∷ below 1 ∷ tenths 21 ∷ tenths 19 ∷ below 3 ∷ tenths 17 ∷ []

abbrev skew4 : Mesh
skew4 = record { family = 4; nodes = corners; elements = 0 ∷ 1 ∷ 2 ∷ 3 ∷ [] }

abbrev skew9 : Mesh
skew9 =
    record {
      family = 9;
      nodes = corners ++ (tenths 12 ∷ tenths 3 ∷ tenths 24 ∷ tenths 9 ∷ tenths 9 ∷ tenths 16 ∷ below 2 ∷ tenths 9 ∷ tenths 11 ∷ tenths 8 ∷ []);
      elements = 0 ∷ 1 ∷ 2 ∷ 3 ∷ 4 ∷ 5 ∷ 6 ∷ 7 ∷ 8 ∷ [];
    }

-- The Rust's best with one step a seed is, at these targets, the step from the first seed at (0, 0) and from s = 0.

element4_step : element_step (gathered skew4 0) (at (tenths 11) (tenths 7)) (reference (tenths 0) (tenths 0)) ≡ More (reference (bits 0x3f846dce3459607a) (bits 0xbfd0705bee1feb94))
unfolding searching
element4_step = refl

element9_step : element_step (gathered skew9 0) (at (tenths 11) (tenths 7)) (reference (tenths 0) (tenths 0)) ≡ More (reference (bits 0xbf922d719c060f28) (bits 0xbfc3b13b13b13b18))
unfolding searching
element9_step = refl

face9_step : face_step (gathered skew9 0) 2 (at (tenths 5) (tenths 18)) (tenths 0) ≡ More (bits 0x3fd44daec944daec)
unfolding searching
face9_step = refl

-- the element of family 9 at (0.3, -0.6): shape numbers, point, Jacobian, its determinant and inverse, and the physical gradients
abbrev inside : Reference
inside = record { xi = tenths 3; eta = below 6 }

shape9_values : shape_of 9 (tenths 3) (below 6)
    ≡ bits 0xbfa9ce075f6fd21f ∷ bits 0x3fb7f62b6ae7d567 ∷ bits 0xbf97f62b6ae7d567 ∷ bits 0x3f89ce075f6fd21f ∷
    bits 0x3fdbf487fcb923a3 ∷ bits 0x3fbff2e48e8a71df ∷ bits 0xbfbbf487fcb923a3 ∷ bits 0xbfb13404ea4a8c15 ∷
    bits 0x3fe2a305532617c2 ∷ []
unfolding mapping
shape9_values = refl

point9 : point_at (gathered skew9 0) inside ≡ at (bits 0x3ff896bb98c7e282) (bits 0x3fdb9f559b3d07c9)
unfolding mapping
point9 = refl

jacobian9 : jacobian_at (gathered skew9 0) inside
    ≡ record { xxi = bits 0x3ff374bc6a7ef9da; xeta = bits 0xbf95810624dd2f40; yxi = bits 0xbfc0e5604189374e; yeta = bits 0x3fe19ba5e353f7d0 }
unfolding mapping
jacobian9 = refl

inverse9 : inv_j (jacobian_at (gathered skew9 0) inside)
    ≡ record { xix = bits 0x3fea6cde32dec603; xiy = bits 0x3fa022d7788184ff; etax = bits 0x3fc95b5298cb87b2; etay = bits 0x3ffd32db3b9508d6 }
unfolding mapping
inverse9 = refl

gradient9 : (basis_at (gathered skew9 0) inside).gradient
    ≡ bits 0xbfacdfd89c067c34 ∷ bits 0x3fca97a089275e10 ∷
    bits 0x3fd1933967f60789 ∷ bits 0xbfd847257899e923 ∷
    bits 0xbfb5489486a09880 ∷ bits 0xbfa3c4df05bd663f ∷
    bits 0x3f966cb090102791 ∷ bits 0x3f946562466645a9 ∷
    bits 0xbfdbe9788ee5290a ∷ bits 0xbffd5f82415594cc ∷
    bits 0x3fde06b5a4b02836 ∷ bits 0x3fdc5cd6e55e899c ∷
    bits 0x3fa5364954e7b3bd ∷ bits 0xbfc4f7571d6e4303 ∷
    bits 0xbfc0b984e07f6ab4 ∷ bits 0xbfcdf2d797faa09e ∷
    bits 0xbfb9cca02fd9528c ∷ bits 0x3fffb0f91ac0ef7a ∷ []
unfolding operating
gradient9 = refl

-- the top face of the element of family 9, its whole search with two steps a seed
face9 : closest_face_point (gathered skew9 0) 0 2 (at (tenths 13) (tenths 14)) 2
    ≡ record {
      element_index = 0;
      local_face = 2;
      s = bits 0xbfd2fc73e4ad19a9;
      point = at (bits 0x3ff418892b00bae6) (bits 0x3ffa5b34bf6c2160);
      distance = bits 0x3fd012e47a5de62b;
    }
unfolding searching
face9 = refl

-- the stress operator at (0.3, -0.6), axisymmetric, with a material that is turned by 0.7: c and s are the Rust's own cosine and sine
abbrev stress_call : StressCall
stress_call =
    record {
      base = record { mesh = skew4; element_indices = 0 ∷ []; reference_points = tenths 3 ∷ below 6 ∷ [] };
      formulation = Axisymmetric;
      material_ids = 0 ∷ [];
      material_table =
          tenths 5 ∷ tenths 22 ∷ tenths 16 ∷ tenths 10 ∷
          tenths 4 ∷ tenths 21 ∷ tenths 15 ∷ tenths 9 ∷
          tenths 3 ∷ tenths 20 ∷ tenths 14 ∷ tenths 8 ∷
          tenths 2 ∷ tenths 19 ∷ tenths 13 ∷ tenths 7 ∷ [];
      pairs_given = true;
      pairs = bits 0x3fe87996529f9d93 ∷ bits 0x3fe49d6e694619b8 ∷ [];
    }

abbrev lent : TripletLists
lent = record { rows = replicate 32 0; columns = replicate 32 0; values = replicate 32 (tenths 0) }

stressed : triplet_lists (stress stress_call lent) (operated (stress stress_call lent)) lent
    ≡ record {
      rows = replicate 8 0 ++ replicate 8 1 ++ replicate 8 2 ++ replicate 8 3;
      columns = each (λ i. 0 ∷ 1 ∷ 2 ∷ 3 ∷ 4 ∷ 5 ∷ 6 ∷ 7 ∷ []) 4;
      values =
          bits 0x3fa55af555aae5b7 ∷ bits 0xbfc2c7c88ab75a23 ∷ bits 0x3fb6f7ba036ceda2 ∷ bits 0xbfc3dc00f769266f ∷
          bits 0x3fa35c1d34432b89 ∷ bits 0x3fca6e137be01eda ∷ bits 0x3f9328d37ecf708e ∷ bits 0x3fb86b6c0c80c36f ∷
          bits 0x3fe6e2ff3daac832 ∷ bits 0xbfe0a9496f588890 ∷ bits 0x3ff901065afdb74e ∷ bits 0xbffc117d22e5cf49 ∷
          bits 0xbfcbcb6ffec2c3ce ∷ bits 0x3ff68e9c38dd3c13 ∷ bits 0xbfc301cdc131c91b ∷ bits 0x3febaf0b4369aefb ∷
          bits 0x3fd6db94a525cdda ∷ bits 0xbfd00339d3c1efba ∷ bits 0x3fe8f9e6e50b68a3 ∷ bits 0xbfebe3e8d92e3954 ∷
          bits 0xbfbcd9359773c0bc ∷ bits 0x3fe631827830c9a3 ∷ bits 0xbfb392cfa3111e4e ∷ bits 0x3fdb680695bccf1d ∷
          bits 0x3fb0b6c5d67416d6 ∷ bits 0xbfaef8b8c53c7fb4 ∷ bits 0x3fc23d6e7177add8 ∷ bits 0xbfc5406591c2b350 ∷
          bits 0xbf8d14bba0f7a42c ∷ bits 0x3fc23ebeaa0dcecd ∷ bits 0xbf858464c58b3eb3 ∷ bits 0x3fb57faa320808df ∷ [];
    }
unfolding operating
stressed = refl
