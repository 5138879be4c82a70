-- What a walk knows of the formulation's type: an enum that is passed as it is. Assumes nothing.
use denote.Enum.Laws as EL
use Rattle.definition.specs.contracts.Structural2dFormulation as F
use Rattle.definition.proofs.Structural2dFormulation.TheLaws as F'
use Rattle.walks.proofs.Known.{Known}

abbrev pub formulation : Known F.the_row
formulation = record { vals = EL.vals F.the_type F'.the_laws; tells = EL.tells F.the_type F'.the_laws; lawful = λ 𝓛. EL.lawful F.the_type F'.the_laws 𝓛 tt }
