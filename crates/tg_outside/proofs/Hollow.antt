-- A struct whose one field takes no memory: its machine value, which is made from nothing.
use mathlib.Core.Path.{refl}
use mathlib.Core.List.{List, [], ◌∷◌}
use seplogic.Ra.Ura.{Ura}
use mir.Syntax.{Sym}
use mir.Val.{Val, vstruct, vcons, vnil}
use base.Logic.{ent, emp}
use types.Logic.{Logic, sem}
use contract.Monad.{fact, fact_i}
use types.Kit.{Item, Seq, prop, by}
use denote.Builtin.{unit}
use denote.RattleType.{RattleType}
use denote.Shadow.{makes_shadow}
use denote.Struct.Struct.{Struct}
use Rattle.std.specs.contracts.marker.PhantomData as marker

-- the value of every such struct
abbrev pub hollow : Val
hollow = vstruct (vcons (vstruct vnil) vnil)

-- the struct of this name with a marker as its one field
abbrev pub HollowRow : Sym → RattleType
HollowRow name = Struct (record { name = name; args = []; types = unit ∷ []; fields = (marker.the_field unit).row ∷ [] })

pub hollow_of_nothing : (name : Sym) {M : Type 1} {𝓤 : Ura M} (𝓛 : Logic 𝓤) → ent 𝓤 (emp 𝓤) (sem 𝓛 ((HollowRow name).own_val (tt, tt) (hollow ∷ [])))
hollow_of_nothing name 𝓛 = makes_shadow 𝓛 ((HollowRow name).own_val (tt, tt) (hollow ∷ [])) (λ vss. (tt, ((λ uss. (tt, tt)), tt))) ((vstruct vnil ∷ [], tt), (refl, ((tt, (refl, tt)), tt)))

-- what is left to show is one fact
pub last_fact : {M : Type 1} {𝓤 : Ura M} {𝓛 : Logic 𝓤} {K : Type 0} {Γ : List (Item 𝓤)} → K → {X : Type 0} → X → Seq K 𝓛 Γ (prop (fact 𝓤 X))
last_fact {𝓤 = 𝓤} step {X} holds = by step (fact_i 𝓤 X _ holds)
