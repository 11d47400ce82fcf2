-- What a graph answers to a text is what becomes of it.
use Rattle.std.proofs.Common.{◌≡◌, ◌↔◌, ◌<◌, ◌⊎◌, inl, inr, ℕ, List, [], ◌∷◌, ◌++◌, Option, Some, None, Result, Ok, Err, IfOk, IfSome, OnErr, refl, sym, ◌∙◌, ap, subst, length, arith}
use Rattle.std.proofs.lemmas.Bool.{false≢true}
use Rattle.tg_text.specs.declared.memory.Memory.{Memory as NoMemory}
use Rattle.team_sets.specs.Names.{has_name}
use Rattle.team_sets.specs.Order.{names}
use Rattle.team_sets.proofs.Parts.{name_in}
use Rattle.team_sets.proofs.Pasts.{all_at}
use Rattle.team_model.specs.Judging.{name_of, prev_of}
use Rattle.team_model.specs.declared.terms.Link.{Link}
use Rattle.link_text.specs.Faults.{IsBadText}
use Rattle.link_text.specs.LinkText.{text, IsOfTeam, IsValid, Reads, proves}
use Rattle.link_text.specs.TeamFile.{IsHeld}
use Rattle.link_text.proofs.Texts.{fields_of, link_once}
use Rattle.link_graph.specs.Held.{Held, answer_of}
use Rattle.link_graph.specs.Taking.{Answers}
use Rattle.link_graph.proofs.Exactly.{no_clash, not_full}
use Rattle.link_graph.specs.declared.took.Took.{Took}
use Rattle.link_graph.specs.declared.took.Took.TheVariants.{New, Waiting, Again}
use Rattle.link_graph.specs.declared.take_fault.TakeFault.{TakeFault}
use Rattle.link_graph.specs.declared.take_fault.TakeFault.TheVariants.{TooLong, BadText, OtherTeam, BadSignature, NameClash, Full, Memory}
use Rattle.link_intake.specs.Giving.{TextBecomes, result_of}
use Rattle.link_intake.specs.declared.item_result.ItemResult.{ItemResult}
use Rattle.link_intake.specs.declared.item_result.ItemResult.TheVariants as became
use Rattle.link_intake.specs.declared.item_result.Refusal.TheVariants as why

becomes_of : (old new : Held) (bytes : List ℕ) (r : Result Took TakeFault) → Answers old new bytes r → IfSome (result_of r) (λ f. TextBecomes old new bytes f)
becomes_of old new bytes (Ok (New positions)) is = (positions, is.taken, refl)
becomes_of old new bytes (Ok Waiting) is = is.taken
becomes_of old new bytes (Ok Again) is = is.taken
becomes_of old new bytes (Err TooLong) is = (is.too_long.0 refl, is.fault)
becomes_of old new bytes (Err BadText) is = (is.bad_text.only refl, is.fault)
becomes_of old new bytes (Err OtherTeam) is = (is.other_team.only refl, is.fault)
becomes_of old new bytes (Err BadSignature) is = (is.bad_signature.only refl, is.fault)
becomes_of old new bytes (Err (NameClash n)) is = ((is.name_clash n).only refl, is.fault)
becomes_of old new bytes (Err (Full held size)) is = ((held, size, (is.full held size).only refl), is.fault)
becomes_of old new bytes (Err Memory) is = tt

pub text_becomes : (old new : Held) (bytes : List ℕ) (r : Result Took TakeFault) (result : Result ItemResult NoMemory) → Answers old new bytes r
    → IfOk result (λ f. result_of r ≡ Some f) → IfOk result (λ f. TextBecomes old new bytes f)
text_becomes old new bytes r (Ok f) is e = subst (λ (o : Option ItemResult). IfSome o (λ g. TextBecomes old new bytes g)) e (becomes_of old new bytes r is)
text_becomes old new bytes r (Err m) is e = tt

-- where memory is short nothing is taken
kept_of : (old new : Held) (bytes : List ℕ) (r : Result Took TakeFault) → Answers old new bytes r → result_of r ≡ None → new ≡ old
kept_of old new bytes (Ok (New positions)) is e = absurd (let bad : ◌≡◌ {A = Option ItemResult} (Some (became.New (length positions))) None = e in cc)
kept_of old new bytes (Ok Waiting) is e = absurd (let bad : ◌≡◌ {A = Option ItemResult} (Some became.Waiting) None = e in cc)
kept_of old new bytes (Ok Again) is e = is.taken.1
kept_of old new bytes (Err f) is e = is.fault

pub kept_where_none : (old new : Held) (bytes : List ℕ) (r : Result Took TakeFault) (result : Result ItemResult NoMemory) → Answers old new bytes r
    → OnErr result (result_of r ≡ None) → OnErr result (new ≡ old)
kept_where_none old new bytes r (Ok f) is e = tt
kept_where_none old new bytes r (Err m) is e = kept_of old new bytes r is e
