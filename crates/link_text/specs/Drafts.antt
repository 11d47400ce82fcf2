-- Links before they are signed.
use Rattle.std.specs.Prelude.{ℕ, Bool, List, []}
use Rattle.team_sets.specs.Names.{Name}
use Rattle.team_model.specs.declared.terms.Link.{Link}
use Rattle.link_text.specs.LinkText.{body, has_proof}
use Rattle.link_text.specs.declared.draft.Draft.{Draft}

-- The link that a draft becomes, with its signature and the name that its text then has.
abbrev pub link_of : Draft → List ℕ → Name → Link
link_of d signature name = record { team = d.team; prev = d.prev; key = d.key; entry = d.entry; signature = signature; name = name }

-- What is signed, which neither the signature nor the name is part of.
abbrev pub draft_body : Draft → List ℕ
draft_body d = body (link_of d [] [])

-- Whether an admission that it makes is proved, to which its signature adds nothing.
abbrev pub draft_has_proof : Draft → Bool
draft_has_proof d = has_proof (link_of d [] [])
