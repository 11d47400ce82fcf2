-- What is shown of two lists of the same links is the same.
use Rattle.std.proofs.Common.{◌≡◌, ℕ, ◌-◌, List, [], ◌∷◌, ◌++◌, length, codes}
use Rattle.std.specs.Option.{option_map_or}
use Rattle.team_sets.specs.Names.{Name}
use Rattle.team_sets.specs.Members.{HaveSameMembers}
use Rattle.team_sets.specs.OrderLaws.{IsSet}
use Rattle.team_sets.proofs.Distinct.{distinct-differ}
use Rattle.team_sets.proofs.SameSet.{set-length}
use Rattle.tg_text.specs.Spelling.{spell_decimal, spell_hex, line_of}
use Rattle.team_model.specs.Judging.{name_of, team_rules}
use Rattle.team_model.specs.JudgingLaws.{MeanSame, ShowSame}
use Rattle.team_model.specs.ShowText.{show_text, state_lines}
use Rattle.team_model.specs.State.{State}
use Rattle.team_model.specs.declared.terms.Link.{Link}
use Rattle.team_model.proofs.OfOrder.{set_means_same}

module _ (links others : List Link) (d : IsSet name_of links) (e : IsSet name_of others) (same : HaveSameMembers links others) where
  means : MeanSame team_rules links others
  means = set_means_same team_rules links others (distinct-differ name_of links d) (distinct-differ name_of others e) same

  shown : (t : Name) → show_text t links ≡ show_text t others
  shown t = λ i. text (means.teams i) (set-length name_of links others d e same i) (length (means.orders i)) (length (means.counting i))
    where
      text : State → ℕ → ℕ → ℕ → List ℕ
      text s held connected counting =
          line_of (codes "team" ∷ spell_hex t ∷ [])
          ++ option_map_or (λ title. line_of (codes "title" ∷ title ∷ [])) s.title []
          ++ line_of (codes "links" ∷ spell_decimal held ∷ codes "waiting" ∷ spell_decimal (held - connected) ∷ codes "counting" ∷ spell_decimal counting ∷ [])
          ++ state_lines s
          ++ line_of (codes "end" ∷ [])

  pub show_same : ShowSame links others
  show_same = record { means = means; shown = shown }
