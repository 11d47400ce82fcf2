-- All links are a part of the set, and what is found of it makes the view.
use Rattle.std.proofs.Common.{◌≡◌, ◌<◌, ◌≤◌, ℕ, Bool, true, List, [], ◌∷◌, refl, sym, ◌∙◌, ap, subst, length, map, filter, replicate, arith}
use Rattle.team_sets.specs.OrderLaws.{IsSet}
use Rattle.team_model.specs.Judging.{name_of, fold_team, lawful, resolved, team_rules}
use Rattle.team_model.specs.State.{State, empty_state}
use Rattle.team_model.specs.declared.terms.Link.{Link}
use Rattle.team_model.specs.declared.terms.Verdict.{Verdict}
use Rattle.team_model.proofs.Teams.{team_is_fold}
use Rattle.link_graph.specs.Held.{arrived_of}
use Rattle.link_graph.specs.Positions.{at_places}
use Rattle.link_graph.proofs.Names.{get_within}
use Rattle.replica.specs.Judged.{ArePartOf, turned}
use Rattle.replica.specs.Resolving.{IsResolved, first_verdict}
use Rattle.replica.specs.Settling.{IsSettled}
use Rattle.replica.specs.Views.{IsViewOf}
use Rattle.replica.specs.declared.resolving.Resolved.{Resolved}
use Rattle.link_graph.proofs.Arrived.{differ, of_back}
use Rattle.replica.proofs.Verdicts.{verdicts_are}

all_true : {A : Type 0} (xs : List A) → filter (λ x. true) xs ≡ xs
all_true [] = refl
all_true (x ∷ xs) = ap (λ l. x ∷ l) (all_true xs)

all_same : {A B : Type 0} (xs : List A) (b : B) → replicate (length xs) b ≡ map (λ x. b) xs
all_same [] b = refl
all_same (x ∷ xs) b = ap (λ l. b ∷ l) (all_same xs b)

module _ (links : List Link) (set_of : IsSet name_of links) where
  pub whole_part : (n : ℕ) (flags : List Bool) → n ≡ length (arrived_of links) → flags ≡ replicate n true → ArePartOf links n (λ x. true) flags
  whole_part n flags whole is = record {
    flags_are = is ∙ ap (λ m. replicate m true) whole ∙ all_same (arrived_of links) true;
    parents = λ x y k e j p. refl;
    early = λ y k. let at = of_back (arrived_of links) n y k in
        let late : n ≤ at.0 = at.1 in
        let within : at.0 < length (arrived_of links) = get_within (arrived_of links) at.0 y at.2 in
        absurd (omega (arith, late, within, whole));
  }

  -- what is found of all links is their view
  pub view_is : (n : ℕ) (flags : List Bool) (found : Resolved) (s : State) (verdicts : List Verdict) → n ≡ length (arrived_of links)
      → flags ≡ replicate n true → IsResolved links n flags found → s ≡ fold_team team_rules (at_places (arrived_of links) found.positions.items)
      → verdicts ≡ turned team_rules (arrived_of links) empty_state found.positions.items (map (first_verdict links) (arrived_of links))
      → IsViewOf links (record { state = s; resolved = found.positions.items; verdicts = verdicts })
  view_is n flags found s verdicts whole all is folded turns =
      let list : at_places (arrived_of links) found.positions.items ≡ resolved team_rules links =
      is.positions (λ x. true) (whole_part n flags whole all) ∙ ap (λ l. resolved team_rules l) (all_true links) in
      record {
        state = folded ∙ ap (λ l. fold_team team_rules l) list ∙ sym (team_is_fold team_rules links (differ links set_of));
        given = is.given;
        resolved = list;
        verdicts = turns ∙ verdicts_are links set_of found.positions.items list;
      }

  -- and so is what settlement decided of all
  pub settled_is : (n : ℕ) (flags : List Bool) (found : Resolved) → n ≡ length (arrived_of links) → flags ≡ replicate n true → IsResolved links n flags found
      → IsSettled links (lawful team_rules links) found.settled
  settled_is n flags found whole all is =
      subst (λ l. IsSettled links l found.settled) (all_true (lawful team_rules links)) (is.settled (λ x. true) (whole_part n flags whole all))
