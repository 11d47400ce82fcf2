-- Files to which runs gave the same texts.
use Rattle.std.proofs.Common.{◌≡◌, ◌⊎◌, ◌↔◌, ◌∙◌, inl, inr, ℕ, List, [], Some, refl, sym, ap, subst}
use Rattle.std.specs.FinMap as fin
use Rattle.tg_outside.specs.Contents.{FileMap}
use Rattle.team_sets.specs.Names.{Name}
use Rattle.link_graph.specs.Held.{Held}
use Rattle.link_graph.specs.Taking.{HasText}
use Rattle.link_intake.specs.UnionLaws.{Fits, IsAmong, IsTextIn, IsUnion, IsValidText, MergesInAnyOrder, NoClash}
use Rattle.link_intake.proofs.Unions.{clash_within, fits_within}
use Rattle.team_run.specs.ManyRuns.{IsGivenBy, RunsInAnyOrder, RunsLeaveUnion}
use Rattle.team_run.specs.Serving.{HoldsTeam}

-- what a union holds
module _ (old new : Held) (G : List ℕ → Type 0) (u : IsUnion old G new) where
  pub held_among : (b : List ℕ) → IsAmong new (IsTextIn []) b → IsAmong old G b
  held_among b (inr t) = absurd t.1
  held_among b (inl h) = go ((u.texts b).0 h)
    where
      go : HasText old.links b ⊎ (G b × IsValidText old.team b) → IsAmong old G b
      go (inl k) = inl k
      go (inr g) = inr g.0

  pub among_held : (b : List ℕ) → IsValidText old.team b → IsAmong old G b → IsAmong new (IsTextIn []) b
  among_held b v (inl k) = inl ((u.texts b).1 (inl k))
  among_held b v (inr g) = inl ((u.texts b).1 (inr (g, v)))

-- unions of the same valid texts have one file
module _ (any : MergesInAnyOrder) (old second : Held) (G H : List ℕ → Type 0) (team : second.team ≡ old.team) (apart : NoClash old G) (fits : Fits old G)
    (alike : (b : List ℕ) → IsValidText old.team b → IsAmong old G b ↔ IsAmong second H b) (new more : Held) (u : IsUnion old G new) (v : IsUnion second H more) where
  abbrev Nothing : List ℕ → Type 0
  Nothing = IsTextIn []

  same_held : (b : List ℕ) → IsValidText new.team b → IsAmong new Nothing b ↔ IsAmong more Nothing b
  same_held b valid =
      let at_old = subst (λ (t : Name). IsValidText t b) u.team valid in
      let at_second = subst (λ (t : Name). IsValidText t b) (sym team) at_old in (
        λ h. among_held second more H v b at_second ((alike b at_old).0 (held_among old new G u b h)),
        λ h. among_held old new G u b at_old ((alike b at_old).1 (held_among second more H v b h)),
      )

  pub same_bytes : (last ended : FileMap) (name other : List ℕ) → HoldsTeam last name new → HoldsTeam ended other more → fin.get last name ≡ fin.get ended other
  same_bytes last ended name other (bytes, at, file) (others, there, found) =
      let among = held_among old new G u in
      let one = any bytes others bytes others new more [] [] file found (v.team ∙ team ∙ sym u.team) (clash_within old new G Nothing u.team among apart) (fits_within old new G Nothing u.team among fits)
      same_held refl refl in
      at ∙ ap (λ (b : List ℕ). Some b) one ∙ sym there

pub any_order : MergesInAnyOrder → RunsLeaveUnion → RunsInAnyOrder
any_order any union keeper files last begun ended runs others name other old second are too there found team apart fits clear short alike =
    let mine = union keeper files last runs name old are there apart fits in
    let theirs = union keeper begun ended others other second too found clear short in
    same_bytes any old second (IsGivenBy keeper runs name) (IsGivenBy keeper others other) team apart fits alike mine.0 theirs.0 mine.2 theirs.2 last ended name other mine.1 theirs.1
