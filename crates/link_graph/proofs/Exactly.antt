-- What was read of a text that is taken, and how a graph grows by it.
use Rattle.std.proofs.Common.{◌≡◌, ◌-◌, ◌<◌, ℕ, Bool, true, false, List, [], ◌∷◌, ◌++◌, refl, sym, ◌∙◌, ap, subst, length, nat_lt, arith}
use Rattle.std.specs.List.{range_with_len}
use Rattle.std.proofs.lemmas.Bool.{false≢true}
use Rattle.std.proofs.lemmas.List.{length_push}
use Rattle.team_sets.specs.Names.{Name, has_name}
use Rattle.team_sets.specs.Order.{names}
use Rattle.team_model.specs.Judging.{name_of}
use Rattle.team_model.specs.declared.terms.Link.{Link}
use Rattle.link_text.specs.LinkText.{IsValid}
use Rattle.link_text.proofs.Proved.{one_link}
use Rattle.link_graph.specs.Held.{Held, took_of}
use Rattle.link_graph.specs.Taking.{Clashes, HasSpace, IsFresh, IsFull, IsTaken, Takes}
use Rattle.link_graph.specs.Webs.{without_last}
use Rattle.link_graph.specs.declared.took.Took.{Took}
use Rattle.link_graph.specs.declared.took.Took.TheVariants.{New, Waiting}
use Rattle.link_graph.proofs.Webbing.{front_push}

-- a new link of the team was read
module _ (old : Held) (bytes : List ℕ) (l : Link) (valid : IsValid old.team bytes l) (fresh : IsFresh old.links l) (space : HasSpace old.team old.links l) where
  pub no_clash : (n : Name) → ¬ (Clashes old bytes n)
  no_clash n h = false≢true (sym fresh ∙ ap (λ (x : Link). has_name (names name_of old.links) x.name) (one_link bytes l h.link valid.reads h.valid.reads) ∙ h.taken)

  pub not_full : (held size : ℕ) → ¬ (IsFull old bytes held size)
  not_full held size h = h.space (subst (λ (x : Link). HasSpace old.team old.links x) (one_link bytes l h.link valid.reads h.valid.reads) space)

-- a link that was taken is new, or waits
pub taken_so : (old new : Held) (bytes : List ℕ) (took : Took) (before now : ℕ) → Takes old new bytes took → took ≡ took_of before now → IsTaken old new bytes took
taken_so old new bytes took before now takes is = go (nat_lt before now) refl
  where
    go : (b : Bool) → nat_lt before now ≡ b → IsTaken old new bytes took
    go true e =
        let so : took ≡ New (range_with_len before (now - before)) = is ∙ rw e refl in
        subst (λ (t : Took). IsTaken old new bytes t) (sym so) (subst (λ (t : Took). Takes old new bytes t) so takes)
    go false e =
        let so : took ≡ Waiting = is ∙ rw e refl in
        subst (λ (t : Took). IsTaken old new bytes t) (sym so) (subst (λ (t : Took). Takes old new bytes t) so takes)

-- what was taken last can be let go
pub grown_by : (old new : Held) (bytes : List ℕ) (took : Took) → Takes old new bytes took → (0 < length new.links) × (without_last new.links ≡ old.links)
grown_by old new bytes took takes =
    let more : new.links ≡ old.links ++ takes.link ∷ [] = ap (λ (h : Held). h.links) takes.held in
    let long = ap (λ (l : List Link). length l) more in
    let one = length_push old.links takes.link in
    (omega (arith, long, one), front_push old.links takes.link new.links more)
