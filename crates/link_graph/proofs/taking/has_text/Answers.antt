use Rattle.std.proofs.Common.{◌≡◌, ◌∙◌, sym, ap, List, ℕ, Some, None, Option}
use Rattle.std.specs.Cmp.Lexicographic.{bytes_decides}
use Rattle.std.proofs.lemmas.Bool.{false≢true}
use Rattle.team_sets.specs.Names.{Name}
use Rattle.link_graph.specs.Holds.{text_named}
use Rattle.link_graph.proofs.Sizing.{text_found, text_held}
use Rattle.link_graph.proofs.taking.has_text.Goals as goal

pub returns-in-Some : goal.returns-in-Some
returns-in-Some c =
    let named : Some c.in-Some.text.now ≡ text_named c.args.holding.now c.args.name.now = c.in-Some.ensures in (
      λ t.
          let same : c.in-Some.text.now ≡ c.args.bytes.now = (bytes_decides c.in-Some.text.now c.args.bytes.now).0 (sym c.eq.ensures ∙ t) in
          text_found c.args.holding.now c.args.name.now c.args.bytes.now (sym named ∙ ap (λ (l : List ℕ). Some l) same),
      λ has.
          let found = text_held c.args.holding.now c.args.bytes.now c.requires.set c.requires.texts has in
          let one : ◌≡◌ {A = Option (List ℕ)} (Some c.in-Some.text.now) (Some c.args.bytes.now) = named ∙ ap (λ (n : Name). text_named c.args.holding.now n) c.requires.named ∙ found in
          let same : c.in-Some.text.now ≡ c.args.bytes.now = cc in
          c.eq.ensures ∙ (bytes_decides c.in-Some.text.now c.args.bytes.now).1 same,
    )

pub returns-in-None : goal.returns-in-None
returns-in-None c =
    let named : ◌≡◌ {A = Option (List ℕ)} None (text_named c.args.holding.now c.args.name.now) = c.in-None.ensures in (
      λ t. absurd (false≢true t),
      λ has.
          let found = text_held c.args.holding.now c.args.bytes.now c.requires.set c.requires.texts has in
          let bad : ◌≡◌ {A = Option (List ℕ)} None (Some c.args.bytes.now) = named ∙ ap (λ (n : Name). text_named c.args.holding.now n) c.requires.named ∙ found in
          absurd (cc),
    )
