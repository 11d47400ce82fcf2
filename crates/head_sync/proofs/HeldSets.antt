-- Held sets: their heads are names, and what is given to one leaves one.
use Rattle.std.proofs.Common.{◌≡◌, ◌⊎◌, inl, inr, List, [], ◌∷◌, refl, sym, ◌∙◌, ap, subst}
use Rattle.tg_text.specs.Spelling.{IsHash}
use Rattle.lockboxes.specs.Digests.{hash_of}
use Rattle.team_sets.specs.Names.{Name}
use Rattle.team_sets.specs.Members.{IsIn}
use Rattle.team_sets.specs.Order.{names}
use Rattle.team_sets.proofs.Ancestors.{in_links}
use Rattle.team_sets.proofs.Distinct.{distinct-differ}
use Rattle.team_sets.proofs.Pasts.{all_at}
use Rattle.team_sets.proofs.Sorted.{all_of}
use Rattle.team_model.specs.Judging.{name_of, order_of, prev_of}
use Rattle.team_model.specs.declared.terms.Link.{Link}
use Rattle.link_text.specs.LinkText.{IsValid, LinkIsSpelledOnce, text}
use Rattle.link_text.specs.TeamFile.{IsHeld}
use Rattle.link_graph.specs.Heads.{heads_of}
use Rattle.link_graph.specs.Held.{Held}
use Rattle.team_files.specs.declared.item.Item.{Item}
use Rattle.link_intake.specs.Giving.{Becomes, IsGiven}
use Rattle.link_intake.specs.declared.item_result.ItemResult.{ItemResult}
use Rattle.link_intake.proofs.Unions.{held_after}
use Rattle.head_sync.specs.Messages.{AreNames}
use Rattle.head_sync.proofs.Covered.{head_in, heads_ascend}

abbrev pub IsSoundHeld : Held → Type 0
IsSoundHeld k = IsHeld k.team k.links

-- a name of these links is that of one of them
named_in : (xs : List Link) (n : Name) → IsIn n (names name_of xs) → (x : Link) × IsIn x xs × (x.name ≡ n)
named_in [] n k = absurd k
named_in (x ∷ xs) n (inl e) = (x, inl refl, e)
named_in (x ∷ xs) n (inr k) = let r = named_in xs n k in (r.0, inr r.1, r.2)

module _ (k : Held) (held : IsHeld k.team k.links) where
  -- the name of a held link is a digest
  pub hash_name : (x : Link) → IsIn x k.links → IsHash x.name
  hash_name x j =
      let valid = all_at (λ l. IsValid k.team (text l) l) k.links held.valid x j in
      subst IsHash (sym valid.reads.name) (hash_of (text x))

  pub heads_are_names : AreNames (heads_of k.links)
  heads_are_names =
      let differ = distinct-differ name_of k.links held.set in
      record {
        hashes = all_of IsHash (heads_of k.links) (λ n j.
            let x = named_in (order_of k.links) n (head_in k.links differ n j) in
            subst IsHash x.2 (hash_name x.0 (in_links name_of prev_of k.links differ x.0 x.1)));
        ascend = heads_ascend k.links differ;
      }

-- what items leave of a held set is one, of the same team
pub held_given : LinkIsSpelledOnce → (old new : Held) (items : List Item) (results : List ItemResult) → IsSoundHeld old → IsGiven old items new results → IsSoundHeld new
held_given once old new [] results held given = subst IsSoundHeld (sym given.1) held
held_given once old new (item ∷ items) [] held given = absurd given
held_given once old new (item ∷ items) (f ∷ results) held given = held_given once given.0 new items results (held_after once old given.0 item f held given.1) given.2
