-- Bundles that are merged into a file one behind the other.
use Rattle.std.proofs.Common.{◌≡◌, ◌↔◌, ◌⊎◌, inl, inr, ℕ, List, [], ◌∷◌, length, ◌≤◌, refl, sym, ◌∙◌, ap, subst}
use Rattle.tg_text.specs.Limits.{most_file_bytes, most_links}
use Rattle.team_sets.specs.Names.{Name}
use Rattle.team_sets.specs.Members.{HaveSameMembers, IsIn}
use Rattle.team_sets.specs.OrderLaws.{IsSet}
use Rattle.team_sets.proofs.Pasts.{all_at}
use Rattle.team_sets.proofs.Sorted.{all_of}
use Rattle.team_model.specs.declared.terms.Link.{Link}
use Rattle.link_text.specs.LinkText.{IsValid, LinkIsSpelledOnce, Reads, text}
use Rattle.link_text.specs.TeamFile.{FileIsOfSet, IsFileOf, IsHeld, file_text}
use Rattle.link_graph.specs.Held.{Held}
use Rattle.link_graph.specs.Taking.{HasText}
use Rattle.team_files.specs.Bundles.{IsBundle}
use Rattle.team_files.specs.FileLaws.{FileIsReadOnce}
use Rattle.team_files.specs.Pieces.{BundleIsReadOnce}
use Rattle.team_files.specs.declared.item.Item.{Item}
use Rattle.link_intake.specs.declared.item_result.ItemResult.{ItemResult}
use Rattle.link_intake.specs.Merged.{IsMerged}
use Rattle.link_intake.specs.UnionLaws.{AreMerged, Fits, HasItem, IsAmong, IsTextIn, IsTextOf, IsUnion, IsValidText, MergesInAnyOrder, NoClash}
use Rattle.link_intake.proofs.Unions.{IsOneOf, clash_later, clash_within, fits_later, fits_within, items_union, union_join, union_same}

-- held sets of the same texts have the same links
module _ (once : LinkIsSpelledOnce) (a b : Held) (held : IsHeld a.team a.links) (other : IsHeld b.team b.links) (same : (t : List ℕ) → HasText a.links t → HasText b.links t) where
  link_there : (x : Link) → IsIn x a.links → IsIn x b.links
  link_there x k =
      let y = same (text x) (x, k, refl) in
      let mine = (all_at (λ (l : Link). IsValid a.team (text l) l) a.links held.valid x k).reads in
      let theirs = (all_at (λ (l : Link). IsValid b.team (text l) l) b.links other.valid y.0 y.1).reads in
      subst (λ (l : Link). IsIn l b.links) (once (text x) y.0 x (subst (λ (t : List ℕ). Reads t y.0) y.2 theirs) mine) y.1

-- what is held is valid
valid_there : (h : Held) → IsHeld h.team h.links → (t : List ℕ) → HasText h.links t → IsValidText h.team t
valid_there h held t k = (k.0, subst (λ (b : List ℕ). IsValid h.team b k.0) k.2 (all_at (λ (l : Link). IsValid h.team (text l) l) h.links held.valid k.0 k.1))

-- two held sets of one team, where the same valid texts are held or given
module _ (old second : Held) (G H : List ℕ → Type 0) (team : second.team ≡ old.team) (same : (b : List ℕ) → IsValidText old.team b → IsAmong old G b ↔ IsAmong second H b) where
  as_first : (b : List ℕ) (l : Link) → IsValid second.team b l → IsValid old.team b l
  as_first b l v = subst (λ (t : Name). IsValid t b l) team v

  clash_other : NoClash old G → NoClash second H
  clash_other apart a b k l x y v w e = apart a b k l ((same a (k, as_first a k v)).1 x) ((same b (l, as_first b l w)).1 y) (as_first a k v) (as_first b l w) e

  fits_other : Fits old G → Fits second H
  fits_other fits links set all =
      subst (λ (t : Name). (length links ≤ most_links) × (length (file_text t links) ≤ most_file_bytes)) (sym team)
      (fits links set (all_of (IsOneOf old G) links (λ l k. one l (all_at (IsOneOf second H) links all l k))))
    where
      one : (l : Link) → IsOneOf second H l → IsOneOf old G l
      one l h = let v = as_first (text l) l h.0 in (v, (same (text l) (l, v)).1 h.1)

  -- their unions have the same texts
  module _ (a b : Held) (mine : IsUnion old G a) (theirs : IsUnion second H b) where
    over : (t : List ℕ) → HasText a.links t → HasText b.links t
    over t h = back ((same t valid).0 (among ((mine.texts t).0 h)))
      where
        valid : IsValidText old.team t
        valid = subst (λ (n : Name). IsValidText n t) mine.team (valid_there a mine.held t h)

        among : HasText old.links t ⊎ (G t × IsValidText old.team t) → IsAmong old G t
        among (inl k) = inl k
        among (inr g) = inr g.0

        back : IsAmong second H t → HasText b.links t
        back (inl k) = (theirs.texts t).1 (inl k)
        back (inr g) = (theirs.texts t).1 (inr (g, subst (λ (n : Name). IsValidText n t) (sym team) valid))

    under : (t : List ℕ) → HasText b.links t → HasText a.links t
    under t h = back ((same t valid).1 (among ((theirs.texts t).0 h)))
      where
        valid : IsValidText old.team t
        valid = subst (λ (n : Name). IsValidText n t) (theirs.team ∙ team) (valid_there b theirs.held t h)

        among : HasText second.links t ⊎ (H t × IsValidText second.team t) → IsAmong second H t
        among (inl k) = inl k
        among (inr g) = inr g.0

        back : IsAmong old G t → HasText a.links t
        back (inl k) = (mine.texts t).1 (inl k)
        back (inr g) = (mine.texts t).1 (inr (g, valid))

    same_file : LinkIsSpelledOnce → FileIsOfSet → file_text a.team a.links ≡ file_text b.team b.links
    same_file once of_set =
        of_set a.team a.links b.links mine.held.set theirs.held.set
        (record { forth = link_there once a b mine.held theirs.held over; back = link_there once b a theirs.held mine.held under })
        ∙ ap (λ (t : Name). file_text t b.links) (mine.team ∙ sym (theirs.team ∙ team))

-- a bundle that was merged into a file, whose links are the old ones
module _ (once : LinkIsSpelledOnce) (file_once : FileIsReadOnce) (bytes bundle : List ℕ) (old new : Held) (results : List ItemResult) (m : IsMerged bytes bundle new results)
    (file : IsFileOf bytes old.team old.links) where
  abbrev Nothing : List ℕ → Type 0
  Nothing b = ⊥

  abbrev Given : List ℕ → Type 0
  Given = HasItem m.intake.items

  same : (m.old.team ≡ old.team) × HaveSameMembers m.old.links old.links
  same = file_once bytes m.old.team old.team m.old.links old.links m.held.file file

  -- the links to which the items were given are the old ones, whatever their order
  start : IsUnion old Nothing m.old
  start = record {
    team = same.0;
    texts = λ b. (λ h. inl (h.0, same.1.forth h.0 h.1, h.2), from b);
    held = m.held.file.held;
  }
    where
      from : (b : List ℕ) → HasText old.links b ⊎ (⊥ × IsValidText old.team b) → HasText m.old.links b
      from b (inl h) = (h.0, same.1.back h.0 h.1, h.2)
      from b (inr g) = absurd g.0

  parts : (b : List ℕ) → Given b ↔ (⊥ ⊎ Given b)
  parts b = (λ k. inr k, from)
    where
      from : ⊥ ⊎ Given b → Given b
      from (inl k) = absurd k
      from (inr k) = k

  pub bundle_union : NoClash old Given → Fits old Given → IsUnion old Given new
  bundle_union apart fits =
      union_join old m.old Nothing Given Given start parts new
      (items_union once m.old new m.intake.items results m.held.file.held (clash_later old m.old Nothing Given Given start parts apart) (fits_later old m.old Nothing Given Given start parts fits) m.intake.given)

module _ (once : LinkIsSpelledOnce) (file_once : FileIsReadOnce) (bundle_once : BundleIsReadOnce) where
  -- the texts of the first bundle, and those of the rest
  parts_in : (bundle : List ℕ) (bundles : List (List ℕ)) (items : List Item) → IsBundle bundle items → (b : List ℕ) → IsTextIn (bundle ∷ bundles) b ↔ (HasItem items b ⊎ IsTextIn bundles b)
  parts_in bundle bundles items is b = (λ t. go t.0 t.1 t.2, from)
    where
      go : (x : List ℕ) → IsIn x (bundle ∷ bundles) → IsTextOf x b → HasItem items b ⊎ IsTextIn bundles b
      go x (inr k) t = inr (x, k, t)
      go x (inl e) t =
          let one = bundle_once bundle t.0 items (subst (λ (y : List ℕ). IsBundle y t.0) (sym e) t.1) is in
          inl (subst (λ (l : List Item). HasItem l b) one t.2)

      from : HasItem items b ⊎ IsTextIn bundles b → IsTextIn (bundle ∷ bundles) b
      from (inl k) = (bundle, inl refl, (items, is, k))
      from (inr t) = (t.0, inr t.1, t.2)

  among_bundle : (old : Held) (bundle : List ℕ) (bundles : List (List ℕ)) (items : List Item) → IsBundle bundle items → (b : List ℕ) → IsAmong old (HasItem items) b
      → IsAmong old (IsTextIn (bundle ∷ bundles)) b
  among_bundle old bundle bundles items is b (inl h) = inl h
  among_bundle old bundle bundles items is b (inr k) = inr ((parts_in bundle bundles items is b).1 (inl k))

  -- the bytes at the end are the file of the union
  files_union : (bytes last : List ℕ) (old : Held) (bundles : List (List ℕ)) → IsFileOf bytes old.team old.links → NoClash old (IsTextIn bundles) → Fits old (IsTextIn bundles)
      → AreMerged bytes bundles last → (new : Held) × (last ≡ file_text new.team new.links) × IsUnion old (IsTextIn bundles) new
  files_union bytes last old [] file apart fits merged = (old, merged ∙ file.is_text, union_same old (IsTextIn []) file.held (λ b t v. absurd t.1))
  files_union bytes last old (bundle ∷ bundles) file apart fits merged =
      let mid = merged.0 in
      let m = merged.2 in
      let G = HasItem m.intake.items in let H = IsTextIn bundles in let K = IsTextIn (bundle ∷ bundles) in
      let among = among_bundle old bundle bundles m.intake.items m.intake.is_bundle in
      let parts = parts_in bundle bundles m.intake.items m.intake.is_bundle in
      let first = bundle_union once file_once bytes bundle old mid merged.1 m file (clash_within old old K G refl among apart) (fits_within old old K G refl among fits) in
      let later = files_union (file_text mid.team mid.links) last mid bundles (record { held = first.held; is_text = refl })
      (clash_later old mid G H K first parts apart) (fits_later old mid G H K first parts fits) merged.3 in
      (later.0, later.1, union_join old mid G H K first parts later.0 later.2)

  pub any_order : FileIsOfSet → MergesInAnyOrder
  any_order of_set bytes start last other old second bundles others file begun team apart fits same merged again =
      let G = IsTextIn bundles in let H = IsTextIn others in
      let mine = files_union bytes last old bundles file apart fits merged in
      let theirs = files_union start other second others begun (clash_other old second G H team same apart) (fits_other old second G H team same fits) again in
      mine.1 ∙ same_file old second G H team same mine.0 theirs.0 mine.2 theirs.2 once of_set ∙ sym theirs.1
