-- The frames of the texts that are found under the sorted names are those of the links in order.
use Rattle.std.proofs.Common.{◌≡◌, ℕ, ◌+◌, ◌⊎◌, inl, inr, true, false, List, [], ◌∷◌, ◌++◌, map, Some, Option, refl, sym, ap, ◌∙◌, subst, suc, get_or, arith}
use Rattle.std.specs.List.{AllByRecursion, IsDistinct}
use Rattle.std.specs.List.Sorted.{IsPermutation, IsSorted}
use Rattle.std.specs.Option.{option_map_or}
use Rattle.std.specs.Ordering.{is_lt, nat_cmp}
use Rattle.std.specs.Cmp.Lexicographic.{slice_cmp, nat_list_eq_equiv}
use Rattle.std.proofs.lemmas.Bool.{false≢true}
use Rattle.std.proofs.lemmas.List.Sorted.{IsPermutation-sym}
use Rattle.std.proofs.lemmas.Map.Keys.{IsDistinct-IsPermutation}
use Rattle.sha2.specs.Sha256.{sha256}
use Rattle.team_sets.specs.Names.{Name, name_lt, same_name}
use Rattle.team_sets.specs.Members.{IsIn}
use Rattle.team_sets.specs.Order.{names}
use Rattle.team_sets.specs.OrderLaws.{IsSet}
use Rattle.team_sets.specs.SortedLaws.{IsAscending, by_names}
use Rattle.team_sets.proofs.Pasts.{all_at}
use Rattle.team_sets.proofs.Sorted.{all_of, ascending-members, ascending-one, name_lt-apart, names-strict}
use Rattle.key_reach.proofs.Ends.{moved-in}
use Rattle.key_reach.proofs.Numbered.{in-map, of-map}
use Rattle.team_model.specs.Judging.{name_of}
use Rattle.team_model.specs.declared.terms.Link.{Link}
use Rattle.link_text.specs.LinkText.{text, Ascends}
use Rattle.link_text.specs.TeamFile.{IsHeld, by_name, file_text, frame, header}
use Rattle.link_graph.specs.Holds.{text_named}
use Rattle.link_graph.proofs.Facts.{all_named}
use Rattle.link_graph.proofs.Sizing.{text_held}
use Rattle.team_files.specs.Frames.{frames, frames_named}
use Rattle.team_files.proofs.Files.{in_order}

-- names that differ and don't descend ascend
ascends_sorted : (ns : List Name) → IsSorted (slice_cmp nat_cmp) ns → IsDistinct same_name ns → Ascends ns
unfolding IsDistinct
ascends_sorted [] up d = tt
ascends_sorted (n ∷ []) up d = tt
ascends_sorted (n ∷ m ∷ ms) up d = (go (name_lt-apart n m d.0.0), ascends_sorted (m ∷ ms) later d.1)
  where
    first : name_lt m n ≡ false
    first = up 0 n (omega arith) (omega arith)

    later : IsSorted (slice_cmp nat_cmp) (m ∷ ms)
    later k e lo lt =
        let on : suc k + 1 ≡ suc (k + 1) = omega arith in
        subst (λ i. is_lt (slice_cmp nat_cmp (get_or (n ∷ m ∷ ms) i e) (get_or (m ∷ ms) k e)) ≡ false) on (up (suc k) e (omega arith) (omega (arith, lt)))

    go : (name_lt n m ≡ true) ⊎ (name_lt m n ≡ true) → name_lt n m ≡ true
    go (inl h) = h
    go (inr h) = absurd (false≢true (sym first ∙ h))

pub sorted_ascends : (links : List Link) (ns : List Name) → IsSet name_of links → IsSorted (slice_cmp nat_cmp) ns → IsPermutation (names name_of links) ns → Ascends ns
sorted_ascends links ns set up same = ascends_sorted ns up (IsDistinct-IsPermutation same_name nat_list_eq_equiv.symm (names name_of links) ns same set)

before_all : (n : Name) (ns : List Name) → Ascends (n ∷ ns) → AllByRecursion (λ m. name_lt n m ≡ true) ns
before_all n [] a = tt
before_all n (m ∷ ms) a =
    let strict = names-strict (λ (k : Name). k) in
    (a.0, all_of (λ k. name_lt n k ≡ true) ms (λ k j. strict.transitive n m k a.0 (all_at (λ w. name_lt m w ≡ true) ms (before_all m ms a.1) k j)))

tail_ascends : (n : Name) (ns : List Name) → Ascends (n ∷ ns) → Ascends ns
tail_ascends n [] a = tt
tail_ascends n (m ∷ ms) a = a.1

names_ascend : (ns : List Name) → Ascends ns → IsAscending name_lt ns
names_ascend [] a = tt
names_ascend (n ∷ ns) a = (before_all n ns a, names_ascend ns (tail_ascends n ns a))

module _ (t : Name) (links : List Link) (held : IsHeld t links) where
  names_are : (ns : List Name) → Ascends ns → IsPermutation (names name_of links) ns → ns ≡ map name_of (by_name links)
  names_are ns up same =
      ascending-one name_lt (names-strict (λ (k : Name). k)) ns (map name_of (by_name links)) (names_ascend ns up) (names_ascend (map name_of (by_name links)) (in_order t links held).ascend) to back
    where
      to : (n : Name) → IsIn n ns → IsIn n (map name_of (by_name links))
      to n k =
          let l = of-map name_of n links (moved-in (names name_of links) ns same n k) in
          subst (λ m. IsIn m (map name_of (by_name links))) l.2 (in-map name_of l.0 (by_name links) ((ascending-members (by_names name_of) links).back l.0 l.1))

      back : (n : Name) → IsIn n (map name_of (by_name links)) → IsIn n ns
      back n k =
          let l = of-map name_of n (by_name links) k in
          moved-in ns (names name_of links) (IsPermutation-sym (names name_of links) ns same) n
          (subst (λ m. IsIn m (names name_of links)) l.2 (in-map name_of l.0 links ((ascending-members (by_names name_of) links).forth l.0 l.1)))

  text_here : (l : Link) → IsIn l links → text_named links l.name ≡ Some (text l)
  text_here l k =
      let named = all_named t links held.valid in
      ap (λ (n : Name). text_named links n) (all_at (λ (x : Link). x.name ≡ sha256 (text x)) links named l k) ∙ text_held links (text l) held.set named (l, k, refl)

  frames_known : (xs : List Link) → ((x : Link) → IsIn x xs → IsIn x links) → frames_named links (map name_of xs) ≡ frames xs
  frames_known [] within = refl
  frames_known (x ∷ xs) within =
      ap (λ (o : Option (List ℕ)). option_map_or frame o [] ++ frames_named links (map name_of xs)) (text_here x (within x (inl refl)))
      ∙ ap (λ r. frame (text x) ++ r) (frames_known xs (λ y k. within y (inr k)))

  -- the file, from the names in order
  pub file_named : (ns : List Name) → Ascends ns → IsPermutation (names name_of links) ns → header t ++ frames_named links ns ≡ file_text t links
  file_named ns up same =
      ap (λ (ms : List Name). header t ++ frames_named links ms) (names_are ns up same)
      ∙ ap (λ r. header t ++ r) (frames_known (by_name links) (ascending-members (by_names name_of) links).forth)
