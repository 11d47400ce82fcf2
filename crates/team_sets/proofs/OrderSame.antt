-- The order depends on which links are in the set alone.
use Rattle.std.proofs.Common.{◌≡◌, true, List, [], ◌∷◌, refl, sym, ◌∙◌, ap}
use Rattle.std.specs.Ordering.{is_le, nat_cmp, ordering_reverse}
use Rattle.std.specs.Cmp.Lexicographic.{slice_cmp, nat_list_cmp_total, lists_total}
use Rattle.std.specs.declared.cmp.Ordering.{Ordering}
use Rattle.std.specs.declared.cmp.Ordering.TheVariants.{Less, Equal, Greater}
use Rattle.std.specs.FinMap.{slice_cmp-IsAntisymmetric, nat_cmp-IsAntisymmetric}
use Rattle.std.proofs.lemmas.Bool.{false≢true}
use Rattle.team_sets.specs.Names.{Name}
use Rattle.std.specs.List.{AllByRecursion}
use Rattle.team_sets.specs.Members.{IsIn}
use Rattle.team_sets.specs.Order.{order, names}
use Rattle.team_sets.specs.OrderLaws.{names_le, IsArrangement, NamesDiffer}
use Rattle.team_sets.proofs.OrderLeast.{order_laws}

-- two lists of names, neither of which is greater, are one
names_le-both : (a b : List Name) → names_le a b ≡ true → names_le b a ≡ true → a ≡ b
names_le-both a b h k = go (slice_cmp (slice_cmp nat_cmp) a b) refl h
  where
    go : (r : Ordering) → slice_cmp (slice_cmp nat_cmp) a b ≡ r → is_le r ≡ true → a ≡ b
    go Less e l = absurd (false≢true (sym (ap (λ r. is_le (ordering_reverse r)) e) ∙ ap is_le (sym ((lists_total nat_list_cmp_total).antisymm b a)) ∙ k))
    go Equal e l = slice_cmp-IsAntisymmetric (slice_cmp-IsAntisymmetric nat_cmp-IsAntisymmetric) a b e
    go Greater e l = absurd (false≢true l)

module _ {A : Type 0} (name : A → Name) (prev : A → List Name) where
  all_in : (P Q : A → Type 0) (xs : List A) → ((x : A) → P x → Q x) → AllByRecursion P xs → AllByRecursion Q xs
  all_in P Q [] h a = tt
  all_in P Q (x ∷ xs) h a = (h x a.0, all_in P Q xs h a.1)

  moved : (links others list : List A) → ((x : A) → IsIn x links → IsIn x others) → ((x : A) → IsIn x others → IsIn x links)
      → IsArrangement name prev links [] list → IsArrangement name prev others [] list
  moved links others list to back a = record {
    of_links = all_in (λ x. IsIn x links) (λ x. IsIn x others) list to a.of_links;
    parents_first = a.parents_first;
    complete = λ x k. a.complete x (back x k);
  }

  same_by_names : (links xs ys : List A) → NamesDiffer name links → AllByRecursion (λ x. IsIn x links) xs → AllByRecursion (λ x. IsIn x links) ys → names name xs ≡ names name ys → xs ≡ ys
  same_by_names links [] [] differ a b e = refl
  same_by_names links [] (y ∷ ys) differ a b e = absurd (cc)
  same_by_names links (x ∷ xs) [] differ a b e = absurd (cc)
  same_by_names links (x ∷ xs) (y ∷ ys) differ a b e =
      let head : name x ≡ name y = cc in
      let rest : names name xs ≡ names name ys = cc in
      let first : x ≡ y = differ x y a.0 b.0 head in
      let more : xs ≡ ys = same_by_names links xs ys differ a.1 b.1 rest in
      cc

  pub order-same : (links others : List A) → NamesDiffer name links → NamesDiffer name others
      → ((x : A) → IsIn x links → IsIn x others) → ((x : A) → IsIn x others → IsIn x links) → order name prev links ≡ order name prev others
  order-same links others differ apart to back =
      let mine = order_laws name prev links differ in
      let theirs = order_laws name prev others apart in
      let theirs_here = moved others links (order name prev others) back to theirs.0 in
      let mine_there = moved links others (order name prev links) to back mine.0 in
      same_by_names links (order name prev links) (order name prev others) differ mine.0.of_links theirs_here.of_links
      (names_le-both (names name (order name prev links)) (names name (order name prev others)) (mine.1 (order name prev others) theirs_here) (theirs.1 (order name prev links) mine_there))
