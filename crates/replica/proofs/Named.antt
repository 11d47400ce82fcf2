-- Links by their names: what became of a held link, and names of connected links.
use Rattle.std.proofs.Common.{◌≡◌, ℕ, Bool, true, false, cond, List, [], ◌∷◌, Some, None, refl, sym, ◌∙◌, ap, inl, inr, length, take, map, find, option_map, position, get_or, arith}
use Rattle.std.specs.List.{list_all}
use Rattle.std.specs.Option.{option_map_or}
use Rattle.std.specs.Cmp.Lexicographic.{bytes_decides}
use Rattle.std.proofs.lemmas.Bool.{false≢true, and_from, and_parts, or_parts}
use Rattle.std.proofs.lemmas.List.{take_all}
use Rattle.team_sets.specs.Names.{Name, same_name, has_name}
use Rattle.team_sets.specs.Members.{IsIn}
use Rattle.team_sets.specs.Order.{names}
use Rattle.team_sets.specs.OrderLaws.{IsSet}
use Rattle.team_sets.proofs.Ancestors.{in_at, in_take}
use Rattle.team_sets.proofs.Parts.{name_in}
use Rattle.team_sets.proofs.Pasts.{one_named, same_name-is}
use Rattle.team_model.specs.Judging.{name_of, prev_of, order_of, team_rules, verdict, unlawful_reason, lawful_verdict}
use Rattle.team_model.specs.declared.terms.Link.{Link}
use Rattle.team_model.specs.declared.terms.Verdict.{Verdict}
use Rattle.team_model.specs.declared.terms.Verdict.TheVariants.{Unlawful, Waiting}
use Rattle.link_graph.specs.Held.{arrived_of}
use Rattle.link_graph.proofs.Names.{place_named}
use Rattle.team_sets.proofs.Lists.{same_flip}
use Rattle.replica.specs.Below.{AreConnected}
use Rattle.replica.specs.Judged.{AreGiven}
use Rattle.replica.specs.Views.{verdict_named}
use Rattle.link_graph.proofs.Arrived.{differ, place_of_order, to_links}
use Rattle.link_graph.proofs.Marks.{link_named, map_at, named_at, not_there}

all_names_weaker : (p q : Name → Bool) (ns : List Name) → ((n : Name) → p n ≡ true → q n ≡ true) → list_all p ns ≡ true → list_all q ns ≡ true
all_names_weaker p q [] h all = refl
all_names_weaker p q (n ∷ ns) h all = let parts = and_parts (p n) (list_all p ns) all in and_from (q n) (list_all q ns) (h n parts.0) (all_names_weaker p q ns h parts.1)

module _ (links : List Link) (set_of : IsSet name_of links) where
  -- names of links of the first positions are names of links of some
  pub given_all : (n : ℕ) (ns : List Name) → AreGiven links n ns → AreGiven links (length (arrived_of links)) ns
  given_all n ns given =
      all_names_weaker (has_name (names name_of (take n (arrived_of links)))) (has_name (names name_of (take (length (arrived_of links)) (arrived_of links)))) ns
      (λ m h. let x = one_named name_of (take n (arrived_of links)) m h in
      ap (λ l. has_name (names name_of l) m) (take_all (length (arrived_of links)) (arrived_of links) (omega arith))
      ∙ name_in name_of prev_of (arrived_of links) x.0 (in_take n (arrived_of links) x.0 x.1) m x.2)
      given

  -- and so are names of connected ones
  pub given_connected : (n : ℕ) (ns : List Name) → n ≡ length (arrived_of links) → AreConnected links ns → AreGiven links n ns
  given_connected n ns whole connected =
      all_names_weaker (has_name (names name_of (order_of links))) (has_name (names name_of (take n (arrived_of links)))) ns
      (λ m h. let x = one_named name_of (order_of links) m h in let at = place_of_order links set_of x.0 x.1 in
      ap (λ l. has_name (names name_of l) m) (take_all n (arrived_of links) (omega (arith, whole)))
      ∙ name_in name_of prev_of (arrived_of links) x.0 (in_at (arrived_of links) at.0 x.0 at.1) m x.2)
      connected

  found_named : (n : Name) (xs : List Link) (x : Link) → IsIn x xs → x.name ≡ n → ((y : Link) → IsIn y xs → y.name ≡ x.name → y ≡ x) → find (λ y. same_name n y.name) xs ≡ Some x
  found_named n [] x k e one = absurd k
  found_named n (y ∷ ys) x k e one = go (same_name n y.name) refl k (λ j. found_named n ys x j e (λ z i. one z (inr i)))
    where
      go : (b : Bool) → same_name n y.name ≡ b → IsIn x (y ∷ ys) → (IsIn x ys → find (λ z. same_name n z.name) ys ≡ Some x)
          → cond b (Some y) (find (λ z. same_name n z.name) ys) ≡ Some x
      go true h j more = ap (λ z. Some z) (one y (inl refl) (sym (same_name-is n y.name h) ∙ sym e))
      go false h (inl s) more = absurd (false≢true (sym h ∙ (bytes_decides n y.name).1 (sym e ∙ ap name_of (sym s))))
      go false h (inr j) more = more j

  none_named : (n : Name) (xs : List Link) → has_name (names name_of xs) n ≡ false → find (λ y. same_name n y.name) xs ≡ None
  none_named n [] h = refl
  none_named n (y ∷ ys) h = let parts = or_parts (same_name y.name n) (has_name (names name_of ys) n) h in rw (same_flip n y.name, parts.0) (none_named n ys parts.1)

  named_is : (n : Name) (x : Link) → IsIn x links → x.name ≡ n → verdict_named links n ≡ Some (verdict team_rules links x)
  named_is n x k e = ap (λ o. option_map (verdict team_rules links) o) (found_named n links x k e (λ y j same. differ links set_of y x j k same))

  -- the verdict of the link of a position
  pub verdict_at : (n : Name) (p : ℕ) (vs : List Verdict) (d : Verdict) → position (same_name n) (names name_of (arrived_of links)) ≡ Some p → vs ≡ map (verdict team_rules links) (arrived_of links)
      → Some (get_or vs p d) ≡ verdict_named links n
  verdict_at n p vs d found is =
      let x = link_named (arrived_of links) p n (place_named n (names name_of (arrived_of links)) p found) in
      ap (λ v. Some v) (ap (λ l. get_or l p d) is ∙ map_at (verdict team_rules links) (arrived_of links) p x.0 d x.1)
      ∙ sym (named_is n x.0 (to_links links set_of x.0 (in_at (arrived_of links) p x.0 x.1)) x.2)

  -- a held link without a position waits
  pub verdict_waits : (n : Name) → position (same_name n) (names name_of (arrived_of links)) ≡ None → has_name (names name_of links) n ≡ true → Some Waiting ≡ verdict_named links n
  verdict_waits n none held =
      let x = one_named name_of links n held in
      sym (named_is n x.0 x.1 x.2
      ∙ ap (λ b. Some (cond b (option_map_or (λ r. Unlawful r) (unlawful_reason team_rules links x.0) (lawful_verdict team_rules links x.0)) Waiting)) (unconnected (x.0).name x.2))
    where
      unconnected : (m : Name) → m ≡ n → has_name (map name_of (order_of links)) m ≡ false
      unconnected m same = go (has_name (map name_of (order_of links)) m) refl
        where
          go : (b : Bool) → has_name (map name_of (order_of links)) m ≡ b → b ≡ false
          go false e = refl
          go true e =
              let y = one_named name_of (order_of links) m e in
              let at = place_of_order links set_of y.0 y.1 in
              absurd (false≢true (sym (not_there (same_name n) (names name_of (arrived_of links)) at.0 (y.0).name none (named_at (arrived_of links) at.0 y.0 at.1))
              ∙ (bytes_decides n (y.0).name).1 (sym same ∙ sym y.2)))

  pub verdict_none : (n : Name) → has_name (names name_of links) n ≡ false → None ≡ verdict_named links n
  verdict_none n h = sym (ap (λ o. option_map (verdict team_rules links) o) (none_named n links h))
