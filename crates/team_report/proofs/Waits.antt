-- Which links wait, and their lines, from entries that were sorted.
use Rattle.std.proofs.Common.{◌≡◌, ◌∙◌, ℕ, ◌+◌, ◌<◌, suc, Bool, true, false, not, cond, List, [], ◌∷◌, ◌++◌, ◌⊎◌, inl, inr, Option, Some, None, refl, sym, ap, subst, filter, flat_map, append-nil, get_or, length, slice_get, take, arith}
use Rattle.std.specs.List.{AllByRecursion, IsDistinct, cons_option}
use Rattle.std.specs.List.Sorted.{IsPermutation, IsSorted}
use Rattle.std.specs.Map.{keys_of}
use Rattle.std.specs.Option.{option_map_or}
use Rattle.std.specs.Ordering.{is_lt, nat_cmp, ordering_then}
use Rattle.std.specs.Cmp.Lexicographic.{nat_list_eq_equiv, slice_cmp}
use Rattle.std.specs.declared.cmp.Ordering.{Ordering}
use Rattle.std.specs.declared.cmp.Ordering.TheVariants.{Less, Equal, Greater}
use Rattle.std.proofs.lemmas.Bool.{false≢true}
use Rattle.std.proofs.lemmas.List.Elements.{filter_more}
use Rattle.std.proofs.lemmas.List.Sorted.{IsPermutation-map, IsPermutation-sym}
use Rattle.std.proofs.lemmas.Map.Keys.{IsDistinct-IsPermutation}
use Rattle.std.proofs.lemmas.Option.{slice_get-get_or}
use Rattle.team_sets.specs.Names.{Name, name_lt, same_name}
use Rattle.team_sets.specs.Members.{HaveSameMembers, IsIn}
use Rattle.team_sets.specs.Order.{names}
use Rattle.team_sets.specs.OrderLaws.{IsSet}
use Rattle.team_sets.specs.SortedLaws.{IsAscending, by_names}
use Rattle.team_sets.proofs.Ancestors.{in_at}
use Rattle.team_sets.proofs.OrderLeast.{of_filter}
use Rattle.team_sets.proofs.Pasts.{all_at}
use Rattle.team_sets.proofs.SameSet.{set-filter}
use Rattle.team_sets.proofs.Sorted.{all_of, ascending-ascends, ascending-members, ascending-one, name_lt-apart, names-strict, set-apart}
use Rattle.key_reach.proofs.Ends.{moved-in}
use Rattle.team_model.specs.Judging.{lawful_verdict, name_of, team_rules, unlawful_reason}
use Rattle.team_model.specs.declared.terms.Link.{Link}
use Rattle.team_model.specs.declared.terms.Verdict.TheVariants.{Unlawful, Waiting}
use Rattle.link_text.specs.TeamFile.{by_name}
use Rattle.link_graph.specs.Positions.{HasEntries, linked}
use Rattle.link_graph.proofs.Fitting.{entries_push, keys_linked, linked_push, named_at as link_at_name}
use Rattle.link_graph.proofs.Names.{get_at}
use Rattle.link_graph.proofs.Marks.{named_at}
use Rattle.team_report.specs.Entries.{entered, entry_cmp}
use Rattle.team_report.specs.LogText.{is_connected, judged_line, log_line, waiting_links}

-- the links that wait are entered one by one
module _ (links : List Link) where
  abbrev waits : Link → Bool
  waits x = not (is_connected links x)

  pub enters : (i : ℕ) (x : Link) (now next : List (Name × ℕ)) → i < length links → x ≡ get_or links i x → next ≡ entered links x i now → HasEntries links now
      → linked links now ≡ filter waits (take i links) → HasEntries links next × (linked links next ≡ filter waits (take (i + 1) links))
  enters i x now next lt at is has so = go (is_connected links x) refl
    where
      here : slice_get links i ≡ Some x
      here = slice_get-get_or links i x lt ∙ ap (λ y. Some y) (sym at)

      more : filter waits (take (i + 1) links) ≡ filter waits (take i links) ++ cond (waits x) (x ∷ []) []
      more = filter_more waits links i x lt ∙ rw (← at) refl

      go : (b : Bool) → is_connected links x ≡ b → HasEntries links next × (linked links next ≡ filter waits (take (i + 1) links))
      go true e =
          let same : next ≡ now = is ∙ ap (λ c. cond c now (now ++ (x.name, i) ∷ [])) e in
          let none : filter waits (take (i + 1) links) ≡ filter waits (take i links) ++ [] = more ∙ ap (λ c. filter waits (take i links) ++ cond (not c) (x ∷ []) []) e in (
            subst (λ (es : List (Name × ℕ)). HasEntries links es) (sym same) has,
            ap (λ (es : List (Name × ℕ)). linked links es) same ∙ so ∙ sym (append-nil (filter waits (take i links))) ∙ sym none,
          )
      go false e =
          let grown : next ≡ now ++ (x.name, i) ∷ [] = is ∙ ap (λ c. cond c now (now ++ (x.name, i) ∷ [])) e in
          let one : filter waits (take (i + 1) links) ≡ filter waits (take i links) ++ x ∷ [] = more ∙ ap (λ c. filter waits (take i links) ++ cond (not c) (x ∷ []) []) e in (
            subst (λ (es : List (Name × ℕ)). HasEntries links es) (sym grown) (entries_push links now x.name i has (named_at links i x here)),
            ap (λ (es : List (Name × ℕ)). linked links es) grown ∙ linked_push links now x.name i x here ∙ ap (λ l. l ++ x ∷ []) so ∙ sym one,
          )

  -- the link at the place of an entry
  pub entry_link : (entries : List (Name × ℕ)) (i : ℕ) (e : Name × ℕ) (x : Link) → HasEntries links entries → i < length entries → e ≡ get_or entries i e → x ≡ get_or links e.1 x
      → slice_get links (get_or entries i e).1 ≡ Some x
  entry_link entries i e x has lt at found =
      let here : slice_get entries i ≡ Some e = slice_get-get_or entries i e lt ∙ ap (λ (f : Name × ℕ). Some f) (sym at) in
      let y = link_at_name links e.1 e.0 (all_at (λ (f : Name × ℕ). slice_get (names name_of links) f.1 ≡ Some f.0) entries has e (in_at entries i e here)) in
      ap (λ (f : Name × ℕ). slice_get links f.1) (sym at) ∙ y.1 ∙ ap (λ (z : Link). Some z) (sym (found ∙ get_at links e.1 y.0 x y.1))

-- entries in order don't descend by name
by_name_first : (a b : Name × ℕ) → is_lt (entry_cmp a b) ≡ false → name_lt a.0 b.0 ≡ false
by_name_first a b h = go (slice_cmp nat_cmp a.0 b.0) h
  where
    go : (r : Ordering) → is_lt (ordering_then r (nat_cmp a.1 b.1)) ≡ false → is_lt r ≡ false
    go Less e = e
    go Equal e = refl
    go Greater e = refl

entries_ascend : (es : List (Name × ℕ)) → IsSorted entry_cmp es → IsDistinct same_name (keys_of es) → IsAscending name_lt (keys_of es)
unfolding IsDistinct
entries_ascend [] up d = tt
entries_ascend (e ∷ []) up d = (tt, tt)
entries_ascend (e ∷ f ∷ fs) up d = joined (entries_ascend (f ∷ fs) later d.1)
  where
    later : IsSorted entry_cmp (f ∷ fs)
    later k x lo lt =
        let on : suc k + 1 ≡ suc (k + 1) = omega arith in
        subst (λ i. is_lt (entry_cmp (get_or (e ∷ f ∷ fs) i x) (get_or (f ∷ fs) k x)) ≡ false) on (up (suc k) x (omega arith) (omega (arith, lt)))

    first : name_lt e.0 f.0 ≡ true
    first = go (name_lt-apart e.0 f.0 d.0.0)
      where
        go : (name_lt e.0 f.0 ≡ true) ⊎ (name_lt f.0 e.0 ≡ true) → name_lt e.0 f.0 ≡ true
        go (inl h) = h
        go (inr h) = absurd (false≢true (sym (by_name_first f e (up 0 e (omega arith) (omega arith))) ∙ h))

    joined : IsAscending name_lt (keys_of (f ∷ fs)) → IsAscending name_lt (keys_of (e ∷ f ∷ fs))
    joined more =
        let strict = names-strict (λ (k : Name). k) in
        ((first, all_of (λ k. name_lt e.0 k ≡ true) (keys_of fs) (λ k j. strict.transitive e.0 f.0 k first (all_at (λ m. name_lt f.0 m ≡ true) (keys_of fs) more.0 k j))), more)

above : (x : Link) (ys : List Link) → AllByRecursion (λ m. name_lt x.name m ≡ true) (names name_of ys) → AllByRecursion (λ y. by_names name_of x y ≡ true) ys
above x [] all = tt
above x (y ∷ ys) all = (all.0, above x ys all.1)

links_ascend : (xs : List Link) → IsAscending name_lt (names name_of xs) → IsAscending (by_names name_of) xs
links_ascend [] up = tt
links_ascend (x ∷ xs) up = (above x xs up.0, links_ascend xs up.1)

module _ (links : List Link) where
  of_linked : (es : List (Name × ℕ)) (x : Link) → IsIn x (linked links es) → (e : Name × ℕ) × IsIn e es × (slice_get links e.1 ≡ Some x)
  of_linked [] x k = absurd k
  of_linked (e ∷ es) x k = go (slice_get links e.1) refl k (of_linked es x)
    where
      go : (o : Option Link) → slice_get links e.1 ≡ o → IsIn x (cons_option o (linked links es)) → (IsIn x (linked links es) → (f : Name × ℕ) × IsIn f es × (slice_get links f.1 ≡ Some x))
          → (f : Name × ℕ) × IsIn f (e ∷ es) × (slice_get links f.1 ≡ Some x)
      go None at j more = let r = more j in (r.0, inr r.1, r.2)
      go (Some y) at (inl same) more = (e, inl refl, at ∙ ap (λ z. Some z) same)
      go (Some y) at (inr j) more = let r = more j in (r.0, inr r.1, r.2)

  in_linked : (es : List (Name × ℕ)) (e : Name × ℕ) (x : Link) → IsIn e es → slice_get links e.1 ≡ Some x → IsIn x (linked links es)
  in_linked [] e x k at = absurd k
  in_linked (f ∷ es) e x (inl same) at =
      subst (λ (o : Option Link). IsIn x (cons_option o (linked links es))) (sym (ap (λ (g : Name × ℕ). slice_get links g.1) same ∙ at)) (inl refl)
  in_linked (f ∷ es) e x (inr k) at = go (slice_get links f.1) (in_linked es e x k at)
    where
      go : (o : Option Link) → IsIn x (linked links es) → IsIn x (cons_option o (linked links es))
      go None j = j
      go (Some y) j = inr j

  pub entries_moved : (ds es : List (Name × ℕ)) → IsPermutation ds es → HasEntries links ds → HasEntries links es
  entries_moved ds es moved has =
      all_of (λ e. slice_get (names name_of links) e.1 ≡ Some e.0) es (λ e k. all_at (λ f. slice_get (names name_of links) f.1 ≡ Some f.0) ds has e (moved-in ds es moved e k))

  linked_moved : (ds es : List (Name × ℕ)) → IsPermutation ds es → (x : Link) → IsIn x (linked links es) → IsIn x (linked links ds)
  linked_moved ds es moved x k = let e = of_linked es x k in in_linked ds e.0 x (moved-in ds es moved e.0 e.1) e.2

  -- sorted entries of some of the links give these in order
  pub sorted_links : (p : Link → Bool) (ds es : List (Name × ℕ)) → IsSet name_of links → HasEntries links ds → linked links ds ≡ filter p links → IsPermutation ds es → IsSorted entry_cmp es
      → linked links es ≡ by_name (filter p links)
  sorted_links p ds es set_of has is moved up =
      ascending-one (by_names name_of) (names-strict name_of) (linked links es) (by_name part) (links_ascend (linked links es) ascends)
      (ascending-ascends (by_names name_of) (names-strict name_of) part (set-apart name_of part part_set))
      (λ x k. sorted.back x (subst (λ (l : List Link). IsIn x l) is (linked_moved ds es moved x k)))
      (λ x k. linked_moved es ds (IsPermutation-sym ds es moved) x (subst (λ (l : List Link). IsIn x l) (sym is) (sorted.forth x k)))
    where
      part : List Link
      part = filter p links

      part_set : IsSet name_of part
      part_set = set-filter name_of p links set_of

      sorted : HaveSameMembers (by_name part) part
      sorted = ascending-members (by_names name_of) part

      distinct : IsDistinct same_name (keys_of ds)
      distinct = subst (λ (ns : List Name). IsDistinct same_name ns) (ap (λ (l : List Link). names name_of l) (sym is) ∙ keys_linked links ds has) part_set

      ascends : IsAscending name_lt (names name_of (linked links es))
      ascends =
          subst (λ (ns : List Name). IsAscending name_lt ns) (sym (keys_linked links es (entries_moved ds es moved has)))
          (entries_ascend es up
          (IsDistinct-IsPermutation same_name nat_list_eq_equiv.symm (keys_of ds) (keys_of es) (IsPermutation-map (λ (e : Name × ℕ). e.0) ds es moved) distinct))

pub lines_alike : {A : Type 0} (f g : A → List ℕ) (xs : List A) → ((x : A) → IsIn x xs → f x ≡ g x) → flat_map f xs ≡ flat_map g xs
lines_alike f g [] same = refl
lines_alike f g (x ∷ xs) same = λ i. same x (inl refl) i ++ lines_alike f g xs (λ y k. same y (inr k)) i

-- a link that isn't connected waits
waits_line : (links : List Link) (x : Link) (b : Bool) → is_connected links x ≡ b → not b ≡ true → judged_line x Waiting ≡ log_line links x
waits_line links x true e h = absurd (false≢true h)
waits_line links x false e h =
    ap (λ (c : Bool). judged_line x (cond c (option_map_or (λ r. Unlawful r) (unlawful_reason team_rules links x) (lawful_verdict team_rules links x)) Waiting)) (sym e)

waiting_lines : (links : List Link) → flat_map (λ x. judged_line x Waiting) (waiting_links links) ≡ flat_map (log_line links) (waiting_links links)
waiting_lines links =
    let waits : Link → Bool = λ x. not (is_connected links x) in
    lines_alike (λ x. judged_line x Waiting) (log_line links) (waiting_links links)
    (λ x k. waits_line links x (is_connected links x) refl (of_filter waits x links ((ascending-members (by_names name_of) (filter waits links)).forth x k)).1)

-- the lines of links that wait are theirs
pub waits_written : (links waiting : List Link) (start now : List ℕ) → waiting ≡ waiting_links links → now ≡ start ++ flat_map (λ x. judged_line x Waiting) waiting
    → now ≡ start ++ flat_map (log_line links) (waiting_links links)
waits_written links waiting start now are is =
    is ∙ ap (λ (l : List Link). start ++ flat_map (λ x. judged_line x Waiting) l) are ∙ ap (λ (t : List ℕ). start ++ t) (waiting_lines links)
