-- The heads are names of connected links, and ascend.
use Rattle.std.proofs.Common.{◌≡◌, ◌≤◌, ℕ, zero, suc, Bool, true, not, List, [], ◌∷◌, take, length, filter, refl, sym, subst, inl, inr, arith}
use Rattle.std.specs.List.{AllByRecursion, IsDistinct, list_all}
use Rattle.std.proofs.lemmas.Bool.{and_from}
use Rattle.std.proofs.lemmas.List.{map-id}
use Rattle.team_sets.specs.Names.{Name, has_name, name_lt, same_name}
use Rattle.team_sets.specs.Members.{IsIn}
use Rattle.team_sets.specs.Order.{names}
use Rattle.team_sets.specs.OrderLaws.{IsSet}
use Rattle.team_sets.specs.SortedLaws.{IsAscending}
use Rattle.team_sets.proofs.OrderLeast.{of_filter}
use Rattle.team_sets.proofs.Parts.{has_of_in}
use Rattle.team_sets.proofs.SameSet.{set-filter}
use Rattle.team_sets.proofs.Sorted.{ascending-members, ascending-ascends, names-strict, set-apart}
use Rattle.team_model.specs.Judging.{name_of, order_of, prev_of}
use Rattle.team_model.specs.declared.terms.Link.{Link}
use Rattle.link_text.specs.LinkText.{Ascends}
use Rattle.link_graph.specs.Heads.{heads_of, is_parent_in}

in_take : (k : ℕ) (ns : List Name) (n : Name) → IsIn n (take k ns) → IsIn n ns
in_take zero ns n k = absurd k
in_take (suc k) [] n h = absurd h
in_take (suc k) (m ∷ ns) n (inl e) = inl e
in_take (suc k) (m ∷ ns) n (inr h) = inr (in_take k ns n h)

all_here : (p : Name → Bool) (ns : List Name) → ((n : Name) → IsIn n ns → p n ≡ true) → list_all p ns ≡ true
all_here p [] h = refl
all_here p (n ∷ ns) h = and_from (p n) (list_all p ns) (h n (inl refl)) (all_here p ns (λ m k. h m (inr k)))

-- each head is the name of a connected link
pub heads_connected : (links : List Link) (k : ℕ) → list_all (has_name (names name_of (order_of links))) (take k (heads_of links)) ≡ true
heads_connected links k =
    let ns = filter (λ (n : Name). not (is_parent_in (order_of links) n)) (names name_of (order_of links)) in
    all_here (has_name (names name_of (order_of links))) (take k (heads_of links)) (λ n h.
    has_of_in name_of prev_of (names name_of (order_of links)) n
    (of_filter (λ (m : Name). not (is_parent_in (order_of links) m)) n (names name_of (order_of links)) ((ascending-members name_lt ns).forth n (in_take k (heads_of links) n h))).0)

ascends_of : (ns : List Name) → IsAscending name_lt ns → Ascends ns
ascends_of [] h = tt
ascends_of (n ∷ []) h = tt
ascends_of (n ∷ m ∷ ns) h = (h.0.0, ascends_of (m ∷ ns) h.1)

all_take : (P : Name → Type 0) (k : ℕ) (ns : List Name) → AllByRecursion P ns → AllByRecursion P (take k ns)
all_take P zero ns h = tt
all_take P (suc k) [] h = tt
all_take P (suc k) (n ∷ ns) h = (h.0, all_take P k ns h.1)

take_up : (k : ℕ) (ns : List Name) → IsAscending name_lt ns → IsAscending name_lt (take k ns)
take_up zero ns h = tt
take_up (suc k) [] h = tt
take_up (suc k) (n ∷ ns) h = (all_take (λ m. name_lt n m ≡ true) k ns h.0, take_up k ns h.1)

abbrev own : Name → Name
own n = n

-- they ascend
pub heads_ascend : (links : List Link) (k : ℕ) → IsSet name_of (order_of links) → Ascends (take k (heads_of links))
unfolding IsDistinct
heads_ascend links k set =
    let keeps = λ (n : Name). not (is_parent_in (order_of links) n) in
    let whole : IsSet own (names name_of (order_of links)) = subst (λ (l : List Name). IsDistinct same_name l) (sym (map-id (names name_of (order_of links)))) set in
    let ns = filter keeps (names name_of (order_of links)) in
    ascends_of (take k (heads_of links)) (take_up k (heads_of links)
    (ascending-ascends name_lt (names-strict own) ns (set-apart own ns (set-filter own keeps (names name_of (order_of links)) whole))))

pub take_few : (k : ℕ) (ns : List Name) → length (take k ns) ≤ k
take_few zero ns = omega arith
take_few (suc k) [] = omega arith
take_few (suc k) (n ∷ ns) = let h = take_few k ns in omega (arith, h)
