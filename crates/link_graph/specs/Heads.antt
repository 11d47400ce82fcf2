-- The heads of a set of links.
use Rattle.std.specs.Prelude.{ℕ, suc, Bool, not, List, [], ◌∷◌, filter, fold, if◌then◌else◌}
use Rattle.std.specs.List.{list_any}
use Rattle.team_sets.specs.Names.{Name, name_lt, has_name, put_in, ascending}
use Rattle.team_sets.specs.Order.{names}
use Rattle.team_model.specs.Judging.{name_of, order_of}
use Rattle.team_model.specs.declared.terms.Link.{Link}

-- Whether the name is that of a parent of one of the links.
abbrev pub is_parent_in : List Link → Name → Bool
is_parent_in links n = list_any (λ y. has_name y.prev n) links

-- The names of those connected links that are no connected link's parent, in ascending order.
abbrev pub heads_of : List Link → List Name
heads_of links = ascending name_lt (filter (λ n. not (is_parent_in (order_of links) n)) (names name_of (order_of links)))

-- Names without those of parents.
abbrev pub without : List Name → List Name → List Name
without parents ns = filter (λ n. not (has_name parents n)) ns

-- The heads once one more link has connected, which no connected link has as a parent.
abbrev pub heads_with : List Name → Link → List Name
heads_with heads x = put_in name_lt x.name (without x.prev heads)

-- The heads of links that connected one by one.
abbrev pub heads_after : List Link → List Name
heads_after placed = fold heads_with [] placed

-- The number of names before the first that is greater.
abbrev pub place_before : Name → List Name → ℕ
place_before n [] = 0
place_before n (m ∷ ms) = if name_lt n m then 0 else suc (place_before n ms)
