use Rattle.std.proofs.Common.{rules, ◌∙◌, ◌++◌, ◌∷◌, [], if◌then◌else◌, ap, sym}
use Rattle.std.specs.HashMap.{get}
use Rattle.team_sets.specs.Names.{same_name}
use Rattle.link_graph.specs.Children.{children_of}
use Rattle.link_graph.proofs.ChildLists.{children_insert, children_same}
use Rattle.link_graph.proofs.Webbing.{on_one}
use Rattle.link_graph.proofs.children.Children.add_child.Goals as goal

pub returns-in-Some-clause-err : goal.returns-in-Some-clause-err
returns-in-Some-clause-err c =
    on_one c.push_place.result _ _
    (λ same n. children_same c.args.self.now.lists (c.get_mut.follows.lender c.push_place.new.list) c.args.parent.now c.in-Some.list.now c.push_place.new.list
    ((c.get_mut.follows.holds c.push_place.new.list).3 (search rules)).0 c.in-Some.ensures.value same n)
    c.push_place.ensures.err

pub returns-in_ok-insert-in-None-clause-ok : goal.returns-in_ok-insert-in-None-clause-ok
returns-in_ok-insert-in-None-clause-ok c = λ n.
    children_insert c.get_mut.follows.lender-at-none c.insert.new.self c.args.parent.now c.in_ok-list-in-None.list c.args.place c.in_ok-insert-in-None.ensures.updates.0
    (c.in-None.ensures.value ∙ ap (λ m. get same_name m c.args.parent.now) (sym c.get_mut.follows.holds-at-none)) c.in_ok-list-in-None.ensures n
    ∙ ap (λ m. children_of m n ++ (if same_name c.args.parent.now n then c.args.place ∷ [] else [])) c.get_mut.follows.holds-at-none
