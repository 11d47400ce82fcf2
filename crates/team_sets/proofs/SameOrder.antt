-- What a set says of its connected links depends on its order alone.
use Rattle.std.proofs.Common.{◌≡◌, not, ◌&&◌, List, [], filter, sym, ◌∙◌, ap, subst, length, ◌≤◌, arith}
use Rattle.std.specs.List.{AllByRecursion}
use Rattle.team_sets.specs.Names.{Name, same_name}
use Rattle.team_sets.specs.Members.{IsIn}
use Rattle.team_sets.specs.Order.{order}
use Rattle.team_sets.specs.Ancestry.{height, is_before, past}
use Rattle.team_sets.specs.OrderLaws.{NamesDiffer}
use Rattle.team_sets.specs.WaitingLaws.{HaveSameConnected, WaitingHaveNoEffect}
use Rattle.team_sets.proofs.Agree.{same_ancestors}
use Rattle.team_sets.proofs.Ancestors.{in_links, of_order, order_first, order-le, order-past}
use Rattle.team_sets.proofs.Arrivals.{arranged_order, first_set}
use Rattle.team_sets.proofs.Heights.{same_heights}
use Rattle.team_sets.proofs.Lists.{filter_alike}
use Rattle.team_sets.proofs.OrderLeast.{order_laws}

module _ {A : Type 0} (name : A → Name) (prev : A → List Name) where
  module _ (links others : List A) (differ : NamesDiffer name links) (apart : NamesDiffer name others) (same : order name prev links ≡ order name prev others) where
    of_others : AllByRecursion (λ x. IsIn x others) (order name prev links)
    of_others = subst (λ l. AllByRecursion (λ x. IsIn x others) l) (sym same) (of_order name prev others apart)

    short : length (order name prev links) ≤ length others
    short = let h : length (order name prev others) ≤ length others = order-le name prev others in let e : length (order name prev links) ≡ length (order name prev others) = ap length same in omega (arith, h, e)

    ancestors : (x : A) → IsIn x (order name prev links) → (a : Name) → is_before name prev links a x ≡ is_before name prev others a x
    ancestors x k a =
        same_ancestors name prev links others differ apart (order name prev links) (of_order name prev links differ) of_others (order_first name prev links differ)
        x k (length links) (length others) a (order-le name prev links) short

    pasts : (x : A) → IsIn x (order name prev links) → order name prev (past name prev links x) ≡ order name prev (past name prev others x)
    pasts x k =
        order-past name prev links differ x k
        ∙ filter_alike (λ y. is_before name prev links (name y) x) (λ y. is_before name prev others (name y) x) (order name prev links) (λ y j. ancestors x k (name y))
        ∙ ap (λ l. filter (λ y. is_before name prev others (name y) x) l) same
        ∙ sym (order-past name prev others apart x (subst (λ l. IsIn x l) same k))

    heights : (x : A) → IsIn x (order name prev links) → height name prev links x ≡ height name prev others x
    heights x k =
        same_heights name prev links others differ apart (order name prev links) (of_order name prev links differ) of_others (order_first name prev links differ)
        x k (length links) (length others) (order-le name prev links) short

    pub same_connected : HaveSameConnected name prev links others
    same_connected = record {
      ancestors = ancestors;
      pasts = pasts;
      heights = heights;
      concurrent = λ x y k j.
          ap (λ b. not (same_name (name x) (name y)) && not b && not (is_before name prev links (name y) x)) (ancestors y j (name x))
          ∙ ap (λ b. not (same_name (name x) (name y)) && not (is_before name prev others (name x) y) && not b) (ancestors x k (name y));
    }

  module _ (links : List A) (differ : NamesDiffer name links) where
    pub differ-order : NamesDiffer name (order name prev links)
    differ-order x y k j e = differ x y (in_links name prev links differ x k) (in_links name prev links differ y j) e

    pub order-order : order name prev (order name prev links) ≡ order name prev links
    order-order = arranged_order name prev links (order name prev links) differ (order_laws name prev links differ).0

    pub waiting : WaitingHaveNoEffect name prev links
    waiting = record {
      set = first_set name prev [] (order name prev links) (order_first name prev links differ);
      connected = same_connected links (order name prev links) differ differ-order (sym order-order);
      order = order-order;
    }
