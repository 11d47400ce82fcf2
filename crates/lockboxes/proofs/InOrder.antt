-- The opened pairs in order: the order tells them apart, and the ordered list has the same members.
use Rattle.std.proofs.Common.{◌≡◌, ◌↔◌, ℕ, true, List, refl, sym, ◌∙◌, subst}
use Rattle.std.specs.Ordering.{eq_by_cmp, is_eq, nat_cmp, ordering_then}
use Rattle.std.specs.Cmp.Lexicographic.{slice_cmp}
use Rattle.std.specs.declared.cmp.Ordering.{Ordering}
use Rattle.std.specs.declared.cmp.Ordering.TheVariants.{Less, Equal, Greater}
use Rattle.std.proofs.lemmas.Bool.{false≢true}
use Rattle.team_sets.specs.Closure.{has}
use Rattle.team_sets.specs.Members.{IsIn}
use Rattle.team_sets.proofs.Agree.{any_in}
use Rattle.team_sets.proofs.Pasts.{any_of}
use Rattle.tg_text.specs.Order.{key_cmp}
use Rattle.tg_text.specs.declared.keys.BoxLine.{BoxLine}
use Rattle.key_reach.specs.Lists.{IsListOf}
use Rattle.key_reach.proofs.Equal.{key-is, key-same}
use Rattle.key_reach.proofs.Meeting.{names_equal, names_same}
use Rattle.lockboxes.specs.declared.opened.Opened.{Opened}
use Rattle.lockboxes.specs.Keeping.{Keeper, Opens, own_key}
use Rattle.lockboxes.specs.Opening.{opened_cmp, AreOpened}

both_equal : (r s : Ordering) → is_eq (ordering_then r s) ≡ true → (is_eq r ≡ true) × (is_eq s ≡ true)
both_equal Less s e = absurd (false≢true e)
both_equal Equal s e = (refl, e)
both_equal Greater s e = absurd (false≢true e)

equal_both : (r s : Ordering) → is_eq r ≡ true → is_eq s ≡ true → is_eq (ordering_then r s) ≡ true
equal_both Less s e f = absurd (false≢true e)
equal_both Equal s e f = f
equal_both Greater s e f = absurd (false≢true e)

pub opened-is : (a b : Opened) → eq_by_cmp opened_cmp a b ≡ true → a ≡ b
opened-is a b h =
    let both = both_equal (key_cmp a.key b.key) (slice_cmp nat_cmp a.secret b.secret) h in
    let keys = key-is a.key b.key both.0 in
    let secrets = names_same a.secret b.secret both.1 in
    λ i. record { key = keys i; secret = secrets i }

pub opened-same : (a : Opened) → eq_by_cmp opened_cmp a a ≡ true
opened-same a = equal_both (key_cmp a.key a.key) (slice_cmp nat_cmp a.secret a.secret) (key-same a.key) (names_equal a.secret)

in_has : (xs : List Opened) (x : Opened) → has (eq_by_cmp opened_cmp) xs x ≡ true → IsIn x xs
in_has xs x h = let f = any_of (eq_by_cmp opened_cmp x) xs h in subst (λ y. IsIn y xs) (sym (opened-is x f.0 f.2)) f.1

has_in : (xs : List Opened) (x : Opened) → IsIn x xs → has (eq_by_cmp opened_cmp) xs x ≡ true
has_in xs x k = any_in (eq_by_cmp opened_cmp x) xs x k (opened-same x)

module _ (keeper : Keeper) (boxes held : List BoxLine) (device secret : List ℕ) (own : Opened) (found pairs list : List Opened) where
  pub ordered_opened : held ≡ boxes → own ≡ record { key = own_key keeper device secret; secret = secret } → pairs ≡ found
      → ((o : Opened) → IsIn o found ↔ Opens keeper held own.key own.secret o.key o.secret) → IsListOf opened_cmp pairs list → AreOpened keeper boxes device secret list
  ordered_opened are mine all says is = record { ascends = is.ascends; exact = λ o. (λ k. forth o (in_has pairs o (sym (is.exact o) ∙ has_in list o k)), λ r. in_has list o (is.exact o ∙ has_in pairs o (back o r))) }
    where
      forth : (o : Opened) → IsIn o pairs → Opens keeper boxes (own_key keeper device secret) secret o.key o.secret
      forth o k = subst (λ (l : List BoxLine). Opens keeper l (own_key keeper device secret) secret o.key o.secret) are
          (subst (λ (p : Opened). Opens keeper held p.key p.secret o.key o.secret) mine ((says o).0 (subst (λ (l : List Opened). IsIn o l) all k)))

      back : (o : Opened) → Opens keeper boxes (own_key keeper device secret) secret o.key o.secret → IsIn o pairs
      back o r = subst (λ (l : List Opened). IsIn o l) (sym all) ((says o).1
          (subst (λ (p : Opened). Opens keeper held p.key p.secret o.key o.secret) (sym mine)
          (subst (λ (l : List BoxLine). Opens keeper l (own_key keeper device secret) secret o.key o.secret) (sym are) r)))
