-- The order has exactly the connected links.
use Rattle.std.proofs.Common.{◌≡◌, Bool, true, false, not, List, [], ◌∷◌, ◌++◌, append_assoc, append-nil, refl, sym, ◌∙◌, subst, inl, inr, ◌⊎◌, ◌↔◌}
use Rattle.std.specs.List.{list_all, AllByRecursion}
use Rattle.std.specs.Cmp.Lexicographic.{bytes_decides}
use Rattle.std.proofs.lemmas.Bool.{false≢true, and_parts, and_cases, or_cases, or_left, or_right, not-false}
use Rattle.team_sets.specs.Names.{Name, same_name, has_name}
use Rattle.team_sets.specs.Members.{IsIn}
use Rattle.team_sets.specs.Order.{is_next, order, names}
use Rattle.team_sets.specs.OrderLaws.{ParentsFirst, NamesDiffer}
use Rattle.team_sets.specs.Connected.{IsConnected, joins}
use Rattle.team_sets.proofs.OrderLeast.{has_name-placed, order_laws}
use Rattle.team_sets.proofs.Pasts.{all_names}

has_of_in : (ms : List Name) (n : Name) → IsIn n ms → has_name ms n ≡ true
has_of_in [] n k = absurd k
has_of_in (m ∷ ms) n (inl e) = or_left (same_name m n) (has_name ms n) ((bytes_decides m n).1 e)
has_of_in (m ∷ ms) n (inr k) = or_right (same_name m n) (has_name ms n) (has_of_in ms n k)

pub all_of_each : (p : Name → Bool) (ms : List Name) → ((m : Name) → IsIn m ms → p m ≡ true) → list_all p ms ≡ true
all_of_each p [] h = refl
all_of_each p (m ∷ ms) h = rw (h m (inl refl)) (all_of_each p ms (λ n k. h n (inr k)))

module _ {A : Type 0} (name : A → Name) (prev : A → List Name) (links : List A) where
  -- each name of the list is connected
  pub all_connected : (list placed : List A) → ((n : Name) → has_name (names name placed) n ≡ true → IsConnected name prev links n) → AllByRecursion (λ x. IsIn x links) list
      → ParentsFirst name prev placed list → (n : Name) → has_name (names name (placed ++ list)) n ≡ true → IsConnected name prev links n
  all_connected [] placed before of first n h = before n (rw append-nil at h)
  all_connected (x ∷ xs) placed before of first n h =
      all_connected xs (placed ++ x ∷ []) more of.1 first.1 n (subst (λ l. has_name (names name l) n ≡ true) (sym (append_assoc placed (x ∷ []) xs)) h)
    where
      mine : IsConnected name prev links (name x)
      mine = joins x (name x) of.0 refl (λ p k. before p (all_names (has_name (names name placed)) (prev x) p
          (and_parts (not (has_name (names name placed) (name x))) (list_all (has_name (names name placed)) (prev x)) first.0).1 (has_of_in (prev x) p k)))

      more : (m : Name) → has_name (names name (placed ++ x ∷ [])) m ≡ true → IsConnected name prev links m
      more m k = go (or_cases (has_name (names name placed) m) (same_name (name x) m) (sym (has_name-placed name prev links placed x m) ∙ k))
        where
          go : (has_name (names name placed) m ≡ true) ⊎ (same_name (name x) m ≡ true) → IsConnected name prev links m
          go (inl e) = before m e
          go (inr e) = subst (λ z. IsConnected name prev links z) ((bytes_decides (name x) m).0 e) mine

  -- a list to which no link can be added has each connected name
  pub has_connected : (list : List A) → ((x : A) → IsIn x links → is_next name prev list x ≡ false) → (n : Name) → IsConnected name prev links n → has_name (names name list) n ≡ true
  has_connected list complete n (joins x m k e parents) = go (and_cases (not (has_name (names name list) (name x))) (list_all (has_name (names name list)) (prev x)) (complete x k)) (all_of_each (has_name (names name list)) (prev x) (λ p h. has_connected list complete p (parents p h)))
    where
      go : (not (has_name (names name list) (name x)) ≡ false) ⊎ (list_all (has_name (names name list)) (prev x) ≡ false) → list_all (has_name (names name list)) (prev x) ≡ true → has_name (names name list) n ≡ true
      go (inl f) all = subst (λ z. has_name (names name list) z ≡ true) e (not-false (has_name (names name list) (name x)) f)
      go (inr f) all = absurd (false≢true (sym f ∙ all))

  pub order_connected : NamesDiffer name links → (n : Name) → (has_name (names name (order name prev links)) n ≡ true) ↔ IsConnected name prev links n
  order_connected differ n =
      let a = (order_laws name prev links differ).0 in (
        all_connected (order name prev links) [] (λ m h. absurd (false≢true h)) a.of_links a.parents_first n,
        has_connected (order name prev links) a.complete n,
      )
