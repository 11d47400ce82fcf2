-- Members of two lists, one after the other.
use Rattle.std.proofs.Common.{◌≡◌, List, [], ◌∷◌, ◌++◌, inl, inr, ◌⊎◌}
use Rattle.team_sets.specs.Members.{IsIn}

pub in-left : {A : Type 0} (xs ys : List A) (x : A) → IsIn x xs → IsIn x (xs ++ ys)
in-left [] ys x k = absurd k
in-left (z ∷ zs) ys x (inl e) = inl e
in-left (z ∷ zs) ys x (inr k) = inr (in-left zs ys x k)

pub in-right : {A : Type 0} (xs ys : List A) (x : A) → IsIn x ys → IsIn x (xs ++ ys)
in-right [] ys x k = k
in-right (z ∷ zs) ys x k = inr (in-right zs ys x k)

pub in-either : {A : Type 0} (xs ys : List A) (x : A) → IsIn x (xs ++ ys) → IsIn x xs ⊎ IsIn x ys
in-either [] ys x k = inr k
in-either (z ∷ zs) ys x (inl e) = inl (inl e)
in-either (z ∷ zs) ys x (inr k) = go (in-either zs ys x k)
  where
    go : IsIn x zs ⊎ IsIn x ys → ((z ≡ x) ⊎ IsIn x zs) ⊎ IsIn x ys
    go (inl h) = inl (inr h)
    go (inr h) = inr h
