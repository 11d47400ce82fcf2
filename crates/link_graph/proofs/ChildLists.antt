-- Lists of children, as links come and go.
use Rattle.std.proofs.Common.{◌≡◌, ◌+◌, ◌-◌, ◌<◌, ◌≤◌, ℕ, suc, Bool, true, false, cond, if◌then◌else◌, List, [], ◌∷◌, ◌++◌, append_assoc, append-nil, Option, Some, None, refl, sym, ◌∙◌, ap, subst, length, take, drop, map, filter, get_or, add-one, drop-cons, arith}
use Rattle.std.specs.Global.{Vec}
use Rattle.std.specs.HashMap.{HashMap, get}
use Rattle.std.specs.Option.{option_map_or}
use Rattle.std.specs.Cmp.Lexicographic.{bytes_decides}
use Rattle.std.proofs.lemmas.List.{drop_all, length_push}
use Rattle.team_sets.specs.Names.{Name, same_name}
use Rattle.link_graph.specs.Children.{children_of, named}

pub named-more : (place : ℕ) (ps : List Name) (p n : Name) → named place (p ∷ ps) n ≡ cond (same_name p n) (place ∷ named place ps n) (named place ps n)
named-more place ps p n = go (same_name p n)
  where
    go : (b : Bool) → map (λ (q : Name). place) (cond b (p ∷ filter (λ q. same_name q n) ps) (filter (λ q. same_name q n) ps)) ≡ cond b (place ∷ named place ps n) (named place ps n)
    go true = refl
    go false = refl

same_ends : (place : ℕ) (ps : List Name) → place ∷ map (λ (q : Name). place) ps ≡ map (λ (q : Name). place) ps ++ place ∷ []
same_ends place [] = refl
same_ends place (p ∷ ps) = ap (λ l. place ∷ l) (same_ends place ps)

pub take_front : {A : Type 0} (xs ys : List A) → take (length xs) (xs ++ ys) ≡ xs
take_front [] ys = refl
take_front (x ∷ xs) ys = ap (λ l. x ∷ l) (take_front xs ys)

pub take_end : {A : Type 0} (xs : List A) (x : A) → take (length (xs ++ x ∷ []) - 1) (xs ++ x ∷ []) ≡ xs
take_end xs x =
    let long : length (xs ++ x ∷ []) - 1 ≡ length xs = omega (arith, length_push xs x) in
    ap (λ n. take n (xs ++ x ∷ [])) long ∙ take_front xs (x ∷ [])

-- one of the last children, all at one place, is taken away
init_named : (front : List ℕ) (place : ℕ) (ps : List Name) (n : Name) → take (length (front ++ place ∷ named place ps n) - 1) (front ++ place ∷ named place ps n) ≡ front ++ named place ps n
init_named front place ps n =
    let same : front ++ place ∷ named place ps n ≡ (front ++ named place ps n) ++ place ∷ [] =
    ap (λ l. front ++ l) (same_ends place (filter (λ q. same_name q n) ps)) ∙ sym (append_assoc front (named place ps n) (place ∷ [])) in
    ap (λ l. take (length l - 1) l) same ∙ take_end (front ++ named place ps n) place

pub removed_child : (before : Name → List ℕ) (place : ℕ) (parents : List Name) (i : ℕ) (p : Name) → i < length parents → p ≡ get_or parents i p → (n : Name) (old new : List ℕ)
    → old ≡ before n ++ named place (drop i parents) n → new ≡ (if same_name p n then take (length old - 1) old else old) → new ≡ before n ++ named place (drop (i + 1) parents) n
removed_child before place parents i p within at n old new are is =
    let rest : drop i parents ≡ p ∷ drop (i + 1) parents = rw (add-one) (drop-cons parents i p within ∙ ap (λ q. q ∷ drop (suc i) parents) (sym at)) in
    let now : old ≡ before n ++ cond (same_name p n) (place ∷ named place (drop (i + 1) parents) n) (named place (drop (i + 1) parents) n) =
    are ∙ ap (λ l. before n ++ named place l n) rest ∙ ap (λ l. before n ++ l) (named-more place (drop (i + 1) parents) p n) in
    go (same_name p n) now is
  where
    go : (b : Bool) → old ≡ before n ++ cond b (place ∷ named place (drop (i + 1) parents) n) (named place (drop (i + 1) parents) n)
        → new ≡ (if b then take (length old - 1) old else old) → new ≡ before n ++ named place (drop (i + 1) parents) n
    go true e f = f ∙ ap (λ l. take (length l - 1) l) e ∙ init_named (before n) place (drop (i + 1) parents) n
    go false e f = f ∙ e

pub removed_all : (before : Name → List ℕ) (place : ℕ) (parents : List Name) (i : ℕ) (n : Name) (now : List ℕ) → length parents ≤ i → now ≡ before n ++ named place (drop i parents) n → now ≡ before n
removed_all before place parents i n now past are = are ∙ ap (λ l. before n ++ named place l n) (drop_all i parents past) ∙ append-nil (before n)

pub named-push : (place : ℕ) (ps : List Name) (p n : Name) → named place (ps ++ p ∷ []) n ≡ named place ps n ++ (if same_name p n then place ∷ [] else [])
named-push place [] p n = named-more place [] p n
named-push place (q ∷ qs) p n =
    named-more place (qs ++ p ∷ []) q n ∙ go (same_name q n) (named-push place qs p n) ∙ ap (λ l. l ++ (if same_name p n then place ∷ [] else [])) (sym (named-more place qs q n))
  where
    go : (b : Bool) → named place (qs ++ p ∷ []) n ≡ named place qs n ++ (if same_name p n then place ∷ [] else [])
        → cond b (place ∷ named place (qs ++ p ∷ []) n) (named place (qs ++ p ∷ []) n) ≡ cond b (place ∷ named place qs n) (named place qs n) ++ (if same_name p n then place ∷ [] else [])
    go true h = ap (λ l. place ∷ l) h
    go false h = h

-- a list that another takes the place of, with the same places
pub children_same : {S R : Type 0} (lists : HashMap Name (Vec ℕ) S) (new : HashMap Name (Vec ℕ) R) (p : Name) (v w : Vec ℕ)
    → ((q : Name) → get same_name new q ≡ cond (same_name p q) (Some w) (get same_name lists q)) → Some v ≡ get same_name lists p → w.items ≡ v.items
    → (n : Name) → children_of new n ≡ children_of lists n
children_same lists new p v w has old same n = go (same_name p n) refl (has n)
  where
    list_of : Option (Vec ℕ) → List ℕ
    list_of o = option_map_or (λ (u : Vec ℕ). u.items) o []

    go : (b : Bool) → same_name p n ≡ b → get same_name new n ≡ cond b (Some w) (get same_name lists n) → children_of new n ≡ children_of lists n
    go true e h = ap list_of h ∙ same ∙ ap list_of (subst (λ (m : Name). Some v ≡ get same_name lists m) ((bytes_decides p n).0 e) old)
    go false e h = ap list_of h

-- the first list of a name
pub children_insert : {S R : Type 0} (lists : HashMap Name (Vec ℕ) S) (new : HashMap Name (Vec ℕ) R) (p : Name) (v : Vec ℕ) (place : ℕ)
    → ((q : Name) → get same_name new q ≡ cond (same_name p q) (Some v) (get same_name lists q)) → None ≡ get same_name lists p → v.items ≡ place ∷ []
    → (n : Name) → children_of new n ≡ children_of lists n ++ (if same_name p n then place ∷ [] else [])
children_insert lists new p v place has none one n = go (same_name p n) refl (has n)
  where
    list_of : Option (Vec ℕ) → List ℕ
    list_of o = option_map_or (λ (w : Vec ℕ). w.items) o []

    go : (b : Bool) → same_name p n ≡ b → get same_name new n ≡ cond b (Some v) (get same_name lists n) → children_of new n ≡ children_of lists n ++ (if b then place ∷ [] else [])
    go true e h =
        let gone : None ≡ get same_name lists n = subst (λ (m : Name). None ≡ get same_name lists m) ((bytes_decides p n).0 e) none in
        ap list_of h ∙ one ∙ ap (λ o. list_of o ++ place ∷ []) gone
    go false e h = ap list_of h ∙ sym (append-nil (children_of lists n))
