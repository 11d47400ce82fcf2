-- Names in lists, and as keys of maps.
use Rattle.std.proofs.Common.{◌≡◌, ◌||◌, ◌-◌, ℕ, zero, suc, ◌<◌, arith, length, get_or, Bool, true, false, cond, List, [], ◌∷◌, ◌++◌, Option, Some, None, refl, sym, ◌∙◌, ap, is_some, IsSome, map, find, option_map, position, slice_get}
use Rattle.std.specs.List.{list_any}
use Rattle.std.specs.Map.{lookup, keys_of}
use Rattle.std.specs.Cmp.Lexicographic.{bytes_decides, slice_cmp, texts_ties}
use Rattle.std.specs.Ordering.{is_eq, nat_cmp}
use Rattle.std.proofs.lemmas.List.{length-map, map-append}
use Rattle.std.proofs.lemmas.List.Quantifiers.{position-Some}
use Rattle.std.proofs.lemmas.Bool.{false≢true, or_parts}
use Rattle.team_sets.specs.Names.{Name, same_name, has_name}
use Rattle.team_sets.specs.Order.{names}
use Rattle.team_sets.proofs.Lists.{same_flip, some_at}
use Rattle.team_model.specs.Judging.{name_of}
use Rattle.team_model.specs.declared.terms.Link.{Link}
use Rattle.link_text.specs.LinkText.{text}
use Rattle.link_graph.specs.Holds.{text_entry, text_named}

module _ {X : Type 0} where
  -- a map has a key where that is one of its keys
  pub has_lookup : (n : Name) (es : List (Name × X)) → is_some (lookup (same_name n) es) ≡ has_name (keys_of es) n
  has_lookup n [] = refl
  has_lookup n (e ∷ es) = go (same_name n e.0) (has_lookup n es) ∙ ap (λ b. b || has_name (keys_of es) n) (same_flip n e.0)
    where
      go : (b : Bool) → is_some (lookup (same_name n) es) ≡ has_name (keys_of es) n → is_some (cond b (Some e.1) (lookup (same_name n) es)) ≡ (b || has_name (keys_of es) n)
      go true h = refl
      go false h = h

  pub lookup_absent : (n : Name) (es : List (Name × X)) → has_name (keys_of es) n ≡ false → lookup (same_name n) es ≡ None
  lookup_absent n [] h = refl
  lookup_absent n (e ∷ es) h =
      let parts = or_parts (same_name e.0 n) (has_name (keys_of es) n) h in
      rw (same_flip n e.0, parts.0) (lookup_absent n es parts.1)

pub keys_texts : (links : List Link) → keys_of (map text_entry links) ≡ names name_of links
keys_texts [] = refl
keys_texts (x ∷ xs) = ap (λ l. x.name ∷ l) (keys_texts xs)

pub lookup_text : (n : Name) (links : List Link) → lookup (same_name n) (map text_entry links) ≡ text_named links n
lookup_text n [] = refl
lookup_text n (x ∷ xs) = go (same_name n x.name) (lookup_text n xs)
  where
    go : (b : Bool) → lookup (same_name n) (map text_entry xs) ≡ text_named xs n → cond b (Some (text x)) (lookup (same_name n) (map text_entry xs)) ≡ option_map text (cond b (Some x) (find (λ l. same_name n l.name) xs))
    go true h = refl
    go false h = h

pub get_at : {A : Type 0} (xs : List A) (p : ℕ) (x d : A) → slice_get xs p ≡ Some x → get_or xs p d ≡ x
get_at {A} [] p x d e = absurd (let bad : ◌≡◌ {A = Option A} None (Some x) = e in cc)
get_at (y ∷ ys) zero x d e = let same : y ≡ x = cc in same
get_at (y ∷ ys) (suc p) x d e = get_at ys p x d e

pub get_within : {A : Type 0} (xs : List A) (p : ℕ) (x : A) → slice_get xs p ≡ Some x → p < length xs
get_within {A} [] p x e = absurd (let bad : ◌≡◌ {A = Option A} None (Some x) = e in cc)
get_within (y ∷ ys) zero x e = omega arith
get_within (y ∷ ys) (suc p) x e = let h = get_within ys p x e in omega (arith, h)

-- the place of a name that is there has the name
pub place_named : (n : Name) (ns : List Name) (i : ℕ) → position (same_name n) ns ≡ Some i → slice_get ns i ≡ Some n
place_named n ns i e =
    let h = position-Some (same_name n) ns i n e in
    let x = some_at ns i h.0 in
    x.1 ∙ ap (λ m. Some m) (sym (get_at ns i x.0 n x.1) ∙ sym ((bytes_decides n (get_or ns i n)).0 h.1))

-- the keys of a set have a name where they have it as names compare
pub has_by_order : (n : Name) (ks : List Name) → list_any (λ k. is_eq (slice_cmp nat_cmp n k)) ks ≡ has_name ks n
has_by_order n [] = refl
has_by_order n (k ∷ ks) = rw (← texts_ties n k, same_flip n k, has_by_order n ks) refl

module _ (n : Name) (links : List Link) (entries : List (Name × List ℕ)) (is : entries ≡ map text_entry links) where
  -- what a map of the links' texts says of a name
  pub has_texts : is_some (lookup (same_name n) entries) ≡ has_name (names name_of links) n
  has_texts = has_lookup n entries ∙ ap (λ (es : List (Name × List ℕ)). has_name (keys_of es) n) is ∙ ap (λ (ns : List Name). has_name ns n) (keys_texts links)

  pub texts_named : lookup (same_name n) entries ≡ text_named links n
  texts_named = ap (λ (es : List (Name × List ℕ)). lookup (same_name n) es) is ∙ lookup_text n links

  pub place_texts : (i : ℕ) → position (same_name n) (keys_of entries) ≡ Some i → slice_get (names name_of links) i ≡ Some n
  place_texts i e = place_named n (names name_of links) i (ap (λ (ns : List Name). position (same_name n) ns) (sym (ap (λ (es : List (Name × List ℕ)). keys_of es) is ∙ keys_texts links)) ∙ e)

  -- a name that no link has
  pub lookup_fresh : has_name (names name_of links) n ≡ false → lookup (same_name n) entries ≡ None
  lookup_fresh fresh = lookup_absent n entries (ap (λ (ns : List Name). has_name ns n) (ap (λ (es : List (Name × List ℕ)). keys_of es) is ∙ keys_texts links) ∙ fresh)

-- one more link, with its text
pub texts_push : (links new : List Link) (x : Link) (entries after : List (Name × List ℕ)) (t : List ℕ) → entries ≡ map text_entry links
    → after ≡ entries ++ (x.name, t) ∷ [] → t ≡ text x → new ≡ links ++ x ∷ [] → after ≡ map text_entry new
texts_push links new x entries after t is grows same more =
    grows ∙ ap (λ (u : List ℕ). entries ++ (x.name, u) ∷ []) same ∙ ap (λ (es : List (Name × List ℕ)). es ++ text_entry x ∷ []) is
    ∙ sym (map-append text_entry links (x ∷ [])) ∙ ap (λ (l : List Link). map text_entry l) (sym more)

sizes_at : (links : List Link) (k : ℕ) (n : Name) (t : List ℕ) → slice_get (map text_entry links) k ≡ Some (n, t) → slice_get (map (λ (l : Link). length (text l)) links) k ≡ Some (length t)
sizes_at [] k n t e = absurd (let bad : ◌≡◌ {A = Option (Name × List ℕ)} None (Some (n, t)) = e in cc)
sizes_at (x ∷ xs) zero n t e = let same : ◌≡◌ {A = Name × List ℕ} (text_entry x) (n, t) = cc in ap (λ (p : Name × List ℕ). Some (length p.1)) same
sizes_at (x ∷ xs) (suc k) n t e = sizes_at xs k n t e

text_at_entry : (links : List Link) (k : ℕ) (n : Name) (t : List ℕ) → slice_get (map text_entry links) k ≡ Some (n, t) → option_map text (slice_get links k) ≡ Some t
text_at_entry [] k n t e = absurd (let bad : ◌≡◌ {A = Option (Name × List ℕ)} None (Some (n, t)) = e in cc)
text_at_entry (x ∷ xs) zero n t e = let same : ◌≡◌ {A = Name × List ℕ} (text_entry x) (n, t) = cc in ap (λ (p : Name × List ℕ). Some p.1) same
text_at_entry (x ∷ xs) (suc k) n t e = text_at_entry xs k n t e

-- the text of the link at a place
pub text_at_place : (links : List Link) (entries : List (Name × List ℕ)) (k : ℕ) (n : Name) (t found : List ℕ) → entries ≡ map text_entry links
    → slice_get entries k ≡ Some (n, t) → found ≡ t → option_map text (slice_get links k) ≡ Some found
text_at_place links entries k n t found is at same =
    text_at_entry links k n t (ap (λ (es : List (Name × List ℕ)). slice_get es k) (sym is) ∙ at) ∙ ap (λ (u : List ℕ). Some u) (sym same)

-- how many bytes the text that came last has
pub last_size : (links : List Link) (entries : List (Name × List ℕ)) (n : Name) (t : List ℕ) (size : ℕ) → entries ≡ map text_entry links
    → slice_get entries (length entries - 1) ≡ Some (n, t) → size ≡ length t → slice_get (map (λ (l : Link). length (text l)) links) (length links - 1) ≡ Some size
last_size links entries n t size is at count =
    let many : length entries ≡ length links = ap (λ (es : List (Name × List ℕ)). length es) is ∙ length-map links text_entry in
    sizes_at links (length links - 1) n t (ap (λ (k : ℕ). slice_get (map text_entry links) (k - 1)) (sym many) ∙ ap (λ (es : List (Name × List ℕ)). slice_get es (length entries - 1)) (sym is) ∙ at)
    ∙ ap (λ (k : ℕ). Some k) (sym count)

pub some_named : (o : Option ℕ) (b : Bool) → is_some o ≡ b → b ≡ true → IsSome o
some_named (Some i) b e t = refl
some_named None b e t = absurd (false≢true (e ∙ t))
