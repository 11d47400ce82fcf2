-- How many bytes a team file has, as links come and go.
use Rattle.std.proofs.Common.{◌≡◌, ◌+◌, ◌*◌, ℕ, Bool, true, false, cond, List, [], ◌∷◌, ◌++◌, Option, Some, None, refl, sym, ◌∙◌, ap, inl, inr, length, length-append, find, option_map, flat_map, decimal, arith}
use Rattle.std.specs.List.{AllByRecursion}
use Rattle.std.specs.Cmp.Lexicographic.{bytes_decides}
use Rattle.std.proofs.lemmas.Bool.{false≢true}
use Rattle.std.proofs.lemmas.List.Sums.{fold-append}
use Rattle.hex.specs.Hex.{encode_lower, lower_digits}
use Rattle.hex.proofs.HexLemmas.{length-encode_with}
use Rattle.sha2.specs.Sha256.{sha256}
use Rattle.team_sets.specs.Names.{Name, same_name, name_lt, put_in}
use Rattle.team_sets.specs.Members.{IsIn}
use Rattle.team_sets.specs.OrderLaws.{IsSet}
use Rattle.team_sets.proofs.Distinct.{distinct-differ}
use Rattle.team_sets.proofs.Pasts.{all_at}
use Rattle.team_model.specs.Judging.{name_of}
use Rattle.team_model.specs.declared.terms.Link.{Link}
use Rattle.link_text.specs.LinkText.{text}
use Rattle.link_text.specs.TeamFile.{by_name, file_text, frame, header}
use Rattle.link_graph.specs.Holds.{text_named}
use Rattle.link_graph.specs.Sizes.{frame_length}
use Rattle.link_graph.specs.Taking.{HasText}

pub header_size : (t : Name) → 13 + 2 * length t ≡ length (header t)
header_size t =
    let digits = length-encode_with lower_digits t in
    let ends = length-append (encode_lower t) (10 ∷ []) in
    omega (arith, digits, ends)

frame_size : (bytes : List ℕ) → length (frame bytes) ≡ frame_length (length bytes)
frame_size bytes =
    let line = length-append (decimal (length bytes)) (10 ∷ []) in
    let all = length-append (decimal (length bytes) ++ 10 ∷ []) bytes in
    omega (arith, line, all)

abbrev before : Link → Link → Bool
before a b = name_lt a.name b.name

frames_put : (x : Link) (ys : List Link) → length (flat_map (λ (l : Link). frame (text l)) (put_in before x ys)) ≡ length (flat_map (λ (l : Link). frame (text l)) ys) + frame_length (length (text x))
frames_put x [] = length-append (frame (text x)) [] ∙ let h = frame_size (text x) in omega (arith, h)
frames_put x (y ∷ ys) = go (before x y) (frames_put x ys)
  where
    go : (b : Bool) → length (flat_map (λ (l : Link). frame (text l)) (put_in before x ys)) ≡ length (flat_map (λ (l : Link). frame (text l)) ys) + frame_length (length (text x))
        → length (flat_map (λ (l : Link). frame (text l)) (cond b (x ∷ y ∷ ys) (y ∷ put_in before x ys))) ≡ length (flat_map (λ (l : Link). frame (text l)) (y ∷ ys)) + frame_length (length (text x))
    go true h =
        let own = frame_size (text x) in
        let front = length-append (frame (text x)) (flat_map (λ (l : Link). frame (text l)) (y ∷ ys)) in
        omega (arith, own, front)
    go false h =
        let new = length-append (frame (text y)) (flat_map (λ (l : Link). frame (text l)) (put_in before x ys)) in
        let old = length-append (frame (text y)) (flat_map (λ (l : Link). frame (text l)) ys) in
        omega (arith, h, new, old)

-- one more frame
pub size_push : (t : Name) (links : List Link) (x : Link) → length (file_text t (links ++ x ∷ [])) ≡ length (file_text t links) + frame_length (length (text x))
size_push t links x =
    let sorted : by_name (links ++ x ∷ []) ≡ put_in before x (by_name links) = fold-append (λ done l. put_in before l done) [] links (x ∷ []) in
    let new = length-append (header t) (flat_map (λ (l : Link). frame (text l)) (by_name (links ++ x ∷ []))) in
    let old = length-append (header t) (flat_map (λ (l : Link). frame (text l)) (by_name links)) in
    let more : length (flat_map (λ (l : Link). frame (text l)) (by_name (links ++ x ∷ []))) ≡ length (flat_map (λ (l : Link). frame (text l)) (by_name links)) + frame_length (length (text x)) =
    ap (λ (ls : List Link). length (flat_map (λ (l : Link). frame (text l)) ls)) sorted ∙ frames_put x (by_name links) in
    new ∙ ap (λ n. length (header t) + n) more ∙ let e = old in omega (arith, e)

-- the text that is found under a name
pub text_found : (links : List Link) (n : Name) (t : List ℕ) → text_named links n ≡ Some t → HasText links t
text_found [] n t e = absurd (let bad : ◌≡◌ {A = Option (List ℕ)} None (Some t) = e in cc)
text_found (x ∷ xs) n t e = go (same_name n x.name) e (text_found xs n t)
  where
    go : (b : Bool) → option_map text (cond b (Some x) (find (λ l. same_name n l.name) xs)) ≡ Some t → (text_named xs n ≡ Some t → HasText xs t) → HasText (x ∷ xs) t
    go true f more = (x, inl refl, (let same : text x ≡ t = cc in same))
    go false f more = let l = more f in (l.0, inr l.1, l.2)

find_held : (links : List Link) (l : Link) → ((y : Link) → IsIn y links → y.name ≡ l.name → y ≡ l) → IsIn l links → text_named links l.name ≡ Some (text l)
find_held [] l one k = absurd k
find_held (x ∷ xs) l one k = go (same_name l.name x.name) refl k (λ j. find_held xs l (λ y i. one y (inr i)) j)
  where
    go : (b : Bool) → same_name l.name x.name ≡ b → IsIn l (x ∷ xs) → (IsIn l xs → text_named xs l.name ≡ Some (text l)) → option_map text (cond b (Some x) (find (λ y. same_name l.name y.name) xs)) ≡ Some (text l)
    go true e j more = ap (λ (y : Link). Some (text y)) (one x (inl refl) (sym ((bytes_decides l.name x.name).0 e)))
    go false e (inl same) more = absurd (false≢true (sym e ∙ (bytes_decides l.name x.name).1 (ap (λ (y : Link). y.name) (sym same))))
    go false e (inr j) more = more j

-- a held text is found under its name
pub text_held : (links : List Link) (bytes : List ℕ) → IsSet name_of links → AllByRecursion (λ l. l.name ≡ sha256 (text l)) links → HasText links bytes → text_named links (sha256 bytes) ≡ Some bytes
text_held links bytes set valid has =
    let named : has.0.name ≡ sha256 bytes = all_at (λ (l : Link). l.name ≡ sha256 (text l)) links valid has.0 has.1 ∙ ap sha256 has.2 in
    ap (λ (n : Name). text_named links n) (sym named) ∙ find_held links has.0 (λ y k e. distinct-differ name_of links set y has.0 k has.1 e) has.1 ∙ ap (λ t. Some t) has.2
