-- A file of a set is the header and the frames of links in order, and such bytes are the file of a set.
use Rattle.std.proofs.Common.{◌≡◌, ℕ, ◌+◌, ◌≤◌, Bool, true, false, cond, List, [], ◌∷◌, ◌++◌, length, map, fold, refl, sym, ap, ◌∙◌, subst, arith}
use Rattle.std.specs.List.{AllByRecursion}
use Rattle.tg_text.specs.Spelling.{IsHash}
use Rattle.tg_text.specs.Limits.{most_file_bytes}
use Rattle.team_sets.specs.Names.{Name, put_in, ascending}
use Rattle.team_sets.specs.SortedLaws.{IsAscending, by_names}
use Rattle.team_sets.proofs.Pasts.{all_at}
use Rattle.team_sets.proofs.Sorted.{all_of, ascending-members, ascending-ascends, ascending-stays, names-strict, set-apart, set-ascending}
use Rattle.team_model.specs.Judging.{name_of}
use Rattle.team_model.specs.declared.terms.Link.{Link}
use Rattle.link_text.specs.LinkText.{text, Ascends, IsValid}
use Rattle.link_text.specs.TeamFile.{header, by_name, file_text, IsHeld, IsFileOf}
use Rattle.team_files.specs.Frames.{frames, AreInOrder}

module _ {A : Type 0} (before : A → A → Bool) where
  length-put_in : (x : A) (ys : List A) → length (put_in before x ys) ≡ length ys + 1
  length-put_in x [] = refl
  length-put_in x (y ∷ ys) = go (before x y) (length-put_in x ys)
    where
      go : (b : Bool) → length (put_in before x ys) ≡ length ys + 1 → length (cond b (x ∷ y ∷ ys) (y ∷ put_in before x ys)) ≡ length (y ∷ ys) + 1
      go true h = omega arith
      go false h = omega arith

  length-fold : (xs kept : List A) → length (fold (λ sorted x. put_in before x sorted) kept xs) ≡ length kept + length xs
  length-fold [] kept = omega arith
  length-fold (x ∷ xs) kept =
      let more = length-fold xs (put_in before x kept) in
      let one = length-put_in x kept in
      omega arith

  length-ascending : (xs : List A) → length (ascending before xs) ≡ length xs
  length-ascending xs = let h = length-fold xs [] in omega arith

-- a name that is before the next is before all that follow
up_from : (x : Link) (xs : List Link) → Ascends (map name_of (x ∷ xs)) → AllByRecursion (λ y. by_names name_of x y ≡ true) xs
up_from x [] a = tt
up_from x (y ∷ ys) a =
    let strict = names-strict name_of in
    (a.0, all_of (λ z. by_names name_of x z ≡ true) ys (λ z k. strict.transitive x y z a.0 (all_at (λ w. by_names name_of y w ≡ true) ys (up_from y ys a.1) z k)))

ascends_tail : (x : Link) (xs : List Link) → Ascends (map name_of (x ∷ xs)) → Ascends (map name_of xs)
ascends_tail x [] a = tt
ascends_tail x (y ∷ ys) a = a.1

pub to_ascending : (links : List Link) → Ascends (map name_of links) → IsAscending (by_names name_of) links
to_ascending [] a = tt
to_ascending (x ∷ xs) a = (up_from x xs a, to_ascending xs (ascends_tail x xs a))

from_ascending : (links : List Link) → IsAscending (by_names name_of) links → Ascends (map name_of links)
from_ascending [] a = tt
from_ascending (x ∷ []) a = tt
from_ascending (x ∷ y ∷ ys) a = (a.0.0, from_ascending (y ∷ ys) a.1)

pub in_order : (t : Name) (links : List Link) → IsHeld t links → AreInOrder t (by_name links)
in_order t links held =
    let members = ascending-members (by_names name_of) links in
    let P : Link → Type 0 = λ l. IsValid t (text l) l in
    record {
      valid = all_of P (by_name links) (λ x k. all_at P links held.valid x (members.forth x k));
      ascend = from_ascending (by_name links) (ascending-ascends (by_names name_of) (names-strict name_of) links (set-apart name_of links held.set));
      few = omega (arith, held.few, length-ascending (by_names name_of) links);
    }

pub by_name-stays : (t : Name) (links : List Link) → AreInOrder t links → by_name links ≡ links
by_name-stays t links are = ascending-stays (by_names name_of) (names-strict name_of) links (to_ascending links are.ascend)

pub file_of : (bytes t rest : List ℕ) (links : List Link) → IsHash t → bytes ≡ header t ++ rest → rest ≡ frames links → AreInOrder t links → length bytes ≤ most_file_bytes
    → IsFileOf bytes t links
file_of bytes t rest links is e f are short =
    let whole : bytes ≡ file_text t links = e ∙ ap (λ r. header t ++ r) (f ∙ ap frames (sym (by_name-stays t links are))) in
    record {
      held = record {
        team = is;
        valid = are.valid;
        set = set-ascending name_of links (to_ascending links are.ascend);
        few = are.few;
        short = subst (λ b. length b ≤ most_file_bytes) whole short;
      };
      is_text = whole;
    }
