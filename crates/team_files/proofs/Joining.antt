-- A link that may follow those of a graph is new there, and there is room for it.
use Rattle.std.proofs.Common.{◌≡◌, ◌≤◌, ◌+◌, ℕ, false, List, [], ◌∷◌, ◌++◌, length, length-append, map, refl, sym, ap, ◌∙◌, subst, arith}
use Rattle.std.specs.List.{AllByRecursion, IsDistinct}
use Rattle.tg_text.specs.Limits.{most_file_bytes}
use Rattle.team_sets.specs.Names.{Name, has_name, same_name}
use Rattle.team_sets.specs.Order.{names}
use Rattle.team_sets.specs.OrderLaws.{IsSet}
use Rattle.team_sets.proofs.Sorted.{set-ascending}
use Rattle.team_model.specs.Judging.{name_of}
use Rattle.team_model.specs.declared.terms.Link.{Link}
use Rattle.link_text.specs.LinkText.{text, IsValid}
use Rattle.link_text.specs.TeamFile.{file_text, frame, header}
use Rattle.link_graph.specs.Taking.{HasSpace, IsFresh}
use Rattle.team_files.specs.Frames.{frames, AreInOrder, MayFollow}
use Rattle.team_files.proofs.Runs.{frames_more, order_more}
use Rattle.team_files.proofs.Files.{by_name-stays, to_ascending}

all_last : (P : Name → Type 0) (xs : List Link) (l : Link) → AllByRecursion P (names name_of (xs ++ l ∷ [])) → P l.name
all_last P [] l h = h.0
all_last P (x ∷ xs) l h = all_last P xs l h.1

fresh_set : (links : List Link) (l : Link) → IsSet name_of (links ++ l ∷ []) → has_name (names name_of links) l.name ≡ false
unfolding IsDistinct
fresh_set [] l s = refl
fresh_set (x ∷ xs) l s =
    let one : same_name x.name l.name ≡ false = all_last (λ n. same_name x.name n ≡ false) xs l s.0 in
    rw (one, fresh_set xs l s.1) refl

module _ (t : Name) (links : List Link) (l : Link) (bytes : List ℕ) (are : AreInOrder t links) (valid : IsValid t bytes l) (may : MayFollow links l) where
  pub next_in_order : AreInOrder t (links ++ l ∷ [])
  next_in_order = order_more t links l are (subst (λ b. IsValid t b l) valid.reads.is_text valid) may

  pub next_fresh : IsFresh links l
  next_fresh = fresh_set links l (set-ascending name_of (links ++ l ∷ []) (to_ascending (links ++ l ∷ []) next_in_order.ascend))

  pub next_space : length (header t) + length (frames links) + length (frame bytes) ≤ most_file_bytes → HasSpace t links l
  next_space short =
      let whole : file_text t (links ++ l ∷ []) ≡ header t ++ (frames links ++ frame bytes) =
      ap (λ (ls : List Link). header t ++ frames ls) (by_name-stays t (links ++ l ∷ []) next_in_order)
      ∙ ap (λ r. header t ++ r) (frames_more links l ∙ ap (λ b. frames links ++ frame b) (sym valid.reads.is_text)) in
      let size : length (file_text t (links ++ l ∷ [])) ≡ length (header t) + (length (frames links) + length (frame bytes)) =
      ap (λ b. length b) whole ∙ length-append (header t) (frames links ++ frame bytes) ∙ ap (λ n. length (header t) + n) (length-append (frames links) (frame bytes)) in
      record { few = may.room; short = omega (arith, size, short) }

-- what was read, with the next frame, is a front of the bytes
pub front_short : (head : ℕ) (bytes front rest own after : List ℕ) → head + length bytes ≤ most_file_bytes → bytes ≡ front ++ rest → rest ≡ own ++ after
    → head + length front + length own ≤ most_file_bytes
front_short head bytes front rest own after short e f =
    let all = ap (λ b. length b) e ∙ length-append front rest in
    let left = ap (λ b. length b) f ∙ length-append own after in
    omega (arith, all, left, short)

-- the frames are within the limit, with the header
pub rest_short : (bytes head rest : List ℕ) → bytes ≡ head ++ rest → length bytes ≤ most_file_bytes → length head + length rest ≤ most_file_bytes
rest_short bytes head rest e short = let all = ap (λ b. length b) e ∙ length-append head rest in omega (arith, all, short)
