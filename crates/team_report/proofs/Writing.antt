-- What was written, as one text.
use Rattle.std.proofs.Common.{◌≡◌, ℕ, ◌+◌, ◌<◌, List, [], ◌∷◌, ◌++◌, flat_map, length, take, get_or, codes, sym, ◌∙◌, ap, append-nil, append_assoc}
use Rattle.std.proofs.lemmas.List.{flat_map_more, take_more}
use Rattle.team_sets.specs.Names.{Name}
use Rattle.tg_text.specs.Spelling.{line_of, spaced}
use Rattle.team_model.specs.declared.terms.Member.{Member}
use Rattle.team_report.specs.Lines.{member_line, spaced_role}

-- one more line behind those of the first i
pub more_lines : {X : Type 0} (f : X → List ℕ) (xs : List X) (i : ℕ) (x : X) (start now next : List ℕ) → i < length xs → x ≡ get_or xs i x
    → now ≡ start ++ flat_map f (take i xs) → next ≡ now ++ f x → next ≡ start ++ flat_map f (take (i + 1) xs)
more_lines f xs i x start now next here is so_far then =
    then ∙ ap (λ l. l ++ f x) so_far ∙ flat_map_more f start (take i xs) x ∙ ap (λ z. start ++ flat_map f (take i xs ++ z ∷ [])) is ∙ ap (λ l. start ++ flat_map f l) (sym (take_more xs i x here))

-- a member's roles, each behind a space
spaced-roles : (field : List ℕ) (roles : List Name) → spaced (field ∷ roles) ≡ field ++ flat_map spaced_role roles
spaced-roles field [] = sym (append-nil field)
spaced-roles field (r ∷ roles) = ap (λ l. field ++ 32 ∷ l) (spaced-roles r roles)

pub member_written : (m : Member) (start a b c end user : List ℕ) (roles : List Name) → a ≡ start ++ codes "member " → b ≡ a ++ user → user ≡ m.user
    → c ≡ b ++ flat_map spaced_role roles → roles ≡ m.roles → end ≡ c ++ 10 ∷ [] → end ≡ start ++ member_line m
member_written m start a b c end user roles e f same g alike h =
    h ∙ rw (g, f, e, same, alike, spaced-roles m.user m.roles) (simp append_assoc)

-- the line of a key that a device doesn't reach
pub unreached_written : (start a b c d e end key hex : List ℕ) → a ≡ start ++ codes "debt " → b ≡ a ++ codes "unreached " → c ≡ b ++ key → d ≡ c ++ codes " " → e ≡ d ++ hex
    → end ≡ e ++ 10 ∷ [] → end ≡ start ++ line_of (codes "debt" ∷ codes "unreached" ∷ key ∷ hex ∷ [])
unreached_written start a b c d e end key hex p q r s t h = h ∙ rw (t, s, r, q, p) (simp append_assoc)

-- the line of an invitation
pub invitation_written : (start a b c d e f g h i j end id kind uses used expiry : List ℕ) → a ≡ start ++ codes "invitation " → b ≡ a ++ id → c ≡ b ++ codes " " → d ≡ c ++ kind → e ≡ d ++ codes " "
    → f ≡ e ++ uses → g ≡ f ++ codes " used " → h ≡ g ++ used → i ≡ h ++ codes " expires " → j ≡ i ++ expiry → end ≡ j ++ 10 ∷ []
    → end ≡ start ++ line_of (codes "invitation" ∷ id ∷ kind ∷ uses ∷ codes "used" ∷ used ∷ codes "expires" ∷ expiry ∷ [])
invitation_written start a b c d e f g h i j end id kind uses used expiry p q r s t u v w x y z = z ∙ rw (y, x, w, v, u, t, s, r, q, p) (simp append_assoc)
