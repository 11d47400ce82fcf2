-- No two admissions have one proof body.
use Rattle.std.proofs.Common.{◌≡◌, ℕ, false, List, [], ◌∷◌, ◌++◌, codes, refl, sym, ◌∙◌, append_assoc}
use Rattle.std.specs.List.{AllByRecursion}
use Rattle.tg_text.specs.Spelling.{has_newline, spell_base64, spell_hex}
use Rattle.tg_text.proofs.Splits.{one_split}
use Rattle.tg_text.proofs.FieldLaws.{base64_lacks, base64_once, hex_lacks, hex_once, name_lacks}
use Rattle.acts.specs.ActText.{spell_kind}
use Rattle.acts.specs.ProofText.{Admission, IsAdmission, proof_body}
use Rattle.acts.proofs.ActLaws.{kind_line, kind_once}

-- A line without its newline: a word, a space and a field.
line : List ℕ → List ℕ → List ℕ
line word field = word ++ 32 ∷ field

joined : List (List ℕ) → List ℕ
joined [] = []
joined (l ∷ ls) = l ++ 10 ∷ joined ls

lines : Admission → List (List ℕ)
lines a =
    line (codes "team-proof") (codes "1") ∷ line (codes "team") (spell_hex a.team) ∷ line (codes "kind") (spell_kind a.kind) ∷ line (codes "user") a.user ∷ line (codes "key") (spell_base64 a.key)
    ∷ line (codes "seal") (spell_hex a.seal) ∷ []

six_lines : (a b c d e f : List ℕ) → (a ++ 10 ∷ []) ++ (b ++ 10 ∷ []) ++ (c ++ 10 ∷ []) ++ (d ++ 10 ∷ []) ++ (e ++ 10 ∷ []) ++ (f ++ 10 ∷ []) ≡ joined (a ∷ b ∷ c ∷ d ∷ e ∷ f ∷ [])
unfolding joined
six_lines a b c d e f = simp append_assoc refl

-- The body is its lines, with a newline after each.
body_lines : (a : Admission) → proof_body a ≡ joined (lines a)
unfolding line lines
body_lines a =
    six_lines (line (codes "team-proof") (codes "1")) (line (codes "team") (spell_hex a.team)) (line (codes "kind") (spell_kind a.kind)) (line (codes "user") a.user) (line (codes "key") (spell_base64 a.key))
    (line (codes "seal") (spell_hex a.seal))

not_ended : (l text : List ℕ) → l ++ 10 ∷ text ≡ [] → ⊥
not_ended [] text e = cc
not_ended (x ∷ l) text e = cc

lines_once : (xs ys : List (List ℕ)) → AllByRecursion (λ l. has_newline l ≡ false) xs → AllByRecursion (λ l. has_newline l ≡ false) ys → joined xs ≡ joined ys → xs ≡ ys
unfolding joined
lines_once [] [] is other e = refl
lines_once [] (y ∷ ys) is other e = absurd (not_ended y (joined ys) (sym e))
lines_once (x ∷ xs) [] is other e = absurd (not_ended x (joined xs) e)
lines_once (x ∷ xs) (y ∷ ys) is other e =
    let cut = one_split 10 x y (joined xs) (joined ys) is.0 other.0 e in
    let rest = lines_once xs ys is.1 other.1 cut.1 in
    λ i. cut.0 i ∷ rest i

lines_lack : (a : Admission) → IsAdmission a → AllByRecursion (λ l. has_newline l ≡ false) (lines a)
unfolding line lines
lines_lack a is = (refl, (hex_lacks 10 a.team refl, (kind_line a.kind, (name_lacks 10 a.user refl is.user, (base64_lacks 10 a.key refl refl, (hex_lacks 10 a.seal refl, tt))))))

six_same : (x a b c d f y g h i j k : List ℕ) → x ∷ a ∷ b ∷ c ∷ d ∷ f ∷ [] ≡ y ∷ g ∷ h ∷ i ∷ j ∷ k ∷ [] → (a ≡ g) × (b ≡ h) × (c ≡ i) × (d ≡ j) × (f ≡ k)
six_same x a b c d f y g h i j k e = (cc, cc, cc, cc, cc)

same_field : (word field other : List ℕ) → line word field ≡ line word other → field ≡ other
unfolding line
same_field [] field other e = cc
same_field (c ∷ word) field other e = same_field word field other (let h : word ++ 32 ∷ field ≡ word ++ 32 ∷ other = cc in h)

pub body_once : (a b : Admission) → IsAdmission a → IsAdmission b → proof_body a ≡ proof_body b → a ≡ b
unfolding lines
body_once a b is other e =
    let same = six_same _ _ _ _ _ _ _ _ _ _ _ _ (lines_once (lines a) (lines b) (lines_lack a is) (lines_lack b other) (sym (body_lines a) ∙ e ∙ body_lines b)) in
    let team = hex_once a.team b.team is.team.bytes other.team.bytes (same_field (codes "team") (spell_hex a.team) (spell_hex b.team) same.0) in
    let kind = kind_once a.kind b.kind (same_field (codes "kind") (spell_kind a.kind) (spell_kind b.kind) same.1) in
    let user = same_field (codes "user") a.user b.user same.2 in
    let key = base64_once a.key b.key is.key.bytes other.key.bytes (same_field (codes "key") (spell_base64 a.key) (spell_base64 b.key) same.3) in
    let seal = hex_once a.seal b.seal is.seal.bytes other.seal.bytes (same_field (codes "seal") (spell_hex a.seal) (spell_hex b.seal) same.4) in
    λ i. record { team = team i; kind = kind i; user = user i; key = key i; seal = seal i }
