use Rattle.std.proofs.Common.{◌≡◌, ◌++◌, ◌∷◌, [], ◌∙◌, ap, subst, codes, List, ℕ, OnOk, append_assoc}
use Rattle.tg_text.specs.Spelling.{spell_hex}
use Rattle.team_files.proofs.writing.extend_header.Goals as goal

pub returns-clause-ok : goal.returns-clause-ok
returns-clause-ok c =
    let out = c.args.out.now in
    let hex = spell_hex c.args.team.now in
    let named : c.write_hex.new.out ≡ ((out ++ codes "team-file ") ++ codes "1 ") ++ hex =
    c.in_ok-write_hex.ensures.ok ∙ ap (λ (t : List ℕ). c.append-2.new.self ++ spell_hex t) c.as_slice.ensures.bytes
    ∙ ap (λ (o : List ℕ). o ++ hex) (c.in_ok-append-2.ensures.ok ∙ ap (λ (o : List ℕ). o ++ codes "1 ") c.in_ok-append.ensures.ok) in
    let whole = ap (λ (o : List ℕ). o ++ 10 ∷ []) named
    ∙ append_assoc ((out ++ codes "team-file ") ++ codes "1 ") hex (10 ∷ [])
    ∙ append_assoc (out ++ codes "team-file ") (codes "1 ") (hex ++ 10 ∷ [])
    ∙ append_assoc out (codes "team-file ") (codes "1 " ++ (hex ++ 10 ∷ [])) in
    subst (λ (o : List ℕ). OnOk c.append-3.result (c.append-3.new.self ≡ o)) whole c.append-3.ensures.ok
