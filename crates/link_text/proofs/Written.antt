-- Lines that were written one after the other.
use Rattle.std.proofs.Common.{◌≡◌, ℕ, List, [], ◌∷◌, ◌++◌, codes, flat_map, append_assoc}
use Rattle.tg_text.specs.Spelling.{line_of}
use Rattle.team_sets.specs.Names.{Name}
use Rattle.link_text.specs.LinkText.{prev_line}

pub head_lines : (start first team prev a b end : List ℕ) → a ≡ start ++ first → b ≡ a ++ team → end ≡ b ++ prev → end ≡ start ++ (first ++ (team ++ prev))
head_lines start first team prev a b end e f g = rw (g, f, e) (simp append_assoc)

pub box_fields : (start to of sealed a b c d e f end : List ℕ) → a ≡ start ++ codes "box " → b ≡ a ++ to → c ≡ b ++ codes " " → d ≡ c ++ of → e ≡ d ++ codes " " → f ≡ e ++ sealed → end ≡ f ++ codes "\n"
    → end ≡ start ++ line_of (codes "box" ∷ to ∷ of ∷ sealed ∷ [])
box_fields start to of sealed a b c d e f end ea eb ec ed ee ef eg = rw (eg, ef, ee, ed, ec, eb, ea) (simp append_assoc)

pub body_lines : (first team user key time act news boxes start a end : List ℕ) (names prev : List Name) → start ≡ [] → names ≡ prev → a ≡ start ++ (first ++ (team ++ flat_map prev_line names))
    → end ≡ a ++ (user ++ (key ++ (time ++ (act ++ (news ++ boxes))))) → end ≡ first ++ team ++ flat_map prev_line prev ++ user ++ key ++ time ++ act ++ news ++ boxes
body_lines first team user key time act news boxes start a end names prev es same ea ee = rw (ee, ea, es, same) (simp append_assoc)
