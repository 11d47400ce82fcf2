-- Bytes are a message to one team, and say one thing.
use Rattle.std.proofs.Common.{◌≡◌, ◌<◌, ◌^◌, ℕ, Bool, true, false, List, [], ◌∷◌, ◌++◌, length, codes, refl, sym, ap, ◌∙◌, append-nil, arith}
use Rattle.std.specs.List.{AllByRecursion}
use Rattle.tg_text.specs.Spelling.{has_newline, spell_hex, IsHash}
use Rattle.tg_text.proofs.FieldLaws.{hex_lacks, hex_once}
use Rattle.tg_text.proofs.FieldLines.{spelled_once}
use Rattle.tg_text.proofs.Lists.{head_is}
use Rattle.team_sets.specs.Names.{Name}
use Rattle.link_text.proofs.Fields.{parents}
use Rattle.link_text.proofs.Repeated.{lines_once}
use Rattle.team_files.proofs.Once.{frame_once}
use Rattle.head_sync.specs.Messages.{AreNames, Content, IsContent, IsMessage, MessageIsReadOnce, ask, content_text, done, frames_of, give, hello, kind_word, more_word, name_lines, team_line}
use Rattle.head_sync.proofs.NameLines.{no_line, no_name}

pub kind_lacks : (c : Content) → has_newline (kind_word c) ≡ false
kind_lacks (hello heads) = refl
kind_lacks (ask names marks) = refl
kind_lacks (give more texts) = refl
kind_lacks (done heads) = refl

pub more_lacks : (more : Bool) → has_newline (more_word more) ≡ false
more_lacks true = refl
more_lacks false = refl

pub more_once : (a b : Bool) → more_word a ≡ more_word b → a ≡ b
more_once true true e = refl
more_once false false e = refl
more_once true false e = absurd (let h : 121 ≡ 110 = head_is _ _ _ _ e in omega (arith, h))
more_once false true e = absurd (let h : 110 ≡ 121 = head_is _ _ _ _ e in omega (arith, h))

names_once : (word : List ℕ) (xs ys : List Name) → AreNames xs → AreNames ys → name_lines word xs ≡ name_lines word ys → xs ≡ ys
names_once word xs ys is so e =
    (lines_once IsHash (λ n. spell_hex n) word parents xs ys [] [] is.hashes so.hashes (no_line word) (no_line word)
    (append-nil (name_lines word xs) ∙ e ∙ sym (append-nil (name_lines word ys)))).0

pub texts_once : (xs ys : List (List ℕ)) → AllByRecursion (λ t. length t < 10 ^ 9) xs → AllByRecursion (λ t. length t < 10 ^ 9) ys → frames_of xs ≡ frames_of ys → xs ≡ ys
texts_once [] [] is so e = refl
texts_once [] (y ∷ ys) is so e = absurd (omega (arith, ap length e))
texts_once (x ∷ xs) [] is so e = absurd (omega (arith, ap length e))
texts_once (x ∷ xs) (y ∷ ys) is so e =
    let split = frame_once x y (frames_of xs) (frames_of ys) (omega (arith, is.0)) (omega (arith, so.0)) e in
    let rest : xs ≡ ys = texts_once xs ys is.1 so.1 split.1 in
    let same : x ≡ y = split.0 in
    cc

pub content_once : (c d : Content) → IsContent c → IsContent d → kind_word c ≡ kind_word d → content_text c ≡ content_text d → c ≡ d
content_once (hello a) (hello b) is so k e = ap hello (names_once (codes "head") a b is so e)
content_once (hello a) (ask b m) is so k e = absurd (let h : 104 ≡ 97 = head_is _ _ _ _ k in omega (arith, h))
content_once (hello a) (give b m) is so k e = absurd (let h : 104 ≡ 103 = head_is _ _ _ _ k in omega (arith, h))
content_once (hello a) (done b) is so k e = absurd (let h : 104 ≡ 100 = head_is _ _ _ _ k in omega (arith, h))
content_once (ask a m) (hello b) is so k e = absurd (let h : 97 ≡ 104 = head_is _ _ _ _ k in omega (arith, h))
content_once (ask a m) (ask b n) is so k e =
    let cut = lines_once IsHash (λ x. spell_hex x) (codes "name") parents a b (name_lines (codes "mark") m) (name_lines (codes "mark") n) is.0.hashes so.0.hashes (no_name m) (no_name n) e in
    ap (λ (x : List Name). ask x m) cut.0 ∙ ap (λ (x : List Name). ask b x) (names_once (codes "mark") m n is.2 so.2 cut.1)
content_once (ask a m) (give b n) is so k e = absurd (let h : 97 ≡ 103 = head_is _ _ _ _ k in omega (arith, h))
content_once (ask a m) (done b) is so k e = absurd (let h : 97 ≡ 100 = head_is _ _ _ _ k in omega (arith, h))
content_once (give a m) (hello b) is so k e = absurd (let h : 103 ≡ 104 = head_is _ _ _ _ k in omega (arith, h))
content_once (give a m) (ask b n) is so k e = absurd (let h : 103 ≡ 97 = head_is _ _ _ _ k in omega (arith, h))
content_once (give a m) (give b n) is so k e =
    let cut = spelled_once (codes "more") (more_word a) (more_word b) (frames_of m) (frames_of n) (more_lacks a) (more_lacks b) e in
    ap (λ (x : Bool). give x m) (more_once a b cut.0) ∙ ap (λ (x : List (List ℕ)). give b x) (texts_once m n is.short so.short cut.1)
content_once (give a m) (done b) is so k e = absurd (let h : 103 ≡ 100 = head_is _ _ _ _ k in omega (arith, h))
content_once (done a) (hello b) is so k e = absurd (let h : 100 ≡ 104 = head_is _ _ _ _ k in omega (arith, h))
content_once (done a) (ask b m) is so k e = absurd (let h : 100 ≡ 97 = head_is _ _ _ _ k in omega (arith, h))
content_once (done a) (give b m) is so k e = absurd (let h : 100 ≡ 103 = head_is _ _ _ _ k in omega (arith, h))
content_once (done a) (done b) is so k e = ap done (names_once (codes "head") a b is so e)

pub message_once : MessageIsReadOnce
message_once bytes t u c d is so =
    let whole = sym is.is_text ∙ so.is_text in
    let kind = spelled_once (codes "team-sync 1") (kind_word c) (kind_word d) (team_line t ++ content_text c) (team_line u ++ content_text d) (kind_lacks c) (kind_lacks d) whole in
    let team = spelled_once (codes "team") (spell_hex t) (spell_hex u) (content_text c) (content_text d) (hex_lacks 10 t refl) (hex_lacks 10 u refl) kind.1 in
    (hex_once t u is.team.bytes so.team.bytes team.0, content_once c d is.content so.content kind.0 team.1)
