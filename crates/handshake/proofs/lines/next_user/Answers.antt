use Rattle.std.proofs.Common.{ℕ, List, IsTrue, codes, refl}
use Rattle.tg_text.specs.Spelling.{is_user_name}
use Rattle.tg_text.proofs.FieldLaws.{name_lacks}
use Rattle.tg_text.proofs.FieldLines.{reads_itself, takes}
use Rattle.handshake.proofs.lines.next_user.Goals as goal

pub returns : goal.returns
returns c = takes (λ (user : List ℕ). IsTrue (is_user_name user)) (λ (user : List ℕ). user) (codes "user") c.in_ok-field.field.now c.args.lines.now c.take_field.new.self c.read.result
    (λ user is. name_lacks 10 user refl is) c.in_ok-field.ensures.some (reads_itself (λ (user : List ℕ). IsTrue (is_user_name user)) c.in_ok-field.field.now c.read.result c.read.ensures.exact c.read.ensures.found)
