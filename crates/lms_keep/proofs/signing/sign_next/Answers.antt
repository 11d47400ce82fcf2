use Rattle.std.proofs.Common.{◌≡◌, ◌<◌, List, ℕ, Option, Some, IfSome, ap, ◌∙◌, subst, rules}
use Rattle.std.specs.FinMap as map
use Rattle.tg_text.specs.Reading.{Reads}
use Rattle.lms_keep.specs.KeyText.{IsKeyState, key_text, leaves}
use Rattle.lms_keep.specs.Signing.{signed_by}
use Rattle.lms_keep.proofs.Signings.{signed, unsure}
use Rattle.lms_keep.proofs.signing.sign_next.Goals as goal

pub returns-in-Ok-advance-clause-signs : goal.returns-in-Ok-advance-clause-signs
returns-in-Ok-advance-clause-signs g c =
    let state = c.in-Some.state in
    let found = subst (λ (o : Option (List ℕ)). IfSome (g.F.Files.files c.args.files.now) (λ m. o ≡ map.get m c.args.name.now)) c.in-Ok-Some.field-0-is c.in-Ok-Some.ensures.found in
    let left : state.next < leaves state.lms = search rules in
    signed (g.F.Files.files c.args.files.now) (g.F.Files.files c.read.new.self) (g.F.Files.files c.advance.new.files) c.args.name.now c.args.message.now c.in-Ok-Some.bytes c.as_slice-2.result.now state
    c.sign_with.result found c.read.ensures.same (c.in-Ok-advance.ensures.replaced)
    (subst (λ (b : List ℕ). Reads IsKeyState key_text b (Some state)) c.as_slice.ensures c.in-Some.ensures) left (c.as_slice-2.ensures ∙ c.in-Ok.ensures.text)
    (c.sign_with.ensures.signed ∙ ap (λ leaf. signed_by c.in-Ok.signer.tree leaf c.args.message.now) c.in-Ok-advance.ensures.leaf ∙ ap (λ k. signed_by k state.next c.args.message.now) c.in-Ok.ensures.tree)

pub returns-in-Err-Failed-advance-clause-signs : goal.returns-in-Err-Failed-advance-clause-signs
returns-in-Err-Failed-advance-clause-signs g c =
    let state = c.in-Some.state in
    let found = subst (λ (o : Option (List ℕ)). IfSome (g.F.Files.files c.args.files.now) (λ m. o ≡ map.get m c.args.name.now)) c.in-Ok-Some.field-0-is c.in-Ok-Some.ensures.found in
    let left : state.next < leaves state.lms = search rules in
    unsure (g.F.Files.files c.args.files.now) (g.F.Files.files c.read.new.self) (g.F.Files.files c.advance.new.files) c.args.name.now c.args.message.now c.in-Ok-Some.bytes c.as_slice-2.result.now state
    found c.read.ensures.same c.in-Err-Failed-advance.ensures.either
    (subst (λ (b : List ℕ). Reads IsKeyState key_text b (Some state)) c.as_slice.ensures c.in-Some.ensures) left (c.as_slice-2.ensures ∙ c.in-Ok.ensures.text)
