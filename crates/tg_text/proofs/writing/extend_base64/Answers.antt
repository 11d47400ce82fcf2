use Rattle.std.proofs.Common.{◌≡◌, ◌++◌, [], refl, sym, ap, ◌∙◌, arith, append_assoc, append-nil, length-append}
use Rattle.std.proofs.lemmas.List.{take-append-drop}
use Rattle.base64.specs.Engines.{standard}
use Rattle.base64.proofs.EngineFacts.{encode_of-append, encode_of-nil}
use Rattle.tg_text.specs.Spelling.{spell_base64}
use Rattle.tg_text.proofs.writing.extend_base64.Goals as goal

pub loop-rest-init : goal.loop-rest-init
loop-rest-init c = ([], refl, refl, rw (encode_of-nil standard, append-nil) refl)

pub loop-rest-preserved : goal.loop-rest-preserved
loop-rest-preserved c =
    let was = c.loop-rest.invariant in
    let front = c.split_at.result.0.now in
    let cut : c.loop-rest.rest.now ≡ front ++ c.split_at.result.1.now = rw (c.split_at.ensures.front, c.split_at.ensures.back) (sym (take-append-drop 768 c.loop-rest.rest.now)) in (
      was.0 ++ front,
      was.1 ∙ ap (λ t. was.0 ++ t) cut ∙ sym (append_assoc was.0 front c.split_at.result.1.now),
      rw length-append (omega (arith, was.2, c.split_at.ensures.front_len)),
      rw (c.in_ok-append_piece.ensures.ok, was.3, encode_of-append standard was.0 front was.2) (append_assoc c.args.out.now (spell_base64 was.0) (spell_base64 front)),
    )

pub returns-clause-ok : goal.returns-clause-ok
returns-clause-ok c =
    let was = c.loop-rest.invariant in
    let rest = c.loop-rest.rest.now in
    rw (was.1, encode_of-append standard was.0 rest was.2, ← append_assoc c.args.out.now (spell_base64 was.0) (spell_base64 rest), ← was.3) c.append_piece-2.ensures.ok
