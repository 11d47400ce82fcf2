use Rattle.std.proofs.Common.{◌++◌, ◌∷◌, codes, append_assoc, List, ℕ, ap, ◌∙◌}
use Rattle.acts.proofs.Appends.{appends_last}
use Rattle.acts.proofs.writing.write_remove_device.Goals as goal

pub returns-clause-ok : goal.returns-clause-ok
returns-clause-ok c =
    let user = c.as_slice.result.now in
    let begun = c.in_ok-add_text.ensures.ok ∙ ap (λ (t : List ℕ). t ++ 32 ∷ user) c.in_ok-append.ensures.ok ∙ append_assoc c.args.out.now (codes "remove_device") (32 ∷ user) in
    rw (← c.as_slice.ensures.bytes, ← c.as_slice-2.ensures.bytes)
    (appends_last c.add_hex.result c.args.out.now (codes "remove_device" ++ 32 ∷ user) _ _ c.add_hex.new.out begun c.add_hex.ensures.ok)
