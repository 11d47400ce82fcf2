-- Tokens that are made one after another.
use Rattle.std.proofs.Common.{◌≡◌, ℕ, suc, ◌+◌, ◌-◌, ◌<◌, ◌≤◌, List, [], ◌∷◌, ◌++◌, Option, Result, Ok, Err, IsErrAnd, refl, sym, subst, append_assoc, append-nil, arith}
use Rattle.std.specs.List.{AllByRecursion}
use Rattle.acts.specs.declared.entry.InviteKind.{InviteKind}
use Rattle.lms_tree.specs.declared.tree_key.TreeKey.{TreeKey}
use Rattle.invitations.specs.declared.token.Token.{Token}
use Rattle.tg_outside.specs.Contents.{DrawsAll}
use Rattle.tg_outside.specs.declared.fault.MakeFault.{MakeFault}
use Rattle.tg_outside.specs.declared.fault.MakeFault.TheVariants.{EntropyFault, Memory}
use Rattle.invitations.specs.declared.inviting.Invite.{Invite}
use Rattle.invitations.specs.Making.{MakesInvite, token_of, tokens_from}
use Rattle.invitations.specs.TokenText.{IsToken}

pub tokens_step : (team : List ℕ) (kind : InviteKind) (user : Option (List ℕ)) (key : TreeKey) (leaf uses : ℕ) (done : List Token) (token : Token) → leaf < uses → token ≡ token_of team kind user key leaf
    → (done ++ token ∷ []) ++ tokens_from team kind user key (leaf + 1) (uses - (leaf + 1)) ≡ done ++ tokens_from team kind user key leaf (uses - leaf)
unfolding tokens_from
tokens_step team kind user key leaf uses done token few is =
    let more : uses - leaf ≡ suc (uses - (leaf + 1)) = omega (arith, few) in
    rw (more, is, append_assoc) refl

pub tokens_end : (team : List ℕ) (kind : InviteKind) (user : Option (List ℕ)) (key : TreeKey) (leaf uses : ℕ) (done : List Token) → uses ≤ leaf
    → done ++ tokens_from team kind user key leaf (uses - leaf) ≡ done
unfolding tokens_from
tokens_end team kind user key leaf uses done all =
    let none : uses - leaf ≡ 0 = omega (arith, all) in
    rw (none, append-nil) refl

pub tokens_more : (done : List Token) (token : Token) → AllByRecursion IsToken done → IsToken token → AllByRecursion IsToken (done ++ token ∷ [])
tokens_more [] token all is = (is, tt)
tokens_more (t ∷ done) token all is = (all.0, tokens_more done token all.1 is)

-- Two words were drawn, and memory is short.
pub made_none : (old new : Option (List (List ℕ))) (team : List ℕ) (kind : InviteKind) (user : Option (List ℕ)) (uses : ℕ) (r : Result Invite MakeFault) (first second : List ℕ) → IsErrAnd r (λ e. e ≡ Memory)
    → DrawsAll old new (first ∷ second ∷ []) → MakesInvite old new team kind user uses r
made_none old new team kind user uses (Ok invite) first second e drawn = absurd e
made_none old new team kind user uses (Err fault) first second e drawn =
    subst (λ (f : MakeFault). MakesInvite old new team kind user uses (Err f)) (sym e) (first, second, drawn)
