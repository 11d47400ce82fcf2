use Rattle.std.proofs.Common.{◌≡◌, ◌++◌, ◌-◌}
use Rattle.std.specs.List.{AllByRecursion}
use Rattle.invitations.specs.Making.{tokens_from}
use Rattle.invitations.specs.TokenText.{IsToken}
use Rattle.invitations.proofs.inviting.make_of.Given as goal

-- with the tokens that are left to make, those so far are all
abbrev pub invariant-loop-leaf : goal.invariant-loop-leaf
invariant-loop-leaf l = record {
  made : l.tokens ++ tokens_from l.terms.team l.terms.kind l.terms.user l.key l.leaf (l.uses - l.leaf) ≡ tokens_from l.terms.team l.terms.kind l.terms.user l.key 0 l.uses;
  all : AllByRecursion IsToken l.tokens;
}
