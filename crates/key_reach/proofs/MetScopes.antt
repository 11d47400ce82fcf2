-- The entitled scopes of a device are those that it meets by allowed arrows.
use Rattle.std.proofs.Common.{◌≡◌, Bool, true, List, filter, subst}
use Rattle.team_sets.specs.Names.{Name}
use Rattle.team_sets.specs.Closure.{Reaches, is_given, follows}
use Rattle.team_sets.proofs.Agree.{any_in}
use Rattle.team_sets.proofs.Closures.{closure-reaches}
use Rattle.team_sets.proofs.OrderLeast.{in_filter, of_filter}
use Rattle.tg_text.specs.declared.keys.Scope.{Scope}
use Rattle.tg_text.specs.declared.keys.Scope.TheVariants.{Device}
use Rattle.key_reach.specs.EntitledLaws.{IsClosed, IsLeast, IsMet, own, led}
use Rattle.key_reach.specs.Keys.{Table, is_entitled, same_scope, scope_arrows}
use Rattle.key_reach.specs.Laws.{IsKeyTable}
use Rattle.key_reach.proofs.Meeting.{in-has-scope, in_arrows, of_arrows, scope-decides, scope-is, scope-same}

module _ (t : Table) (law : IsKeyTable t) (d : Name) where
  abbrev starts : List Scope
  starts = filter (same_scope (Device d)) t.scopes

  reached-met : (s : Scope) → Reaches (scope_arrows t) starts s → IsMet t d s
  reached-met _ (is_given s k) =
      let found = of_filter (same_scope (Device d)) s t.scopes k in
      subst (λ x. IsMet t d x) (scope-is (Device d) s found.1) (own (any_in (same_scope (Device d)) t.scopes s found.0 found.1))
  reached-met _ (follows from to k r) = led from to (of_arrows t.allowed t.scopes (from, to) t.scopes k).0 (reached-met from r)

  met-reached : (s : Scope) → IsMet t d s → Reaches (scope_arrows t) starts s
  met-reached _ (own live) = is_given (Device d) (in_filter (same_scope (Device d)) (Device d) t.scopes (in-has-scope t.scopes (Device d) live) (scope-same (Device d)))
  met-reached _ (led from to allowed m) =
      let live = law.joins_live from to allowed in
      follows from to (in_arrows t.allowed t.scopes from to t.scopes (in-has-scope t.scopes from live.0) (in-has-scope t.scopes to live.1) allowed) (met-reached from m)

  of-entitled : (s : Scope) → is_entitled t d s ≡ true → IsMet t d s
  of-entitled s h = reached-met s ((closure-reaches same_scope scope-decides (scope_arrows t) starts s).0 h)

  in-entitled : (s : Scope) → IsMet t d s → is_entitled t d s ≡ true
  in-entitled s m = (closure-reaches same_scope scope-decides (scope_arrows t) starts s).1 (met-reached s m)

  closed-has : (holds : Scope → Bool) → IsClosed t d holds → (s : Scope) → IsMet t d s → holds s ≡ true
  closed-has holds closed _ (own live) = closed.start live
  closed-has holds closed _ (led from to allowed m) = closed.further from to allowed (closed-has holds closed from m)

  pub entitled-least : IsLeast t d
  entitled-least = record {
    met = λ s. (of-entitled s, in-entitled s);
    closed = record {
      start = λ live. in-entitled (Device d) (own live);
      further = λ from to allowed h. in-entitled to (led from to allowed (of-entitled from h));
    };
    least = λ holds closed s h. closed-has holds closed s (of-entitled s h);
  }
