use Rattle.std.proofs.Common.{◌≡◌, ◌≤◌, Some, None, sym, ap, ◌∙◌, subst}
use Rattle.tg_text.specs.KeySpelling.{last_generation}
use Rattle.tg_text.specs.declared.keys.Scope.{Scope}
use Rattle.tg_text.specs.declared.keys.KeyId.{KeyId}
use Rattle.tg_text.proofs.Lists.{same_some}
use Rattle.tg_text.proofs.KeyTexts.{key_parts, key_of_parts, no_second_slash, same_key}
use Rattle.tg_text.proofs.keys.KeyId.read.Goals as goal

pub returns-in_err-generation : goal.returns-in_err-generation
returns-in_err-generation c = rw c.from_residual-in_err-generation.ensures (record {
  found = tt;
  only = λ k is e. absurd (no_second_slash k _ _ _ is c.in_ok-scope.ensures.some.0 c.in_ok-scope.ensures.some.1 c.in_err-generation.ensures.none e);
})

pub returns-in_err-scope-2 : goal.returns-in_err-scope-2
returns-in_err-scope-2 c = rw c.from_residual-in_err-scope-2.ensures (record {
  found = tt;
  only = λ k is e.
      let parts = key_parts k _ _ _ _ _ is c.in_ok-scope.ensures.some.0 c.in_ok-scope.ensures.some.1 c.in_ok-generation.ensures.some.0 c.in_ok-generation.ensures.some.1 e in
      let read : c.read.result ≡ Some k.scope = c.read.ensures.only k.scope is.scope parts.0 in
      let none : c.read.result ≡ None = c.in_err-scope-2.was in
      absurd (let h : Some k.scope ≡ None = sym read ∙ none in cc);
})

pub returns-in_err-generation-2 : goal.returns-in_err-generation-2
returns-in_err-generation-2 c = rw c.from_residual-in_err-generation-2.ensures (record {
  found = tt;
  only = λ k is e.
      let parts = key_parts k _ _ _ _ _ is c.in_ok-scope.ensures.some.0 c.in_ok-scope.ensures.some.1 c.in_ok-generation.ensures.some.0 c.in_ok-generation.ensures.some.1 e in
      let scopes : Some k.scope ≡ Some c.in_ok-scope-2.scope = sym (c.read.ensures.only k.scope is.scope parts.0) ∙ c.in_ok-scope-2.was in
      let scope = same_some k.scope c.in_ok-scope-2.scope scopes in
      let read : c.read_generation.result ≡ Some k.generation =
      c.read_generation.ensures.only k.generation (subst (λ (s : Scope). k.generation ≤ last_generation s) scope is.generation) parts.1 in
      let none : c.read_generation.result ≡ None = c.in_err-generation-2.was in
      absurd (let h : Some k.generation ≡ None = sym read ∙ none in cc);
})

pub returns-in_err-public : goal.returns-in_err-public
returns-in_err-public c = rw c.from_residual-in_err-public.ensures (record {
  found = tt;
  only = λ k is e.
      let parts = key_parts k _ _ _ _ _ is c.in_ok-scope.ensures.some.0 c.in_ok-scope.ensures.some.1 c.in_ok-generation.ensures.some.0 c.in_ok-generation.ensures.some.1 e in
      let read : c.read_hex32.result ≡ Some k.public = c.read_hex32.ensures.only k.public is.public parts.2 in
      let none : c.read_hex32.result ≡ None = c.in_err-public.was in
      absurd (let h : Some k.public ≡ None = sym read ∙ none in cc);
})

pub returns : goal.returns
returns c =
    let scope = c.in_ok-scope-2.scope in
    let generation = c.in_ok-generation-2.generation in
    let public = c.in_ok-public.public in
    let key : KeyId = record { scope = scope; generation = generation; public = public } in
    let cut = c.in_ok-scope.ensures.some in
    let cut2 = c.in_ok-generation.ensures.some in
    record {
      found = (
        record { scope = c.in_ok-scope-2.ensures.found.0; generation = c.in_ok-generation-2.ensures.found.0; public = c.in_ok-public.ensures.found.0 },
        key_of_parts key _ _ _ _ _ cut.1 cut2.1 c.in_ok-scope-2.ensures.found.1 c.in_ok-generation-2.ensures.found.1 c.in_ok-public.ensures.found.1,
      );
      only = λ k is e.
          let parts = key_parts k _ _ _ _ _ is cut.0 cut.1 cut2.0 cut2.1 e in
          let scopes : Some k.scope ≡ Some scope = sym (c.read.ensures.only k.scope is.scope parts.0) ∙ c.in_ok-scope-2.was in
          let same_scope = same_some k.scope scope scopes in
          let generations : Some k.generation ≡ Some generation =
          sym (c.read_generation.ensures.only k.generation (subst (λ (s : Scope). k.generation ≤ last_generation s) same_scope is.generation) parts.1) ∙ c.in_ok-generation-2.was in
          let same_generation = same_some k.generation generation generations in
          let publics : Some k.public ≡ Some public = sym (c.read_hex32.ensures.only k.public is.public parts.2) ∙ c.in_ok-public.was in
          let same_public = same_some k.public public publics in
          let same : key ≡ k = sym (same_key k key same_scope same_generation same_public) in
          ap Some same;
    }
