-- The derived orders of scopes and keys are the ones that the definitions state.
use Rattle.std.proofs.Common.{◌≡◌, true, refl, sym, subst}
use Rattle.std.specs.Cmp.{IsTotalOrder}
use Rattle.std.specs.Ordering.{eq_by_cmp}
use Rattle.std.specs.declared.cmp.Ordering.{Ordering}
use Rattle.tg_text.specs.Order.{key_cmp, scope_cmp}
use Rattle.tg_text.specs.declared.keys.Scope.{Scope}
use Rattle.tg_text.specs.declared.keys.Scope.TheVariants.{Team, Role, User, Device}
use Rattle.tg_text.specs.declared.keys.KeyId.{KeyId}
use Rattle.key_reach.proofs.Equal.{key-is}
use Rattle.key_reach.proofs.Meeting.{scope-is}
use Rattle.tg_text.specs.contracts.keys.ScopeOrd.TheImpl as scopes
use Rattle.tg_text.specs.contracts.keys.ScopeOrd.TheImpl.Laws as scopes_law
use Rattle.tg_text.specs.contracts.keys.KeyIdOrd.TheImpl.Laws as keys_law
use Rattle.tg_text.specs.contracts.keys.KeyIdOrd.TheImpl as keys

scope-order : (a b : Scope) → (scopes.cmp-value).it a b ≡ scope_cmp a b
scope-order Team Team = refl
scope-order Team (Role b) = refl
scope-order Team (User b) = refl
scope-order Team (Device b) = refl
scope-order (Role a) Team = refl
scope-order (Role a) (Role b) = refl
scope-order (Role a) (User b) = refl
scope-order (Role a) (Device b) = refl
scope-order (User a) Team = refl
scope-order (User a) (Role b) = refl
scope-order (User a) (User b) = refl
scope-order (User a) (Device b) = refl
scope-order (Device a) Team = refl
scope-order (Device a) (Role b) = refl
scope-order (Device a) (User b) = refl
scope-order (Device a) (Device b) = refl

key-order : (a b : KeyId) → (keys.cmp-value).it a b ≡ key_cmp a b
key-order a b = go a.scope b.scope
  where
    key : Scope → KeyId → KeyId
    key s k = record { scope = s; generation = k.generation; public = k.public }

    go : (s t : Scope) → (keys.cmp-value).it (key s a) (key t b) ≡ key_cmp (key s a) (key t b)
    go Team Team = refl
    go Team (Role r) = refl
    go Team (User r) = refl
    go Team (Device r) = refl
    go (Role q) Team = refl
    go (Role q) (Role r) = refl
    go (Role q) (User r) = refl
    go (Role q) (Device r) = refl
    go (User q) Team = refl
    go (User q) (Role r) = refl
    go (User q) (User r) = refl
    go (User q) (Device r) = refl
    go (Device q) Team = refl
    go (Device q) (Role r) = refl
    go (Device q) (User r) = refl
    go (Device q) (Device r) = refl

pub scope-order-is : (scopes.cmp-value).it ≡ scope_cmp
scope-order-is = λ i a b. scope-order a b i

pub key-order-is : (keys.cmp-value).it ≡ key_cmp
key-order-is = λ i a b. key-order a b i

pub scope-tells : (x y : Scope) → eq_by_cmp (scopes.cmp-value).it x y ≡ true → x ≡ y
scope-tells = subst (λ (cmp : Scope → Scope → Ordering). (x y : Scope) → eq_by_cmp cmp x y ≡ true → x ≡ y) (sym scope-order-is) scope-is

pub key-tells : (x y : KeyId) → eq_by_cmp (keys.cmp-value).it x y ≡ true → x ≡ y
key-tells = subst (λ (cmp : KeyId → KeyId → Ordering). (x y : KeyId) → eq_by_cmp cmp x y ≡ true → x ≡ y) (sym key-order-is) key-is

pub scope-total : IsTotalOrder scope_cmp
scope-total = subst (λ (cmp : Scope → Scope → Ordering). IsTotalOrder cmp) scope-order-is scopes_law.total-law

pub key-total : IsTotalOrder key_cmp
key-total = subst (λ (cmp : KeyId → KeyId → Ordering). IsTotalOrder cmp) key-order-is keys_law.total-law
