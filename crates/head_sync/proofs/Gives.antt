-- The messages that give texts: the first of them, and the further ones.
use Rattle.std.proofs.Common.{◌≡◌, ◌≤◌, ◌⊎◌, ◌+◌, ◌&&◌, inl, inr, ℕ, Bool, true, false, List, [], ◌∷◌, ◌++◌, length, map, nat_le, nat_lt, sum, append-nil, append_assoc, length-append, refl, sym, ◌∙◌, ap, subst, arith}
use Rattle.std.proofs.lemmas.Bool.{and_parts, ltb-true}
use Rattle.team_sets.specs.Names.{Name}
use Rattle.head_sync.specs.Messages.{give, message_text, most_given_bytes, most_given_links}
use Rattle.head_sync.specs.Sessions.{fits, gives}
use Rattle.head_sync.proofs.Giving.{gives_fits, gives_next}

-- one message gives all
pub record IsLastGive (team : Name) (now ts : List (List ℕ)) : Type 0 where
  pub gives_are : gives team now ts ≡ message_text team (give false (now ++ ts)) ∷ []
  pub few : length (now ++ ts) ≤ most_given_links

-- a message gives some first texts, and further ones the others
pub record IsFirstGive (team : Name) (now ts : List (List ℕ)) : Type 0 where
  pub texts : List (List ℕ)
  pub next : List ℕ
  pub more : List (List ℕ)
  pub gives_are : gives team now ts ≡ message_text team (give true texts) ∷ gives team (next ∷ []) more
  pub all : now ++ ts ≡ texts ++ next ∷ more
  pub few : length texts ≤ most_given_links

few_fits : (now : List (List ℕ)) (t : List ℕ) → fits now t ≡ true → length (now ++ t ∷ []) ≤ most_given_links
few_fits [] t e = omega arith
few_fits (u ∷ us) t e =
    let parts = and_parts (nat_lt (length (u ∷ us)) most_given_links) (nat_le (sum (map length (u ∷ us)) + length t) most_given_bytes) e in
    let lt = ltb-true (length (u ∷ us)) most_given_links parts.0 in
    let size = length-append (u ∷ us) (t ∷ []) in
    omega (arith, lt, size)

pub gives_split : (team : Name) (now ts : List (List ℕ)) → length now ≤ most_given_links → IsLastGive team now ts ⊎ IsFirstGive team now ts
gives_split team now [] few =
    inl (record {
      gives_are = ap (λ (x : List (List ℕ)). message_text team (give false x) ∷ []) (sym (append-nil now));
      few = subst (λ (x : List (List ℕ)). length x ≤ most_given_links) (sym (append-nil now)) few;
    })
gives_split team now (t ∷ ts) few = go (fits now t) refl (λ f. gives_split team (now ++ t ∷ []) ts f)
  where
    longer : now ++ t ∷ ts ≡ (now ++ t ∷ []) ++ ts
    longer = sym (append_assoc now (t ∷ []) ts)

    later : gives team now (t ∷ ts) ≡ gives team (now ++ t ∷ []) ts → IsLastGive team (now ++ t ∷ []) ts ⊎ IsFirstGive team (now ++ t ∷ []) ts
        → IsLastGive team now (t ∷ ts) ⊎ IsFirstGive team now (t ∷ ts)
    later same (inl l) =
        inl (record {
          gives_are = same ∙ l.gives_are ∙ ap (λ (x : List (List ℕ)). message_text team (give false x) ∷ []) (sym longer);
          few = subst (λ (x : List (List ℕ)). length x ≤ most_given_links) (sym longer) l.few;
        })
    later same (inr f) = inr (record { texts = f.texts; next = f.next; more = f.more; gives_are = same ∙ f.gives_are; all = longer ∙ f.all; few = f.few })

    go : (b : Bool) → fits now t ≡ b → (length (now ++ t ∷ []) ≤ most_given_links → IsLastGive team (now ++ t ∷ []) ts ⊎ IsFirstGive team (now ++ t ∷ []) ts)
        → IsLastGive team now (t ∷ ts) ⊎ IsFirstGive team now (t ∷ ts)
    go false e on = inr (record { texts = now; next = t; more = ts; gives_are = gives_next team now t ts e; all = refl; few = few })
    go true e on = later (gives_fits team now t ts e) (on (few_fits now t e))
