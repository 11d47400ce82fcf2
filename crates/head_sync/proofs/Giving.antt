-- The texts of connected links by their positions, and the messages that give them.
use Rattle.std.proofs.Common.{◌≡◌, ◌≤◌, ◌<◌, ◌+◌, ◌-◌, ◌^◌, ℕ, zero, suc, Bool, true, false, ◌&&◌, ◌||◌, ◌==◌, cond, List, [], ◌∷◌, ◌++◌, length, map, take, drop, get_or, min, nat_le, nat_lt, sum, Option, None, Some, option_map, slice_get, append_assoc, length-append, refl, sym, ap, ◌∙◌, arith}
use Rattle.std.specs.List.{cons_option, filter_map}
use Rattle.std.proofs.lemmas.List.{drop_more, get_or-drop, length-drop, map-append, take_more}
use Rattle.std.proofs.lemmas.List.Elements.{filter_map-append}
use Rattle.std.proofs.lemmas.Bool.{eqb-true, false_from_ne_true, false≢true, le-leb, leb-true}
use Rattle.std.proofs.lemmas.List.Sums.{sum-map, sum_by_push}
use Rattle.team_model.specs.declared.terms.Link.{Link}
use Rattle.link_text.specs.LinkText.{text}
use Rattle.link_graph.specs.Held.{arrived_of}
use Rattle.head_sync.specs.Messages.{give, message_text, most_given_bytes, most_given_links}
use Rattle.head_sync.specs.Sessions.{fits, gives}
use Rattle.head_sync.specs.Texts.{texts_at}

same_some : {X : Type 0} (x y : X) → Some x ≡ Some y → x ≡ y
same_some x y e = let h : ◌≡◌ {A = Option _} (Some x) (Some y) = e in cc

module _ (links : List Link) where
  -- the first text is that of the first position
  pub text_first : (p : ℕ) (ps : List ℕ) (t : List ℕ) → option_map text (slice_get (arrived_of links) p) ≡ Some t → texts_at links (p ∷ ps) ≡ t ∷ texts_at links ps
  text_first p ps t e = go (slice_get (arrived_of links) p) e
    where
      go : (o : Option Link) → option_map text o ≡ Some t → map text (cons_option o (filter_map (slice_get (arrived_of links)) ps)) ≡ t ∷ texts_at links ps
      go None h = absurd (let bad : ◌≡◌ {A = Option (List ℕ)} None (Some t) = h in cc)
      go (Some x) h = ap (λ (u : List ℕ). u ∷ texts_at links ps) (same_some (text x) t h)

  pub texts_append : (ps qs : List ℕ) → texts_at links (ps ++ qs) ≡ texts_at links ps ++ texts_at links qs
  texts_append ps qs =
      ap (map text) (filter_map-append (slice_get (arrived_of links)) ps qs)
      ∙ map-append text (filter_map (slice_get (arrived_of links)) ps) (filter_map (slice_get (arrived_of links)) qs)

same_le : (x y b : ℕ) → (x ≤ b → y ≤ b) → (y ≤ b → x ≤ b) → nat_le x b ≡ nat_le y b
same_le x y b forth back = go (nat_le x b) refl (nat_le y b) refl
  where
    go : (p : Bool) → nat_le x b ≡ p → (q : Bool) → nat_le y b ≡ q → nat_le x b ≡ nat_le y b
    go true e true f = e ∙ sym f
    go false e false f = e ∙ sym f
    go true e false f = absurd (false≢true (sym f ∙ le-leb y b (forth (leb-true x b e))))
    go false e true f = absurd (false≢true (sym e ∙ le-leb x b (back (leb-true y b f))))

not_zero : (n : ℕ) → (suc n == 0) ≡ false
not_zero n = false_from_ne_true (suc n == 0) (λ e. let h = eqb-true (suc n) 0 e in omega (arith, h))

-- whether one more text fits, by the number of texts and of bytes, which stays at the greatest
pub fits_is : (now : List (List ℕ)) (t : List ℕ) (count size : ℕ) → count ≡ length now → size ≡ min (sum (map length now)) (2 ^ 64 - 1)
    → ((count == 0) || (nat_lt count most_given_links && nat_le (min (size + length t) (2 ^ 64 - 1)) most_given_bytes)) ≡ fits now t
fits_is [] t count size c s = ap (λ (n : ℕ). (n == 0) || (nat_lt n most_given_links && nat_le (min (size + length t) (2 ^ 64 - 1)) most_given_bytes)) c
fits_is (u ∷ us) t count size c s =
    ap (λ (n : ℕ). (n == 0) || (nat_lt n most_given_links && nat_le (min (size + length t) (2 ^ 64 - 1)) most_given_bytes)) c
    ∙ ap (λ (b : Bool). b || (nat_lt (length (u ∷ us)) most_given_links && nat_le (min (size + length t) (2 ^ 64 - 1)) most_given_bytes)) (not_zero (length us))
    ∙ ap (λ (b : Bool). nat_lt (length (u ∷ us)) most_given_links && b)
    (same_le (min (size + length t) (2 ^ 64 - 1)) (sum (map length (u ∷ us)) + length t) most_given_bytes (λ h. omega (arith, s, h)) (λ h. omega (arith, s, h)))

-- the number of bytes of some texts and one more
pub size_more : (now : List (List ℕ)) (t : List ℕ) (size : ℕ) → size ≡ min (sum (map length now)) (2 ^ 64 - 1)
    → min (size + length t) (2 ^ 64 - 1) ≡ min (sum (map length (now ++ t ∷ []))) (2 ^ 64 - 1)
size_more now t size s =
    let one = sum-map length now in
    let two = sum-map length (now ++ t ∷ []) in
    let more = sum_by_push length now t in
    omega (arith, s, one, two, more)

-- one more text stands in the message at hand, or begins the next one
pub gives_fits : (team : List ℕ) (now : List (List ℕ)) (t : List ℕ) (ts : List (List ℕ)) → fits now t ≡ true → gives team now (t ∷ ts) ≡ gives team (now ++ t ∷ []) ts
gives_fits team now t ts e = rw e refl

pub gives_next : (team : List ℕ) (now : List (List ℕ)) (t : List ℕ) (ts : List (List ℕ)) → fits now t ≡ false
    → gives team now (t ∷ ts) ≡ message_text team (give true now) ∷ gives team (t ∷ []) ts
gives_next team now t ts e = rw e refl

-- the texts from a start on that stand in the message at hand, and those behind them
abbrev pub now_at : List Link → List ℕ → ℕ → ℕ → List (List ℕ)
now_at links positions start i = texts_at links (take (i - start) (drop start positions))

-- a loop over the positions
pub record IsGiving (team : List ℕ) (links : List Link) (positions : List ℕ) (sent : List (List ℕ)) (start size i : ℕ) : Type 0 where
  pub within : start ≤ i
  pub some : start ≡ i → i ≡ 0
  pub count : length (now_at links positions start i) ≡ i - start
  pub size_is : size ≡ min (sum (map length (now_at links positions start i))) (2 ^ 64 - 1)
  pub made : gives team [] (texts_at links positions) ≡ sent ++ gives team (now_at links positions start i) (texts_at links (drop i positions))

module _ (team : List ℕ) (links : List Link) (positions : List ℕ) (sent : List (List ℕ)) (start size i : ℕ) (t : List ℕ) (before : IsGiving team links positions sent start size i)
    (lt : i < length positions) (is : option_map text (slice_get (arrived_of links) (get_or positions i 0)) ≡ Some t) where
  abbrev rest : List (List ℕ)
  rest = texts_at links (drop (i + 1) positions)

  abbrev now : List (List ℕ)
  now = now_at links positions start i

  alone : texts_at links (get_or positions i 0 ∷ []) ≡ t ∷ []
  alone = text_first links (get_or positions i 0) [] t is

  step : texts_at links (drop i positions) ≡ t ∷ rest
  step = ap (texts_at links) (drop_more positions i 0 lt) ∙ text_first links (get_or positions i 0) (drop (i + 1) positions) t is

  abbrev fits_test : Bool
  fits_test = (i - start == 0) || (nat_lt (i - start) most_given_links && nat_le (min (size + length t) (2 ^ 64 - 1)) most_given_bytes)

  test_is : fits_test ≡ fits now t
  test_is = fits_is now t (i - start) size (sym before.count) before.size_is

  -- the text fits
  more : now_at links positions start (i + 1) ≡ now ++ t ∷ []
  more =
      let within = before.within in
      let behind : i - start < length (drop start positions) = let all = length-drop start positions in omega (arith, all, within, lt) in
      let here : (i + 1) - start ≡ (i - start) + 1 = omega (arith, within) in
      let at : start + (i - start) ≡ i = omega (arith, within) in
      ap (λ (n : ℕ). texts_at links (take n (drop start positions))) here
      ∙ ap (texts_at links) (take_more (drop start positions) (i - start) 0 behind)
      ∙ ap (λ (p : ℕ). texts_at links (take (i - start) (drop start positions) ++ p ∷ [])) (get_or-drop start positions (i - start) 0 ∙ ap (λ (n : ℕ). get_or positions n 0) at)
      ∙ texts_append links (take (i - start) (drop start positions)) (get_or positions i 0 ∷ [])
      ∙ ap (λ (x : List (List ℕ)). now ++ x) alone

  pub giving_fits : fits_test ≡ true → (next : ℕ) → next ≡ min (size + length t) (2 ^ 64 - 1) → IsGiving team links positions sent start next (i + 1)
  giving_fits fit next e = record {
    within = let within = before.within in omega (arith, within);
    some = λ same. let within = before.within in absurd (omega (arith, within, same));
    count = let within = before.within in let size = ap length more in let longer = length-append now (t ∷ []) in let count = before.count in omega (arith, within, size, longer, count);
    size_is = e ∙ size_more now t size before.size_is ∙ ap (λ (x : List (List ℕ)). min (sum (map length x)) (2 ^ 64 - 1)) (sym more);
    made = before.made ∙ ap (λ (x : List (List ℕ)). sent ++ gives team now x) step ∙ ap (λ (x : List (List ℕ)). sent ++ x) (gives_fits team now t rest (sym test_is ∙ fit))
        ∙ ap (λ (x : List (List ℕ)). sent ++ gives team x rest) (sym more);
  }

  -- the text begins the next message
  one : now_at links positions i (i + 1) ≡ t ∷ []
  one =
      let here : (i + 1) - i ≡ 1 = omega arith in
      ap (λ (n : ℕ). texts_at links (take n (drop i positions))) here ∙ ap (λ (x : List ℕ). texts_at links (take 1 x)) (drop_more positions i 0 lt) ∙ alone

  abbrev message : List ℕ
  message = message_text team (give true now)

  pub giving_next : fits_test ≡ false → (next : ℕ) → next ≡ min (0 + length t) (2 ^ 64 - 1) → IsGiving team links positions (sent ++ message ∷ []) i next (i + 1)
  giving_next fit next e = record {
    within = omega arith;
    some = λ same. absurd (omega (arith, same));
    count = let size = ap length one in omega (arith, size);
    size_is = e ∙ size_more [] t 0 refl ∙ ap (λ (x : List (List ℕ)). min (sum (map length x)) (2 ^ 64 - 1)) (sym one);
    made = before.made ∙ ap (λ (x : List (List ℕ)). sent ++ gives team now x) step ∙ ap (λ (x : List (List ℕ)). sent ++ x) (gives_next team now t rest (sym test_is ∙ fit))
        ∙ sym (append_assoc sent (message ∷ []) (gives team (t ∷ []) rest)) ∙ ap (λ (x : List (List ℕ)). (sent ++ message ∷ []) ++ gives team x rest) (sym one);
  }
