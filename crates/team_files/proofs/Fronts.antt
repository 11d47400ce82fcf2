-- Bytes without a newline are a front of an item exactly where they are one of its first line.
use Rattle.std.proofs.Common.{◌≡◌, ℕ, zero, suc, ◌<◌, ◌≤◌, ◌^◌, ◌⊎◌, inl, inr, Bool, true, false, List, [], ◌∷◌, ◌++◌, length, get_or, replicate, codes, refl, sym, ap, ◌∙◌, subst, append_assoc, append-nil, true≢false, length-append, slice_index, arith}
use Rattle.std.specs.List.{list_all}
use Rattle.std.specs.Str.{all_ascii_digits}
use Rattle.std.proofs.lemmas.Bool.{cases_eq, cases_lt}
use Rattle.std.proofs.lemmas.List.{append_cancel_left, length-replicate}
use Rattle.tg_text.specs.Spelling.{IsHash, has_newline, spell_decimal, spell_hex}
use Rattle.tg_text.proofs.Splits.{no_split}
use Rattle.link_text.specs.TeamFile.{frame}
use Rattle.team_files.specs.Frames.{header_fields, length_fields}
use Rattle.team_files.specs.Bundles.{length_line, IsFront, IsItemText}
use Rattle.team_files.specs.LineFronts.{is_lower_digit, IsHeaderFront, IsLengthFront}
use Rattle.team_files.proofs.Digits.{IsShortNumeral, front_hash, hash_front, length_name, numeral_front, numeral_of, of_numeral, spelled}

head_is : (x y : ℕ) (xs ys : List ℕ) → x ∷ xs ≡ y ∷ ys → x ≡ y
head_is x y xs ys e = cc

tail_is : (x y : ℕ) (xs ys : List ℕ) → x ∷ xs ≡ y ∷ ys → xs ≡ ys
tail_is x y xs ys e = cc

same_list : (x y : ℕ) (xs ys : List ℕ) → x ≡ y → xs ≡ ys → x ∷ xs ≡ y ∷ ys
same_list x y xs ys h t = cc

-- of two fronts of one text one is a front of the other
pub split_front : (b w more ds : List ℕ) → b ++ more ≡ w ++ ds → ((m : List ℕ) × (w ≡ b ++ m)) ⊎ ((d : List ℕ) × (b ≡ w ++ d) × (d ++ more ≡ ds))
split_front [] w more ds e = inl (w, refl)
split_front (x ∷ b) [] more ds e = inr (x ∷ b, refl, e)
split_front (x ∷ b) (y ∷ w) more ds e = elim (split_front b w more ds (tail_is _ _ _ _ e)) [
  | inl short ↦ inl (short.0, same_list _ _ _ _ (sym (head_is _ _ _ _ e)) short.1)
  | inr long ↦ inr (long.0, same_list _ _ _ _ (head_is _ _ _ _ e) long.1, long.2)
]

-- bytes without a newline in front of a line are in front of its newline
pub line_front : (b fields more x : List ℕ) → has_newline b ≡ false → b ++ more ≡ fields ++ 10 ∷ x → (d : List ℕ) × (b ++ d ≡ fields)
line_front b fields more x none e = elim (split_front b fields more (10 ∷ x) e) [
  | inl short ↦ (short.0, sym short.1)
  | inr long ↦ ends long.0 long.1 long.2
]
  where
    ends : (d : List ℕ) → b ≡ fields ++ d → d ++ more ≡ 10 ∷ x → (c : List ℕ) × (b ++ c ≡ fields)
    ends [] at behind = ([], append-nil b ∙ at ∙ append-nil fields)
    ends (c ∷ d) at behind = absurd (no_split 10 b fields d none (at ∙ ap (λ y. fields ++ y ∷ d) (head_is _ _ _ _ behind)))

frame_is : (inner : List ℕ) → frame inner ≡ length_fields (length inner) ++ 10 ∷ inner
frame_is inner = append_assoc (length_fields (length inner)) (10 ∷ []) inner

length_front_of : (b d : List ℕ) (n : ℕ) → n < 10 ^ 9 → b ++ d ≡ length_fields n → IsLengthFront b
length_front_of b d n small e = elim (split_front b (codes "link ") d (spell_decimal n) e) [
  | inl short ↦ inl short
  | inr long ↦ by long.0 long.1 long.2
]
  where
    by : (ds : List ℕ) → b ≡ codes "link " ++ ds → ds ++ d ≡ spell_decimal n → IsLengthFront b
    by [] at behind = inl ([], sym (append-nil b ∙ at))
    by (c ∷ ds) at behind =
        let numeral = of_numeral (c ∷ ds) (numeral_front (c ∷ ds) d (subst IsShortNumeral (sym behind) (numeral_of n small)) (omega arith)) in
        inr (numeral.0, numeral.1, at ∙ ap (λ x. codes "link " ++ x) (sym numeral.2))

header_front_of : (b d team : List ℕ) → IsHash team → b ++ d ≡ header_fields team → IsHeaderFront b
header_front_of b d team is e = elim (split_front b (codes "team-file 1 ") d (spell_hex team) e) [
  | inl short ↦ inl short
  | inr long ↦ let digits = front_hash team long.0 d is (sym long.2) in inr (long.0, long.1, digits.0, digits.1)
]

-- a front without a newline is one of a first line
pub line_of_front : (b : List ℕ) → has_newline b ≡ false → IsFront b → IsLengthFront b ⊎ IsHeaderFront b
line_of_front b none front = elim front.2 [
  | inl item ↦
      let line = line_front b (header_fields item.0) front.0 [] none item.2 in
      inr (header_front_of b line.0 item.0 item.1 line.1)
  | inr item ↦
      let line = line_front b (length_fields (length item.0)) front.0 item.0 none (item.2 ∙ frame_is item.0) in
      inl (length_front_of b line.0 (length item.0) item.1 line.1)
]

pub open_frame : (n : ℕ) → n < 10 ^ 9 → IsItemText (length_fields n ++ 10 ∷ replicate n 0)
open_frame n small =
    let e : length (replicate n 0) ≡ n = length-replicate {A = ℕ} n 0 in
    inr (replicate n 0, omega (arith, small, e), ap (λ m. length_fields m ++ 10 ∷ replicate n 0) (sym e) ∙ sym (frame_is (replicate n 0)))

abbrev zeros : List ℕ
zeros = replicate 32 0

zeros_hash : IsHash zeros
zeros_hash = record { size = refl; bytes = λ i. at i 32 }
  where
    at : (i n : ℕ) → slice_index (replicate n 0) i < 256
    at i zero = omega arith
    at zero (suc n) = omega arith
    at (suc i) (suc n) = at i n

-- and a front of a first line is one of an item
pub front_of_length : (b : List ℕ) → IsLengthFront b → IsFront b
front_of_length b (inl (more, e)) =
    let tail = spell_decimal 0 ++ 10 ∷ [] in (
      more ++ tail,
      omega (arith, length-append more tail, length-append (spell_decimal 0) (10 ∷ [])),
      inr ([], omega arith, sym (append_assoc b more tail) ∙ ap (λ w. w ++ tail) (sym e) ∙ sym (append-nil (length_line 0))),
    )
front_of_length b (inr (n, small, e)) =
    (10 ∷ replicate n 0, omega arith, subst (λ l. IsItemText (l ++ 10 ∷ replicate n 0)) (sym e) (open_frame n small))

pub front_of_header : (b : List ℕ) → IsHeaderFront b → IsFront b
front_of_header b (inl (more, e)) =
    let tail = spell_hex zeros ++ 10 ∷ [] in (
      more ++ tail,
      omega (arith, length-append more tail, length-append (spell_hex zeros) (10 ∷ [])),
      inl (zeros, zeros_hash, sym (append_assoc b more tail) ∙ ap (λ w. w ++ tail) (sym e)),
    )
front_of_header b (inr (ds, e, short, lower)) =
    let name = hash_front ds short lower in
    let tail = name.1 ++ 10 ∷ [] in (
      tail,
      omega (arith, length-append name.1 (10 ∷ [])),
      inl (name.0, name.2, sym (append_assoc b name.1 (10 ∷ [])) ∙ ap (λ x. (x ++ name.1) ++ 10 ∷ []) e ∙ ap (λ x. (codes "team-file 1 " ++ x) ++ 10 ∷ []) (sym name.3)),
    )

-- what stands behind a header's words, where the bytes are a front of one
pub digits_of_front : (b digits : List ℕ) → b ≡ codes "team-file 1 " ++ digits → IsHeaderFront b → (length digits ≤ 64) × (list_all is_lower_digit digits ≡ true)
digits_of_front b [] e h = (omega arith, refl)
digits_of_front b (c ∷ digits) e (inl (more, f)) = absurd (omega (arith, ap length f, ap length e, length-append b more))
digits_of_front b (c ∷ digits) e (inr (ds, f, short, lower)) =
    let same = append_cancel_left (codes "team-file 1 ") ds (c ∷ digits) (sym f ∙ e) in
    (omega (arith, short, ap length same), ap (list_all is_lower_digit) (sym same) ∙ lower)

pub long_digits : (b digits : List ℕ) → b ≡ codes "team-file 1 " ++ digits → IsHeaderFront b → 64 < length digits → ⊥
long_digits b digits e h past = absurd (omega (arith, past, (digits_of_front b digits e h).0))

-- what can be told of a line

abbrev pub Told : Type 0 → Type 0
Told P = P ⊎ (P → ⊥)

pub tell_front : (b w : List ℕ) → Told ((more : List ℕ) × (w ≡ b ++ more))
tell_front [] w = inl (w, refl)
tell_front (x ∷ b) [] = inr (λ h. absurd (omega (arith, ap length h.1)))
tell_front (x ∷ b) (y ∷ w) = elim (cases_eq x y) [
  | inl same ↦ elim (tell_front b w) [
    | inl is ↦ inl (is.0, same_list _ _ _ _ (sym same) is.1)
    | inr isnt ↦ inr (λ h. isnt (h.0, tail_is _ _ _ _ h.1))
  ]
  | inr other ↦ inr (λ h. other (sym (head_is _ _ _ _ h.1)))
]

tell_true : (b : Bool) → Told (b ≡ true)
tell_true true = inl refl
tell_true false = inr (λ e. true≢false (sym e))

tell_numeral : (ds : List ℕ) → Told (IsShortNumeral ds)
tell_numeral ds = elim (tell_true (all_ascii_digits ds)) [
  | inr isnt ↦ inr (λ is. isnt is.digits)
  | inl digits ↦ elim (cases_lt 0 (length ds)) [
    | inr none ↦ inr (λ is. absurd (omega (arith, is.some, none)))
    | inl some ↦ elim (cases_lt 9 (length ds)) [
      | inl long ↦ inr (λ is. absurd (omega (arith, is.short, long)))
      | inr short ↦ elim (cases_eq (get_or ds 0 0) 48) [
        | inr other ↦ inl (record { digits = digits; some = some; short = omega (arith, short); lead = λ e. absurd (other e) })
        | inl first ↦ elim (cases_eq (length ds) 1) [
          | inl one ↦ inl (record { digits = digits; some = some; short = omega (arith, short); lead = λ e. one })
          | inr more ↦ inr (λ is. more (is.lead first))
        ]
      ]
    ]
  ]
]

-- whether a line is a frame's first one
pub tell_length : (line : List ℕ) → Told ((n : ℕ) × (n < 10 ^ 9) × (line ≡ length_fields n))
tell_length line = elim (tell_front (codes "link ") line) [
  | inr isnt ↦ inr (λ h. isnt (spell_decimal h.0, h.2))
  | inl word ↦ elim (tell_numeral word.0) [
    | inl numeral ↦ let n = of_numeral word.0 numeral in inl (n.0, n.1, word.1 ∙ ap (λ x. codes "link " ++ x) (sym n.2))
    | inr isnt ↦ inr (λ h. isnt (subst IsShortNumeral (sym (append_cancel_left (codes "link ") word.0 (spell_decimal h.0) (sym word.1 ∙ h.2))) (numeral_of h.0 h.1)))
  ]
]

-- whether a line is a header's
pub tell_header : (line : List ℕ) → Told ((team : List ℕ) × IsHash team × (line ≡ header_fields team))
tell_header line = elim (tell_front (codes "team-file 1 ") line) [
  | inr isnt ↦ inr (λ h. isnt (spell_hex h.0, h.2))
  | inl word ↦
      let digits : (team : List ℕ) → line ≡ header_fields team → word.0 ≡ spell_hex team =
      λ team e. append_cancel_left (codes "team-file 1 ") word.0 (spell_hex team) (sym word.1 ∙ e) in
      elim (tell_true (list_all is_lower_digit word.0)) [
        | inr isnt ↦ inr (λ h. isnt (front_hash h.0 word.0 [] h.1 (sym (digits h.0 h.2) ∙ sym (append-nil word.0))).1)
        | inl lower ↦ elim (cases_eq (length word.0) 64) [
          | inr other ↦ inr (λ h. other (ap length (digits h.0 h.2) ∙ length_name h.0 h.1))
          | inl long ↦
              let team = spelled 32 word.0 long lower in
              inl (team.0, record { size = team.1; bytes = team.2 }, word.1 ∙ ap (λ x. codes "team-file 1 " ++ x) (sym team.3))
        ]
      ]
]

tell_length_front : (b : List ℕ) → Told (IsLengthFront b)
tell_length_front b = elim (tell_front b (codes "link ")) [
  | inl short ↦ inl (inl short)
  | inr isnt ↦ elim (tell_length b) [
    | inl line ↦ inl (inr line)
    | inr other ↦ inr (λ h. elim h [ inl short ↦ isnt short | inr line ↦ other line ])
  ]
]

tell_header_front : (b : List ℕ) → Told (IsHeaderFront b)
tell_header_front b = elim (tell_front b (codes "team-file 1 ")) [
  | inl short ↦ inl (inl short)
  | inr isnt ↦ elim (tell_front (codes "team-file 1 ") b) [
    | inr other ↦ inr (λ h. elim h [ inl short ↦ isnt short | inr long ↦ other (long.0, long.1) ])
    | inl word ↦ elim (tell_true (list_all is_lower_digit word.0)) [
      | inr upper ↦ inr (λ h. elim h [ inl short ↦ isnt short | inr long ↦ upper (subst (λ x. list_all is_lower_digit x ≡ true) (sym (same word.0 word.1 long.0 long.1)) long.3) ])
      | inl lower ↦ elim (cases_lt 64 (length word.0)) [
        | inr short ↦ inl (inr (word.0, word.1, omega (arith, short), lower))
        | inl past ↦ inr (λ h. elim h [ inl short ↦ isnt short | inr long ↦ absurd (omega (arith, past, long.2, ap length (same word.0 word.1 long.0 long.1))) ])
      ]
    ]
  ]
]
  where
    same : (x : List ℕ) → b ≡ codes "team-file 1 " ++ x → (y : List ℕ) → b ≡ codes "team-file 1 " ++ y → x ≡ y
    same x e y f = append_cancel_left (codes "team-file 1 ") x y (sym e ∙ f)

-- whether bytes without a newline are a front
pub tell_open : (b : List ℕ) → has_newline b ≡ false → Told (IsFront b)
tell_open b none = elim (tell_length_front b) [
  | inl line ↦ inl (front_of_length b line)
  | inr no_length ↦ elim (tell_header_front b) [
    | inl line ↦ inl (front_of_header b line)
    | inr no_header ↦ inr (λ front. elim (line_of_front b none front) [ inl line ↦ no_length line | inr line ↦ no_header line ])
  ]
]
