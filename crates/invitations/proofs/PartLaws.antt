-- Parts of a file that are read one after another.
use Rattle.std.proofs.Common.{◌≡◌, ◌≢◌, ℕ, List, [], ◌++◌, Option, Some, None, IfSome, refl, sym, ap, ◌∙◌, subst, append_assoc, append-nil}
use Rattle.std.proofs.lemmas.List.{append_cancel_left}
use Rattle.std.specs.Option.{option_zip}
use Rattle.acts.specs.Fields.{AreTwo}
use Rattle.tg_text.specs.Reading.{Reads, Takes}
use Rattle.tg_text.proofs.Lists.{same_some}
use Rattle.invitations.specs.Parts.{Chooses, both_lines}

both_found : {X Y : Type 0} (IsX : X → Type 0) (IsY : Y → Type 0) (spell : X → List ℕ) (spell_next : Y → List ℕ) (old mid new : List ℕ) (x : Option X) (y : Option Y)
    → IfSome x (λ a. IsX a × (old ≡ spell a ++ mid)) → IfSome y (λ b. IsY b × (mid ≡ spell_next b ++ new))
    → IfSome (option_zip x y) (λ p. AreTwo IsX IsY p × (old ≡ both_lines spell spell_next p ++ new))
both_found IsX IsY spell spell_next old mid new None y hx hy = tt
both_found IsX IsY spell spell_next old mid new (Some a) None hx hy = tt
both_found IsX IsY spell spell_next old mid new (Some a) (Some b) hx hy =
    ((hx.0, hy.0), hx.1 ∙ ap (λ (t : List ℕ). spell a ++ t) hy.1 ∙ sym (append_assoc (spell a) (spell_next b) new))

-- Two parts are read where each is.
pub takes_both : {X Y : Type 0} (IsX : X → Type 0) (IsY : Y → Type 0) (spell : X → List ℕ) (spell_next : Y → List ℕ) (old mid new : List ℕ) (x : Option X) (y : Option Y)
    → Takes IsX spell old mid x → Takes IsY spell_next mid new y → Takes (AreTwo IsX IsY) (both_lines spell spell_next) old new (option_zip x y)
takes_both IsX IsY spell spell_next old mid new x y hx hy = record {
  found = both_found IsX IsY spell spell_next old mid new x y hx.found hy.found;
  only = λ p rest is e.
      let first = hx.only p.0 (spell_next p.1 ++ rest) is.0 (e ∙ append_assoc (spell p.0) (spell_next p.1) rest) in
      let second = hy.only p.1 rest is.1 first.1 in
      (rw (first.0, second.0) refl, second.1);
}

none_some : {X : Type 0} (x : X) → None ≡ Some x → ⊥
none_some x e = cc

-- A file is read where its parts are, and nothing stands after them.
pub reads_all : {X : Type 0} (IsX : X → Type 0) (spell : X → List ℕ) (head text rest after : List ℕ) (found : Option X) → text ≡ head ++ rest → Takes IsX spell rest after found → after ≡ []
    → Reads IsX (λ x. head ++ spell x) text found
reads_all IsX spell head text rest after None e takes nil = record {
  found = tt;
  only = λ x is w. (takes.only x [] is (append_cancel_left head rest (spell x) (sym e ∙ w) ∙ sym (append-nil (spell x)))).0;
}
reads_all IsX spell head text rest after (Some y) e takes nil = record {
  found = (takes.found.0, e ∙ ap (λ (t : List ℕ). head ++ t) (takes.found.1 ∙ ap (λ (t : List ℕ). spell y ++ t) nil ∙ append-nil (spell y)));
  only = λ x is w. (takes.only x [] is (append_cancel_left head rest (spell x) (sym e ∙ w) ∙ sym (append-nil (spell x)))).0;
}

pub reads_more : {X : Type 0} (IsX : X → Type 0) (spell : X → List ℕ) (head text rest after : List ℕ) (found : Option X) → text ≡ head ++ rest → Takes IsX spell rest after found → after ≢ []
    → Reads IsX (λ x. head ++ spell x) text None
reads_more IsX spell head text rest after found e takes more = record {
  found = tt;
  only = λ x is w. absurd (more (takes.only x [] is (append_cancel_left head rest (spell x) (sym e ∙ w) ∙ sym (append-nil (spell x)))).1);
}

pub reads_other : {X : Type 0} (IsX : X → Type 0) (spell : X → List ℕ) (head text : List ℕ) → ((rest : List ℕ) → text ≢ head ++ rest) → Reads IsX (λ x. head ++ spell x) text None
reads_other IsX spell head text none = record { found = tt; only = λ x is w. absurd (none (spell x) w) }

-- What is read is in its range.
pub in_range : {X : Type 0} (IsX : X → Type 0) (spell : X → List ℕ) (text : List ℕ) (found : Option X) → Reads IsX spell text found → IfSome found IsX
in_range IsX spell text None reads = tt
in_range IsX spell text (Some x) reads = reads.found.0

-- What a value is made of, and how it is made of that.
pub record IsMadeOf {X Y : Type 0} (IsX : X → Type 0) (spell : X → List ℕ) (IsY : Y → Type 0) (spell_made : Y → List ℕ) (made : X → Y) (parts : Y → X) : Type 0 where
  pub again : (y : Y) → made (parts y) ≡ y
  pub range : (y : Y) → IsY y → IsX (parts y)
  pub text : (y : Y) → spell (parts y) ≡ spell_made y
  pub made_text : (x : X) → spell x ≡ spell_made (made x)

-- A value is read where what it is made of is, and is that of one.
pub reads_chosen : {X Y : Type 0} (IsX : X → Type 0) (spell : X → List ℕ) (IsY : Y → Type 0) (spell_made : Y → List ℕ) (made : X → Y) (parts : Y → X) (text : List ℕ) (found : Option X) (chosen : Option Y)
    → IsMadeOf IsX spell IsY spell_made made parts → Reads IsX spell text found → Chooses IsY parts found chosen → Reads IsY spell_made text chosen
reads_chosen {X} {Y} IsX spell IsY spell_made made parts text found None of reads chooses = record {
  found = tt;
  only = λ y is w. absurd (chooses.none y is (reads.only (parts y) (of.range y is) (w ∙ sym (of.text y))));
}
reads_chosen {X} {Y} IsX spell IsY spell_made made parts text found (Some x) of reads chooses =
    let at_x : IfSome (Some (parts x)) (λ p. IsX p × (text ≡ spell p)) = subst (λ (o : Option X). IfSome o (λ p. IsX p × (text ≡ spell p))) chooses.some.1 reads.found in
    record {
      found = (chooses.some.0, at_x.1 ∙ of.text x);
      only = λ y is w.
          let same : Some (parts x) ≡ Some (parts y) = sym chooses.some.1 ∙ reads.only (parts y) (of.range y is) (w ∙ sym (of.text y)) in
          ap Some (sym (of.again x) ∙ ap made (same_some (parts x) (parts y) same) ∙ of.again y);
    }

pub chooses_none : {X Y : Type 0} (IsY : Y → Type 0) (parts : Y → X) → Chooses IsY parts None None
chooses_none IsY parts = record { some = tt; none = λ y is e. none_some (parts y) e }

pub chooses_made : {X Y : Type 0} (IsY : Y → Type 0) (parts : Y → X) (x : X) (y : Y) → IsY y → x ≡ parts y → Chooses IsY parts (Some x) (Some y)
chooses_made IsY parts x y is e = record { some = (is, ap Some e); none = tt }

pub chooses_no : {X Y : Type 0} (IsY : Y → Type 0) (made : X → Y) (parts : Y → X) (x : X) → ((y : Y) → made (parts y) ≡ y) → (IsY (made x) → ⊥) → Chooses IsY parts (Some x) None
chooses_no IsY made parts x again bad = record {
  some = tt;
  none = λ y is e. bad (subst IsY (sym (ap made (same_some x (parts y) e) ∙ again y)) is);
}
