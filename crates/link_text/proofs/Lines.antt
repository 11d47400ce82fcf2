-- One line at the front of a text, whose reader answers a fault where it finds none.
use Rattle.std.proofs.Common.{◌≡◌, ℕ, false, List, [], ◌∷◌, ◌++◌, Option, None, Some}
use Rattle.std.specs.Option.{ok_or}
use Rattle.tg_text.specs.Reading.{Reads, Takes as TakesOrNone}
use Rattle.tg_text.specs.Spelling.{has_newline, line_of}
use Rattle.tg_text.proofs.FieldLines as lines
use Rattle.link_text.specs.declared.fault.LineFault.TheVariants.{BadText}
use Rattle.link_text.specs.Takes.{Takes}

same_some : {X : Type 0} (x y : X) → Some x ≡ Some y → x ≡ y
same_some x y e = cc

-- No answer becomes a fault.
takes_or_fault : {X : Type 0} (IsX : X → Type 0) (spell : X → List ℕ) (old new : List ℕ) (read : Option X) → TakesOrNone IsX spell old new read → Takes IsX spell old new (ok_or read BadText)
takes_or_fault IsX spell old new None takes = record {
  found = tt;
  only = λ x rest is e. absurd (let h : None ≡ Some x = (takes.only x rest is e).0 in cc);
}
takes_or_fault IsX spell old new (Some y) takes = record {
  found = takes.found;
  only = λ x rest is e. let same = takes.only x rest is e in (same_some y x same.0, same.1);
}

-- The reader of a field makes the reader of its line.
pub takes : {X : Type 0} (IsX : X → Type 0) (spell : X → List ℕ) (word field old new : List ℕ) (read : Option X)
    → ((x : X) → IsX x → has_newline (spell x) ≡ false) → (has_newline field ≡ false) × (old ≡ word ++ 32 ∷ (field ++ 10 ∷ new)) → Reads IsX spell field read
    → Takes IsX (λ x. line_of (word ∷ spell x ∷ [])) old new (ok_or read BadText)
takes IsX spell word field old new read lacks line reads =
    takes_or_fault IsX (λ x. line_of (word ∷ spell x ∷ [])) old new read (lines.takes IsX spell word field old new read lacks line reads)
