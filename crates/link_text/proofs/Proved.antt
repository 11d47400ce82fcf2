-- A text that reads as a link reads as no other, so it does not both verify and fail to.
use Rattle.std.proofs.Common.{◌≡◌, ℕ, true, false, true≢false, List, sym, ap, ◌∙◌}
use Rattle.team_model.specs.declared.terms.Link.{Link}
use Rattle.link_text.specs.Faults.{IsUnproved}
use Rattle.link_text.specs.LinkText.{Reads, proves}
use Rattle.link_text.proofs.Texts.{fields_of, link_once}

pub one_link : (bytes : List ℕ) (l k : Link) → Reads bytes l → Reads bytes k → l ≡ k
one_link bytes l k reads other = link_once bytes l k (fields_of reads) (fields_of other)

pub one_verdict : (bytes : List ℕ) (l k : Link) → Reads bytes l → Reads bytes k → proves l ≡ true → proves k ≡ false → ⊥
one_verdict bytes l k reads other proved unproved = true≢false (sym proved ∙ ap proves (one_link bytes l k reads other) ∙ unproved)

pub not_unproved : (bytes : List ℕ) (l : Link) → Reads bytes l → proves l ≡ true → IsUnproved bytes → ⊥
not_unproved bytes l reads proved u = one_verdict bytes l u.link reads u.reads proved u.unproved
