-- How a command that signs is refused by the rules: with status 4, and a line that says why.
use Rattle.std.specs.Prelude.{◌≡◌, ℕ, List, [], ◌∷◌, codes}
use Rattle.tg_text.specs.Spelling.{line_of, spell_hex}
use Rattle.team_model.specs.declared.terms.Reason.{Reason}
use Rattle.team_model.specs.declared.terms.Reason.TheVariants as reason
use Rattle.outcomes.specs.declared.stop.Stop.{Stop}
use Rattle.outcomes.specs.declared.stop.Stop.TheVariants.{Refused, Failed, Memory}
use Rattle.author_commands.specs.declared.refusal.Refusal.{Refusal}
use Rattle.author_commands.specs.declared.refusal.Refusal.TheVariants.{NotPermitted, Spent, Full, NameClash}

abbrev pub reason_word : Reason → List ℕ
reason_word reason.NotListed = codes "NotListed"
reason_word reason.NotAdmin = codes "NotAdmin"
reason_word reason.NotYours = codes "NotYours"
reason_word reason.Present = codes "Present"
reason_word reason.Absent = codes "Absent"
reason_word reason.LastAdmin = codes "LastAdmin"
reason_word reason.LastDevice = codes "LastDevice"
reason_word reason.WasRemoved = codes "WasRemoved"
reason_word reason.NoInvite = codes "NoInvite"
reason_word reason.Spent = codes "Spent"
reason_word reason.Expired = codes "Expired"
reason_word reason.TooMany = codes "TooMany"
reason_word reason.Reserved = codes "Reserved"
reason_word reason.NotEmpty = codes "NotEmpty"

abbrev pub refusal_words : Refusal → List (List ℕ)
refusal_words (NotPermitted r) = reason_word r ∷ []
refusal_words Spent = codes "Spent" ∷ []
refusal_words Full = codes "Full" ∷ []
refusal_words (NameClash name) = codes "NameClash" ∷ spell_hex name ∷ []

abbrev pub refusal_line : Refusal → List ℕ
refusal_line r = line_of (codes "fault" ∷ refusal_words r)

-- a stop that refuses so, or want of memory
abbrev pub IsRefusalBy : Refusal → Stop → Type 0
IsRefusalBy r (Refused a) = (a.status ≡ 4) × (a.text ≡ refusal_line r)
IsRefusalBy r Failed = ⊥
IsRefusalBy r Memory = Unit {0}
