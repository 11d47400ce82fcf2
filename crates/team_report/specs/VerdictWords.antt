-- How it is said what became of a link.
use Rattle.std.specs.Prelude.{ℕ, List, [], ◌∷◌, codes}
use Rattle.tg_text.specs.Spelling.{spaced, spell_hex}
use Rattle.team_model.specs.declared.terms.Reason.{Reason}
use Rattle.team_model.specs.declared.terms.Reason.TheVariants.{NotListed, NotAdmin, NotYours, Present, Absent, LastAdmin, LastDevice, WasRemoved, NoInvite, Spent, Expired, TooMany, Reserved, NotEmpty}
use Rattle.team_model.specs.declared.terms.Verdict.{Verdict}
use Rattle.team_model.specs.declared.terms.Verdict.TheVariants.{Counts, Unlawful, Struck, Outranked, Refused, Waiting}

-- the word of a reason
abbrev pub reason_word : Reason → List ℕ
reason_word NotListed = codes "NotListed"
reason_word NotAdmin = codes "NotAdmin"
reason_word NotYours = codes "NotYours"
reason_word Present = codes "Present"
reason_word Absent = codes "Absent"
reason_word LastAdmin = codes "LastAdmin"
reason_word LastDevice = codes "LastDevice"
reason_word WasRemoved = codes "WasRemoved"
reason_word NoInvite = codes "NoInvite"
reason_word Spent = codes "Spent"
reason_word Expired = codes "Expired"
reason_word TooMany = codes "TooMany"
reason_word Reserved = codes "Reserved"
reason_word NotEmpty = codes "NotEmpty"

-- the words of a verdict: with the reason of a refusal, and with the name of the link that struck or outranked
abbrev pub verdict_words : Verdict → List (List ℕ)
verdict_words Counts = codes "counts" ∷ []
verdict_words (Unlawful r) = codes "unlawful" ∷ reason_word r ∷ []
verdict_words (Struck n) = codes "struck" ∷ spell_hex n ∷ []
verdict_words (Outranked n) = codes "outranked" ∷ spell_hex n ∷ []
verdict_words (Refused r) = codes "refused" ∷ reason_word r ∷ []
verdict_words Waiting = codes "waiting" ∷ []

abbrev pub spell_verdict : Verdict → List ℕ
spell_verdict v = spaced (verdict_words v)
