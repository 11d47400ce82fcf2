-- What `merge` prints, and its status.
use Rattle.std.specs.Prelude.{ℕ, ◌+◌, List, [], ◌∷◌, ◌++◌, Bool, true, false, cond, codes, filter, length}
use Rattle.std.specs.List.{list_any}
use Rattle.tg_text.specs.Spelling.{spell_decimal, spell_hex}
use Rattle.link_intake.specs.declared.item_result.ItemResult.{ItemResult}
use Rattle.link_intake.specs.declared.item_result.ItemResult.TheVariants.{Header, New, Waiting, Again, Refused}
use Rattle.link_intake.specs.declared.item_result.Refusal.{Refusal}
use Rattle.link_intake.specs.declared.item_result.Refusal.TheVariants.{TooLong, BadText, OtherTeam, BadSignature, NameClash, Full, Cut, BadFrame, Long}

-- the word of a refusal, with the name that is held already
abbrev pub refusal_word : Refusal → List ℕ
refusal_word TooLong = codes "TooLong"
refusal_word BadText = codes "BadText"
refusal_word OtherTeam = codes "OtherTeam"
refusal_word BadSignature = codes "BadSignature"
refusal_word (NameClash n) = codes "NameClash " ++ spell_hex n
refusal_word Full = codes "Full"
refusal_word Cut = codes "Cut"
refusal_word BadFrame = codes "BadFrame"
refusal_word Long = codes "Long"

-- the line of an item of this number, if it is refused
abbrev pub refused_line : ℕ → ItemResult → List ℕ
refused_line n Header = []
refused_line n (New connected) = []
refused_line n Waiting = []
refused_line n Again = []
refused_line n (Refused refusal) = spell_decimal n ++ codes " refused " ++ refusal_word refusal ++ codes "\n"

-- the lines of all items, of which the first has this number
abbrev pub refused_lines : ℕ → List ItemResult → List ℕ
refused_lines n [] = []
refused_lines n (f ∷ results) = refused_line n f ++ refused_lines (n + 1) results

abbrev pub is_new : ItemResult → Bool
is_new Header = false
is_new (New connected) = true
is_new Waiting = false
is_new Again = false
is_new (Refused refusal) = false

abbrev pub is_waiting : ItemResult → Bool
is_waiting Header = false
is_waiting (New connected) = false
is_waiting Waiting = true
is_waiting Again = false
is_waiting (Refused refusal) = false

abbrev pub is_again : ItemResult → Bool
is_again Header = false
is_again (New connected) = false
is_again Waiting = false
is_again Again = true
is_again (Refused refusal) = false

abbrev pub is_refused : ItemResult → Bool
is_refused Header = false
is_refused (New connected) = false
is_refused Waiting = false
is_refused Again = false
is_refused (Refused refusal) = true

abbrev pub count : (ItemResult → Bool) → List ItemResult → ℕ
count test results = length (filter test results)

-- how many items there were of each kind, without the headers
abbrev pub sum_line : List ItemResult → List ℕ
sum_line results =
    codes "new " ++ spell_decimal (count is_new results) ++ codes " waiting " ++ spell_decimal (count is_waiting results)
    ++ codes " again " ++ spell_decimal (count is_again results) ++ codes " refused " ++ spell_decimal (count is_refused results) ++ codes "\n"

-- items are numbered from 1
abbrev pub results_text : List ItemResult → List ℕ
results_text results = refused_lines 1 results ++ sum_line results

abbrev pub results_status : List ItemResult → ℕ
results_status results = cond (list_any is_refused results) 1 0
