-- What is known of a status, by what a body answered and by the command.
use Rattle.std.proofs.Common.{◌≡◌, ◌≢◌, ◌<◌, ◌∙◌, ℕ, List, [], ◌∷◌, All, Option, Some, None, IfSome, arith, codes}
use Rattle.std.proofs.lemmas.List.Elements.{All-from_recursion}
use Rattle.outcomes.specs.declared.answer.Answer.{Answer}
use Rattle.outcomes.specs.Ending.{IsConcluded}
use Rattle.team_words.specs.declared.command.Command.{Command}
use Rattle.team_words.specs.declared.command.Command.TheVariants.{Heads, Keys, Log, Make, Meet, Merge, Newkey, Plain, Show, Why}
use Rattle.team_run.specs.Running.{statuses_of}

-- where the answer's status is 2, the run ends with 2, unless it fails
pub ends_with_two : (t u : Option (List ℕ)) (o : Option Answer) (status : ℕ) → IsConcluded t u o status → IfSome o (λ a. (a.status ≡ 2) × (a.text ≡ codes "usage\n")) → status < 5 → status ≡ 2
ends_with_two t u None status h said lt = let high = h.0 in absurd (omega (arith, high, lt))
ends_with_two t u (Some a) status h said lt = let all = h.whole lt in all.0 ∙ said.0

pub never_two : (command : Command) → All (λ (n : ℕ). n ≢ 2) (statuses_of command)
never_two (Make file key_file user title) = All-from_recursion (λ (n : ℕ). n ≢ 2) (0 ∷ 3 ∷ []) (λ e. omega (arith, e), (λ e. omega (arith, e), tt))
never_two (Newkey key_file user) = All-from_recursion (λ (n : ℕ). n ≢ 2) (0 ∷ 3 ∷ []) (λ e. omega (arith, e), (λ e. omega (arith, e), tt))
never_two (Merge file bundle) = All-from_recursion (λ (n : ℕ). n ≢ 2) (0 ∷ 1 ∷ 3 ∷ []) (λ e. omega (arith, e), (λ e. omega (arith, e), (λ e. omega (arith, e), tt)))
never_two (Meet file other) = All-from_recursion (λ (n : ℕ). n ≢ 2) (0 ∷ 1 ∷ 3 ∷ 4 ∷ []) (λ e. omega (arith, e), (λ e. omega (arith, e), (λ e. omega (arith, e), (λ e. omega (arith, e), tt))))
never_two (Show file) = All-from_recursion (λ (n : ℕ). n ≢ 2) (0 ∷ 3 ∷ []) (λ e. omega (arith, e), (λ e. omega (arith, e), tt))
never_two (Log file) = All-from_recursion (λ (n : ℕ). n ≢ 2) (0 ∷ 3 ∷ []) (λ e. omega (arith, e), (λ e. omega (arith, e), tt))
never_two (Heads file) = All-from_recursion (λ (n : ℕ). n ≢ 2) (0 ∷ 3 ∷ []) (λ e. omega (arith, e), (λ e. omega (arith, e), tt))
never_two (Why file name) = All-from_recursion (λ (n : ℕ). n ≢ 2) (0 ∷ 3 ∷ 4 ∷ []) (λ e. omega (arith, e), (λ e. omega (arith, e), (λ e. omega (arith, e), tt)))
never_two (Keys file key_file) = All-from_recursion (λ (n : ℕ). n ≢ 2) (0 ∷ 3 ∷ []) (λ e. omega (arith, e), (λ e. omega (arith, e), tt))
never_two (Plain file key_file act) = All-from_recursion (λ (n : ℕ). n ≢ 2) (0 ∷ 3 ∷ 4 ∷ []) (λ e. omega (arith, e), (λ e. omega (arith, e), (λ e. omega (arith, e), tt)))
