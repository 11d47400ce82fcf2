-- What a run does and gives, by the command that its words are.
use Rattle.std.proofs.Common.{◌≡◌, ◌↔◌, inl, inr, ℕ, List, Option, Some, None, subst}
use Rattle.lockboxes.specs.Keeping.{Keeper}
use Rattle.outcomes.specs.Ending.{IsCutOf, Runs}
use Rattle.outcomes.specs.Seeing.{Contents}
use Rattle.outcomes.specs.Steps.{World, Outcome}
use Rattle.team_words.specs.Words.{IsCommandOf}
use Rattle.team_words.specs.declared.command.Command.{Command}
use Rattle.team_words.proofs.OneCommand.{one_command}
use Rattle.team_run.specs.ManyRuns.{Gives, WordsGive}
use Rattle.team_run.specs.Running.{does_run, does_words}

module _ (keeper : Keeper) (words : List (List ℕ)) (command : Option Command) (is : IsCommandOf words command) where
  -- what is done is what the command does
  pub does_of : (w : World) (o : Outcome) → does_run keeper words w o → does_words keeper command w o
  does_of w o d = subst (λ (c : Option Command). does_words keeper c w o) (one_command words d.0 command d.1 is) d.2

  cut_run : (new : Contents) (w : World) → IsCutOf (does_words keeper command) new w → IsCutOf (does_run keeper words) new w
  cut_run new w (inl nothing) = inl nothing
  cut_run new w (inr (o, d, cut)) = inr (o, (command, is, d), cut)

  -- a run of the command is one of the words
  pub runs_words : (old new : Contents) (status : ℕ) → Runs (does_words keeper command) old new status → Runs (does_run keeper words) old new status
  runs_words old new status runs = record {
    done = λ w known low. let d = runs.done w known low in (d.0, (command, is, d.1), d.2, d.3);
    cut = λ w known. cut_run new w (runs.cut w known);
  }

-- words are no two commands
module _ (words : List (List ℕ)) (command : Command) (is : IsCommandOf words (Some command)) where
  pub not_none : ¬ (IsCommandOf words None)
  not_none none = let bad : ◌≡◌ {A = Option Command} (Some command) None = one_command words (Some command) None is none in cc

  pub same_command : (other : Command) → IsCommandOf words (Some other) → command ≡ other
  same_command other more = let same : ◌≡◌ {A = Option Command} (Some command) (Some other) = one_command words (Some command) (Some other) is more in cc

-- what a command gives, and nothing where there is none
abbrev pub CommandGives : Keeper → Option Command → World → List ℕ → List ℕ → Type 0
CommandGives keeper None w name b = ⊥
CommandGives keeper (Some command) w name b = Gives keeper command w name b

module _ (keeper : Keeper) (words : List (List ℕ)) (w : World) (name b : List ℕ) where
  by_command : (command : Option Command) → IsCommandOf words command → CommandGives keeper command w name b → WordsGive keeper words w name b
  by_command None is g = absurd g
  by_command (Some command) is g = (command, is, g)

  -- words give what their command gives
  pub words_give : (command : Option Command) → IsCommandOf words command → WordsGive keeper words w name b ↔ CommandGives keeper command w name b
  words_give command is =
      (λ g. subst (λ (c : Option Command). CommandGives keeper c w name b) (one_command words (Some g.0) command g.1 is) g.2, λ g. by_command command is g)
