-- `blank` makes a trace without bytes: no memory is behind it.
use mathlib.Core.Path.{◌≡◌, refl}
use mathlib.Core.List.{[], ◌∷◌}
use seplogic.Ra.Ura.{Ura}
use base.Logic.{SProp, ent, sep, emp, via, fst∗}
use prog.Wp.{Calls, Loops, WpFn}
use prog.Memory.{Memory}
use prog.Routine.{Routine}
use types.Logic.{Logic}
use types.Kit.{‵, raw, ◌$◌, ◌∵◌, !, qed, by, keep, suffices, done, use0, fjoin}
use types.Run.{no_more, and_then, returns, enter}
use types.Part.{agg}
use types.ByLocal.{alloc_all, pass_all, free_all, look_at, get, sets}
use contract.Monad.{fact, Fun, fm→mono}
use contract.Running.{tables}
use denote.Triple.Entry.{on_entry}
use denote.Steps.{nothing}
use denote.Triple.Table.{entered, run_framed}
use denote.Triple.Walked.{says, on_exit, walk_of, Walks, ends_at, walked, walk_Meets}
use denote.Triple.Clauses.{Clauses}
use Rattle.tg_outside.proofs.Hollow.{hollow, HollowRow, hollow_of_nothing}
use Rattle.tg_outside.specs.contracts.trace.Trace as trace
use Rattle.tg_outside.specs.contracts.trace.blank.Key.{name as #blank}
use Rattle.tg_outside.specs.contracts.trace.blank as blank
use Rattle.tg_outside.proofs.trace.blank.Statement as stated
use Rattle.tg_outside.proofs.trace.blank.Code as code

module _ {M : Type 1} {𝓤 : Ura M} (𝓛 : Logic 𝓤) (mem : Memory → SProp 𝓤) (run : Routine → Fun 𝓤) where
  open 𝓛 use {H}

  abbrev told : Clauses 𝓤 blank.ended
  told = blank.clauses 𝓛 mem run

  abbrev nothing_more : (walk_of 𝓛 blank.ended tt told).Ghost
  nothing_more = ((tt, tt, tt, tt, tt), tt)

  leaves : ent 𝓤 (emp 𝓤) ((walk_of 𝓛 blank.ended tt told).post nothing_more hollow)
  leaves =
      let left = on_exit 𝓛 blank.ended tt tt tt tt hollow record { marker = record {}; bytes = [] } tt tt in
      qed 𝓛 [] ∵ suffices ! (sep 𝓤 left (fact 𝓤 ([] ≡ []))) (ends_at 𝓛 blank.ended tt told nothing_more hollow record { marker = record {}; bytes = [] } tt tt) $ says ! {P = left} refl $
      nothing ! $ use0 𝓛 (‵ ((HollowRow (trace.the_type).name).own_val (tt, tt) (hollow ∷ []))) (hollow_of_nothing (trace.the_type).name 𝓛) $ fjoin ! $ nothing ! $ nothing ! $ done !

  made : (C : Calls 𝓤 H) (Λ : Loops 𝓤 H) → Walks 𝓛 blank.ended tt (WpFn 𝓤 H C Λ code.function) told
  made C Λ = walked 𝓛 blank.ended tt told (WpFn 𝓤 H C Λ code.function) (λ κs. tt) (λ κs. tt) (λ κs qs bounds a g are. via 𝓤 (on_entry 𝓛 blank.signature tt tt tt tt) (fst∗ 𝓤 _ (emp 𝓤)) (
      qed 𝓛 (raw (on_entry 𝓛 blank.signature tt tt tt tt) ∷ []) ∵ enter ! C Λ code.function [] _ $
      alloc_all ! (λ l. pass_all ! refl tt $
      sets ! (agg ! (no_more !)) refl (tt, tt) $ sets ! (agg ! (and_then ! (get ! refl) (no_more !))) refl (tt, (tt, tt)) $
      returns ! (look_at ! 0 refl) $ free_all ! refl $ keep ! [] $ by ! leaves)))

pub blank_spec : {M : Type 1} → stated.statement M
blank_spec 𝓤 𝓛 𝓜 𝓡 wired =
    walk_Meets 𝓛 blank.ended tt tt (blank.clauses 𝓛 𝓜.mem 𝓡.returns) (𝓡.run (𝓡.env #blank)) (λ vs. fm→mono 𝓤 (𝓡.run (𝓡.env #blank) vs) (run_framed 𝓤 𝓛.H 𝓜 𝓡 (𝓡.env #blank) vs))
    (entered 𝓤 𝓛.H (walk_of 𝓛 blank.ended tt (blank.clauses 𝓛 𝓜.mem 𝓡.returns))
    (tables 𝓤 𝓛.H 𝓜 𝓡 𝓡.env).C (tables 𝓤 𝓛.H 𝓜 𝓡 𝓡.env).Λ #blank code.function (code.unfolded 𝓤 𝓛.H 𝓜 𝓡 wired)
    (made 𝓛 𝓜.mem 𝓡.returns (tables 𝓤 𝓛.H 𝓜 𝓡 𝓡.env).C (tables 𝓤 𝓛.H 𝓜 𝓡 𝓡.env).Λ))
