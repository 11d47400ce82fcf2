-- `note` puts the longer list in the place of the old one: no memory is behind it.
use mathlib.Core.Path.{refl, sym, subst}
use mathlib.Core.List.{List, [], ◌∷◌, ◌++◌}
use Prim.Native.Nat.{ℕ, ◌<◌, ◌^◌}
use seplogic.Ra.Ura.{Ura}
use mir.Syntax.{Fn, w8}
use mir.Val.{Val, vunit, vptr, vint}
use base.Logic.{SProp, ent, via, fst∗, snd∗}
use base.Fml.{Fml, ftrue, flft}
use prog.Wp.{WpFn}
use prog.Model.{Model}
use types.Logic.{Logic, sem}
use contract.Monad.{fact_use}
use contract.Running.{Running, MachineTables, tables, tables_of}
use sound.WpLaws.{WpFn-mono}
use types.Kit.{‵, raw, ◌⊛◌, ◌$◌, ◌∵◌, !, qed, move, keep, split, join, fsplit, fsplit3, fjoin, fjoin3, suffices, frame, feq_i}
use types.Run.{unit_lit, of_opd, returns, enter}
use types.ByLocal.{alloc_all, pass_all, free_all, look_at, sets}
use denote.RattleType.{RattleType, owns}
use denote.Laws.{Are, Ises, owns_show, showss}
use denote.Signature.{types_at, plain}
use denote.Steps.{nothing, opens, closes}
use denote.Triple.Clauses.{Clauses, closing}
use denote.Triple.Entry.{on_entry, alive}
use denote.Triple.Spec.{Meets, triple_of}
use denote.Triple.Table.{entered}
use denote.Triple.Walked.{Stays, stay_ref, stay_dropped, walk_of, ends_at, Goes-ref, Goes-dropped, walk_Meets}
use denote.Exit.{yes}
use denote.Builtin.{u8}
use contract.CodeStep
use Rattle.tg_outside.proofs.Hollow.{last_fact}
use Rattle.tg_outside.specs.contracts.trace.Trace as trace
use Rattle.tg_outside.specs.contracts.trace.note.{ended, clauses}
use Rattle.tg_outside.specs.contracts.trace.note.Key.{name as #self}
use Rattle.tg_outside.proofs.trace.note.Statement as stated
use Rattle.tg_outside.proofs.trace.note.Code as code

module _ {M : Type 1} {𝓤 : Ura M} (𝓛 : Logic 𝓤) (𝓜 : Model 𝓤 𝓛.H) (𝓡 : Running 𝓤 𝓛.H 𝓜) where
  open 𝓛 use {H}

  abbrev body : Fn
  body = code.function

  abbrev A : RattleType
  A = trace.the_row

  abbrev places : Stays ended.signature.params ended.kept
  places = (stay_ref (0 ∷ []) tt (plain (λ _. A)), (stay_dropped (plain (λ _. u8)) yes, tt))

  abbrev 𝓣 : MachineTables 𝓤 H 𝓜
  𝓣 = tables 𝓤 H 𝓜 𝓡 𝓡.env

  abbrev told : Clauses 𝓤 ended
  told = clauses 𝓛 𝓜.mem 𝓡.returns

  module _ (z : (walk_of 𝓛 ended places told).Ghost) where
    abbrev Words : Type 0
    Words = List Val × (List Val × Unit {0})

    abbrev Where : Words → (walk_of 𝓛 ended places told).Ghost
    Where vss = ((z.0.0, z.0.1, z.0.2, z.0.3, vss), z.1)

    abbrev Holds : Words → Type 1
    Holds vss = ent 𝓤 ((walk_of 𝓛 ended places told).pre (Where vss)) (WpFn 𝓤 H 𝓣.C 𝓣.Λ body ((walk_of 𝓛 ended places told).args (Where vss)) ((walk_of 𝓛 ended places told).post (Where vss)))

    abbrev old : A.Denot
    old = z.0.3.0.now

    abbrev byte : ℕ
    byte = z.0.3.1.0

    abbrev pointer : Val
    pointer = vptr z.0.3.0.ref_ptr.0 z.0.3.0.ref_ptr.1

    abbrev words : Words
    words = (pointer ∷ [], (vint w8 byte ∷ [], tt))

    abbrev args : Fml
    args = owns (types_at ended.signature.params z.0.0) z.0.3 words

    abbrev owed : SProp 𝓤
    owed = (told z.0.0 z.0.3).requires z.1

    one_more : byte < 2 ^ 8 → Holds words
    one_more fits =
        let r = z.0.3.0 in let longer : A.Denot = record { marker = old.marker; bytes = old.bytes ++ (byte ∷ []) } in
        qed 𝓛 (((‵ (flft z.0.0.0 z.0.1.0) ⊛ ‵ ftrue) ⊛ ‵ args) ∷ raw owed ∷ []) ∵ split ! $ split ! $ move ! (2 ∷ []) $ fsplit ! $ fsplit3 ! $
        keep ! (1 ∷ 2 ∷ 4 ∷ 5 ∷ []) $ enter ! 𝓣.C 𝓣.Λ body (pointer ∷ vint w8 byte ∷ []) _ $ alloc_all ! (λ l. pass_all ! refl ((tt, tt), ((tt, record { fits = fits }), tt)) $
        opens ! tt A r.ref_ptr.0 r.ref_ptr.1 (λ cs. closes ! tt A longer cs r.ref_ptr.0 r.ref_ptr.1 $
        sets ! (of_opd ! (unit_lit !)) refl (tt, tt) $ returns ! (look_at ! 0 refl) $ free_all ! refl $ suffices ! _ (ends_at 𝓛 ended places told (Where words) vunit tt (longer, (tt, tt)) (tt, (tt, tt))) $
        feq_i ! (List Val) (pointer ∷ []) (pointer ∷ []) refl $ fjoin3 ! $ nothing ! $ nothing ! $ fjoin ! $ move ! (1 ∷ 0 ∷ []) $ fjoin ! $
        feq_i ! (List Val) (vunit ∷ []) (vunit ∷ []) refl $ move ! (1 ∷ 0 ∷ []) $ join ! $ move ! (1 ∷ 2 ∷ []) $ join ! $ join ! $ frame ! $ last_fact ! refl))

  kept : Meets 𝓛 ended.signature (WpFn 𝓤 H 𝓣.C 𝓣.Λ body) (closing 𝓛 ended told)
  unfolding tables_of contract.CodeStep.c_Tables
  kept =
      walk_Meets 𝓛 ended places (Goes-ref 𝓛 1 0 tt (plain (λ _. A)), (Goes-dropped 𝓛 1 (plain (λ _. u8)) yes (λ κs x f. refl), tt)) told
      (WpFn 𝓤 H 𝓣.C 𝓣.Λ body) (WpFn-mono 𝓤 H 𝓛.laws (tables_of 𝓤 H 𝓜 𝓣) body)
      (λ z. let old = z.0.3 in let vss = z.0.4 in let Rs : List RattleType = types_at ended.signature.params z.0.0 in let On : SProp 𝓤 = on_entry 𝓛 ended.signature z.0.0 z.0.1 old vss in
      fact_use 𝓤 (Are Rs (Ises Rs) old vss) (via 𝓤 (sem 𝓛 (owns Rs old vss)) (via 𝓤 On (fst∗ 𝓤 On (owed z)) (snd∗ 𝓤 (alive 𝓛 ended.signature z.0.0 z.0.1) (sem 𝓛 (owns Rs old vss)))) (owns_show 𝓛 Rs (Ises Rs) (showss 𝓛 Rs) old vss)) (λ are.
      subst (Holds z) (λ i. (sym are.0.0 i, (sym are.1.0.0 i, tt))) (one_more z are.1.0.1)))

pub note_spec : {M : Type 1} → stated.statement M
note_spec 𝓤 𝓛 𝓜 𝓡 wired = let 𝓣' = tables 𝓤 𝓛.H 𝓜 𝓡 𝓡.env in
    entered 𝓤 𝓛.H (triple_of 𝓛 ended.signature (closing 𝓛 ended (told 𝓛 𝓜 𝓡))) 𝓣'.C 𝓣'.Λ #self (body 𝓛 𝓜 𝓡)
    (code.unfolded 𝓤 𝓛.H 𝓜 𝓡 wired) (kept 𝓛 𝓜 𝓡)
