-- What a command has done once its answer is printed, whole or in part.
use Rattle.std.proofs.Common.{◌≡◌, ◌≢◌, ◌≤◌, ◌<◌, ℕ, List, [], ◌∷◌, ◌++◌, Option, Some, None, IfSome, IsErrAnd, Result, Err, Ok, IfOk, ◌⊎◌, refl, append_assoc, sym, ap, ◌∙◌, subst, arith, inl, inr}
use Rattle.std.specs.Io.KnownBytes.{Appends}
use Rattle.tg_outside.specs.Causes.{Rose}
use Rattle.tg_outside.specs.Contents.{FileMap}
use Rattle.tg_outside.specs.declared.fault.Fault.{Fault}
use Rattle.tg_outside.specs.declared.fault.Fault.TheVariants as fault
use Rattle.outcomes.specs.declared.answer.Answer.{Answer}
use Rattle.outcomes.specs.declared.put.Put.{Put}
use Rattle.outcomes.specs.declared.stop.Stop.{Stop}
use Rattle.outcomes.specs.declared.stop.Stop.TheVariants.{Refused, Failed, Memory}
use Rattle.outcomes.specs.Steps.{World, Step, Outcome, after, draws, puts, writes, saying, acting, put, replace}
use Rattle.outcomes.specs.Seeing.{Contents, WithFiles, WithFilesAndDraws, AreKnown, IsCut, Counts}
use Rattle.outcomes.specs.Ending.{Runs, IsBodyOf, IsCutOf, IsDoneWith, IsPrepared, IsConcluded, answer_of, stop_of, IsFaulted}
use Rattle.outcomes.proofs.Joining.{after-append, cut-all, cut-first, cut-none, cut-then, written, written-cut}

-- a body whose answer was printed is the command
pub runs_concluded : (does : World → Outcome → Type 0) (old rest : Contents) (t u : Option (List ℕ)) (r : Result Answer Stop) (status : ℕ)
    → IsConcluded t u (answer_of r) status → IsBodyOf does old (record rest { taken = t }) r → Runs does old (record rest { taken = u }) status
runs_concluded does old rest t u r status h body = record { done = λ w is lt. done (answer_of r) h body.prepared w is lt; cut = λ w is. cut (answer_of r) h body.prepared w is }
  where
    done : (o : Option Answer) → IsConcluded t u o status → IfSome o (λ a. (w : World) → AreKnown old w → IsPrepared does (record rest { taken = t }) w a)
        → (w : World) → AreKnown old w → status < 5 → IsDoneWith does (record rest { taken = u }) w status
    done None h p w is lt = absurd (let high = h.0 in omega (arith, high, lt))
    done (Some a) h p w is lt = let k = p w is in let all = h.whole lt in
        (record { status = a.status; steps = k.0 ++ writes a.text }, k.1, all.0, rw after-append (written t u a.text rest (after k.0 w) all.1 k.2))

    cut : (o : Option Answer) → IsConcluded t u o status → IfSome o (λ a. (w : World) → AreKnown old w → IsPrepared does (record rest { taken = t }) w a)
        → (w : World) → AreKnown old w → IsCutOf does (record rest { taken = u }) w
    cut None h p w is = same (body.cut w is)
      where
        told : (v : World) → AreKnown (record rest { taken = t }) v → AreKnown (record rest { taken = u }) v
        told v k = record { files = k.files; draws = k.draws; moment = k.moment; input = k.input; taken = h.1 ∙ k.taken }

        same : IsCutOf does (record rest { taken = t }) w → IsCutOf does (record rest { taken = u }) w
        same (inl k) = inl (told w k)
        same (inr d) = let c = d.2 in inr (d.0, d.1, record { first = c.first; rest = c.rest; whole = c.whole; told = told (after c.first w) c.told })
    cut (Some a) h p w is = let k = p w is in
        inr (record { status = a.status; steps = k.0 ++ writes a.text }, k.1, cut-then k.0 (writes a.text) w (record rest { taken = u }) (written-cut t u a.text rest (after k.0 w) h.part k.2))

-- the same of a body that touches files alone
pub runs_files : (does : World → Outcome → Type 0) (old : Contents) (mid : Option FileMap) (u : Option (List ℕ)) (r : Result Answer Stop) (status : ℕ)
    → WithFiles old.files mid (λ old new. IsBodyOf does old new r) → IsConcluded old.taken u (answer_of r) status
    → Runs does old (record old { files = mid; taken = u }) status
runs_files does old mid u r status body printed = runs_concluded does old (record old { files = mid }) old.taken u r status printed (body old)

-- the files tell the same as before
pub known_same : (rest : Contents) (w : World) (old new : Option FileMap) → new ≡ old → AreKnown (record rest { files = old }) w → AreKnown (record rest { files = new }) w
known_same rest w old new e is = record { files = e ∙ is.files; draws = is.draws; moment = is.moment; input = is.input; taken = is.taken }

-- nothing but to print
pub body_says : (does : World → Outcome → Type 0) (old new : Contents) (r : Result Answer Stop) → ((w : World) → AreKnown old w → AreKnown new w)
    → ((w : World) → AreKnown old w → IfSome (answer_of r) (λ a. does w (saying a.status a.text)))
    → IsBodyOf does old new r
body_says does old new (Ok a) same says = record { prepared = λ w is. ([], says w is, same w is); cut = λ w is. inl (same w is) }
body_says does old new (Err (Refused a)) same says = record { prepared = λ w is. ([], says w is, same w is); cut = λ w is. inl (same w is) }
body_says does old new (Err Failed) same says = record { prepared = tt; cut = λ w is. inl (same w is) }
body_says does old new (Err Memory) same says = record { prepared = tt; cut = λ w is. inl (same w is) }

-- The body of what is left to do, where each of its outcomes is one of the whole.
pub body_more : (less more : World → Outcome → Type 0) (old mid new : Contents) (r : Result Answer Stop)
    → ((w : World) → AreKnown old w → AreKnown mid w × ((o : Outcome) → less w o → more w o))
    → IsBodyOf less mid new r → IsBodyOf more old new r
body_more less more old mid new r same body = record { prepared = answered r body.prepared; cut = λ w is. let s = same w is in cut w s.1 (body.cut w s.0) }
  where
    cut : (w : World) → ((o : Outcome) → less w o → more w o) → IsCutOf less new w → IsCutOf more new w
    cut w f (inl none) = inl none
    cut w f (inr d) = inr (d.0, f d.0 d.1, d.2)

    one : (a : Answer) → ((w : World) → AreKnown mid w → IsPrepared less new w a) → (w : World) → AreKnown old w → IsPrepared more new w a
    one a h w is = let s = same w is in let k = h w s.0 in (k.0, s.1 (record { status = a.status; steps = k.0 ++ writes a.text }) k.1, k.2)

    answered : (r : Result Answer Stop) → IfSome (answer_of r) (λ a. (w : World) → AreKnown mid w → IsPrepared less new w a)
        → IfSome (answer_of r) (λ a. (w : World) → AreKnown old w → IsPrepared more new w a)
    answered (Ok a) h = one a h
    answered (Err (Refused a)) h = one a h
    answered (Err Failed) h = tt
    answered (Err Memory) h = tt

-- Some steps were done, and then the body of what is left. Each outcome of what is left, after these steps, is one of the whole, and there is one.
pub body_after : (less more : World → Outcome → Type 0) (old mid new : Contents) (r : Result Answer Stop) (steps : List Step)
    → ((w : World) → AreKnown old w → AreKnown mid (after steps w))
    → ((w : World) (o : Outcome) → AreKnown old w → less (after steps w) o → more w (record { status = o.status; steps = steps ++ o.steps }))
    → ((w : World) → AreKnown old w → (o : Outcome) × less (after steps w) o)
    → IsBodyOf less mid new r → IsBodyOf more old new r
body_after less more old mid new r steps known same some body = record { prepared = answered r body.prepared; cut = λ w is. cut w is (body.cut (after steps w) (known w is)) }
  where
    cut : (w : World) → AreKnown old w → IsCutOf less new (after steps w) → IsCutOf more new w
    cut w is (inl none) = let o = some w is in
        inr (record { status = o.0.status; steps = steps ++ o.0.steps }, same w o.0 is o.1, cut-then steps o.0.steps w new (cut-none o.0.steps (after steps w) new none))
    cut w is (inr d) = inr (record { status = d.0.status; steps = steps ++ d.0.steps }, same w d.0 is d.1, cut-then steps d.0.steps w new d.2)

    one : (a : Answer) → ((w : World) → AreKnown mid w → IsPrepared less new w a) → (w : World) → AreKnown old w → IsPrepared more new w a
    one a h w is = let k = h (after steps w) (known w is) in
        (steps ++ k.0, rw append_assoc (same w (record { status = a.status; steps = k.0 ++ writes a.text }) is k.1), rw after-append k.2)

    answered : (r : Result Answer Stop) → IfSome (answer_of r) (λ a. (w : World) → AreKnown mid w → IsPrepared less new w a)
        → IfSome (answer_of r) (λ a. (w : World) → AreKnown old w → IsPrepared more new w a)
    answered (Ok a) h = one a h
    answered (Err (Refused a)) h = one a h
    answered (Err Failed) h = tt
    answered (Err Memory) h = tt

-- the same of a body that touches files and entropy alone
pub runs_files_draws : (does : World → Outcome → Type 0) (old : Contents) (mid : Option FileMap) (left : Option (List (List ℕ))) (u : Option (List ℕ)) (r : Result Answer Stop) (status : ℕ)
    → WithFilesAndDraws old.files mid old.draws left (λ old new. IsBodyOf does old new r) → IsConcluded old.taken u (answer_of r) status
    → Runs does old (record old { files = mid; draws = left; taken = u }) status
runs_files_draws does old mid left u r status body printed = runs_concluded does old (record old { files = mid; draws = left }) old.taken u r status printed (body old)

-- one file is replaced, and the text is to be printed
pub body_replaced : (does : World → Outcome → Type 0) (old new : Option FileMap) (a : Answer) (name bytes : List ℕ)
    → ((w : World) → old ≡ Some w.files → does w (acting a.status 0 (put name bytes ∷ []) a.text))
    → ((rest : Contents) (w : World) → AreKnown (record rest { files = old }) w → AreKnown (record rest { files = new }) (after (replace name bytes ∷ []) w))
    → WithFiles old new (λ old new. IsBodyOf does old new (Ok a))
body_replaced does old new a name bytes is_done done = λ rest. record {
  prepared = λ w is. (replace name bytes ∷ [], is_done w is.files, done rest w is);
  cut = λ w is. inr (
    acting a.status 0 (put name bytes ∷ []) a.text,
    is_done w is.files,
    cut-first (replace name bytes ∷ []) (writes a.text) w (record rest { files = new }) (cut-all (replace name bytes ∷ []) w (record rest { files = new }) (done rest w is)),
  );
}

-- the replace failed
pub body_cut : (does : World → Outcome → Type 0) (old new : Option FileMap) (r : Result Answer Stop) (f : Fault) (status : ℕ) (name bytes text : List ℕ) → IsErrAnd r (λ s. s ≡ stop_of f)
    → ((w : World) → old ≡ Some w.files → does w (acting status 0 (put name bytes ∷ []) text))
    → ((rest : Contents) (w : World) → AreKnown (record rest { files = old }) w → IsCut (record rest { files = new }) (replace name bytes ∷ []) w)
    → WithFiles old new (λ old new. IsBodyOf does old new r)
body_cut does old new r f status name bytes text e is_done cut = λ rest. record {
  prepared = none rest r e;
  cut = λ w is. inr (acting status 0 (put name bytes ∷ []) text, is_done w is.files, cut-first (replace name bytes ∷ []) (writes text) w (record rest { files = new }) (cut rest w is));
}
  where
    fault_none : (rest : Contents) (f : Fault) → IfSome (answer_of (Err (stop_of f))) (λ a. (w : World) → AreKnown (record rest { files = old }) w → IsPrepared does (record rest { files = new }) w a)
    fault_none rest fault.Failed = tt
    fault_none rest fault.Memory = tt

    none : (rest : Contents) (q : Result Answer Stop) → IsErrAnd q (λ s. s ≡ stop_of f) → IfSome (answer_of q) (λ a. (w : World) → AreKnown (record rest { files = old }) w → IsPrepared does (record rest { files = new }) w a)
    none rest (Ok a) e = absurd e
    none rest (Err s) e = subst (λ (s : Stop). IfSome (answer_of (Err s)) (λ a. (w : World) → AreKnown (record rest { files = old }) w → IsPrepared does (record rest { files = new }) w a)) (sym e) (fault_none rest f)

-- a call failed, and what was done till then is known
pub body_fails : (does : World → Outcome → Type 0) (old new : Contents) (r : Result Answer Stop) (f : Fault) → IsErrAnd r (λ s. s ≡ stop_of f)
    → ((w : World) → AreKnown old w → IsCutOf does new w) → IsBodyOf does old new r
body_fails does old new (Ok a) f e cut = absurd e
body_fails does old new (Err s) f e cut = record { prepared = subst (λ (s : Stop). IfSome (answer_of (Err s)) (λ a. (w : World) → AreKnown old w → IsPrepared does new w a)) (sym e) (none f); cut = cut }
  where
    none : (f : Fault) → IfSome (answer_of (Err (stop_of f))) (λ a. (w : World) → AreKnown old w → IsPrepared does new w a)
    none fault.Failed = tt
    none fault.Memory = tt

-- words were drawn, files replaced, and the text is to be printed
pub body_did : (does : World → Outcome → Type 0) (old new : Contents) (a : Answer) (status n : ℕ) (all : List Put) (text : List ℕ)
    → ((w : World) → AreKnown old w → does w (acting status n all text) × (a.status ≡ status) × (a.text ≡ text) × AreKnown new (after (puts all) (after (draws n) w)))
    → IsBodyOf does old new (Ok a)
body_did does old new a status n all text did = record {
  prepared = λ w is. let k = did w is in (draws n ++ puts all, rw (k.1, k.2, append_assoc) k.0, rw after-append k.3);
  cut = λ w is. let k = did w is in inr (
    acting status n all text,
    k.0,
    rw (← append_assoc (draws n) (puts all) (writes text))
        (cut-first (draws n ++ puts all) (writes text) w new (cut-then (draws n) (puts all) w new (cut-all (puts all) (after (draws n) w) new k.3))),
  );
}

-- the same of whatever is answered, where what was cut short is known too
pub body_works : (does : World → Outcome → Type 0) (old new : Contents) (r : Result Answer Stop) (status n : ℕ) (all : List Put) (text : List ℕ)
    → ((w : World) → AreKnown old w → does w (acting status n all text)
    × IfSome (answer_of r) (λ a. (a.status ≡ status) × (a.text ≡ text) × AreKnown new (after (puts all) (after (draws n) w)))
    × IsCut new (puts all) (after (draws n) w))
    → IsBodyOf does old new r
body_works does old new r status n all text works = record { prepared = answered r (λ w is. let k = works w is in (k.0, k.1)); cut = λ w is. let k = works w is in inr (acting status n all text, k.0, cut k.2) }
  where
    cut : {w : World} → IsCut new (puts all) (after (draws n) w) → IsCut new (acting status n all text).steps w
    cut {w} k = rw (← append_assoc (draws n) (puts all) (writes text)) (cut-first (draws n ++ puts all) (writes text) w new (cut-then (draws n) (puts all) w new k))

    one : (a : Answer) → ((w : World) → AreKnown old w → does w (acting status n all text) × (a.status ≡ status) × (a.text ≡ text) × AreKnown new (after (puts all) (after (draws n) w)))
        → (w : World) → AreKnown old w → IsPrepared does new w a
    one a h w is = let k = h w is in (draws n ++ puts all, rw (k.1, k.2, append_assoc) k.0, rw after-append k.3)

    answered : (r : Result Answer Stop)
        → ((w : World) → AreKnown old w → does w (acting status n all text) × IfSome (answer_of r) (λ a. (a.status ≡ status) × (a.text ≡ text) × AreKnown new (after (puts all) (after (draws n) w))))
        → IfSome (answer_of r) (λ a. (w : World) → AreKnown old w → IsPrepared does new w a)
    answered (Ok a) h = one a (λ w is. let k = h w is in (k.0, k.1.0, k.1.1, k.1.2))
    answered (Err (Refused a)) h = one a (λ w is. let k = h w is in (k.0, k.1.0, k.1.1, k.1.2))
    answered (Err Failed) h = tt
    answered (Err Memory) h = tt

-- a fault is no answer
pub no_answer : (f : Fault) (Y : Answer → Type 0) → IfSome (answer_of (Err (stop_of f))) Y
no_answer fault.Failed Y = tt
no_answer fault.Memory Y = tt

pub fault_answers_nothing : (r : Result Answer Stop) (f : Fault) (Y : Answer → Type 0) → IsErrAnd r (λ s. s ≡ stop_of f) → IfSome (answer_of r) Y
fault_answers_nothing (Ok a) f Y e = absurd e
fault_answers_nothing (Err s) f Y e = subst (λ (s : Stop). IfSome (answer_of (Err s)) Y) (sym e) (no_answer f Y)

-- the files alone may have failed
pub faulted_files : {T : Type 0} (before now : ℕ) (counts : Counts) (r : Result T Stop) → before ≤ now → (r ≡ Err Failed → Rose before now)
    → IsFaulted (record counts { files = before }) (record counts { files = now }) r
faulted_files before now counts r le h = record {
  later = record { files = le; draws = omega arith; input = omega arith; taken = omega arith };
  failed = λ e. inl (h e);
}

-- nothing outside was called
pub faulted_none : {T : Type 0} (counts : Counts) (r : Result T Stop) → r ≢ Err Failed → IsFaulted counts counts r
faulted_none counts r never = record {
  later = record { files = omega arith; draws = omega arith; input = omega arith; taken = omega arith };
  failed = λ e. absurd (never e);
}
