-- The kinds of messages and their words.
use Rattle.std.proofs.Common.{◌≡◌, ℕ, Bool, false, List, codes, refl, arith}
use Rattle.tg_text.specs.Spelling.{has_newline}
use Rattle.tg_text.proofs.Lists.{head_is}
use Rattle.team_sets.specs.Names.{Name}
use Rattle.head_sync.specs.Bodies.{word_of}
use Rattle.head_sync.specs.Messages.{Content, ask, done, give, hello, kind_word}
use Rattle.head_sync.specs.declared.message.Kind.{Kind}
use Rattle.head_sync.specs.declared.message.Kind.TheVariants.{Hello, Ask, Give, Done}

pub word_lacks : (k : Kind) → has_newline (word_of k) ≡ false
word_lacks Hello = refl
word_lacks Ask = refl
word_lacks Give = refl
word_lacks Done = refl

-- which question or gift it is
pub as_ask : (c : Content) → kind_word c ≡ codes "ask" → (names : List Name) × (marks : List Name) × (c ≡ ask names marks)
as_ask (hello heads) k = absurd (let h : 104 ≡ 97 = head_is _ _ _ _ k in omega (arith, h))
as_ask (ask names marks) k = (names, marks, refl)
as_ask (give more texts) k = absurd (let h : 103 ≡ 97 = head_is _ _ _ _ k in omega (arith, h))
as_ask (done heads) k = absurd (let h : 100 ≡ 97 = head_is _ _ _ _ k in omega (arith, h))

pub as_give : (c : Content) → kind_word c ≡ codes "give" → (more : Bool) × (texts : List (List ℕ)) × (c ≡ give more texts)
as_give (hello heads) k = absurd (let h : 104 ≡ 103 = head_is _ _ _ _ k in omega (arith, h))
as_give (ask names marks) k = absurd (let h : 97 ≡ 103 = head_is _ _ _ _ k in omega (arith, h))
as_give (give more texts) k = (more, texts, refl)
as_give (done heads) k = absurd (let h : 100 ≡ 103 = head_is _ _ _ _ k in omega (arith, h))
