-- One key is found of a key file.
use Rattle.std.proofs.Common.{◌≡◌, ◌∙◌, ℕ, List, Option, Some, None, sym, ap}
use Rattle.lms_keep.specs.KeyText.{KeyIsSpelledOnce}
use Rattle.lms_keep.specs.declared.key_state.KeyState.{KeyState}
use Rattle.outcomes.specs.Refusing.{Found, refuses, holds}
use Rattle.openers.specs.Key.{FindsKey}

pub key_found_once : KeyIsSpelledOnce → (file : Option (List ℕ)) (x y : Found KeyState) → FindsKey file x → FindsKey file y → x ≡ y
key_found_once once None (refuses a) (refuses b) h k = ap refuses (h ∙ sym k)
key_found_once once None (refuses a) (holds b) h k = absurd k
key_found_once once None (holds a) y h k = absurd h
key_found_once once (Some t) (refuses a) (refuses b) h k = ap refuses (h.1 ∙ sym k.1)
key_found_once once (Some t) (refuses a) (holds b) h k = absurd (h.0 b k)
key_found_once once (Some t) (holds a) (refuses b) h k = absurd (k.0 a h)
key_found_once once (Some t) (holds a) (holds b) h k = ap holds (once a b h.range k.range (sym h.is_text ∙ k.is_text))
