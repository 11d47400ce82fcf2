use Rattle.std.proofs.Common.{rules, ◌≡◌, ◌≢◌, None, Some, Ok, Err, refl}
use Rattle.lms_keep.proofs.Knowns.{signed_for, other_for, unread_for, unwritten_for, nothing_for, never_absent, never_bad, none_signed, none_moved}
use Rattle.tg_outside.specs.declared.fault.Fault.TheVariants.{Failed, Memory as NoMemory}
use Rattle.lms_keep.specs.declared.fault.SignFault.TheVariants.{ReadFault, NoFile, BadKeyFile, Spent, Memory, WriteFault}
use Rattle.lms_keep.proofs.known.sign_known.Goals as goal

pub returns-then-eq-clause-signs : goal.returns-then-eq-clause-signs
returns-then-eq-clause-signs g c = λ s is.
    let same : c.in-Ok.signed.key ≡ c.args.key.now = search rules in
    signed_for _ _ c.args.name.now c.args.key.now c.args.message.now s c.in-Ok.signed is c.in-Ok.ensures.signs same

pub returns-else-eq-clause-signs : goal.returns-else-eq-clause-signs
returns-else-eq-clause-signs g c = λ s is.
    let other : c.in-Ok.signed.key ≢ c.args.key.now = search rules in
    other_for _ _ c.args.name.now c.args.key.now c.args.message.now s c.in-Ok.signed is c.in-Ok.ensures.signs other

pub returns-in-Err-ReadFault-clause-signs : goal.returns-in-Err-ReadFault-clause-signs
returns-in-Err-ReadFault-clause-signs g c = λ s is. unread_for _ _ c.args.name.now c.args.key.now c.args.message.now s is (rw c.in-Err-ReadFault.field-0-is at c.in-Err-ReadFault.ensures.signs)

pub returns-in-Err-WriteFault-clause-signs : goal.returns-in-Err-WriteFault-clause-signs
returns-in-Err-WriteFault-clause-signs g c = λ s is. unwritten_for _ _ c.args.name.now c.args.key.now c.args.message.now s is (rw c.in-Err-WriteFault.field-0-is at c.in-Err-WriteFault.ensures.signs)

pub returns-in-Err-NoFile-clause-signs : goal.returns-in-Err-NoFile-clause-signs
returns-in-Err-NoFile-clause-signs g c = λ s is. never_absent _ _ c.args.name.now c.args.key.now c.args.message.now s is (rw c.in-Err-NoFile.field-0-is at c.in-Err-NoFile.ensures.signs)

pub returns-in-Err-BadKeyFile-clause-signs : goal.returns-in-Err-BadKeyFile-clause-signs
returns-in-Err-BadKeyFile-clause-signs g c = λ s is. never_bad _ _ c.args.name.now c.args.key.now c.args.message.now s is (rw c.in-Err-BadKeyFile.field-0-is at c.in-Err-BadKeyFile.ensures.signs)

pub returns-in-Err-Spent-clause-signs : goal.returns-in-Err-Spent-clause-signs
returns-in-Err-Spent-clause-signs g c = λ s is. nothing_for _ _ c.args.name.now c.args.key.now c.args.message.now s is (rw c.in-Err-Spent.field-0-is at c.in-Err-Spent.ensures.signs)

pub returns-then-eq-clause-stays : goal.returns-then-eq-clause-stays
returns-then-eq-clause-stays g c = none_signed _ _ c.args.name.now c.args.message.now c.in-Ok.signed (Ok (Some c.in-Ok.signed.signature)) c.in-Ok.ensures.signs

pub returns-else-eq-clause-stays : goal.returns-else-eq-clause-stays
returns-else-eq-clause-stays g c = none_signed _ _ c.args.name.now c.args.message.now c.in-Ok.signed (Ok None) c.in-Ok.ensures.signs

pub returns-in-Err-ReadFault-clause-stays : goal.returns-in-Err-ReadFault-clause-stays
returns-in-Err-ReadFault-clause-stays g c = none_moved _ _ c.args.name.now c.args.message.now ReadFault (Err Failed) (rw c.in-Err-ReadFault.field-0-is at c.in-Err-ReadFault.ensures.signs) tt

pub returns-in-Err-WriteFault-clause-stays : goal.returns-in-Err-WriteFault-clause-stays
returns-in-Err-WriteFault-clause-stays g c = none_moved _ _ c.args.name.now c.args.message.now WriteFault (Err Failed) (rw c.in-Err-WriteFault.field-0-is at c.in-Err-WriteFault.ensures.signs) tt

pub returns-in-Err-Memory-clause-stays : goal.returns-in-Err-Memory-clause-stays
returns-in-Err-Memory-clause-stays g c = none_moved _ _ c.args.name.now c.args.message.now Memory (Err NoMemory) (rw c.in-Err-Memory.field-0-is at c.in-Err-Memory.ensures.signs) tt

pub returns-in-Err-NoFile-clause-stays : goal.returns-in-Err-NoFile-clause-stays
returns-in-Err-NoFile-clause-stays g c = none_moved _ _ c.args.name.now c.args.message.now NoFile (Ok None) (rw c.in-Err-NoFile.field-0-is at c.in-Err-NoFile.ensures.signs) refl

pub returns-in-Err-BadKeyFile-clause-stays : goal.returns-in-Err-BadKeyFile-clause-stays
returns-in-Err-BadKeyFile-clause-stays g c = none_moved _ _ c.args.name.now c.args.message.now BadKeyFile (Ok None) (rw c.in-Err-BadKeyFile.field-0-is at c.in-Err-BadKeyFile.ensures.signs) refl

pub returns-in-Err-Spent-clause-stays : goal.returns-in-Err-Spent-clause-stays
returns-in-Err-Spent-clause-stays g c = none_moved _ _ c.args.name.now c.args.message.now Spent (Ok None) (rw c.in-Err-Spent.field-0-is at c.in-Err-Spent.ensures.signs) refl
