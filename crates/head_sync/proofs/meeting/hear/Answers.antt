use Rattle.head_sync.specs.declared.fault.SyncFault.TheVariants.{BadMessage, OtherTeam, OutOfTurn}
use Rattle.head_sync.proofs.Answered.{refused_hears}
use Rattle.head_sync.proofs.meeting.hear.Goals as goal

pub returns-in-Err-BadMessage : goal.returns-in-Err-BadMessage
returns-in-Err-BadMessage g c =
    refused_hears c.args.session.now c.take.new.self (g.H.LinkKeeper.held c.args.keeper.now) (g.H.LinkKeeper.held c.take.new.keeper) c.args.message.now c.new.result BadMessage (λ e. cc) (rw c.in-Err-BadMessage.field-0-is at c.in-Err-BadMessage.ensures) c.new.ensures

pub returns-in-Err-OtherTeam : goal.returns-in-Err-OtherTeam
returns-in-Err-OtherTeam g c =
    refused_hears c.args.session.now c.take.new.self (g.H.LinkKeeper.held c.args.keeper.now) (g.H.LinkKeeper.held c.take.new.keeper) c.args.message.now c.new-in-Err-OtherTeam.result OtherTeam (λ e. cc) (rw c.in-Err-OtherTeam.field-0-is at c.in-Err-OtherTeam.ensures) c.new-in-Err-OtherTeam.ensures

pub returns-in-Err-OutOfTurn : goal.returns-in-Err-OutOfTurn
returns-in-Err-OutOfTurn g c =
    refused_hears c.args.session.now c.take.new.self (g.H.LinkKeeper.held c.args.keeper.now) (g.H.LinkKeeper.held c.take.new.keeper) c.args.message.now c.new-in-Err-OutOfTurn.result OutOfTurn (λ e. cc) (rw c.in-Err-OutOfTurn.field-0-is at c.in-Err-OutOfTurn.ensures) c.new-in-Err-OutOfTurn.ensures
