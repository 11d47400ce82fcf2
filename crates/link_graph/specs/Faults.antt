-- The faults of reading and of taking.
use Rattle.link_text.specs.declared.fault.TeamLinkFault.{TeamLinkFault}
use Rattle.link_text.specs.declared.fault.TeamLinkFault.TheVariants as read
use Rattle.link_graph.specs.declared.take_fault.TakeFault.{TakeFault}
use Rattle.link_graph.specs.declared.take_fault.TakeFault.TheVariants as take

-- The same fault, of the reading and of the taking.
abbrev pub fault_of : TeamLinkFault → TakeFault
fault_of read.TooLong = take.TooLong
fault_of read.BadText = take.BadText
fault_of read.OtherTeam = take.OtherTeam
fault_of read.BadSignature = take.BadSignature
fault_of read.Memory = take.Memory
