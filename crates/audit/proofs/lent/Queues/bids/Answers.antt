use Rattle.audit.proofs.Rooms.{buys_room, contract_in}
use Rattle.audit.proofs.lent.Queues.bids.Goals as goal

pub bounds-self-c : goal.bounds-self-c
bounds-self-c c = contract_in c.args.self.now.ready c.requires

pub new-requires : goal.new-requires
new-requires c = buys_room c.args.self.now.ready c.requires
