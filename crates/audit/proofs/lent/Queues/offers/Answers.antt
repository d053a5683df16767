use Rattle.audit.proofs.Rooms.{contract_in, sells_room}
use Rattle.audit.proofs.lent.Queues.offers.Goals as goal

pub bounds-self-c : goal.bounds-self-c
bounds-self-c c = contract_in c.args.self.now.ready c.requires

pub new-requires : goal.new-requires
new-requires c = sells_room c.args.self.now.ready c.requires
