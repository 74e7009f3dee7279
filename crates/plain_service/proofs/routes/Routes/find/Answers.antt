use Rattle.plain_service.proofs.RouteTable.{found, missing}
use Rattle.plain_service.proofs.routes.Routes.find.Goals as goal

pub returns-in-Ok : goal.returns-in-Ok
returns-in-Ok c = found c.args.self.now.router c.args.self.now.fixed c.args.path.now _ c.in-Ok.ensures.found

pub returns-in-Err : goal.returns-in-Err
returns-in-Err c = missing c.args.self.now.router c.args.self.now.fixed c.args.path.now c.in-Err.ensures.missing
