use Rattle.code_run.proofs.Puts.{request_put}
use Rattle.code_run.proofs.posting.post_request.Goals as goal

pub returns : goal.returns
returns c = request_put c.args.made.now c.args.site c.args.loc c.args.ask c.push.new.self
    c.in_ok-next.next c.in_ok-next.ensures c.in_ok-push.ensures.ok
